-- How reading with a pair table ends: one law for each way.
use mathlib.Core.Bool.{Bool, true, false, cond, not}
use mathlib.Core.List.{List}
use mathlib.Core.Option.{Option, none, some}
use mathlib.Core.Path.{◌≡◌, refl, ap, sym, ◌∙◌, subst}
use Prim.Native.Nat.{ℕ, zero, suc, ◌*◌, ◌/◌, ◌<◌, ◌≤◌, min}
use native.Mathlib.Omega.{arith}
use lib.Dec.{leb}
use borrow.Author.Tests.{le-leb, leb-true, lt-leb}
use lib.Ieee.{Float}
use lib.ListN.{length, length-replicate, replicate}
use Rattle.driver.specs.Ending.{Accepted, End, Ends, Refused, ending, index_after}
use Rattle.graph.specs.Answers.{lowest_loop}
use Rattle.laws.proofs.BoolLaws.{not_false, not_true}
use Rattle.laws.specs.Bytes.{Bytes}
use Rattle.mixed_driver.specs.Paired.{EndsPaired, enough_pairs, read_paired, short_reason}
use Rattle.resolver.specs.Code.{Stored}
use Rattle.scene.proofs.AcceptLaws.{accept_forth}
use Rattle.scene.proofs.ImageLaws.{zero_reals, zero_records}
use Rattle.scene.proofs.RoomLaws.{fit_forth}
use Rattle.scene.proofs.TellsLaws.{statements_length}
use Rattle.scene.specs.HouseRules.{zero_real}
use Rattle.scene.specs.Reading.{Entry, Reading, accepted, read_statements, refused, statements}
use Rattle.scene.specs.Record.{real_image, record_image, settings_for, width}
use Rattle.scene.specs.declared.Mode.{Mode}
use Rattle.scene.specs.declared.Settings.{Settings}
use Rattle.sides.proofs.SideLaws.{zero_pairs}
use Rattle.sides.specs.Read.{first_unknown, mixed, read, settled}
use Rattle.sides.specs.Sides.{pair_image, scene_graph}
use Rattle.validation.specs.Validated as told
use Rattle.validation.specs.Validated.{ValidatedAs, Validates, Validity, told_as}

-- ---- the reading behind an end

refused_as : (size : ℕ) (x : Reading) (n p : ℕ) → Refused n p ≡ ending size x → x ≡ refused n p
refused_as size (refused m q) n p e =
    let a : m ≡ n = cc in
    let b : q ≡ p = cc in
    λ i. refused (a i) (b i)
refused_as size (accepted es) n p e = let z : ◌≡◌ {A = ℕ} 0 1 = cc in absurd (omega arith)

record AcceptedAs (x : Reading) (n : ℕ) : Type 0 where
  entries : List Entry
  reads : x ≡ accepted entries
  count : n ≡ length entries

accepted_as : (size : ℕ) (x : Reading) (n k c : ℕ) → Accepted n k c ≡ ending size x → AcceptedAs x n
accepted_as size (refused m q) n k c e = let z : ◌≡◌ {A = ℕ} 0 1 = cc in absurd (omega arith)
accepted_as size (accepted es) n k c e = record { entries = es; reads = refl; count = cc }

-- and behind what is told of mixtures

told_refused : (x : Reading) (n p : ℕ) → told.Refused n p ≡ told_as x → x ≡ refused n p
told_refused (refused m q) n p e =
    let a : m ≡ n = cc in
    let b : q ≡ p = cc in
    λ i. refused (a i) (b i)
told_refused (accepted es) n p e = let z : ◌≡◌ {A = ℕ} 0 1 = cc in absurd (omega arith)

told_valid : (es : List Entry) (u : Option ℕ) (l : ℕ) → told.Valid ≡ told_as (settled es u l) → settled es u l ≡ accepted es
told_valid es (some p) l e = let z : ◌≡◌ {A = ℕ} 0 1 = cc in absurd (omega arith)
told_valid es none zero e = refl
told_valid es none (suc l) e = let z : ◌≡◌ {A = ℕ} 0 1 = cc in absurd (omega arith)

-- ---- the tests

pub is_long : (reason len : ℕ) → 65536 < len → 1 ≡ short_reason reason len
is_long reason len h = ap (λ (b : Bool). cond b reason 1) (sym (lt-leb len 65536 h))

pub is_short : (reason len : ℕ) → len ≤ 65536 → reason ≡ short_reason reason len
is_short reason len h = ap (λ (b : Bool). cond b reason 1) (sym (le-leb len 65536 h))

-- ---- the ends

module _ (mode : Mode) (text : Bytes) (T₀ : List ℕ) (D₀ : List Float) (P₀ X₀ : List ℕ) where
  abbrev room : Settings
  room = settings_for mode (length T₀) (length D₀)

  abbrev whole : Reading
  whole = read_paired mode text (length T₀) (length D₀) (length P₀)

  -- a refusal, with all tables cleared
  module _ {T : List ℕ} {D : List Float} {P X : List ℕ} (t : T ≡ replicate (length T₀) 0) (d : D ≡ replicate (length D₀) zero_real) (p : P ≡ replicate (length P₀) 0) (x : X ≡ replicate (length X₀) 0) where
    cleared : {n q : ℕ} → whole ≡ refused n q → EndsPaired mode text T₀ D₀ P₀ X₀ (Refused n q) T D P X
    cleared {n} {q} e = record {
      says = ap (ending (length X₀)) (sym e);
      table = t ∙ zero_records text (length T₀) n q ∙ ap (record_image text (length T₀)) (sym e);
      doubles = d ∙ zero_reals (length D₀) n q ∙ ap (real_image (length D₀)) (sym e);
      sides = p ∙ zero_pairs (length P₀) n q ∙ ap (pair_image (length P₀)) (sym e);
      entries = x ∙ ap (index_after (length X₀)) (sym e);
    }

    pub short_pairs : {b : Bool} → b ≡ enough_pairs (length T₀) (length P₀) → not b ≡ true → {n : ℕ} → n ≡ short_reason 27 (length text) → EndsPaired mode text T₀ D₀ P₀ X₀ (Refused n 0) T D P X
    unfolding read_paired
    short_pairs {b} a e q = cleared (ap (λ (z : Bool). cond z (read room text) (refused (short_reason 27 (length text)) 0)) (sym a ∙ not_true b e) ∙ ap (λ (m : ℕ). refused m 0) (sym q))

  module _ {b : Bool} (asked : b ≡ enough_pairs (length T₀) (length P₀)) (enough : not b ≡ false) where
    whole_mixed : whole ≡ mixed text (read_statements room text)
    unfolding read_paired read
    whole_mixed = ap (λ (z : Bool). cond z (read room text) (refused (short_reason 27 (length text)) 0)) (sym asked ∙ not_false b enough)

    module _ {T : List ℕ} {D : List Float} {X : List ℕ} where
      -- what is read is what was read before its mixtures
      kept : {r : End} → Ends mode text T₀ D₀ X₀ r T D X → whole ≡ read_statements room text → {P : List ℕ} → P ≡ pair_image (length P₀) whole → EndsPaired mode text T₀ D₀ P₀ X₀ r T D P X
      kept E e p = record {
        says = E.says ∙ ap (ending (length X₀)) (sym e);
        table = E.table ∙ ap (record_image text (length T₀)) (sym e);
        doubles = E.doubles ∙ ap (real_image (length D₀)) (sym e);
        sides = p;
        entries = E.entries ∙ ap (index_after (length X₀)) (sym e);
      }

      pub refused_before : {r : End} {n q : ℕ} {P : List ℕ} → Ends mode text T₀ D₀ X₀ r T D X → r ≡ Refused n q → P ≡ replicate (length P₀) 0 → EndsPaired mode text T₀ D₀ P₀ X₀ (Refused n q) T D P X
      refused_before {r} {n} {q} {P} E e p =
          let x = refused_as (length X₀) (read_statements room text) n q (sym e ∙ E.says) in
          let w : whole ≡ refused n q = whole_mixed ∙ ap (mixed text) x in
          subst (λ (z : End). EndsPaired mode text T₀ D₀ P₀ X₀ z T D P X) e (kept E (w ∙ sym x) (p ∙ zero_pairs (length P₀) n q ∙ ap (pair_image (length P₀)) (sym w)))

      -- all is read, and its mixtures are looked up in a table of zeros
      module _ {r : End} {n k c : ℕ} (E : Ends mode text T₀ D₀ X₀ r T D X) (e : r ≡ Accepted n k c) (lt : length T ≡ length T₀) (lx : length X ≡ length X₀) {Z P : List ℕ} (z : Z ≡ replicate (length P₀) 0) {s : Validity} (S : Validates text T X Z n s P) where
        abbrev all : AcceptedAs (read_statements room text) n
        all = accepted_as (length X₀) (read_statements room text) n k c (sym e ∙ E.says)

        lz : length Z ≡ length P₀
        lz = ap length z ∙ length-replicate (length P₀) 0

        fits : length all.entries ≤ min 1024 (length T₀ / width)
        fits =
            let f = fit_forth room (statements all.entries) (accept_forth room text all.entries all.reads).2 in
            omega (arith, f.1, statements_length all.entries)

        stored : Stored room text T X all.entries
        stored =
            let few : length all.entries ≤ min 1024 (length T₀ / width) = fits in
            record {
              reads = all.reads;
              records = E.table ∙ (λ i. record_image text (sym lt i) (all.reads i));
              index = E.entries ∙ (λ i. index_after (sym lx i) (all.reads i));
              few = omega arith;
              room = omega (arith, lt);
            }

        validated_as : ValidatedAs text all.entries (length Z) s P
        validated_as =
            let few : length all.entries ≤ min 1024 (length T₀ / width) = fits in
            let wide : leb (min 1024 (length T₀ / width) * 2) (length P₀) ≡ true = sym asked ∙ not_false b enough in
            let two : min 1024 (length T₀ / width) * 2 ≤ length P₀ = leb-true (min 1024 (length T₀ / width) * 2) (length P₀) wide in
            S room all.entries stored all.count (z ∙ ap (λ (m : ℕ). replicate m 0) (sym lz)) (omega (arith, lz))

        mixed_is : whole ≡ mixed text (accepted all.entries)
        mixed_is = whole_mixed ∙ ap (mixed text) all.reads

        pub all_valid : s ≡ told.Valid → EndsPaired mode text T₀ D₀ P₀ X₀ (Accepted n k c) T D P X
        all_valid f =
            let es = all.entries in
            let w : whole ≡ accepted es = mixed_is ∙ told_valid es (first_unknown text (statements es) es) (lowest_loop (scene_graph (statements es)) (length es)) (sym f ∙ validated_as.says) in
            subst (λ (y : End). EndsPaired mode text T₀ D₀ P₀ X₀ y T D P X) e (kept E (w ∙ sym all.reads) (validated_as.stands f ∙ (λ i. pair_image (lz i) (sym w i))))

        pub mixture_refused : {m q : ℕ} → s ≡ told.Refused m q → {T' : List ℕ} {D' : List Float} {P' X' : List ℕ} → T' ≡ replicate (length T₀) 0 → D' ≡ replicate (length D₀) zero_real → P' ≡ replicate (length P₀) 0 → X' ≡ replicate (length X₀) 0 → EndsPaired mode text T₀ D₀ P₀ X₀ (Refused m q) T' D' P' X'
        mixture_refused {m} {q} f t d p x = cleared t d p x (mixed_is ∙ told_refused (mixed text (accepted all.entries)) m q (sym f ∙ validated_as.says))
