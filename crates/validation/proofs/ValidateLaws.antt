-- What is told of the mixtures of a text, from what each step promises.
use mathlib.Core.Bool.{Bool, true, false}
use mathlib.Core.List.{List}
use mathlib.Core.Option.{Option, none, some}
use mathlib.Core.Path.{◌≡◌, refl, ap, sym, ◌∙◌, subst}
use Prim.Native.Nat.{ℕ, zero, suc, ◌+◌, ◌-◌, ◌*◌, ◌≤◌, min}
use native.Mathlib.Omega.{arith}
use lib.ListN.{length, replicate}
use Rattle.graph.specs.Answers.{lowest_loop}
use Rattle.graph.specs.Graph.{Graph, graph_of}
use Rattle.laws.specs.Bytes.{Bytes}
use Rattle.validation.specs.Validated.{Loops, Refused, Valid, Validates, Validity, loop_told, told_as}
use Rattle.loops.specs.Found.{Finds}
use Rattle.mixtures.specs.Walk.{Within}
use Rattle.resolver.proofs.ResolveLaws.{plain_loopless, resolved_pairs, resolved_unknown}
use Rattle.resolver.specs.Code.{Resolves, Stored, mixture_to, pairs_to, resolved_as, unknown_to}
use Rattle.resolver.specs.declared.Resolved.{Resolved}
use Rattle.resolver.specs.declared.Resolved.TheVariants.{Known, Plain, Unknown}
use Rattle.scene.proofs.FlatLaws.{record_in_lem}
use Rattle.scene.proofs.TellsLaws.{statements_length}
use Rattle.scene.specs.Reading.{Entry, accepted, statements}
use Rattle.scene.specs.Record.{Record, field_in, filled, record_image, record_in, records}
use Rattle.scene.specs.declared.Settings.{Settings}
use Rattle.sides.proofs.SideLaws.{scene_within, tables_graph}
use Rattle.sides.specs.Read.{first_unknown, mixed, settled}
use Rattle.sides.specs.Sides.{pair_image, scene_graph}

-- ---- what the look-up's answer says of the names

abbrev IsPlain : Resolved → Type 0
IsPlain Plain = Unit
IsPlain Known = ⊥
IsPlain (Unknown p) = ⊥

plain_inv : (u : Option ℕ) (b : Bool) → Plain ≡ resolved_as u b → (u ≡ none) × (b ≡ false)
plain_inv (some p) b e = absurd (subst IsPlain e tt)
plain_inv none true e = absurd (subst IsPlain e tt)
plain_inv none false e = (refl, refl)

abbrev unknown_in : Resolved → Option ℕ
unknown_in Plain = none
unknown_in Known = none
unknown_in (Unknown p) = some p

unknown_inv : (u : Option ℕ) (b : Bool) → u ≡ unknown_in (resolved_as u b)
unknown_inv (some p) b = refl
unknown_inv none true = refl
unknown_inv none false = refl

abbrev IsValid : Validity → Type 0
IsValid Valid = Unit
IsValid (Refused n p) = ⊥

module _ (text : Bytes) (T X P P' : List ℕ) (count : ℕ) {r : Resolved} (R : Resolves text T X P count r P') where
  unknown_is : unknown_to text T X count count ≡ unknown_in r
  unknown_is = unknown_inv (unknown_to text T X count count) (mixture_to T count) ∙ ap unknown_in (sym R.says)

  -- for the statements that the tables hold
  module _ (s : Settings) (es : List Entry) (S : Stored s text T X es) (size : count ≡ length es) where
    told : {n : ℕ} → lowest_loop (scene_graph (statements es)) (length es) ≡ n → told_as (settled es (unknown_in r) n) ≡ told_as (mixed text (accepted es))
    told l =
        let first : unknown_to text T X count count ≡ first_unknown text (statements es) es = ap (λ (k : ℕ). unknown_to text T X k k) size ∙ resolved_unknown s text T X es S in
        (λ i. told_as (settled es ((sym unknown_is ∙ first) i) (sym l i)))

    pairs_stand : unknown_in r ≡ none → P ≡ replicate (length P) 0 → length es * 2 ≤ length P → P' ≡ pair_image (length P) (accepted es)
    unfolding pair_image
    pairs_stand e z room =
        R.stands (unknown_is ∙ e) z (subst (λ (k : ℕ). k * 2 ≤ length P) (sym size) room)
        ∙ ap (filled 0 (length P)) (ap (λ (k : ℕ). pairs_to text T X k k) size ∙ resolved_pairs s text T X es S)

    graph_is : P' ≡ pair_image (length P) (accepted es) → graph_of T P' ≡ scene_graph (statements es)
    graph_is e = (λ i. graph_of (S.records i) (e i)) ∙ tables_graph text es (length T) (length P)

    within : Within (scene_graph (statements es)) (count + 1)
    within = subst (λ (k : ℕ). Within (scene_graph (statements es)) (k + 1)) (statements_length es ∙ sym size) (scene_within (statements es))

    name_told : (n : ℕ) → loop_told T n ≡ told_as (settled es none n)
    unfolding record_image record_in
    name_told zero = refl
    name_told (suc n) = ap (λ (k : Record). Refused 26 k.name) (ap (λ (t : List ℕ). record_in t (suc n)) S.records ∙ record_in_lem text (records es) (length T) (suc n))

-- ---- the three answers of the look-up

module _ (text : Bytes) (T X P P' : List ℕ) (count : ℕ) where
  pub plain_validates : {r : Resolved} → Resolves text T X P count r P' → r ≡ Plain → Validates text T X P count Valid P'
  plain_validates {r} Q e s es S size z room =
      let R : Resolves text T X P count Plain P' = subst (λ (x : Resolved). Resolves text T X P count x P') e Q in
      let i = plain_inv (unknown_to text T X count count) (mixture_to T count) R.says in
      record {
        says = told text T X P P' count R s es S size (plain_loopless s text T X es S (ap (mixture_to T) (sym size) ∙ i.1));
        stands = λ _. pairs_stand text T X P P' count R s es S size refl z room;
      }

  pub known_validates : {x : Resolved} {r : Validity} → Resolves text T X P count x P' → x ≡ Known → Loops T P' count r → Validates text T X P count r P'
  known_validates Q e L s es S size z room =
      let R : Resolves text T X P count Known P' = subst (λ (x : Resolved). Resolves text T X P count x P') e Q in
      let p = pairs_stand text T X P P' count R s es S size refl z room in
      let g = graph_is text T X P P' count R s es S size p in
      let few : count ≤ 1024 = subst (λ (k : ℕ). k ≤ 1024) (sym size) S.few in
      let n : ℕ = lowest_loop (scene_graph (statements es)) (length es) in
      record {
        says = L few (subst (λ (h : Graph). Within h (count + 1)) (sym g) (within text T X P P' count R s es S size)) ∙ (λ i. loop_told T (lowest_loop (g i) (size i))) ∙ name_told text T X P P' count R s es S size n ∙ told text T X P P' count R s es S size refl;
        stands = λ _. p;
      }

  pub unknown_validates : {r : Resolved} {p : ℕ} → Resolves text T X P count r P' → r ≡ Unknown p → Validates text T X P count (Refused 25 p) P'
  unknown_validates {r} {p} Q e s es S size z room =
      let R : Resolves text T X P count (Unknown p) P' = subst (λ (x : Resolved). Resolves text T X P count x P') e Q in
      record {
        says = told text T X P P' count R s es S size refl;
        stands = λ f. absurd (subst IsValid (sym f) tt);
      }

-- ---- the search for a loop, with as many marks as primitives and one more

module _ (T P : List ℕ) (count : ℕ) {m : ℕ} (least : m ≡ min count 1024) {size n : ℕ} (marks : size ≡ m + 1) (found : Finds (graph_of T P) size n) where
  lowest_found : count ≤ 1024 → Within (graph_of T P) (count + 1) → n ≡ lowest_loop (graph_of T P) count
  lowest_found few w =
      let same : size ≡ count + 1 = omega (arith, least, marks) in
      let down : size - 1 ≡ count = omega (arith, same) in
      found (subst (Within (graph_of T P)) (sym same) w) ∙ ap (lowest_loop (graph_of T P)) down

  pub no_loop : n ≡ 0 → Loops T P count Valid
  no_loop z few w = ap (loop_told T) (sym z ∙ lowest_found few w)

  pub loop_found : (n ≡ 0 → ⊥) → {p : ℕ} → p ≡ field_in T n 3 → Loops T P count (Refused 26 p)
  loop_found z q few w = ap (Refused 26) q ∙ some n z ∙ ap (loop_told T) (lowest_found few w)
    where
      some : (k : ℕ) → (k ≡ 0 → ⊥) → Refused 26 (field_in T k 3) ≡ loop_told T k
      some zero z = absurd (z refl)
      some (suc k) z = refl
