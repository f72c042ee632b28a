-- How reading begins and ends: one law for each.
use mathlib.Core.Bool.{Bool, cond}
use mathlib.Core.List.{List, [], ◌++◌}
use mathlib.Core.Path.{◌≡◌, refl, ap, sym, ◌∙◌}
use Prim.Native.Nat.{ℕ, ◌≤◌, ◌<◌}
use native.Mathlib.Nat.{sub-zero}
use borrow.Author.Tests.{le-leb, lt-leb}
use lib.Dec.{leb}
use lib.Ieee.{Float}
use lib.ListN.{length, length-replicate, replicate}
use Rattle.driver.specs.Ending.{Accepted, Ends, Refused, ending, index_after}
use Rattle.progress.specs.Invariant.{Accepts, Inv, result}
use Rattle.index.proofs.ReportLaws.{tally_is}
use Rattle.index.proofs.TableLaws.{lent_none}
use Rattle.index.specs.Lent.{lent, tally}
use Rattle.index.specs.Report.{all_looked}
use Rattle.laws.specs.Bytes.{Bytes}
use Rattle.scene.proofs.ImageLaws.{zero_reals, zero_records}
use Rattle.scene.specs.HouseRules.{zero_real}
use Rattle.scene.specs.Links.{reals_used}
use Rattle.scene.specs.Phase.{idle}
use Rattle.scene.specs.Reading.{run, read_statements, newline, Reading, accepted, statements, refused}
use Rattle.scene.specs.Record.{settings_for, records_from, record_image, filled, flat, real_table, records, real_image}
use Rattle.scene.specs.declared.Mode.{Mode}
use Rattle.scene.specs.declared.Settings.{Settings}
use Rattle.statement.specs.States.{between}
use Rattle.statement.specs.declared.State.{State}
use Rattle.scene.specs.Record as table_of

short_read : (R : Settings) (text : Bytes) → length text ≤ 65536 → read_statements R text ≡ result text R
unfolding read_statements
short_read R text h = ap (λ (b : Bool). cond b (result text R) (refused 1 0)) (le-leb (length text) 65536 h)

-- the mode, the text, and the tables as they were lent
module _ (mode : Mode) (text : Bytes) (T₀ : List ℕ) (D₀ : List Float) (X₀ : List ℕ) where
  abbrev reading : Reading
  reading = read_statements (settings_for mode (length T₀) (length D₀)) text

  -- a refusal, with all tables cleared
  module _ (T : List ℕ) (D : List Float) (X : List ℕ) (t : T ≡ replicate (length T₀) 0) (d : D ≡ replicate (length D₀) zero_real) (x : X ≡ replicate (length X₀) 0) where
    pub refuses_with : (n p : ℕ) → reading ≡ refused n p → Ends mode text T₀ D₀ X₀ (Refused n p) T D X
    refuses_with n p e = record {
      says = ap (ending (length X₀)) (sym e);
      table = t ∙ zero_records text (length T₀) n p ∙ ap (record_image text (length T₀)) (sym e);
      doubles = d ∙ zero_reals (length D₀) n p ∙ ap (real_image (length D₀)) (sym e);
      entries = x ∙ ap (index_after (length X₀)) (sym e);
    }

    pub too_long : 65536 < length text → Ends mode text T₀ D₀ X₀ (Refused 1 0) T D X
    unfolding read_statements
    too_long h = refuses_with 1 0 (ap (λ (b : Bool). cond b (result text (settings_for mode (length T₀) (length D₀))) (refused 1 0)) (lt-leb (length text) 65536 h))

  -- the tables when reading ends
  module _ (T : List ℕ) (D : List Float) (X : List ℕ) (room : Settings) (s : State) (I : Inv text T D X room s) (o : room.mode ≡ mode) (l : length T ≡ length T₀) (m : length D ≡ length D₀) (h : length X ≡ length X₀) where
    pub reads_as : reading ≡ result text room
    reads_as = ap (λ (z : Settings). read_statements z text) (sym (I.settings ∙ (λ i. settings_for (o i) (l i) (m i)))) ∙ short_read room text I.short

    pub ends_accepted : (n k c : ℕ) → Accepts text T D X room n k c → Ends mode text T₀ D₀ X₀ (Accepted n k c) T D X
    unfolding record_image real_image
    ends_accepted n k c A =
        let e : reading ≡ accepted A.entries = reads_as ∙ A.accepts in
        let looked : c ≡ cond (leb 2048 (length X₀)) (all_looked (statements A.entries)) 0 = A.looked ∙ ap (λ (z : ℕ). tally z (statements A.entries)) h ∙ tally_is (length X₀) (statements A.entries) A.few in
        record {
          says = (λ i. Accepted (A.count i) (A.used i) (looked i)) ∙ ap (ending (length X₀)) (sym e);
          table = A.stored ∙ ap (λ (z : ℕ). filled 0 z (flat text (records A.entries))) l ∙ ap (record_image text (length T₀)) (sym e);
          doubles = A.doubles ∙ ap (λ (z : ℕ). filled zero_real z (real_table A.entries)) m ∙ ap (real_image (length D₀)) (sym e);
          entries = A.held ∙ ap (λ (z : ℕ). lent z (statements A.entries)) h ∙ ap (index_after (length X₀)) (sym e);
        }

  -- cleared tables
  pub first_inv : (T : List ℕ) (D : List Float) (X : List ℕ) → T ≡ replicate (length T₀) 0 → D ≡ replicate (length D₀) zero_real → X ≡ replicate (length X₀) 0 → length text ≤ 65536 → (R : Settings) → R ≡ settings_for mode (length T) (length D) → Inv text T D X R (between 0 0 0 0)
  unfolding run statements reals_used records records_from flat table_of.reals tally
  first_inv T D X t d x h R q =
      let lt : length T ≡ length T₀ = ap length t ∙ length-replicate (length T₀) 0 in
      let ld : length D ≡ length D₀ = ap length d ∙ length-replicate (length D₀) zero_real in
      let lx : length X ≡ length X₀ = ap length x ∙ length-replicate (length X₀) 0 in
      record {
        done = [];
        rest = text ++ newline;
        phase = idle;
        places = record { word = 0; start = 0; name = 0; string = 0 };
        above = [];
        whole = refl;
        reach = refl;
        is = refl;
        stored = t ∙ ap (λ (n : ℕ). replicate n 0) (sym lt ∙ sym (sub-zero (length T)));
        held = x ∙ ap (λ (n : ℕ). replicate n 0) (sym lx) ∙ lent_none (length X);
        doubles = d ∙ ap (λ (n : ℕ). replicate n zero_real) (sym ld ∙ sym (sub-zero (length D)));
        settings = q ∙ ap (λ (z : Settings). settings_for z.mode (length T) (length D)) (sym q);
        short = h;
      }
