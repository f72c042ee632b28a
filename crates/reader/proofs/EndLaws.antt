-- What the reader promises, from how the driver ends.
use mathlib.Core.Bool.{Bool, cond}
use mathlib.Core.List.{List}
use mathlib.Core.Path.{◌≡◌, refl, ap, sym, ◌∙◌}
use Prim.Native.Nat.{ℕ, ◌≤◌, ◌<◌}
use borrow.Author.Tests.{le-leb}
use lib.Ieee.{Float}
use lib.ListN.{length, replicate}
use Rattle.driver.specs.Ending.{End, ending, index_after}
use Rattle.index.proofs.TableLaws.{lent_used}
use Rattle.index.specs.Report.{all_looked, index_image, report}
use Rattle.laws.specs.Bytes.{Bytes}
use Rattle.mixed_driver.specs.Paired.{EndsPaired, short_reason}
use Rattle.reader.proofs.IndexedLaws.{long_index, short_index}
use Rattle.reader.specs.Answer.{Accepted, Answer, Refused, answered, numbers_of}
use Rattle.reader.specs.Indexed.{ReadsIndexed, answered_short}
use Rattle.reader.specs.Paired.{ReadsPaired, read_with_pairs}
use Rattle.scene.proofs.ImageLaws.{zero_reals, zero_records}
use Rattle.scene.specs.HouseRules.{zero_real}
use Rattle.scene.specs.Reading.{Reading, accepted, refused, statements}
use Rattle.scene.specs.Record.{answer, real_image, record_image}
use Rattle.scene.specs.declared.Mode.{Mode}
use Rattle.sides.proofs.SideLaws.{zero_pairs}
use Rattle.sides.specs.Sides.{pair_image}
use Rattle.driver.specs.Ending as end

-- the answer of an end, and its report
abbrev told : End → Answer
told (end.Accepted n k c) = Accepted n k
told (end.Refused n p) = Refused n p

abbrev reported : End → ℕ
reported (end.Accepted n k c) = c
reported (end.Refused n p) = 0

told_ending : (size : ℕ) (x : Reading) → told (ending size x) ≡ answered x
told_ending size (refused n p) = refl
told_ending size (accepted es) = refl

numbers_answered : (x : Reading) → numbers_of (answered x) ≡ answer x
numbers_answered (refused n p) = refl
numbers_answered (accepted es) = refl

-- with 2,048 entries or more
reported_ending : (size : ℕ) → 2048 ≤ size → (x : Reading) → reported (ending size x) ≡ report x
reported_ending size l (refused n p) = refl
reported_ending size l (accepted es) = ap (λ (b : Bool). cond b (all_looked (statements es)) 0) (le-leb 2048 size l)

index_ending : (size : ℕ) → 2048 ≤ size → (x : Reading) → index_after size x ≡ index_image size x
index_ending size l (refused n p) = refl
index_ending size l (accepted es) = lent_used size (statements es) l

-- the mode, the text, the tables as they were lent, how the driver ends, and the tables then
module _ (mode : Mode) (text : Bytes) (T₀ : List ℕ) (D₀ : List Float) (P₀ X₀ : List ℕ) where
  abbrev x : Reading
  x = read_with_pairs mode text T₀ D₀ P₀

  module _ (r : End) (T : List ℕ) (D : List Float) (P X : List ℕ) (E : EndsPaired mode text T₀ D₀ P₀ X₀ r T D P X) (e : End) (q : r ≡ e) where
    says : told e ≡ answered x
    says = ap told (sym q ∙ E.says) ∙ told_ending (length X₀) x

    pub reads_as : ReadsPaired mode text T₀ D₀ P₀ (told e) T D P
    reads_as = record { says = says; numbers = ap numbers_of says ∙ numbers_answered x; table = E.table; doubles = E.doubles; sides = E.sides }

    -- the index is used
    pub reads_indexed : 2048 ≤ length X₀ → ReadsIndexed mode text T₀ D₀ P₀ X₀ (record { answer = told e; looked = reported e }) T D P X
    reads_indexed l =
        let i = sym (long_index mode text T₀ D₀ P₀ X₀ l) in
        record {
          says = says ∙ ap answered i;
          numbers = ap numbers_of says ∙ numbers_answered x ∙ ap answer i;
          looked = ap reported (sym q ∙ E.says) ∙ reported_ending (length X₀) l x ∙ ap report i;
          table = E.table ∙ ap (record_image text (length T₀)) i;
          doubles = E.doubles ∙ ap (real_image (length D₀)) i;
          sides = E.sides ∙ ap (pair_image (length P₀)) i;
          entries = E.entries ∙ index_ending (length X₀) l x ∙ ap (index_image (length X₀)) i;
        }

  -- the index is too short, and all tables are cleared
  pub reads_short : length X₀ < 2048 → (T : List ℕ) (D : List Float) (P X : List ℕ) → T ≡ replicate (length T₀) 0 → D ≡ replicate (length D₀) zero_real → P ≡ replicate (length P₀) 0 → X ≡ replicate (length X₀) 0
      → (r : Answer) → r ≡ answered_short (length text) → ReadsIndexed mode text T₀ D₀ P₀ X₀ (record { answer = r; looked = 0 }) T D P X
  reads_short l T D P X t d c z r q =
      let i = sym (short_index mode text T₀ D₀ P₀ X₀ l) in
      record {
        says = q ∙ ap answered i;
        numbers = ap numbers_of q ∙ ap answer i;
        looked = ap report i;
        table = t ∙ zero_records text (length T₀) (short_reason 24 (length text)) 0 ∙ ap (record_image text (length T₀)) i;
        doubles = d ∙ zero_reals (length D₀) (short_reason 24 (length text)) 0 ∙ ap (real_image (length D₀)) i;
        sides = c ∙ zero_pairs (length P₀) (short_reason 24 (length text)) 0 ∙ ap (pair_image (length P₀)) i;
        entries = z ∙ ap (index_image (length X₀)) i;
      }
