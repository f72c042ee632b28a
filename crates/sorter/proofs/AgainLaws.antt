-- The sorting call on a text and its own tables.
use mathlib.Core.Logic.{◌⊎◌, inl, inr}
use mathlib.Core.List.{List}
use mathlib.Core.Path.{◌≡◌, refl, ap, ◌∙◌}
use Prim.Native.Nat.{ℕ}
use mathlib.Core.Bool.{Bool, true, false, cond}
use mathlib.Core.Option.{Option, none, some}
use lib.ListN.{length}
use Rattle.laws.specs.Bytes.{Bytes}
use Rattle.rearrangement.specs.Blocks.{Verdict, can, cannot, crowded, lines_end, uncrowded, unended, verdict}
use Rattle.scene.specs.Reading.{Entry, accepted}
use Rattle.scene.specs.Record.{settings_for}
use Rattle.scene.specs.declared.Mode.{Mode}
use Rattle.sides.specs.Read.{read}
use Rattle.sorter.specs.Again.{SortsOwnLaw, sorted_from}
use Rattle.sorter.specs.Answer.{if_cut, sorted_outcome}
use Rattle.sorting.proofs.SortLaws.{cut_law, sort_law}
use Rattle.sorting.specs.Sorted.{sorted_text}
use Rattle.writer.proofs.AgainLaws.{own_checked}
use Rattle.writer.specs.Answer.{fitted, refused}

-- what a text that cannot be cut is refused by
refusals : (text : Bytes) (es : List Entry) → (verdict text es ≡ can → ⊥) → (p : ℕ) × ((verdict text es ≡ cannot 33 p) ⊎ (verdict text es ≡ cannot 34 p))
unfolding verdict
refusals text es h = go (lines_end text) (crowded text es) refl refl
  where
    go : (b : Bool) (o : Option ℕ) → lines_end text ≡ b → crowded text es ≡ o → (p : ℕ) × ((verdict text es ≡ cannot 33 p) ⊎ (verdict text es ≡ cannot 34 p))
    go false o e f = (length text, inl (ap (λ (b : Bool). cond b (uncrowded (crowded text es)) (unended text)) e))
    go true (some p) e f = (p, inr (λ i. cond (e i) (uncrowded (f i)) (unended text)))
    go true none e f = absurd (h (λ i. cond (e i) (uncrowded (f i)) (unended text)))

module _ (mode : Mode) (text : Bytes) (n k room : ℕ) (es : List Entry) (e : read (settings_for mode n k) text ≡ accepted es) where
  own : sorted_from mode text n k room ≡ sorted_outcome text room es
  own = own_checked (sorted_outcome text room) mode text n k es e

  by : {v : Verdict} → verdict text es ≡ v → sorted_from mode text n k room ≡ if_cut v (fitted room (sorted_text text es))
  by q = own ∙ ap (λ (v : Verdict). if_cut v (fitted room (sorted_text text es))) q

  refuses : (p : ℕ) × ((verdict text es ≡ cannot 33 p) ⊎ (verdict text es ≡ cannot 34 p)) → (p : ℕ) × ((sorted_from mode text n k room ≡ refused 33 p) ⊎ (sorted_from mode text n k room ≡ refused 34 p))
  refuses (p, inl q) = (p, inl (by q))
  refuses (p, inr q) = (p, inr (by q))

pub sorts_own : SortsOwnLaw
sorts_own mode text n k room es e =
    let c = cut_law (settings_for mode n k) text es e in
    record {
      sorts = λ x. by mode text n k room es e (c.1 x);
      scene = λ x. sort_law (settings_for mode n k) text es e (c.1 x);
      refuses = λ h. refuses mode text n k room es e (refusals text es (λ q. h (c.0 q)));
    }
