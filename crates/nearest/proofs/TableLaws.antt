-- The reals of an accepted scene's table are the nearest doubles to its numerals.
use mathlib.Core.List.{List, [], ◌∷◌, ◌++◌}
use mathlib.Core.Path.{◌≡◌, refl, ap, sym, ◌∙◌}
use Prim.Native.Nat.{ℕ}
use lib.Ieee.{Float}
use lib.ListN.{length}
use Rattle.nearest.proofs.WrittenLaws.{numeral_nearest}
use Rattle.nearest.specs.Written.{AllWritten, TableLaw, literals, literals_in}
use Rattle.scene.specs.HouseRules.{zero_real}
use Rattle.scene.specs.Links.{reals_in}
use Rattle.scene.specs.Reading.{statements}
use Rattle.scene.specs.Record as record_specs
use Rattle.scene.specs.Record.{filled, real_image, settings_for}
use Rattle.scene.specs.Statement.{Body, Literal, Statement, alias, numbers, primitive}
use Rattle.scene.specs.declared.Mode.{Mode}
use Rattle.sides.proofs.MixedLaws.{resolved}
use Rattle.tidying.proofs.ReadBackLaws.{accepted_proper}
use Rattle.tidying.specs.Proper.{AllProper, Literals, ProperBody}

-- ---- the numbers in their order

numbers_append : (xs ys : List Literal) → numbers (xs ++ ys) ≡ numbers xs ++ numbers ys
numbers_append [] ys = refl
numbers_append (l ∷ xs) ys = ap {B = List Float} (λ (t : List Float). l.number ∷ t) (numbers_append xs ys)

body_numbers : (b : Body) → reals_in b ≡ numbers (literals_in b)
body_numbers (primitive t ss rs) = refl
body_numbers (alias x) = refl

reals_are : (d : List Statement) → record_specs.reals d ≡ numbers (literals d)
unfolding record_specs.reals literals
reals_are [] = refl
reals_are (s ∷ d) = (λ i. reals_are d i ++ body_numbers s.body i) ∙ sym (numbers_append (literals d) (literals_in s.body))

-- ---- each is the nearest

all_append : (xs ys : List Literal) → AllWritten xs → AllWritten ys → AllWritten (xs ++ ys)
all_append [] ys a b = b
all_append (l ∷ xs) ys a b = (a.0, all_append xs ys a.1 b)

literals_written : (t : ℕ) (before rs : List Literal) → Literals t before rs → AllWritten rs
literals_written t before [] h = tt
literals_written t before (l ∷ rs) h = (numeral_nearest l.word l.number h.1, literals_written t (before ++ l ∷ []) rs h.3)

body_written : (m : Mode) (b : Body) → ProperBody m b → AllWritten (literals_in b)
body_written m (primitive t ss rs) h = literals_written t [] rs h.2.literals
body_written m (alias x) h = tt

all_written : (m : Mode) (d : List Statement) → AllProper m d → AllWritten (literals d)
unfolding literals
all_written m [] h = tt
all_written m (s ∷ d) h = all_append (literals d) (literals_in s.body) (all_written m d h.1) (body_written m s.body h.0.body)

-- ---- the law

pub table_nearest : TableLaw
unfolding real_image
table_nearest mode text records reals r records' reals' h es e = record {
  table = h.doubles ∙ ap (real_image (length reals)) e ∙ ap (filled zero_real (length reals)) (reals_are (statements es));
  written = all_written mode (statements es) (accepted_proper (settings_for mode (length records) (length reals)) text es (resolved (settings_for mode (length records) (length reals)) text es e).reads);
}
