-- Moved statements are as proper as they were.
use mathlib.Core.Bool.{Bool, true, false, cond}
use mathlib.Core.List.{List, [], ◌∷◌, ◌++◌}
use mathlib.Core.Path.{◌≡◌, refl, sym, subst}
use Prim.Native.Nat.{ℕ}
use native.Mathlib.Omega.{arith}
use borrow.Author.Tests.{eqb-true}
use lib.Dec.{eqb}
use lib.Ieee.{lt, round}
use lib.ListN.{get_or, length, take}
use Rattle.laws.proofs.BoolLaws.{and_left}
use Rattle.laws.specs.Bytes.{same}
use Rattle.laws.specs.Runs as runs
use Rattle.laws.specs.Runs.{all}
use Rattle.lexer.specs.Class.{is_good}
use Rattle.moving.specs.Moved.{glass, index, is_spelled, moved, moved_body, moved_reals}
use Rattle.moving.specs.declared.Direction.{Direction}
use Rattle.moving.specs.declared.Direction.TheVariants.{Back, Forth}
use Rattle.numeral.specs.Numeral.{coefficient, down, exponent, in_range, mantissa, nearest, number_of, numeral_of, up, value, well_formed}
use Rattle.numeral_parts.specs.Digits.{digits, is_digit, value_from}
use Rattle.numeral_parts.specs.Parts.{before, behind, has, index_of, is_exponent, is_mantissa, is_mark, is_point, is_sign, negative, unsigned}
use Rattle.scene.specs.HouseRules.{breach, breach_at, is_above0, real_at}
use Rattle.scene.specs.Statement.{Body, Literal, Statement, alias, numbers, numeral_words, primitive}
use Rattle.scene.specs.Types.{kind_of, number_from, reals_allowed, type_number}
use Rattle.scene.specs.declared.Mode.{Mode}
use Rattle.tidying.specs.Proper.{AllProper, Good, Literals, ProperBody, Reals}

-- ---- the real that is added

index_good : Good index.word
unfolding all is_good
index_good = record { filled = omega arith; good = refl; short = omega arith }

index_reads : numeral_of index.word ≡ value index.number
unfolding all runs.run digits is_digit value_from numeral_of well_formed is_mantissa is_exponent mantissa exponent before behind has index_of is_point is_mark is_sign negative unsigned coefficient up down in_range nearest number_of round
index_reads = refl

index_keeps : (a b c : Literal) → breach glass (numbers (a ∷ b ∷ c ∷ index ∷ [])) ≡ false
unfolding breach breach_at real_at is_above0 type_number number_from same lt round
index_keeps a b c = refl

-- ---- the reals of glass

three_allowed : reals_allowed glass 3 ≡ true
unfolding reals_allowed kind_of type_number number_from same
three_allowed = refl

four_allowed : reals_allowed glass 4 ≡ true
unfolding reals_allowed kind_of type_number number_from same
four_allowed = refl

with_fourth : (rs : List Literal) → length rs ≡ 3 → Literals glass [] rs → Reals glass (rs ++ index ∷ [])
with_fourth [] e h = absurd (omega arith)
with_fourth (a ∷ []) e h = absurd (omega arith)
with_fourth (a ∷ b ∷ []) e h = absurd (omega arith)
with_fourth (a ∷ b ∷ c ∷ []) e h =
    let i = h.3 in
    let j = i.3 in
    record { allowed = four_allowed; few = omega arith; literals = (h.0, h.1, h.2, (i.0, i.1, i.2, (j.0, j.1, j.2, (index_good, index_reads, index_keeps a b c, tt)))) }
with_fourth (a ∷ b ∷ c ∷ d ∷ rs) e h = absurd (omega arith)

without_fourth : (rs : List Literal) → length rs ≡ 4 → Literals glass [] rs → Reals glass (take 3 rs)
without_fourth [] e h = absurd (omega arith)
without_fourth (a ∷ []) e h = absurd (omega arith)
without_fourth (a ∷ b ∷ []) e h = absurd (omega arith)
without_fourth (a ∷ b ∷ c ∷ rs) e h =
    let i = h.3 in
    let j = i.3 in
    record { allowed = three_allowed; few = omega arith; literals = (h.0, h.1, h.2, (i.0, i.1, i.2, (j.0, j.1, j.2, tt))) }

reals_proper : (m : Direction) (rs : List Literal) → Reals glass rs → Reals glass (moved_reals m rs)
unfolding moved_reals is_spelled
reals_proper Forth rs h = go (eqb (length rs) 3) refl
  where
    go : (b : Bool) → eqb (length rs) 3 ≡ b → Reals glass (cond b (rs ++ index ∷ []) rs)
    go true e = with_fourth rs (eqb-true (length rs) 3 e) h.literals
    go false e = h
reals_proper Back rs h = go (is_spelled rs) refl
  where
    go : (b : Bool) → is_spelled rs ≡ b → Reals glass (cond b (take 3 rs) rs)
    go true e = without_fourth rs (eqb-true (length rs) 4 (and_left (eqb (length rs) 4) (same (get_or (numeral_words rs) 3 []) index.word) e)) h.literals
    go false e = h

-- ---- the statements

body_proper : (mode : Mode) (m : Direction) (b : Body) → ProperBody mode b → ProperBody mode (moved_body m b)
body_proper mode m (alias x) h = h
body_proper mode m (primitive t ss rs) h = (h.0, h.1, go (eqb t glass) refl)
  where
    go : (b : Bool) → eqb t glass ≡ b → Reals t (cond b (moved_reals m rs) rs)
    go true e = let q = eqb-true t glass e in subst (λ (k : ℕ). Reals k (moved_reals m rs)) (sym q) (reals_proper m rs (subst (λ (k : ℕ). Reals k rs) q h.2))
    go false e = h.2

pub moved_proper : (mode : Mode) (m : Direction) (D : List Statement) → AllProper mode D → AllProper mode (moved m D)
moved_proper mode m [] h = tt
moved_proper mode m (s ∷ D) h = (record { modifier = h.0.modifier; name = h.0.name; body = body_proper mode m s.body h.0.body }, moved_proper mode m D h.1)
