-- Forth and back gives the statements that were.
use mathlib.Core.Bool.{Bool, true, false, not, cond, ◌&&◌}
use mathlib.Core.List.{List, [], ◌∷◌, ◌++◌}
use mathlib.Core.Path.{◌≡◌, refl, ap}
use native.Mathlib.Omega.{arith}
use borrow.Author.Tests.{eqb-true}
use lib.Dec.{eqb}
use lib.ListN.{length}
use Rattle.laws.proofs.BoolLaws.{and_left, and_right, not_true}
use Rattle.laws.specs.Bytes.{same}
use Rattle.moving.specs.Moved.{glass, index, is_spelled, moved_body, moved_reals, none_spelled, spelled_body}
use Rattle.moving.specs.ReadBack.{ForthAndBackLaw}
use Rattle.moving.specs.declared.Direction.TheVariants.{Back, Forth}
use Rattle.scene.specs.Statement.{Body, Literal, alias, primitive}

-- a real added to three is the fourth, spelled so, and the three stand before it
back_of_three : (rs : List Literal) → length rs ≡ 3 → moved_reals Back (rs ++ index ∷ []) ≡ rs
unfolding moved_reals is_spelled same
back_of_three [] e = absurd (omega arith)
back_of_three (a ∷ []) e = absurd (omega arith)
back_of_three (a ∷ b ∷ []) e = absurd (omega arith)
back_of_three (a ∷ b ∷ c ∷ []) e = refl
back_of_three (a ∷ b ∷ c ∷ d ∷ rs) e = absurd (omega arith)

reals_back : (rs : List Literal) → is_spelled rs ≡ false → moved_reals Back (moved_reals Forth rs) ≡ rs
unfolding moved_reals
reals_back rs h = go (eqb (length rs) 3) refl
  where
    go : (b : Bool) → eqb (length rs) 3 ≡ b → moved_reals Back (cond b (rs ++ index ∷ []) rs) ≡ rs
    go true e = back_of_three rs (eqb-true (length rs) 3 e)
    go false e = rw h

body_back : (b : Body) → spelled_body b ≡ false → moved_body Back (moved_body Forth b) ≡ b
body_back (alias x) h = refl
body_back (primitive t ss rs) h = ap (primitive t ss) (go (eqb t glass) h)
  where
    go : (b : Bool) → (b && is_spelled rs) ≡ false → cond b (moved_reals Back (cond b (moved_reals Forth rs) rs)) (cond b (moved_reals Forth rs) rs) ≡ rs
    go true e = reals_back rs e
    go false e = refl

pub forth_and_back : ForthAndBackLaw
unfolding none_spelled
forth_and_back [] h = refl
forth_and_back (s ∷ d) h = λ i. record { modifier = s.modifier; name = s.name; body = body_back s.body (not_true (spelled_body s.body) (and_left (not (spelled_body s.body)) (none_spelled d) h)) i } ∷ forth_and_back d (and_right (not (spelled_body s.body)) (none_spelled d) h) i
