-- Two words have the same bytes exactly when they are equal.
use mathlib.Core.Bool.{Bool, true, false, ◌&&◌, and-false}
use mathlib.Core.List.{[], ◌∷◌}
use mathlib.Core.Path.{◌≡◌, refl, ap, sym}
use borrow.Author.Tests.{eq-eqb, eqb-true}
use lib.Dec.{eqb}
use lib.ListN.{length}
use Rattle.laws.proofs.BoolLaws.{and_left, and_right}
use Rattle.laws.specs.Bytes.{Bytes, same}

pub same_eq : (v w : Bytes) → same v w ≡ true → v ≡ w
unfolding same
same_eq [] [] e = refl
same_eq [] (y ∷ w) e = absurd (mathlib.Core.Bool.false≢true e)
same_eq (x ∷ v) [] e = absurd (mathlib.Core.Bool.false≢true e)
same_eq (x ∷ v) (y ∷ w) e = λ i. eqb-true x y (and_left (eqb x y) (same v w) e) i ∷ same_eq v w (and_right (eqb x y) (same v w) e) i

pub same_refl : (v : Bytes) → same v v ≡ true
unfolding same
same_refl [] = refl
same_refl (x ∷ v) = rw (eq-eqb x x refl) (same_refl v)

-- the same bytes are as many
pub same_sized : (v w : Bytes) → (eqb (length v) (length w) && same w v) ≡ same w v
same_sized v w = go (same w v) refl
  where
    go : (b : Bool) → same w v ≡ b → (eqb (length v) (length w) && b) ≡ b
    go true e = ap (λ (x : Bool). x && true) (eq-eqb (length v) (length w) (sym (ap length (same_eq w v e))))
    go false e = and-false (eqb (length v) (length w))
