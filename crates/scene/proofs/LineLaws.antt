-- The line of a place, counted on from an earlier place.
use mathlib.Core.Bool.{Bool, true, false, cond}
use mathlib.Core.List.{[], ◌∷◌, ◌++◌}
use mathlib.Core.Path.{◌≡◌, ap, sym, ◌∙◌}
use Prim.Native.Nat.{ℕ, suc, ◌+◌, ◌-◌, ◌≤◌, ◌<◌}
use native.Mathlib.Omega.{arith}
use lib.Dec.{eqb}
use lib.ListN.{length, get_or, take}
use lib.Seq.{take-add, take-suc}
use Rattle.laws.proofs.BoolLaws.{cond_elim}
use Rattle.laws.specs.Bytes.{Bytes, part}
use Rattle.scene.specs.Record.{line_at, newlines}

pub newlines_append : (x y : Bytes) → newlines (x ++ y) ≡ newlines x + newlines y
unfolding newlines
newlines_append [] y = omega arith
newlines_append (b ∷ x) y = go (eqb b 10) (newlines_append x y)
  where
    go : (c : Bool) → newlines (x ++ y) ≡ newlines x + newlines y → cond c (suc (newlines (x ++ y))) (newlines (x ++ y)) ≡ cond c (suc (newlines x)) (newlines x) + newlines y
    go true h = omega arith
    go false h = h

pub newlines_most : (x : Bytes) → newlines x ≤ length x
unfolding newlines
newlines_most [] = omega arith
newlines_most (b ∷ x) = let h = newlines_most x in cond_elim (λ (n : ℕ). n ≤ suc (length x)) (eqb b 10) (omega arith) (omega arith)

pub line_on : (text : Bytes) (p q : ℕ) → p ≤ q → line_at text q ≡ line_at text p + newlines (part text p (q - p))
line_on text p q h =
    let e : q ≡ p + (q - p) = omega arith in
    let s : newlines (take q text) ≡ newlines (take p text) + newlines (part text p (q - p)) = ap (λ (k : ℕ). newlines (take k text)) e ∙ ap newlines (take-add p (q - p) text) ∙ newlines_append (take p text) (part text p (q - p)) in
    omega arith

-- one byte more
pub newlines_more : (text : Bytes) (i : ℕ) → i < length text → newlines (take i text) + cond (eqb (get_or text i 0) 10) 1 0 ≡ newlines (take (suc i) text)
unfolding newlines
newlines_more text i h = sym (ap newlines (take-suc text i 0 h) ∙ newlines_append (take i text) (get_or text i 0 ∷ []))
