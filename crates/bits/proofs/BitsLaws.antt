-- The bits of a NaN, and lists of reals compared one by one.
use mathlib.Core.Bool.{Bool, true, false, ◌&&◌}
use mathlib.Core.List.{List, [], ◌∷◌}
use mathlib.Core.Path.{◌≡◌, refl, ap}
use Prim.Native.Nat.{ℕ, ◌+◌, ◌≤◌, ◌<◌}
use native.Mathlib.Omega.{arith}
use borrow.Author.Tests.{eq-eqb, ne_eqb}
use lib.Dec.{eqb}
use lib.Ieee.{Float, nan, inf, fin, binary64, is_nan, to_bits}
use lib.ListN.{length, drop, get_or}
use Rattle.laws.proofs.CompareLaws.{ByElement, lengths_differ, compared_end, compared_stop, compared_step}
use Rattle.std.specs.List.{list_all, zip}
use Rattle.bits.specs.Bits.{same_reals}

-- the bits of a NaN
pub nan_bits : (x : Float) → is_nan x ≡ true → 9221120237041090560 ≡ to_bits binary64 x
unfolding is_nan to_bits
nan_bits nan e = refl
nan_bits (inf s) e = cc
nan_bits (fin s m p) e = cc

pub reals_same : (xs : List Float) → same_reals xs xs ≡ true
unfolding same_reals
reals_same [] = refl
reals_same (x ∷ xs) = rw (eq-eqb (to_bits binary64 x) (to_bits binary64 x) refl) (reals_same xs)

by_bits : ByElement (λ x y. eqb (to_bits binary64 x) (to_bits binary64 y)) same_reals
unfolding same_reals
by_bits = record { neither = refl; second = λ y ys. refl; first = λ x xs. refl; both = λ x xs y ys. refl }

pub reals_length : (a b : List Float) → (length a ≡ length b → ⊥) → same_reals a b ≡ false
reals_length = lengths_differ by_bits

module _ (a b : List Float) (h : length a ≡ length b) (i : ℕ) where
  pub reals_end : length a ≤ i → same_reals (drop i a) (drop i b) ≡ true
  reals_end = compared_end by_bits a b h i

  pub reals_stop : i < length a → (to_bits binary64 (get_or a i nan) ≡ to_bits binary64 (get_or b i nan) → ⊥) → same_reals (drop i a) (drop i b) ≡ false
  reals_stop l e = compared_stop by_bits a b h i nan l (ne_eqb (to_bits binary64 (get_or a i nan)) (to_bits binary64 (get_or b i nan)) e)

  pub reals_step : i < length a → to_bits binary64 (get_or a i nan) ≡ to_bits binary64 (get_or b i nan) → same_reals (drop (i + 1) a) (drop (i + 1) b) ≡ same_reals (drop i a) (drop i b)
  reals_step l e = compared_step by_bits a b h i nan l (eq-eqb (to_bits binary64 (get_or a i nan)) (to_bits binary64 (get_or b i nan)) e)

-- lists of one length, their reals side by side
pub all_bits : (a b : List Float) → length a ≡ length b → list_all (λ (p : Float × Float). eqb (to_bits binary64 p.0) (to_bits binary64 p.1)) (zip a b) ≡ same_reals a b
unfolding same_reals
all_bits [] [] h = refl
all_bits [] (y ∷ b) h = absurd (omega arith)
all_bits (x ∷ a) [] h = absurd (omega arith)
all_bits (x ∷ a) (y ∷ b) h = ap (λ (t : Bool). eqb (to_bits binary64 x) (to_bits binary64 y) && t) (all_bits a b (omega arith))
