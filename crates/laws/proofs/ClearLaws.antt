-- A list overwritten by one value, entry by entry.
use mathlib.Core.List.{List, [], ◌∷◌, ◌++◌, append-nil}
use mathlib.Core.Path.{◌≡◌, refl, ap, sym, ◌∙◌}
use Prim.Native.Nat.{ℕ, zero, suc, ◌+◌, ◌<◌}
use native.Mathlib.Numerals.{add-one}
use native.Mathlib.Omega.{arith}
use lib.ListN.{length, length-replicate, get_or, set, replicate, drop, drop_of_length-le}
use lib.Seq.{drop-cons, set_at, append_snoc}

-- the first i entries overwritten by z
unfoldable pub cleared : {A : Type 0} → A → List A → ℕ → List A
cleared z xs i = replicate i z ++ drop i xs

module _ {A : Type 0} (z : A) (xs : List A) where
  pub cleared_none : xs ≡ cleared z xs 0
  unfolding cleared
  cleared_none = refl

  pub cleared_more : (i : ℕ) → i < length xs → set (cleared z xs i) i z ≡ cleared z xs (i + 1)
  unfolding cleared
  cleared_more i h = ap {B = List A} (λ (y : List A). set (replicate i z ++ y) i z) (drop-cons xs i z h) ∙ set_at (replicate i z) (get_or xs i z) (drop (suc i) xs) z i (length-replicate i z) ∙ sym (append_snoc (replicate i z) z (drop (suc i) xs)) ∙ (λ k. snoc i k ++ drop (sym (add-one i) k) xs)
    where
      snoc : (n : ℕ) → replicate n z ++ z ∷ [] ≡ replicate (n + 1) z
      snoc zero = refl
      snoc (suc n) = let e : suc (n + 1) ≡ suc n + 1 = omega arith in ap {B = List A} (λ (y : List A). z ∷ y) (snoc n) ∙ ap (λ (k : ℕ). replicate k z) e

  pub cleared_all : (i : ℕ) → i ≡ length xs → cleared z xs i ≡ replicate (length xs) z
  unfolding cleared
  cleared_all i e = (λ k. replicate (e k) z ++ drop (e k) xs) ∙ ap {B = List A} (λ (y : List A). replicate (length xs) z ++ y) (drop_of_length-le xs {i = length xs} (omega arith)) ∙ append-nil (replicate (length xs) z)
