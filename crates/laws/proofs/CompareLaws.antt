-- Lists compared element by element.
use mathlib.Core.Bool.{Bool, true, false, ◌&&◌, and-false}
use mathlib.Core.List.{List, [], ◌∷◌}
use mathlib.Core.Path.{◌≡◌, refl, ap, ◌∙◌}
use Prim.Native.Nat.{ℕ, suc, ◌+◌, ◌≤◌, ◌<◌}
use native.Mathlib.Numerals.{add-one}
use native.Mathlib.Omega.{arith}
use lib.ListN.{length, drop, get_or, drop_of_length-le}
use lib.Seq.{drop-cons}

-- a comparison of lists that goes by a test of their elements
pub record ByElement {A : Type 0} (alike : A → A → Bool) (same : List A → List A → Bool) : Type 0 where
  pub neither : same [] [] ≡ true
  pub second : (y : A) (ys : List A) → same [] (y ∷ ys) ≡ false
  pub first : (x : A) (xs : List A) → same (x ∷ xs) [] ≡ false
  pub both : (x : A) (xs : List A) (y : A) (ys : List A) → same (x ∷ xs) (y ∷ ys) ≡ (alike x y && same xs ys)

module _ {A : Type 0} {alike : A → A → Bool} {same : List A → List A → Bool} (c : ByElement alike same) where
  -- lists of different lengths differ
  pub lengths_differ : (a b : List A) → (length a ≡ length b → ⊥) → same a b ≡ false
  lengths_differ [] [] h = absurd (h refl)
  lengths_differ [] (y ∷ b) h = c.second y b
  lengths_differ (x ∷ a) [] h = c.first x a
  lengths_differ (x ∷ a) (y ∷ b) h = c.both x a y b ∙ ap (λ (t : Bool). alike x y && t) (lengths_differ a b (λ e. h (ap suc e))) ∙ and-false (alike x y)

  -- lists of one length, from place i on: past the end, at an element that differs, and past one that agrees
  module _ (a b : List A) (h : length a ≡ length b) (i : ℕ) where
    pub compared_end : length a ≤ i → same (drop i a) (drop i b) ≡ true
    compared_end l = let m : length b ≤ i = omega arith in rw (drop_of_length-le a l, drop_of_length-le b m) c.neither

    module _ (d : A) (l : i < length a) where
      one_more : same (drop i a) (drop i b) ≡ (alike (get_or a i d) (get_or b i d) && same (drop (suc i) a) (drop (suc i) b))
      one_more =
          let m : i < length b = omega arith in
          (λ k. same (drop-cons a i d l k) (drop-cons b i d m k)) ∙ c.both (get_or a i d) (drop (suc i) a) (get_or b i d) (drop (suc i) b)

      pub compared_stop : alike (get_or a i d) (get_or b i d) ≡ false → same (drop i a) (drop i b) ≡ false
      compared_stop e = one_more ∙ rw e

      pub compared_step : alike (get_or a i d) (get_or b i d) ≡ true → same (drop (i + 1) a) (drop (i + 1) b) ≡ same (drop i a) (drop i b)
      compared_step e = rw (add-one, one_more, e)
