-- Two words compared byte by byte.
use mathlib.Core.Bool.{Bool, true, false, ◌&&◌}
use mathlib.Core.List.{[], ◌∷◌}
use mathlib.Core.Path.{◌≡◌, refl, ap, sym, ◌∙◌}
use Prim.Native.Nat.{ℕ, ◌+◌, ◌-◌, ◌≤◌, ◌<◌}
use borrow.Author.Tests.{eq-eqb, ne_eqb}
use lib.Dec.{eqb}
use lib.ListN.{length, drop, get_or}
use Rattle.std.proofs.Common.{Option, Some, None}
use Rattle.std.specs.Borrow.{Bor}
use Rattle.std.specs.Cmp.Lexicographic.{pointwise}
use Rattle.std.specs.Option.{option_copied, option_eq}
use Rattle.std.specs.Prelude.{slice_get}
use Rattle.laws.proofs.BytesLaws.{same_eq}
use Rattle.laws.proofs.CompareLaws.{ByElement, lengths_differ, compared_end, compared_stop, compared_step}
use Rattle.laws.specs.Bytes.{Bytes, same}

by_byte : ByElement eqb same
unfolding same
by_byte = record { neither = refl; second = λ y ys. refl; first = λ x xs. refl; both = λ x xs y ys. refl }

pub same_length : (a b : Bytes) → (length a ≡ length b → ⊥) → same a b ≡ false
same_length = lengths_differ by_byte

module _ (a b : Bytes) (h : length a ≡ length b) (i : ℕ) where
  pub same_end : length a ≤ i → same (drop i a) (drop i b) ≡ true
  same_end = compared_end by_byte a b h i

  pub same_stop : i < length a → (get_or a i 0 ≡ get_or b i 0 → ⊥) → same (drop i a) (drop i b) ≡ false
  same_stop l e = compared_stop by_byte a b h i 0 l (ne_eqb (get_or a i 0) (get_or b i 0) e)

  pub same_step : i < length a → get_or a i 0 ≡ get_or b i 0 → same (drop (i + 1) a) (drop (i + 1) b) ≡ same (drop i a) (drop i b)
  same_step l e = compared_step by_byte a b h i 0 l (eq-eqb (get_or a i 0) (get_or b i 0) e)

-- `==` of two slices says the same
pub same_is : (a b : Bytes) → pointwise eqb a b ≡ same a b
unfolding same
same_is [] [] = refl
same_is [] (y ∷ b) = refl
same_is (x ∷ a) [] = refl
same_is (x ∷ a) (y ∷ b) = ap (λ (t : Bool). eqb x y && t) (same_is a b)

-- ---- the last bytes, as `last` gives them

abbrev alike : Option (Bor ℕ) → Option (Bor ℕ) → Bool
alike = option_eq (λ x y. eqb x.now y.now)

alike_refl : (p q : Option (Bor ℕ)) → option_copied p ≡ option_copied q → alike p q ≡ true
alike_refl None None e = refl
alike_refl None (Some y) e = cc
alike_refl (Some x) None e = cc
alike_refl (Some x) (Some y) e = let h : x.now ≡ y.now = cc in eq-eqb x.now y.now h

-- where they differ, the words do
pub last_differs : (a b : Bytes) (p q : Option (Bor ℕ)) (r : Bool) → option_copied p ≡ slice_get a (length a - 1) → option_copied q ≡ slice_get b (length b - 1) → r ≡ alike p q → r ≡ false → false ≡ same a b
last_differs a b p q r f g e d = go (same a b) refl
  where
    go : (c : Bool) → same a b ≡ c → false ≡ c
    go true h = sym d ∙ e ∙ alike_refl p q (f ∙ ap (λ (w : Bytes). slice_get w (length w - 1)) (same_eq a b h) ∙ sym g)
    go false h = refl
