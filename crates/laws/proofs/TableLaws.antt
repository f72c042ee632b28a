-- A table's test gives its rule at each entry.
use mathlib.Core.Bool.{Bool}
use mathlib.Core.List.{List, [], ◌∷◌, ◌++◌, map}
use mathlib.Core.Path.{◌≡◌, refl, ◌∙◌, ap, subst, sym}
use Prim.Native.Nat.{ℕ, zero, suc, ◌+◌, ◌<◌}
use native.Mathlib.Nat.{add-zero, zero-add, add-suc, suc-add, le_of_suc-le-suc, not-suc-le-zero}
use lib.Dec.{T, eqb, eqb→eq}
use lib.Ieee.Fits.{and_l, and_r}
use lib.ListN.{length, length-map, get_or, replicate, get_or-map}
use Rattle.laws.specs.Table.{ruled}

module _ {A : Type 0} (test : ℕ → A → Bool) (default : A) where
  from : (xs : List A) (i : ℕ) → T (ruled test i xs) → (k : ℕ) → k < length xs → T (test (i + k) (get_or xs k default))
  from [] i t k h = absurd (not-suc-le-zero h)
  from (x ∷ xs) i t zero h = subst (λ (m : ℕ). T (test m x)) (sym (add-zero i)) (and_l (test i x) (ruled test (suc i) xs) t)
  from (x ∷ xs) i t (suc k) h =
      subst (λ (m : ℕ). T (test m (get_or xs k default))) (suc-add i k ∙ sym (add-suc i k))
      (from xs (suc i) (and_r (test i x) (ruled test (suc i) xs) t) k (le_of_suc-le-suc h))

  pub entry : (xs : List A) → T (ruled test 0 xs) → (k : ℕ) → k < length xs → T (test k (get_or xs k default))
  entry xs t k h = subst (λ (m : ℕ). T (test m (get_or xs k default))) (zero-add k) (from xs 0 t k h)

-- a table of numbers that has at each index what f gives there
pub entry_is : (f : ℕ → ℕ) (xs : List ℕ) → T (ruled (λ k x. eqb x (f k)) 0 xs) → (k : ℕ) → k < length xs → get_or xs k 0 ≡ f k
entry_is f xs t k h = eqb→eq (get_or xs k 0) (f k) (entry (λ k x. eqb x (f k)) 0 xs t k h)

-- an entry of a table does not depend on the default
pub any_default : {A : Type 0} (xs : List A) (k : ℕ) (d e : A) → k < length xs → get_or xs k d ≡ get_or xs k e
any_default [] k d e h = absurd (not-suc-le-zero h)
any_default (x ∷ xs) zero d e h = refl
any_default (x ∷ xs) (suc k) d e h = any_default xs k d e (le_of_suc-le-suc h)

-- defaults behind a table are not seen
pub padded : {A : Type 0} (d : A) (xs : List A) (n k : ℕ) → get_or (xs ++ replicate n d) k d ≡ get_or xs k d
padded d [] zero k = refl
padded d [] (suc n) zero = refl
padded d [] (suc n) (suc k) = padded d [] n k
padded d (x ∷ xs) n zero = refl
padded d (x ∷ xs) n (suc k) = padded d xs n k

-- tables whose entries mean the same, one by one
pub entry_means : {A B C : Type 0} (f : A → C) (g : B → C) (xs : List A) (ys : List B) → map f xs ≡ map g ys → (k : ℕ) (a : A) (b : B) → k < length xs → f (get_or xs k a) ≡ g (get_or ys k b)
entry_means f g xs ys e k a b h =
    sym (get_or-map f xs k a)
    ∙ any_default (map f xs) k (f a) (g b) (subst (λ (n : ℕ). k < n) (sym (length-map xs f)) h)
    ∙ ap (λ zs. get_or zs k (g b)) e
    ∙ get_or-map g ys k b
