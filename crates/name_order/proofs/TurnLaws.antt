-- Merging, entry by entry.
use mathlib.Core.Bool.{Bool, true, false, false≢true}
use mathlib.Core.List.{List, [], ◌∷◌, ◌++◌, append-nil, append_assoc}
use mathlib.Core.Path.{◌≡◌, refl, ap, sym, ◌∙◌}
use Prim.Native.Nat.{ℕ, suc, ◌+◌, ◌<◌, ◌≤◌}
use native.Mathlib.Nat.{add-zero}
use native.Mathlib.Omega.{arith}
use lib.ListN.{length, get_or, set, take, drop, length-set, length-drop, drop_of_length-le}
use lib.Seq.{drop-cons, drop-drop, get_or-drop, take_all, take-suc-set}
use Rattle.name_order.specs.Merge.{merge, right_first}

-- ---- merging

module _ (less : ℕ → ℕ → Bool) where
  pub right_none : (xs r : List ℕ) (j : ℕ) → length r ≤ j → false ≡ right_first less xs (drop j r)
  right_none xs r j h = rw (drop_of_length-le r {i = j} h) (go xs)
    where
      go : (xs : List ℕ) → false ≡ right_first less xs []
      go [] = refl
      go (x ∷ xs) = refl

  pub left_none : (l r : List ℕ) (i j : ℕ) → length l ≤ i → j < length r → true ≡ right_first less (drop i l) (drop j r)
  left_none l r i j h k = rw (drop_of_length-le l {i = i} h, drop-cons r j 0 k)

  pub both_there : (l r : List ℕ) (i j : ℕ) → i < length l → j < length r → less (get_or r j 0) (get_or l i 0) ≡ right_first less (drop i l) (drop j r)
  both_there l r i j h k = rw (drop-cons l i 0 h, drop-cons r j 0 k)

  merge_nil : (xs : List ℕ) → merge less xs [] ≡ xs
  unfolding merge
  merge_nil [] = refl
  merge_nil (x ∷ xs) = refl

  right_taken : (xs ys : List ℕ) → right_first less xs ys ≡ true → (0 < length ys) × (merge less xs ys ≡ get_or ys 0 0 ∷ merge less xs (drop 1 ys))
  unfolding merge
  right_taken [] [] e = absurd (false≢true e)
  right_taken (x ∷ xs) [] e = absurd (false≢true e)
  right_taken [] (y ∷ ys) e = (omega arith, refl)
  right_taken (x ∷ xs) (y ∷ ys) e = (omega arith, rw e)

  left_taken : (xs ys : List ℕ) → right_first less xs ys ≡ false → 0 < length xs + length ys → (0 < length xs) × (merge less xs ys ≡ get_or xs 0 0 ∷ merge less (drop 1 xs) ys)
  unfolding merge
  left_taken [] [] e h = absurd (omega arith)
  left_taken [] (y ∷ ys) e h = absurd (false≢true (sym e))
  left_taken (x ∷ xs) [] e h = (omega arith, ap {B = List ℕ} (λ (zs : List ℕ). x ∷ zs) (sym (merge_nil xs)))
  left_taken (x ∷ xs) (y ∷ ys) e h = (omega arith, rw e)

  -- i entries of the left run and j of the right one are merged
  pub record Merging (l r out : List ℕ) (i j : ℕ) : Type 0 where
    pub left : i ≤ length l
    pub right : j ≤ length r
    pub size : length out ≡ length l + length r
    pub done : take (i + j) out ++ merge less (drop i l) (drop j r) ≡ merge less l r

  pub merging_none : (l r out : List ℕ) → length out ≡ length l + length r → Merging l r out 0 0
  merging_none l r out e = record { left = omega arith; right = omega arith; size = e; done = refl }

  module _ (l r out : List ℕ) (i j : ℕ) (m : Merging l r out i j) where
    first : (xs : List ℕ) (k : ℕ) → get_or (drop k xs) 0 0 ≡ get_or xs k 0
    first xs k = get_or-drop k xs 0 0 ∙ ap (λ (n : ℕ). get_or xs n 0) (add-zero k)

    -- an entry more of what is merged
    put : (v at : ℕ) (rest : List ℕ) → at ≡ suc (i + j) → i + j < length out → merge less (drop i l) (drop j r) ≡ v ∷ rest → take at (set out (i + j) v) ++ rest ≡ merge less l r
    put v at rest q h e = rw (q, take-suc-set out (i + j) v h) (append_assoc (take (i + j) out) (v ∷ []) rest ∙ ap {B = List ℕ} (λ (zs : List ℕ). take (i + j) out ++ zs) (sym e) ∙ m.done)

    pub right_there : right_first less (drop i l) (drop j r) ≡ true → j < length r
    right_there e = omega (arith, (right_taken (drop i l) (drop j r) e).0, length-drop j r)

    pub merging_right : right_first less (drop i l) (drop j r) ≡ true → Merging l r (set out (i + j) (get_or r j 0)) i (j + 1)
    merging_right e =
        let t = (right_taken (drop i l) (drop j r) e).1 in
        let h : j < length r = right_there e in
        let q : i + (j + 1) ≡ suc (i + j) = omega arith in
        record {
          left = m.left;
          right = omega arith;
          size = length-set out (i + j) (get_or r j 0) ∙ m.size;
          done = put (get_or r j 0) (i + (j + 1)) (merge less (drop i l) (drop (j + 1) r)) q (omega (arith, m.left, m.size)) (t ∙ λ k. first r j k ∷ merge less (drop i l) (drop-drop 1 j r k));
        }

    pub left_there : right_first less (drop i l) (drop j r) ≡ false → i + j < length out → i < length l
    left_there e h = omega (arith, (left_taken (drop i l) (drop j r) e (omega (arith, m.left, m.right, m.size, length-drop i l, length-drop j r))).0, length-drop i l)

    pub merging_left : right_first less (drop i l) (drop j r) ≡ false → i + j < length out → Merging l r (set out (i + j) (get_or l i 0)) (i + 1) j
    merging_left e h =
        let t = (left_taken (drop i l) (drop j r) e (omega (arith, m.left, m.right, m.size, length-drop i l, length-drop j r))).1 in
        let k : i < length l = left_there e h in
        let q : i + 1 + j ≡ suc (i + j) = omega arith in
        record {
          left = omega arith;
          right = m.right;
          size = length-set out (i + j) (get_or l i 0) ∙ m.size;
          done = put (get_or l i 0) (i + 1 + j) (merge less (drop (i + 1) l) (drop j r)) q h (t ∙ λ k. first l i k ∷ merge less (drop-drop 1 i l k) (drop j r));
        }

    pub merging_all : length out ≤ i + j → out ≡ merge less l r
    unfolding merge
    merging_all h =
        let p : drop i l ≡ [] = drop_of_length-le l {i = i} (omega (arith, m.left, m.right, m.size)) in
        let q : drop j r ≡ [] = drop_of_length-le r {i = j} (omega (arith, m.left, m.right, m.size)) in
        sym (append-nil out) ∙ (λ k. sym (take_all (i + j) out h) k ++ merge less (sym p k) (sym q k)) ∙ m.done
