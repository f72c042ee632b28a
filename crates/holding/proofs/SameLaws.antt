-- Where a shortest chain goes first: to an entry that is bound, and to the same by two relations that agree.
use mathlib.Core.Bool.{Bool, true, false, not, ◌&&◌, ◌||◌, cond}
use mathlib.Core.List.{List, [], ◌∷◌}
use mathlib.Core.Path.{◌≡◌, refl, ap, ◌∙◌}
use Prim.Native.Nat.{ℕ, zero, suc, ◌+◌, ◌-◌, ◌≤◌, ◌<◌}
use native.Mathlib.Omega.{arith}
use lib.Dec.{eqb, ltb}
use lib.ListN.{get_or, length}
use Rattle.holding.specs.Shortest.{chain_length, first_link, first_on, lengths, nearest, one_more}
use Rattle.laws.proofs.BoolLaws.{and_right}

lengths_length : (f : ℕ → ℕ → Bool) (m c : ℕ) → length (lengths f m c) ≡ suc c
unfolding lengths
lengths_length f m zero = refl
lengths_length f m (suc c) = ap suc (lengths_length f m c)

-- ---- one relation

module _ (f : ℕ → ℕ → Bool) where
  -- entry k is one of so many from j on, and n is bound to it
  abbrev Tied : (n j size k : ℕ) → Type 0
  Tied n j size k = (j ≤ k) × (k < j + size) × (f n k ≡ true)

  on_tied : (n long j : ℕ) (ds : List ℕ) → 0 < first_on f n long j ds → Tied n j (length ds) (first_on f n long j ds)
  unfolding first_on
  on_tied n long j [] h = absurd (omega arith)
  on_tied n long j (d ∷ ds) h = go (eqb (suc d) long && f n j) refl (first_on f n long (suc j) ds) h (on_tied n long (suc j) ds)
    where
      go : (b : Bool) → (eqb (suc d) long && f n j) ≡ b → (k : ℕ) → 0 < cond b j k → (0 < k → Tied n (suc j) (length ds) k) → Tied n j (suc (length ds)) (cond b j k)
      go true e k h ih = (omega arith, omega arith, and_right (eqb (suc d) long) (f n j) e)
      go false e k h ih = let x = ih h in (omega (arith, x.0), omega (arith, x.1), x.2)

  -- the first entry of a chain stands behind n, at most at m, and n is bound to it
  pub first_link_tied : (n m : ℕ) → n < m → 0 < first_link f n m → (n < first_link f n m) × (first_link f n m ≤ m) × (f n (first_link f n m) ≡ true)
  unfolding first_link
  first_link_tied n m l h =
      let x = on_tied n (chain_length f n m) (suc n) (lengths f m (m - suc n)) h in
      (omega (arith, x.0), omega (arith, x.1, lengths_length f m (m - suc n)), x.2)

-- ---- two relations

module _ (f g : ℕ → ℕ → Bool) where
  nearest_same : (k j : ℕ) (ds : List ℕ) (best : ℕ) → ((i : ℕ) → j ≤ i → i < j + length ds → f k i ≡ g k i) → nearest f k j ds best ≡ nearest g k j ds best
  unfolding nearest
  nearest_same k j [] best h = refl
  nearest_same k j (d ∷ ds) best h =
      (λ i. nearest f k (suc j) ds (cond (not (eqb d 0) && (eqb best 0 || ltb d best) && h j (omega arith) (omega arith) i) d best))
      ∙ nearest_same k (suc j) ds (cond (not (eqb d 0) && (eqb best 0 || ltb d best) && g k j) d best) (λ i a b. h i (omega arith) (omega arith))

  more_same : (d : ℕ) → one_more f d ≡ one_more g d
  more_same zero = refl
  more_same (suc d) = refl

  lengths_same : (m c : ℕ) → c ≤ m → ((i j : ℕ) → m - c ≤ i → i < j → j ≤ m → f i j ≡ g i j) → lengths f m c ≡ lengths g m c
  unfolding lengths
  lengths_same m zero l h = refl
  lengths_same m (suc c) l h =
      let size = lengths_length f m c in
      let here = nearest_same (m - suc c) (m - c) (lengths f m c) 0 (λ j a b. h (m - suc c) j (omega arith) (omega arith) (omega arith)) in
      let behind = lengths_same m c (omega arith) (λ i j a b d. h i j (omega arith) b d) in
      (λ i. one_more f (here i) ∷ lengths f m c) ∙ (λ i. more_same (nearest g (m - suc c) (m - c) (behind i) 0) i ∷ behind i)

  on_same : (n long j : ℕ) (ds : List ℕ) → ((i : ℕ) → j ≤ i → i < j + length ds → f n i ≡ g n i) → first_on f n long j ds ≡ first_on g n long j ds
  unfolding first_on
  on_same n long j [] h = refl
  on_same n long j (d ∷ ds) h = λ i. cond (eqb (suc d) long && h j (omega arith) (omega arith) i) j (on_same n long (suc j) ds (λ k a b. h k (omega arith) (omega arith)) i)

  module _ (n m : ℕ) (l : n < m) (agree : (i j : ℕ) → n ≤ i → i < j → j ≤ m → f i j ≡ g i j) where
    length_same : chain_length f n m ≡ chain_length g n m
    unfolding chain_length
    length_same = ap (λ (ds : List ℕ). get_or ds 0 0) (lengths_same m (m - n) (omega arith) (λ i j a b d. agree i j (omega arith) b d))

    pub first_link_same : first_link f n m ≡ first_link g n m
    unfolding first_link
    first_link_same =
        let size = lengths_length f m (m - suc n) in
        let behind = lengths_same m (m - suc n) (omega arith) (λ i j a b d. agree i j (omega arith) b d) in
        on_same n (chain_length f n m) (suc n) (lengths f m (m - suc n)) (λ j a b. agree n j (omega arith) (omega arith) (omega arith))
        ∙ (λ i. first_on g n (length_same i) (suc n) (behind i))
