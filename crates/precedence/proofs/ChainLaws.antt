-- Shortest chains to the last entry, from a table that has a place for each number.
use mathlib.Core.Bool.{Bool, true, false, not, cond, ◌&&◌, ◌||◌}
use mathlib.Core.List.{List, [], ◌∷◌}
use mathlib.Core.Path.{◌≡◌, refl, ap, sym, ◌∙◌, subst}
use Prim.Native.Nat.{ℕ, zero, suc, ◌+◌, ◌-◌, ◌≤◌, ◌<◌}
use native.Mathlib.Numerals.{add-one}
use native.Mathlib.Omega.{arith}
use borrow.Author.Tests.{eq-eqb, ne_eqb}
use lib.Dec.{eqb, ltb}
use lib.ListN.{drop, drop_of_length-le, get_or, length, length-set, set, take}
use lib.Seq.{drop-cons, drop-set-lt, get_or-set_same, length-take-le}
use Rattle.holding.specs.Shortest.{chain_length, first_link, first_on, lengths, nearest, one_more}
use Rattle.laws.proofs.BoolLaws.{cond_elim}
use Rattle.precedence.specs.Code.{Filled, last}

-- what stands from place j on
rest : (L : List ℕ) (j : ℕ) → j < length L → drop j L ≡ get_or L j 0 ∷ drop (j + 1) L
rest L j l = drop-cons L j 0 l ∙ ap (λ (i : ℕ). get_or L j 0 ∷ drop i L) (sym (add-one j))

-- a place of a table's front
pub in_front : (xs : List ℕ) (n i : ℕ) → n ≤ length xs → i < n → i < length (take n xs)
in_front xs n i h l = omega (arith, length-take-le n xs h)

module _ (tied : ℕ → ℕ → Bool) where
  -- ---- the least of the chains behind

  module _ (L : List ℕ) (k j best : ℕ) where
    pub nearest_all : length L ≤ j → best ≡ nearest tied k j (drop j L) best
    unfolding nearest
    nearest_all l = sym (ap (λ (ds : List ℕ). nearest tied k j ds best) (drop_of_length-le L {i = j} l))

    module _ (l : j < length L) where
      nearest_turn : (b : Bool) → (not (eqb (get_or L j 0) 0) && (eqb best 0 || ltb (get_or L j 0) best) && tied k j) ≡ b → nearest tied k (j + 1) (drop (j + 1) L) (cond b (get_or L j 0) best) ≡ nearest tied k j (drop j L) best
      unfolding nearest
      nearest_turn b e =
          (λ i. nearest tied k (add-one j i) (drop (j + 1) L) (cond (sym e i) (get_or L j 0) best))
          ∙ ap (λ (ds : List ℕ). nearest tied k j ds best) (sym (rest L j l))

      pub nearest_past : (not (eqb (get_or L j 0) 0) && (eqb best 0 || ltb (get_or L j 0) best)) ≡ false → nearest tied k (j + 1) (drop (j + 1) L) best ≡ nearest tied k j (drop j L) best
      nearest_past e = nearest_turn false (ap (λ (b : Bool). b && tied k j) e)

      pub nearest_more : (b : Bool) → (not (eqb (get_or L j 0) 0) && (eqb best 0 || ltb (get_or L j 0) best)) ≡ true → tied k j ≡ b → nearest tied k (j + 1) (drop (j + 1) L) (cond b (get_or L j 0) best) ≡ nearest tied k j (drop j L) best
      nearest_more b e f = nearest_turn b (λ i. e i && f i)

  -- ---- the table of chains, from its end

  -- it is no longer than the entries are many
  nearest_low : (k j most best : ℕ) (ds : List ℕ) → best ≤ most → ((i : ℕ) → get_or ds i 0 ≤ most) → nearest tied k j ds best ≤ most
  unfolding nearest
  nearest_low k j most best [] h f = h
  nearest_low k j most best (d ∷ ds) h f = nearest_low k (suc j) most _ ds (cond_elim (λ (x : ℕ). x ≤ most) (not (eqb d 0) && (eqb best 0 || ltb d best) && tied k j) (f 0) h) (λ i. f (suc i))

  more_low : (d c : ℕ) → d ≤ c → one_more tied d ≤ c + 1
  more_low zero c h = omega arith
  more_low (suc d) c h = omega arith

  more_one : (d : ℕ) → (d ≡ 0 → ⊥) → one_more tied d ≡ d + 1
  more_one zero h = absurd (h refl)
  more_one (suc d) h = omega arith

  lengths_low : (m c i : ℕ) → get_or (lengths tied m c) i 0 ≤ c + 1
  unfolding lengths
  lengths_low m zero zero = omega arith
  lengths_low m zero (suc i) = omega arith
  lengths_low m (suc c) zero = more_low _ (suc c) (nearest_low (m - suc c) (m - c) (suc c) 0 (lengths tied m c) (omega arith) (λ i. omega (arith, lengths_low m c i)))
  lengths_low m (suc c) (suc i) = omega (arith, lengths_low m c i)

  lengths_on : (m j : ℕ) → j < m → lengths tied m (m - j) ≡ one_more tied (nearest tied j (j + 1) (lengths tied m (m - (j + 1))) 0) ∷ lengths tied m (m - (j + 1))
  unfolding lengths
  lengths_on m j l =
      let c = m - (j + 1) in
      let e : m - j ≡ suc (m - (j + 1)) = omega arith in
      let f : m - suc (m - (j + 1)) ≡ j = omega arith in
      let g : m - (m - (j + 1)) ≡ j + 1 = omega arith in
      ap (lengths tied m) e ∙ (λ i. one_more tied (nearest tied (f i) (g i) (lengths tied m c) 0) ∷ lengths tied m c)

  stored : (L : List ℕ) (j v : ℕ) → j < length L → drop j (set L j v) ≡ v ∷ drop (j + 1) L
  stored L j v l = drop-cons (set L j v) j 0 (simp length-set l) ∙ (λ i. get_or-set_same L j v 0 l i ∷ (drop-set-lt (suc j) L j v (omega arith) ∙ ap (λ (n : ℕ). drop n L) (sym (add-one j))) i)

  pub filled_last : (L : List ℕ) → 0 < length L → Filled tied (set L (last L) 1) (last L)
  unfolding lengths
  filled_last L h =
      let z : 0 ≡ last (set L (last L) 1) - last L = simp length-set (omega arith) in
      record { within = simp length-set (omega arith); chains = stored L (last L) 1 (omega arith) ∙ (λ i. 1 ∷ drop_of_length-le L {i = last L + 1} (omega arith) i) ∙ ap (lengths tied (last (set L (last L) 1))) z }

  module _ (L : List ℕ) (k j d : ℕ) (h : Filled tied L k) (e : j + 1 ≡ k) (f : d ≡ nearest tied j (j + 1) (drop (j + 1) L) 0) where
    behind : drop (j + 1) L ≡ lengths tied (last L) (last L - (j + 1))
    behind = subst (λ (i : ℕ). drop i L ≡ lengths tied (last L) (last L - i)) (sym e) h.chains

    near : d ≡ nearest tied j (j + 1) (lengths tied (last L) (last L - (j + 1))) 0
    near = f ∙ ap (λ (ds : List ℕ). nearest tied j (j + 1) ds 0) behind

    pub behind_low : d < length L
    behind_low =
        let c = last L - (j + 1) in
        omega (arith, h.within, near, nearest_low j (j + 1) (c + 1) 0 (lengths tied (last L) c) (omega arith) (lengths_low (last L) c))

    filled_more : (v : ℕ) → one_more tied d ≡ v → Filled tied (set L j v) j
    filled_more v q = record { within = simp length-set l; chains = stored L j v l ∙ (λ i. (sym q ∙ ap (one_more tied) near) i ∷ behind i) ∙ sym (lengths_on (last L) j (omega (arith, h.within))) ∙ (λ i. let n = sym (length-set L j v) i in lengths tied (n - 1) (n - 1 - j)) }
      where
        l : j < length L
        l = omega (arith, h.within)

    pub filled_none : d ≡ 0 → Filled tied (set L j 0) j
    filled_none z = filled_more 0 (ap (one_more tied) z)

    pub filled_one : (d ≡ 0 → ⊥) → Filled tied (set L j (d + 1)) j
    filled_one z = filled_more (d + 1) (more_one d z)

  pub filled_all : (L : List ℕ) (n k : ℕ) → Filled tied L k → n ≤ k → k ≤ n → Filled tied L n
  filled_all L n k h l m = subst (Filled tied L) (let q : k ≡ n = omega arith in q) h

  -- ---- the first link

  pub first_none : (n long j : ℕ) (ds : List ℕ) → long ≡ 0 → 0 ≡ first_on tied n long j ds
  unfolding first_on
  first_none n long j [] z = refl
  first_none n long j (d ∷ ds) z = rw (ne_eqb (suc d) long (λ e. omega arith)) (first_none n long (suc j) ds z)

  module _ (L : List ℕ) (n long j : ℕ) where
    pub first_all : length L ≤ j → 0 ≡ first_on tied n long j (drop j L)
    unfolding first_on
    first_all l = sym (ap (first_on tied n long j) (drop_of_length-le L {i = j} l))

    module _ (l : j < length L) where
      first_turn : (b : Bool) → (eqb (suc (get_or L j 0)) long && tied n j) ≡ b → cond b j (first_on tied n long (j + 1) (drop (j + 1) L)) ≡ first_on tied n long j (drop j L)
      unfolding first_on
      first_turn b e =
          (λ i. cond (sym e i) j (first_on tied n long (add-one j i) (drop (j + 1) L)))
          ∙ ap (first_on tied n long j) (sym (rest L j l))

      pub first_past : (get_or L j 0 ≡ long - 1 → ⊥) → first_on tied n long (j + 1) (drop (j + 1) L) ≡ first_on tied n long j (drop j L)
      first_past h = first_turn false (ap (λ (b : Bool). b && tied n j) (ne_eqb (suc (get_or L j 0)) long (λ e. h (omega arith))))

      pub first_more : (long ≡ 0 → ⊥) → get_or L j 0 ≡ long - 1 → (b : Bool) → tied n j ≡ b → cond b j (first_on tied n long (j + 1) (drop (j + 1) L)) ≡ first_on tied n long j (drop j L)
      first_more z h b e = first_turn b (λ i. eq-eqb (suc (get_or L j 0)) long (omega arith) i && e i)

  -- from a whole table, read back
  pub first_link_is : (L M : List ℕ) (n m k : ℕ) → Filled tied L n → length L ≡ m + 1 → M ≡ L → n < m → k ≡ first_on tied n (get_or M n 0) (n + 1) (drop (n + 1) M) → k ≡ first_link tied n m
  unfolding first_link chain_length
  first_link_is L M n m k h e f l g = g ∙ (λ i. first_on tied n (head i) (add-one n i) (tail i))
    where
      whole : get_or L n 0 ∷ drop (suc n) L ≡ lengths tied m (m - n)
      whole = sym (drop-cons L n 0 h.within) ∙ h.chains ∙ ap (λ (j : ℕ). lengths tied j (j - n)) (let q : last L ≡ m = omega arith in q)

      head : get_or M n 0 ≡ get_or (lengths tied m (m - n)) 0 0
      head = ap (λ (ds : List ℕ). get_or ds n 0) f ∙ ap (λ (ds : List ℕ). get_or ds 0 0) whole

      tail : drop (n + 1) M ≡ lengths tied m (m - suc n)
      tail = (λ i. drop (add-one n i) (f i)) ∙ ap (drop 1) (whole ∙ lengths_on m n l) ∙ ap (λ (j : ℕ). lengths tied m (m - j)) (add-one n)
