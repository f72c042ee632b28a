-- One number after the other is put into the order.
use mathlib.Core.Bool.{Bool, true, false, not, cond, ◌||◌}
use mathlib.Core.List.{List, [], ◌∷◌, ◌++◌, append_assoc, append-nil}
use mathlib.Core.Logic.{inl, inr}
use mathlib.Core.Path.{◌≡◌, refl, ap, sym, ◌∙◌, subst}
use Prim.Native.Nat.{ℕ, zero, suc, ◌+◌, ◌-◌, ◌<◌, ◌≤◌}
use native.Mathlib.Numerals.{add-one}
use native.Mathlib.Omega.{arith}
use borrow.Author.Tests.{eq-eqb, ne_eqb}
use lib.Dec.{eqb}
use lib.ListN.{length, drop, get_or, replicate, set, take, length-replicate, length-set, replicate-append-replicate}
use lib.Seq.{drop_at, length-take-le, take_all, take_at, take-suc-set}
use Rattle.laws.proofs.TableLaws.{padded}
use Rattle.scene.specs.Record.{filled}
use Rattle.grouping.proofs.ChoiceLaws.{set_cases}
use Rattle.grouping.proofs.OrderLaws.{Taken, next_taken, one_less, rising_lower, taken_in, up_length}
use Rattle.grouping.specs.Code.{Chose, Filling, Kept, Known, left, left_from, passed, placed}
use Rattle.grouping.specs.Grouped.{grouped, grouped_from, up_to, without}
use Rattle.grouping.specs.Keeps.{In, Rising}

-- ---- those that are left

module _ (p : ℕ → Bool) where
  left_rising : (a m : ℕ) → Rising a (left_from p a m)
  unfolding left_from
  left_rising a zero = tt
  left_rising a (suc m) = go (p (a + 1)) (left_rising (a + 1) m)
    where
      go : (b : Bool) → Rising (a + 1) (left_from p (a + 1) m) → Rising a (cond b (left_from p (a + 1) m) ((a + 1) ∷ left_from p (a + 1) m))
      go true r = rising_lower a (a + 1) (left_from p (a + 1) m) (omega arith) r
      go false r = (omega arith, r)

  left_within : (a m k : ℕ) → In k (left_from p a m) → k ≤ a + m
  unfolding left_from
  left_within a zero k i = absurd i
  left_within a (suc m) k i = go (p (a + 1)) (left_within (a + 1) m k) i
    where
      go : (b : Bool) → (In k (left_from p (a + 1) m) → k ≤ a + 1 + m) → In k (cond b (left_from p (a + 1) m) ((a + 1) ∷ left_from p (a + 1) m)) → k ≤ a + suc m
      go true f i = omega (arith, f i)
      go false f (inl e) = omega (arith, e)
      go false f (inr i) = omega (arith, f i)

  left_without : (c a m : ℕ) → without c (left_from p a m) ≡ left_from (λ j. eqb j c || p j) a m
  unfolding left_from without
  left_without c a zero = refl
  left_without c a (suc m) = go (p (a + 1)) (eqb (a + 1) c) refl (left_without c (a + 1) m)
    where
      new : List ℕ
      new = left_from (λ j. eqb j c || p j) (a + 1) m

      go : (x y : Bool) → eqb (a + 1) c ≡ y → without c (left_from p (a + 1) m) ≡ new → without c (cond x (left_from p (a + 1) m) ((a + 1) ∷ left_from p (a + 1) m)) ≡ cond (y || x) new ((a + 1) ∷ new)
      go true true e i = i
      go true false e i = i
      go false true e i = rw e i
      go false false e i = rw e (ap {B = List ℕ} (λ (l : List ℕ). (a + 1) ∷ l) i)

  module _ (f : (k : ℕ) → 0 < k → p k ≡ false) where
    left_last : (a m : ℕ) → left_from p a (suc m) ≡ left_from p a m ++ (a + suc m) ∷ []
    unfolding left_from
    left_last a zero = rw (f (a + 1) (omega arith))
    left_last a (suc m) = rw (f (a + 1) (omega arith)) (ap {B = List ℕ} (λ (l : List ℕ). (a + 1) ∷ l) (left_last (a + 1) m ∙ ap {B = List ℕ} (λ (k : ℕ). left_from p (a + 1) m ++ k ∷ []) (let e : a + 1 + suc m ≡ a + suc (suc m) = omega arith in e)))

    -- where none has its place, all are left
    left_all : (n : ℕ) → left_from p 0 n ≡ up_to n
    unfolding left_from up_to
    left_all zero = refl
    left_all (suc n) = left_last 0 n ∙ (λ i. left_all n i ++ (let e : 0 + suc n ≡ suc n = omega arith in e) i ∷ [])

-- ---- a number gets its place

module _ (S : List ℕ) (c : ℕ) (l : c < length S) where
  placed_more : (j : ℕ) → placed (set S c c) j ≡ (eqb j c || placed S j)
  unfolding placed
  placed_more = set_cases S c c l (λ j x. eqb x j ≡ (eqb j c || eqb (get_or S j 0) j)) (rw (eq-eqb c c refl)) (λ j q. rw (ne_eqb j c q))

  known_more : (held : ℕ → ℕ → Bool) → Known held S → Known held (set S c c)
  unfolding passed
  known_more held h = record { low = set_cases S c c l (λ j x. x ≤ j) (omega arith) (λ j q. h.low j); clear = clear }
    where
      or_more : (a b d : Bool) → (b || d) ≡ true → ((a || b) || d) ≡ true
      or_more true b d e = refl
      or_more false b d e = e

      clear : (i j : ℕ) → 0 < i → i ≤ get_or (set S c c) j 0 → get_or (set S c c) j 0 < j → passed held (placed (set S c c)) i j ≡ true
      clear i j z = set_cases S c c l (λ j x. i ≤ x → x < j → passed held (placed (set S c c)) i j ≡ true) (λ a b. absurd (omega arith)) (λ j q a b. ap (λ (t : Bool). t || not (held i j)) (placed_more i) ∙ or_more (eqb i c) (placed S i) (not (held i j)) (h.clear i j z a b)) j

  left_more : left (set S c c) ≡ without c (left S)
  left_more = (λ t. left_from (λ j. placed_more j t) 0 (length-set S c c t - 1)) ∙ sym (left_without (placed S) c 0 (length S - 1))

left_kept : (held : ℕ → ℕ → Bool) (S S' : List ℕ) → Kept held S S' → left S' ≡ left S
left_kept held S S' m = λ t. left_from (λ j. m.same j t) 0 (m.size t - 1)

-- ---- turns

module _ (held : ℕ → ℕ → Bool) (type : ℕ → ℕ) where
  pub filling_none : (S order : List ℕ) → S ≡ replicate (length order + 1) 0 → Filling held type S order 0 0
  unfolding grouped placed
  filling_none S order z = record { known = record { low = λ k. omega (arith, zero_at k); clear = λ i k z a. absurd (omega (arith, zero_at k)) }; size = size; within = omega arith; many = ap length all ∙ up_length (length order) ∙ (let e : length order ≡ length order - 0 = omega arith in e); done = λ t. grouped_from held type ((let e : length order - 0 ≡ length order = omega arith in e) t) 0 (all t) }
    where
      zero_at : (k : ℕ) → get_or S k 0 ≡ 0
      zero_at k = ap (λ (l : List ℕ). get_or l k 0) z ∙ padded 0 [] (length order + 1) k

      size : length S ≡ length order + 1
      size = ap length z ∙ length-replicate (length order + 1) 0

      all : left S ≡ up_to (length order)
      all = ap (left_from (placed S) 0) (let e : length S - 1 ≡ length order = omega (arith, size) in e) ∙ left_all (placed S) (λ k h. ne_eqb (get_or S k 0) k (λ e. omega (arith, zero_at k))) (length order)

  pub filling_all : (S order : List ℕ) (i last : ℕ) → Filling held type S order i last → length order ≤ i → order ≡ grouped held type (length order)
  unfolding grouped_from
  filling_all S order i last m h =
      sym (take_all i order h)
      ∙ sym (append-nil (take i order))
      ∙ ap (λ (n : ℕ). take i order ++ grouped_from held type n last (left S)) (let e : 0 ≡ length order - i = omega arith in e)
      ∙ m.done

  module _ (S order : List ℕ) (i last : ℕ) (m : Filling held type S order i last) (l : i < length order) (S' : List ℕ) (c : ℕ) (h : Chose held type last S S' c) where
    chosen_taken : Taken c (left S)
    chosen_taken = subst (λ (n : ℕ). Taken n (left S)) (sym h.answer) (next_taken held type last (left S) (left_rising (placed S) 0 (length S - 1)) (omega (arith, m.many)))

    -- the number that was chosen is in the table
    pub chosen_within : c < length S'
    chosen_within = omega (arith, m.size, h.kept.size, left_within (placed S) 0 (length S - 1) c (taken_in c (left S) chosen_taken))

    without_chosen : left (set S' c c) ≡ without c (left S)
    without_chosen = left_more S' c chosen_within ∙ ap (without c) (left_kept held S S' h.kept)

    pub filling_more : (t : ℕ) → t ≡ type c → Filling held type (set S' c c) (set order i c) (i + 1) t
    unfolding grouped_from
    filling_more t q = record { known = known_more S' c chosen_within held h.kept.known; size = simp length-set (h.kept.size ∙ m.size); within = simp length-set (omega arith); many = omega (arith, ap length without_chosen, one_less c (left S) chosen_taken, m.many, length-set order i c); done = ap (λ (t : ℕ). take (i + 1) (set order i c) ++ grouped_from held type (length (set order i c) - (i + 1)) t (left (set S' c c))) q ∙ done }
      where
        rest : ℕ
        rest = length order - (i + 1)

        step : c ∷ grouped_from held type rest (type c) (without c (left S)) ≡ grouped_from held type (length order - i) last (left S)
        step = (λ t. h.answer t ∷ grouped_from held type rest (type (h.answer t)) (without (h.answer t) (left S))) ∙ ap (λ (n : ℕ). grouped_from held type n last (left S)) (let e : suc (length order - (i + 1)) ≡ length order - i = omega arith in e)

        front : take (i + 1) (set order i c) ≡ take i order ++ c ∷ []
        front = ap (λ (n : ℕ). take n (set order i c)) (add-one i) ∙ take-suc-set order i c l

        done : take (i + 1) (set order i c) ++ grouped_from held type (length (set order i c) - (i + 1)) (type c) (left (set S' c c)) ≡ grouped held type (length (set order i c))
        done =
            (λ t. front t ++ grouped_from held type (length-set order i c t - (i + 1)) (type c) (without_chosen t))
            ∙ append_assoc (take i order) (c ∷ []) (grouped_from held type rest (type c) (without c (left S)))
            ∙ ap {B = List ℕ} (λ (l : List ℕ). take i order ++ l) step
            ∙ m.done
            ∙ ap (grouped held type) (sym (length-set order i c))

-- ---- the tables at the start and at the end

-- the first m of n zeros, and those behind them
zeros : (n m : ℕ) → m ≤ n → replicate {A = ℕ} n 0 ≡ replicate m 0 ++ replicate (n - m) 0
zeros n m h = ap (λ (k : ℕ). replicate k 0) (let e : n ≡ m + (n - m) = omega arith in e) ∙ sym (replicate-append-replicate m (n - m) 0)

pub zeros_front : (n m k : ℕ) → m + 1 ≤ n → k ≡ m → take (m + 1) (replicate {A = ℕ} n 0) ≡ replicate (k + 1) 0
zeros_front n m k h e = ap (take (m + 1)) (zeros n (m + 1) h) ∙ take_at (replicate (m + 1) 0) (replicate (n - (m + 1)) 0) (m + 1) (length-replicate (m + 1) 0) ∙ ap (λ (j : ℕ). replicate (j + 1) 0) (sym e)

-- a list put in front of zeros
pub zeros_filled : (n m k : ℕ) (old new : List ℕ) (used : ℕ → List ℕ) → m ≤ n → old ≡ replicate n 0 → length new ≡ length (take m old) → new ≡ used (length (take m old)) → m ≡ k → new ++ drop m old ≡ filled 0 n (used k)
zeros_filled n m k old new used h z l e q =
    ap (λ (x : List ℕ). new ++ x) (ap (drop m) (z ∙ zeros n m h) ∙ drop_at (replicate m 0) (replicate (n - m) 0) m (length-replicate m 0) ∙ ap (λ (x : ℕ). replicate (n - x) 0) (sym (l ∙ size)))
    ∙ ap (filled 0 n) (e ∙ ap used (size ∙ q))
  where
    size : length (take m old) ≡ m
    size = length-take-le m old (omega (arith, ap length z ∙ length-replicate n 0))
