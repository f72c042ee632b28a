-- The order by numbers, as the code finds it.
use mathlib.Core.Bool.{Bool, true, false, ◌&&◌, cond}
use mathlib.Core.List.{List, [], ◌∷◌, ◌++◌, append-nil}
use mathlib.Core.Option.{Option, none, some}
use mathlib.Core.Path.{◌≡◌, refl, ap, sym, ◌∙◌}
use Prim.Native.Nat.{ℕ, zero, suc, ◌+◌, ◌-◌, ◌≤◌, ◌<◌}
use native.Mathlib.Numerals.{add-one}
use native.Mathlib.Omega.{arith}
use borrow.Author.Tests.{eq-eqb, ne_eqb}
use lib.Dec.{eqb}
use lib.ListN.{length, set, drop, get_or, length-append, length-set, drop_of_length-le}
use lib.Seq.{drop-cons, set_at, append_snoc}
use Rattle.arranging.specs.Order.{Both, comes, least_to, lesser_of, order_from, ordered, placed_mark, standing}
use Rattle.keys.specs.Key.{lower}
use Rattle.laws.specs.Bytes.{Bytes}
use Rattle.scene.specs.Types.{is_surface}
use Rattle.table.specs.Number.{number_in}

-- ---- whether a name stands

module _ (other : ℕ → ℕ) (marks : List ℕ) (n : ℕ) where
  abbrev there : ℕ
  there = number_in marks (other n)

  abbrev by_marks : Bool
  by_marks = cond (eqb there 0) (eqb (number_in marks n) 2) (eqb there 2)

  pub stands_none : n ≡ 0 → true ≡ standing other marks n
  unfolding standing
  stands_none e = sym (ap (λ (b : Bool). cond b true by_marks) (eq-eqb n 0 e))

  module _ (e : n ≡ 0 → ⊥) (m : ℕ) (q : m ≡ there) where
    pub stands_own : m ≡ 0 → (k : ℕ) → k ≡ number_in marks n → eqb k 2 ≡ standing other marks n
    unfolding standing
    stands_own z k h =
        ap (λ (x : ℕ). eqb x 2) h
        ∙ sym (ap (λ (b : Bool). cond b (eqb (number_in marks n) 2) (eqb there 2)) (eq-eqb there 0 (sym q ∙ z)))
        ∙ sym (ap (λ (b : Bool). cond b true by_marks) (ne_eqb n 0 e))

    pub stands_other : (m ≡ 0 → ⊥) → eqb m 2 ≡ standing other marks n
    unfolding standing
    stands_other z =
        ap (λ (x : ℕ). eqb x 2) q
        ∙ sym (ap (λ (b : Bool). cond b (eqb (number_in marks n) 2) (eqb there 2)) (ne_eqb there 0 (λ h. z (q ∙ h))))
        ∙ sym (ap (λ (b : Bool). cond b true by_marks) (ne_eqb n 0 e))

-- ---- whether a number comes next

module _ (link : ℕ → ℕ → ℕ) (other : ℕ → ℕ) (marks : List ℕ) (n : ℕ) where
  pub comes_not : (m : ℕ) → m ≡ number_in marks n → (m ≡ 1 → ⊥) → false ≡ comes link other marks n
  unfolding comes
  comes_not m q e = sym (ap (λ (b : Bool). b && standing other marks (link 1 n) && standing other marks (link 2 n)) (ne_eqb (number_in marks n) 1 (λ h. e (q ∙ h))))

  module _ (m : ℕ) (q : m ≡ number_in marks n) (e : m ≡ 1) where
    here : eqb (number_in marks n) 1 ≡ true
    here = eq-eqb (number_in marks n) 1 (sym q ∙ e)

    pub comes_modifier : (a : ℕ) → a ≡ link 1 n → (r : Bool) → r ≡ standing other marks a → r ≡ false → false ≡ comes link other marks n
    unfolding comes
    comes_modifier a f r h z = sym (λ i. here i && (sym (ap (standing other marks) f) ∙ sym h ∙ z) i && standing other marks (link 2 n))

    pub comes_target : (a b : ℕ) → a ≡ link 1 n → b ≡ link 2 n → (r : Bool) → r ≡ standing other marks a → r ≡ true → (t : Bool) → t ≡ standing other marks b → t ≡ comes link other marks n
    unfolding comes
    comes_target a b f g r h z t k = k ∙ ap (standing other marks) g ∙ sym (λ i. here i && (sym (ap (standing other marks) f) ∙ sym h ∙ z) i && standing other marks (link 2 n))

-- ---- the lesser of two names

module _ (name : ℕ → Bytes) (best n : ℕ) where
  pub lesser_first : best ≡ 0 → n ≡ lesser_of name best n
  unfolding lesser_of
  lesser_first e = sym (ap (λ (b : Bool). cond b n (cond (lower (name best) (name n)) best n)) (eq-eqb best 0 e))

  module _ (e : best ≡ 0 → ⊥) (r : Bool) (q : r ≡ lower (name best) (name n)) where
    by_name : lesser_of name best n ≡ cond r best n
    unfolding lesser_of
    by_name = (λ i. cond (ne_eqb best 0 e i) n (cond (sym q i) best n))

    pub lesser_best : r ≡ true → best ≡ lesser_of name best n
    lesser_best z = sym (by_name ∙ ap (λ (b : Bool). cond b best n) z)

    pub lesser_new : r ≡ false → n ≡ lesser_of name best n
    lesser_new z = sym (by_name ∙ ap (λ (b : Bool). cond b best n) z)

-- ---- the least that comes

module _ (v : Both) (marks : List ℕ) where
  pub least_none : 0 ≡ least_to v marks 0
  unfolding least_to
  least_none = refl

  module _ (n best : ℕ) (h : best ≡ least_to v marks n) (r : Bool) (q : r ≡ comes v.link v.other marks (n + 1)) where
    step : least_to v marks (n + 1) ≡ cond r (lesser_of v.name best (n + 1)) best
    unfolding least_to
    step = ap (least_to v marks) (add-one n) ∙ (λ i. cond (sym (q ∙ ap (comes v.link v.other marks) (add-one n)) i) (lesser_of v.name (sym h i) (sym (add-one n) i)) (sym h i))

    pub least_passed : r ≡ false → best ≡ least_to v marks (n + 1)
    least_passed z = sym (step ∙ ap (λ (b : Bool). cond b (lesser_of v.name best (n + 1)) best) z)

    pub least_more : r ≡ true → (new : ℕ) → new ≡ lesser_of v.name best (n + 1) → new ≡ least_to v marks (n + 1)
    least_more z new k = k ∙ sym (step ∙ ap (λ (b : Bool). cond b (lesser_of v.name best (n + 1)) best) z)

  -- it is one of them
  lesser_low : (name : ℕ → Bytes) (best n : ℕ) → best ≤ n → lesser_of name best (suc n) ≤ suc n
  unfolding lesser_of
  lesser_low name best n l = go (eqb best 0) (lower (name best) (name (suc n)))
    where
      go : (a b : Bool) → cond a (suc n) (cond b best (suc n)) ≤ suc n
      go true b = omega arith
      go false true = omega (arith, l)
      go false false = omega arith

  pub least_low : (n : ℕ) → least_to v marks n ≤ n
  unfolding least_to
  least_low zero = omega arith
  least_low (suc n) = go (comes v.link v.other marks (suc n)) (lesser_low v.name (least_to v marks n) n (least_low n)) (least_low n)
    where
      go : (b : Bool) → lesser_of v.name (least_to v marks n) (suc n) ≤ suc n → least_to v marks n ≤ n → cond b (lesser_of v.name (least_to v marks n) (suc n)) (least_to v marks n) ≤ suc n
      go true h k = h
      go false h k = omega (arith, k)

-- ---- the mark of a place

module _ (kind t : ℕ) (q : kind ≡ t) (r : Bool) (e : r ≡ is_surface kind) where
  pub mark_surface : r ≡ true → 3 ≡ placed_mark t
  mark_surface z = sym (ap (λ (b : Bool). cond {A = ℕ} b 3 2) (sym (ap is_surface q) ∙ sym e ∙ z))

  pub mark_stands : r ≡ false → 2 ≡ placed_mark t
  mark_stands z = sym (ap (λ (b : Bool). cond {A = ℕ} b 3 2) (sym (ap is_surface q) ∙ sym e ∙ z))

-- ---- one place after the other

-- the first i places of the table are given
pub record Ordering (v : Both) (marks₀ old marks order : List ℕ) (i : ℕ) : Type 0 where
  pub most : i ≤ length old
  pub size : length order ≡ length old
  pub kept : length marks ≡ length marks₀
  pub front : List ℕ
  pub long : length front ≡ i
  pub done : order ≡ front ++ drop i old
  pub same : order_from v (length old - i) marks front ≡ order_from v (length old) marks₀ []

module _ (v : Both) (marks₀ old : List ℕ) where
  pub ordering_none : Ordering v marks₀ old marks₀ old 0
  ordering_none = record { most = omega arith; size = refl; kept = refl; front = []; long = refl; done = refl; same = ap (λ (k : ℕ). order_from v k marks₀ []) (let z : length old - 0 ≡ length old = omega arith in z) }

  module _ (marks order : List ℕ) (i : ℕ) (h : Ordering v marks₀ old marks order i) where
    module _ (n : ℕ) (e : n ≡ least_to v marks (length marks)) (l : i < length old) where
      -- the next place is that of the least, if there is one
      turn : order_from v (length old - i) marks h.front ≡ cond (eqb n 0) none (order_from v (length old - suc i) (set marks (n - 1) (placed_mark (v.type n))) (h.front ++ n ∷ []))
      unfolding order_from
      turn =
          ap (λ (k : ℕ). order_from v k marks h.front) (let z : length old - i ≡ suc (length old - suc i) = omega arith in z)
          ∙ ap (λ (k : ℕ). cond {A = Option (List ℕ)} (eqb k 0) none (order_from v (length old - suc i) (set marks (k - 1) (placed_mark (v.type k))) (h.front ++ k ∷ []))) (sym e)

      pub ordered_stuck : n ≡ 0 → none ≡ order_from v (length old) marks₀ []
      ordered_stuck z = sym (sym h.same ∙ turn ∙ ap (λ (b : Bool). cond {A = Option (List ℕ)} b none (order_from v (length old - suc i) (set marks (n - 1) (placed_mark (v.type n))) (h.front ++ n ∷ []))) (eq-eqb n 0 z))

      pub ordering_more : (n ≡ 0 → ⊥) → (m : ℕ) → m ≡ placed_mark (v.type n) → Ordering v marks₀ old (set marks (n - 1) m) (set order i n) (i + 1)
      ordering_more z m q = record {
        most = omega arith;
        size = length-set order i n ∙ h.size;
        kept = length-set marks (n - 1) m ∙ h.kept;
        front = h.front ++ n ∷ [];
        long = omega (arith, length-append h.front (n ∷ []), h.long);
        done = stored;
        same =
            (λ j. order_from v (length old - add-one i j) (set marks (n - 1) (q j)) (h.front ++ n ∷ []))
            ∙ sym (turn ∙ ap (λ (b : Bool). cond {A = Option (List ℕ)} b none (order_from v (length old - suc i) (set marks (n - 1) (placed_mark (v.type n))) (h.front ++ n ∷ []))) (ne_eqb n 0 z))
            ∙ h.same;
      }
        where
          stored : set order i n ≡ (h.front ++ n ∷ []) ++ drop (i + 1) old
          stored =
              ap (λ (t : List ℕ). set t i n) (h.done ∙ ap (λ (t : List ℕ). h.front ++ t) (drop-cons old i 0 l))
              ∙ set_at h.front (get_or old i 0) (drop (suc i) old) n i h.long
              ∙ sym (append_snoc h.front n (drop (suc i) old))
              ∙ ap (λ (k : ℕ). (h.front ++ n ∷ []) ++ drop k old) (sym (add-one i))

    pub ordered_all : length order ≤ i → ordered true order ≡ order_from v (length old) marks₀ []
    unfolding order_from
    ordered_all l =
        let z : i ≡ length old = omega (arith, h.most, h.size) in
        let none_left : length old - i ≡ 0 = omega arith in
        ap some (h.done ∙ ap (λ (t : List ℕ). h.front ++ t) (drop_of_length-le old {i = i} (omega arith)) ∙ append-nil h.front)
        ∙ sym (ap (λ (k : ℕ). order_from v k marks h.front) none_left)
        ∙ h.same
