-- The order of the numbers 1 to n has each once, keeps those that are held in order, and takes the least that may come each time.
use mathlib.Core.Bool.{Bool, true, false, not, cond, ◌&&◌, ◌||◌, false≢true}
use mathlib.Core.List.{List, [], ◌∷◌, ◌++◌}
use mathlib.Core.Logic.{◌⊎◌, inl, inr}
use mathlib.Core.Path.{◌≡◌, refl, ap, sym, ◌∙◌, subst}
use Prim.Native.Nat.{ℕ, zero, suc, ◌<◌, ◌≤◌}
use native.Mathlib.Omega.{arith}
use borrow.Author.Tests.{eq-eqb, ne_eqb, ltb-true, ltb-false, lt-ltb, le-ltb}
use lib.Dec.{eqb, ltb}
use lib.ListN.{length, length-append}
use Rattle.laws.proofs.BoolLaws.{and_left, and_right, cond_elim, not_true}
use Rattle.laws.specs.Shuffle.{Shuffle}
use Rattle.grouping.specs.Grouped.{better, choice, free, grouped, grouped_from, next, rank, up_to, without}
use Rattle.grouping.specs.Keeps.{Ahead, In, Keeps, Least, Rising}

-- ---- rising lists

pub rising_lower : (a b : ℕ) (ks : List ℕ) → a ≤ b → Rising b ks → Rising a ks
rising_lower a b [] h r = tt
rising_lower a b (k ∷ ks) h r = (omega (arith, r.0), r.1)

pub above : (b k : ℕ) (ks : List ℕ) → Rising b ks → In k ks → b < k
above b k [] r i = absurd i
above b k (j ∷ ks) r (inl e) = omega (arith, r.0)
above b k (j ∷ ks) r (inr i) = omega (arith, r.0, above j k ks r.1 i)

rising_more : (b m : ℕ) (xs : List ℕ) → Rising b xs → b < m → ((k : ℕ) → In k xs → k < m) → Rising b (xs ++ m ∷ [])
rising_more b m [] r h f = (h, tt)
rising_more b m (x ∷ xs) r h f = (r.0, rising_more x m xs r.1 (f x (inl refl)) (λ k i. f k (inr i)))

in_append : (k : ℕ) (xs ys : List ℕ) → In k (xs ++ ys) → In k xs ⊎ In k ys
in_append k [] ys i = inr i
in_append k (x ∷ xs) ys (inl e) = inl (inl e)
in_append k (x ∷ xs) ys (inr i) = go (in_append k xs ys i)
  where
    go : In k xs ⊎ In k ys → In k (x ∷ xs) ⊎ In k ys
    go (inl i) = inl (inr i)
    go (inr i) = inr i

up_within : (n k : ℕ) → In k (up_to n) → k ≤ n
unfolding up_to
up_within zero k i = absurd i
up_within (suc n) k i = go (up_within n k) (in_append k (up_to n) (suc n ∷ []) i)
  where
    go : (In k (up_to n) → k ≤ n) → In k (up_to n) ⊎ In k (suc n ∷ []) → k ≤ suc n
    go f (inl i) = omega (arith, f i)
    go f (inr (inl e)) = omega (arith, e)
    go f (inr (inr i)) = absurd i

pub up_rising : (n : ℕ) → Rising 0 (up_to n)
unfolding up_to
up_rising zero = tt
up_rising (suc n) = rising_more 0 (suc n) (up_to n) (up_rising n) (omega arith) (λ k i. omega (arith, up_within n k i))

pub up_length : (n : ℕ) → length (up_to n) ≡ n
unfolding up_to
up_length zero = refl
up_length (suc n) = omega (arith, length-append (up_to n) (suc n ∷ []), up_length n)

-- ---- one taken out

without_none : (c b : ℕ) (ks : List ℕ) → c ≤ b → Rising b ks → without c ks ≡ ks
unfolding without
without_none c b [] h r = refl
without_none c b (k ∷ ks) h r = rw (ne_eqb k c (λ e. omega (arith, r.0, e))) (ap {B = List ℕ} (λ (l : List ℕ). k ∷ l) (without_none c k ks (omega (arith, r.0)) r.1))

pub rising_without : (b c : ℕ) (ks : List ℕ) → Rising b ks → Rising b (without c ks)
unfolding without
rising_without b c [] r = tt
rising_without b c (k ∷ ks) r = go (eqb k c) (rising_without k c ks r.1)
  where
    go : (t : Bool) → Rising k (without c ks) → Rising b (cond t (without c ks) (k ∷ without c ks))
    go true i = rising_lower b k (without c ks) (omega (arith, r.0)) i
    go false i = (r.0, i)

-- c stands in a list: what is before it, what is behind it, and the list without it
pub record Taken (c : ℕ) (left : List ℕ) : Type 0 where
  pub front : List ℕ
  pub back : List ℕ
  pub old : left ≡ front ++ c ∷ back
  pub new : without c left ≡ front ++ back

pub taken : (b c : ℕ) (left : List ℕ) → Rising b left → In c left → Taken c left
unfolding without
taken b c [] r i = absurd i
taken b c (k ∷ ks) r (inl e) = record { front = []; back = ks; old = ap {B = List ℕ} (λ (n : ℕ). n ∷ ks) (sym e); new = rw (eq-eqb k c (sym e)) (without_none c k ks (omega (arith, e)) r.1) }
taken b c (k ∷ ks) r (inr i) =
    let t = taken k c ks r.1 i in
    record { front = k ∷ t.front; back = t.back; old = ap {B = List ℕ} (λ (l : List ℕ). k ∷ l) t.old; new = rw (ne_eqb k c (λ e. omega (arith, above k c ks r.1 i, e))) (ap {B = List ℕ} (λ (l : List ℕ). k ∷ l) t.new) }

pub taken_in : (c : ℕ) (left : List ℕ) → Taken c left → In c left
taken_in c left t = subst (In c) (sym t.old) (go t.front)
  where
    go : (xs : List ℕ) → In c (xs ++ c ∷ t.back)
    go [] = inl refl
    go (x ∷ xs) = inr (go xs)

pub one_less : (c : ℕ) (left : List ℕ) → Taken c left → length left ≡ suc (length (without c left))
one_less c left t = omega (arith, ap length t.old, ap length t.new, length-append t.front (c ∷ t.back), length-append t.front t.back)

-- ---- the choice

module _ (held : ℕ → ℕ → Bool) (type : ℕ → ℕ) where
  -- nothing stands before the first
  free_first : (k b : ℕ) (is : List ℕ) → k ≤ b → Rising b is → free held is k ≡ true
  unfolding free
  free_first k b [] h r = refl
  free_first k b (i ∷ is) h r = rw (le-ltb i k (omega (arith, r.0))) (free_first k i is (omega (arith, r.0)) r.1)

  module _ (last : ℕ) (left : List ℕ) where
    -- c comes no later than k: its rank is less, or the same and its number no higher
    abbrev NoLater : (c k : ℕ) → Type 0
    NoLater c k = (rank last (type c) ≤ rank last (type k)) × (rank last (type c) ≡ rank last (type k) → c ≤ k)

    -- of these, c comes first
    record Best (ks : List ℕ) (c : ℕ) : Type 0 where
      among : In c ks
      comes : free held left c ≡ true
      least : (k : ℕ) → In k ks → free held left k ≡ true → NoLater c k

    -- c is the best so far, or one of the further numbers
    record Chosen (best : ℕ) (ks : List ℕ) (c : ℕ) : Type 0 where
      among : (c ≡ best) ⊎ (In c ks × (free held left c ≡ true))
      before : NoLater c best
      least : (k : ℕ) → In k ks → free held left k ≡ true → NoLater c k

    chosen_best : (k c : ℕ) (ks : List ℕ) → free held left k ≡ true → Chosen k ks c → Best (k ∷ ks) c
    chosen_best k c ks f h = record { among = (one h.among).0; comes = (one h.among).1; least = all }
      where
        one : (c ≡ k) ⊎ (In c ks × (free held left c ≡ true)) → In c (k ∷ ks) × (free held left c ≡ true)
        one (inl e) = (inl e, ap (free held left) e ∙ f)
        one (inr i) = (inr i.0, i.1)

        all : (j : ℕ) → In j (k ∷ ks) → free held left j ≡ true → NoLater c j
        all j (inl e) g = subst (NoLater c) (sym e) h.before
        all j (inr i) g = h.least j i g

    chosen_taken : (best k c : ℕ) (ks : List ℕ) → free held left k ≡ true → rank last (type k) < rank last (type best) → Chosen k ks c → Chosen best (k ∷ ks) c
    chosen_taken best k c ks f l h =
        let b = chosen_best k c ks f h in
        record { among = inr (b.among, b.comes); before = (omega (arith, h.before.0), λ e. absurd (omega (arith, h.before.0))); least = b.least }

    chosen_passed : (best k c : ℕ) (ks : List ℕ) → best < k → (free held left k ≡ true → rank last (type best) ≤ rank last (type k)) → Chosen best ks c → Chosen best (k ∷ ks) c
    chosen_passed best k c ks l f h = record { among = later h.among; before = h.before; least = all }
      where
        later : (c ≡ best) ⊎ (In c ks × (free held left c ≡ true)) → (c ≡ best) ⊎ (In c (k ∷ ks) × (free held left c ≡ true))
        later (inl e) = inl e
        later (inr i) = inr (inr i.0, i.1)

        here : free held left k ≡ true → NoLater c k
        here g = (omega (arith, f g, h.before.0), λ e. omega (arith, h.before.1 (omega (arith, f g, h.before.0))))

        all : (j : ℕ) → In j (k ∷ ks) → free held left j ≡ true → NoLater c j
        all j (inl e) g = subst (NoLater c) (sym e) (here (subst (λ (m : ℕ). free held left m ≡ true) e g))
        all j (inr i) g = h.least j i g

    chosen : (best : ℕ) (ks : List ℕ) → 0 < best → Rising best ks → Chosen best ks (choice held type last left best ks)
    unfolding choice better
    chosen best [] p r = record { among = inl refl; before = (omega arith, λ e. omega arith); least = λ k i. absurd i }
    chosen best (k ∷ ks) p r = rw (ne_eqb best 0 (λ e. omega (arith, e))) (go (free held left k) refl (ltb (rank last (type k)) (rank last (type best))) refl (chosen k ks (omega (arith, r.0)) r.1) (chosen best ks p (rising_lower best k ks (omega (arith, r.0)) r.1)))
      where
        go : (f : Bool) → free held left k ≡ f → (b : Bool) → ltb (rank last (type k)) (rank last (type best)) ≡ b → Chosen k ks (choice held type last left k ks) → Chosen best ks (choice held type last left best ks) → Chosen best (k ∷ ks) (choice held type last left (cond (f && b) k best) ks)
        go true f true b h i = chosen_taken best k _ ks f (ltb-true (rank last (type k)) (rank last (type best)) b) h
        go true f false b h i = chosen_passed best k _ ks r.0 (λ g. ltb-false (rank last (type k)) (rank last (type best)) b) i
        go false f b e h i = chosen_passed best k _ ks r.0 (λ g. absurd (false≢true (sym f ∙ g))) i

  -- the first of those left may come, so the choice goes on from it
  next_first : (last k : ℕ) (ks : List ℕ) → Rising 0 (k ∷ ks) → (free held (k ∷ ks) k ≡ true) × (next held type last (k ∷ ks) ≡ choice held type last (k ∷ ks) k ks)
  unfolding choice better free
  next_first last k ks r =
      let f : free held (k ∷ ks) k ≡ true = rw (le-ltb k k (omega arith)) (free_first k k ks (omega arith) r.1) in
      (f, ap (λ (t : Bool). choice held type last (k ∷ ks) (cond (t && true) k 0) ks) f)

  pub next_least : (last : ℕ) (left : List ℕ) → Rising 0 left → 0 < length left → Least held type last left (next held type last left)
  next_least last [] r h = absurd (omega arith)
  next_least last (k ∷ ks) r h =
      let f = next_first last k ks r in
      let b = chosen_best last (k ∷ ks) k (next held type last (k ∷ ks)) ks f.0 (subst (Chosen last (k ∷ ks) k ks) (sym f.1) (chosen last (k ∷ ks) k ks r.0 r.1)) in
      record { among = b.among; comes = b.comes; least = λ j i g. (b.least j i g).0; lowest = λ j i g. (b.least j i g).1 }

  -- ---- the whole order

  -- the choice taken out of those left
  pub next_taken : (last : ℕ) (left : List ℕ) → Rising 0 left → 0 < length left → Taken (next held type last left) left
  next_taken last left r h = taken 0 (next held type last left) left r (next_least last left r h).among

  shuffle_from : (n last : ℕ) (left : List ℕ) → Rising 0 left → length left ≡ n → Shuffle left (grouped_from held type n last left)
  unfolding grouped_from
  shuffle_from zero last [] r e = refl
  shuffle_from zero last (k ∷ ks) r e = absurd (omega (arith, e))
  shuffle_from (suc n) last left r e =
      let c = next held type last left in
      let t = next_taken last left r (omega (arith, e)) in
      (t.front, t.back, t.old, subst (λ (l : List ℕ). Shuffle l (grouped_from held type n (type c) (without c left))) t.new (shuffle_from n (type c) (without c left) (rising_without 0 c left r) (omega (arith, one_less c left t, e))))

  pub grouped_shuffle : (n : ℕ) → Shuffle (up_to n) (grouped held type n)
  unfolding grouped
  grouped_shuffle n = shuffle_from n 0 (up_to n) (up_rising n) (up_length n)

  ahead_free : (c : ℕ) (left : List ℕ) → free held left c ≡ true → Ahead held c left
  unfolding free
  ahead_free c [] f = tt
  ahead_free c (k ∷ ks) f = (λ l. pair (ltb k c) (held k c) (lt-ltb k c l) (and_left (not (ltb k c && held k c)) (free held ks c) f), ahead_free c ks (and_right (not (ltb k c && held k c)) (free held ks c) f))
    where
      pair : (a b : Bool) → a ≡ true → not (a && b) ≡ true → b ≡ false
      pair true b e h = not_true b h
      pair false b e h = absurd (false≢true e)

  ahead_split : (c k : ℕ) (xs ys : List ℕ) → Ahead held c (xs ++ k ∷ ys) → (k < c → held k c ≡ false) × Ahead held c (xs ++ ys)
  ahead_split c k [] ys a = a
  ahead_split c k (x ∷ xs) ys a = let s = ahead_split c k xs ys a.1 in (s.0, (a.0, s.1))

  ahead_shuffle : (c : ℕ) (old new : List ℕ) → Shuffle old new → Ahead held c old → Ahead held c new
  ahead_shuffle c old [] s a = tt
  ahead_shuffle c old (k ∷ new) s a =
      let p = ahead_split c k s.0 s.1 (subst (Ahead held c) s.2 a) in
      (p.0, ahead_shuffle c (s.0 ++ s.1) new s.3 p.1)

  keeps_from : (n last : ℕ) (left : List ℕ) → Rising 0 left → length left ≡ n → Keeps held (grouped_from held type n last left)
  unfolding grouped_from
  keeps_from zero last left r e = tt
  keeps_from (suc n) last left r e =
      let c = next held type last left in
      let h : 0 < length left = omega (arith, e) in
      let t = next_taken last left r h in
      let i : length (without c left) ≡ n = omega (arith, one_less c left t, e) in
      let a = (ahead_split c c t.front t.back (subst (Ahead held c) t.old (ahead_free c left (next_least last left r h).comes))).1 in
      (ahead_shuffle c (without c left) (grouped_from held type n (type c) (without c left)) (shuffle_from n (type c) (without c left) (rising_without 0 c left r) i) (subst (Ahead held c) (sym t.new) a), keeps_from n (type c) (without c left) (rising_without 0 c left r) i)

  pub grouped_keeps : (n : ℕ) → Keeps held (grouped held type n)
  unfolding grouped
  grouped_keeps n = keeps_from n 0 (up_to n) (up_rising n) (up_length n)

-- ---- what the order depends on

in_without : (k c : ℕ) (ks : List ℕ) → In k (without c ks) → In k ks
unfolding without
in_without k c [] i = absurd i
in_without k c (j ∷ ks) i = go (eqb j c) (in_without k c ks) i
  where
    go : (b : Bool) → (In k (without c ks) → In k ks) → In k (cond b (without c ks) (j ∷ without c ks)) → In k (j ∷ ks)
    go true f i = inr (f i)
    go false f (inl e) = inl e
    go false f (inr i) = inr (f i)

module _ (h h' : ℕ → ℕ → Bool) (t t' : ℕ → ℕ) (n : ℕ) (hs : (i k : ℕ) → 0 < i → i < k → k ≤ n → h i k ≡ h' i k) (ts : (k : ℕ) → 0 < k → k ≤ n → t k ≡ t' k) where
  abbrev Within : List ℕ → Type 0
  Within ks = (k : ℕ) → In k ks → (0 < k) × (k ≤ n)

  free_same : (left : List ℕ) (k : ℕ) → Within left → k ≤ n → free h left k ≡ free h' left k
  unfolding free
  free_same [] k w l = refl
  free_same (i ∷ left) k w l = λ p. not (go (ltb i k) refl p) && free_same left k (λ j m. w j (inr m)) l p
    where
      go : (b : Bool) → ltb i k ≡ b → (b && h i k) ≡ (b && h' i k)
      go true e = hs i k (w i (inl refl)).0 (ltb-true i k e) l
      go false e = refl

  better_same : (last best k : ℕ) → best ≤ n → 0 < k → k ≤ n → better t last best k ≡ better t' last best k
  unfolding better
  better_same last zero k b z l = refl
  better_same last (suc best) k b z l = λ p. eqb (suc best) 0 || ltb (rank last (ts k z l p)) (rank last (ts (suc best) (omega arith) b p))

  choice_same : (last : ℕ) (left : List ℕ) (best : ℕ) (ks : List ℕ) → Within left → best ≤ n → Within ks → choice h t last left best ks ≡ choice h' t' last left best ks
  unfolding choice
  choice_same last left best [] w b v = refl
  choice_same last left best (k ∷ ks) w b v =
      let m = v k (inl refl) in
      let new = free h' left k && better t' last best k in
      (λ p. choice h t last left (cond (free_same left k w m.1 p && better_same last best k b m.0 m.1 p) k best) ks)
      ∙ choice_same last left (cond new k best) ks w (cond_elim (λ (x : ℕ). x ≤ n) new m.1 b) (λ j i. v j (inr i))

  same_from : (m last : ℕ) (left : List ℕ) → Rising 0 left → length left ≡ m → Within left → grouped_from h t m last left ≡ grouped_from h' t' m last left
  unfolding grouped_from
  same_from zero last left r e w = refl
  same_from (suc m) last left r e w =
      let c = next h t last left in
      let l : 0 < length left = omega (arith, e) in
      let b = w c (next_least h t last left r l).among in
      let s : c ≡ next h' t' last left = choice_same last left 0 left w (omega arith) w in
      (λ p. c ∷ grouped_from h t m (ts c b.0 b.1 p) (without c left))
      ∙ ap {B = List ℕ} (λ (l : List ℕ). c ∷ l) (same_from m (t' c) (without c left) (rising_without 0 c left r) (omega (arith, one_less c left (next_taken h t last left r l), e)) (λ k i. w k (in_without k c left i)))
      ∙ ap {B = List ℕ} (λ (x : ℕ). x ∷ grouped_from h' t' m (t' x) (without x left)) s

  pub grouped_same : grouped h t n ≡ grouped h' t' n
  unfolding grouped
  grouped_same = same_from n 0 (up_to n) (up_rising n) (up_length n) (λ k i. (above 0 k (up_to n) (up_rising n) i, up_within n k i))
