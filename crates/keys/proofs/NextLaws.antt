-- The keys of two scenes one by one: after each comes the next definition of its name, or the first of the least name above it.
use mathlib.Core.Bool.{Bool, true, false, cond, ◌&&◌, ◌||◌, and-false, or-true, false≢true}
use mathlib.Core.List.{List, [], ◌∷◌}
use mathlib.Core.Logic.{◌⊎◌, inl, inr}
use mathlib.Core.Option.{Option, none, some}
use mathlib.Core.Path.{◌≡◌, refl, ap, sym, ◌∙◌, subst}
use Prim.Native.Nat.{ℕ, ◌+◌, ◌≤◌, ◌<◌, max}
use native.Mathlib.Omega.{arith}
use borrow.Author.Tests.{leb-true, le-leb}
use lib.Dec.{leb}
use Rattle.laws.proofs.BoolLaws.{and_left, and_right}
use Rattle.laws.proofs.NatLaws.{le_or_lt}
use Rattle.laws.specs.Bytes.{Bytes}
use Rattle.scene.specs.Told.{Told}
use Rattle.keys.proofs.KeyLaws.{ahead_over, increasing_same, keys_increasing, keys_stand}
use Rattle.keys.proofs.LeastLaws.{LeastOf, Least, least_lesser, least_scene}
use Rattle.keys.proofs.NumberLaws.{found_times}
use Rattle.keys.proofs.OrderLaws.{lower_irreflexive, lower_transitive, same_key_lem, key_same, before_one, Earlier, before_earlier, earlier_before, before_transitive}
use Rattle.keys.specs.After.{after, start}
use Rattle.keys.specs.Key.{Key, nth_of, times, same_key, found, is_found, lower, before, keys_of}
use Rattle.keys.specs.Next.{lesser, least_above, one_more, first_of, next_name, next_key, onward}
use Rattle.keys.specs.Properties.{OneOf, first, second, third, Ahead, Increasing, stands_in}

-- ---- those that come after a key

ahead_after : (k : Key) (ks : List Key) → Ahead k (after k ks)
unfolding after
ahead_after k [] = tt
ahead_after k (x ∷ ks) = go (before k x) refl (ahead_after k ks)
  where
    go : (b : Bool) → before k x ≡ b → Ahead k (after k ks) → Ahead k (cond b (x ∷ after k ks) (after k ks))
    go true e h = e
    go false e h = h

after_increasing : (k : Key) (ks : List Key) → Increasing ks → Increasing (after k ks)
unfolding after
after_increasing k [] h = tt
after_increasing k (x ∷ ks) h = go (before k x) (after_increasing k ks h.1)
  where
    later : (ks : List Key) → Ahead x ks → Increasing ks → Ahead x (after k ks)
    later [] a h = tt
    later (y ∷ ks) a h = pick (before k y) (later ks (ahead_over x y ks a h.0) h.1)
      where
        pick : (b : Bool) → Ahead x (after k ks) → Ahead x (cond b (y ∷ after k ks) (after k ks))
        pick true g = a
        pick false g = g

    go : (b : Bool) → Increasing (after k ks) → Increasing (cond b (x ∷ after k ks) (after k ks))
    go true g = (later ks h.0 h.1, g)
    go false g = g

stands_after : (i k : Key) (ks : List Key) → stands_in i (after k ks) ≡ (before k i && stands_in i ks)
unfolding stands_in after
stands_after i k [] = sym (and-false (before k i))
stands_after i k (x ∷ ks) = go (before k x) (same_key i x) refl refl (stands_after i k ks)
  where
    go : (b c : Bool) → before k x ≡ b → same_key i x ≡ c → stands_in i (after k ks) ≡ (before k i && stands_in i ks) → stands_in i (cond b (x ∷ after k ks) (after k ks)) ≡ (before k i && (c || stands_in i ks))
    go true true q p h = rw (p, ap (before k) (same_key_lem i x p) ∙ q)
    go true false q p h = rw p h
    go false true q p h = h ∙ rw (ap (before k) (same_key_lem i x p) ∙ q)
    go false false q p h = h

-- the key that follows k among ks
record Follows (ks : List Key) (k j : Key) : Type 0 where
  later : before k j ≡ true
  stands : stands_in j ks ≡ true
  between : (i : Key) → before k i ≡ true → before i j ≡ true → stands_in i ks ≡ false

after_some : (ks : List Key) (k j : Key) → Increasing ks → Follows ks k j → after k ks ≡ j ∷ after j ks
unfolding stands_in
after_some ks k j h f = increasing_same (after k ks) (j ∷ after j ks) (after_increasing k ks h) (ahead_after j ks, after_increasing j ks h) (λ i. stands_after i k ks ∙ go i (before i j) (same_key i j) (before j i) (before_one i j) refl refl refl ∙ ap (λ (b : Bool). same_key i j || b) (sym (stands_after i j ks)))
  where
    never : (i : Key) (b : Bool) → before k i ≡ b → before i j ≡ true → (b && stands_in i ks) ≡ false
    never i true p q = f.between i p q
    never i false p q = refl

    go : (i : Key) (a b c : Bool) → OneOf a b c → before i j ≡ a → same_key i j ≡ b → before j i ≡ c → (before k i && stands_in i ks) ≡ (same_key i j || (before j i && stands_in i ks))
    go i true false false first p q s = rw (q, s) (never i (before k i) refl p)
    go i false true false second p q s = let e = same_key_lem i j q in rw (q, ap (before k) e ∙ f.later, ap (λ (z : Key). stands_in z ks) e ∙ f.stands)
    go i false false false x12 p q s = elim x12 [ ]
    go i false true true x13 p q s = elim x13 [ ]
    go i true false true x13 p q s = elim x13 [ ]
    go i true true c x10 p q s = elim x10 [ ]
    go i false false true third p q s = rw (q, s, before_transitive k j i f.later s)

after_none : (ks : List Key) (k : Key) → Increasing ks → ((i : Key) → before k i ≡ true → stands_in i ks ≡ false) → after k ks ≡ []
unfolding stands_in
after_none ks k h f = increasing_same (after k ks) [] (after_increasing k ks h) tt (λ i. stands_after i k ks ∙ go i (before k i) refl)
  where
    go : (i : Key) (b : Bool) → before k i ≡ b → (b && stands_in i ks) ≡ false
    go i true p = f i p
    go i false p = refl

-- ---- the next key

pub found_most : (k : Key) (d : List Told) → is_found (found k d) ≡ true → (1 ≤ k.nth) × (k.nth ≤ times k.name d)
found_most k d e =
    let h = sym (found_times k d) ∙ e in
    (leb-true 1 k.nth (and_left (leb 1 k.nth) (leb k.nth (times k.name d)) h), leb-true k.nth (times k.name d) (and_right (leb 1 k.nth) (leb k.nth (times k.name d)) h))

found_up : (k : Key) (d : List Told) → 1 ≤ k.nth → k.nth ≤ times k.name d → is_found (found k d) ≡ true
found_up k d l m = found_times k d ∙ rw (le-leb 1 k.nth l, le-leb k.nth (times k.name d) m)

module _ (l r : List Told) where
  -- the more that a key's name stands in either scene
  abbrev most : Key → ℕ
  most k = max (times k.name l) (times k.name r)

  -- a key stands exactly where its count is from 1 to that
  stands_most : (k : Key) → stands_in k (keys_of l r) ≡ true → (1 ≤ k.nth) × (k.nth ≤ most k)
  stands_most k e = go (is_found (found k l)) refl (sym (keys_stand l r k) ∙ e)
    where
      go : (b : Bool) → is_found (found k l) ≡ b → (b || is_found (found k r)) ≡ true → (1 ≤ k.nth) × (k.nth ≤ most k)
      go true p q = let h = found_most k l p in (h.0, omega (arith, h.1))
      go false p q = let h = found_most k r q in (h.0, omega (arith, h.1))

  stands_up : (k : Key) → 1 ≤ k.nth → k.nth ≤ most k → stands_in k (keys_of l r) ≡ true
  stands_up k h g = keys_stand l r k ∙ go (le_or_lt k.nth (times k.name l))
    where
      go : (k.nth ≤ times k.name l) ⊎ (times k.name l < k.nth) → (is_found (found k l) || is_found (found k r)) ≡ true
      go (inl m) = rw (found_up k l h m)
      go (inr m) = rw (found_up k r h (omega arith)) (or-true (is_found (found k l)))

  -- a key whose count is not among those does not
  absent : (k : Key) → (1 ≤ k.nth → k.nth ≤ most k → ⊥) → stands_in k (keys_of l r) ≡ false
  absent k n = go (stands_in k (keys_of l r)) refl
    where
      go : (b : Bool) → stands_in k (keys_of l r) ≡ b → stands_in k (keys_of l r) ≡ false
      go true e = let h = stands_most k e in absurd (n h.0 h.1)
      go false e = e

  module _ (k : Key) where
    follows_more : stands_in (one_more k) (keys_of l r) ≡ true → Follows (keys_of l r) k (one_more k)
    follows_more e = record { later = earlier_before k (one_more k) (inr (refl, omega arith)); stands = e; between = λ i p q. absurd (go i (before_earlier k i p) (before_earlier i (one_more k) q)) }
      where
        itself : (w : Bytes) → lower w w ≡ true → ⊥
        itself w e = false≢true (sym (lower_irreflexive w) ∙ e)

        go : (i : Key) → Earlier k i → Earlier i (one_more k) → ⊥
        go i (inl p) (inl q) = itself k.name (lower_transitive k.name i.name k.name p q)
        go i (inl p) (inr (q, m)) = itself k.name (subst (λ (w : Bytes). lower k.name w ≡ true) q p)
        go i (inr (p, m)) (inl q) = itself k.name (subst (λ (w : Bytes). lower w k.name ≡ true) (sym p) q)
        go i (inr (p, m)) (inr (q, n)) = omega arith

    module _ (n : stands_in (one_more k) (keys_of l r) ≡ false) where
      -- no later key of that name stands
      no_more : (i : Key) → k.name ≡ i.name → k.nth < i.nth → stands_in i (keys_of l r) ≡ false
      no_more i e m = absent i (λ h g. false≢true (sym n ∙ stands_up (one_more k) (omega arith) (let q = ap (λ (w : Bytes). max (times w l) (times w r)) e in omega arith)))

      none_above : Least k.name (λ v. times v l + times v r) none → (i : Key) → before k i ≡ true → stands_in i (keys_of l r) ≡ false
      none_above h i p = go (before_earlier k i p)
        where
          go : Earlier k i → stands_in i (keys_of l r) ≡ false
          go (inl e) = absent i (λ a b. omega (arith, h i.name e))
          go (inr (e, m)) = no_more i e m

      follows_above : (w : Bytes) → LeastOf k.name (λ v. times v l + times v r) w → Follows (keys_of l r) k (nth_of w 1)
      follows_above w h = record { later = earlier_before k (nth_of w 1) (inl h.above≡); stands = stands_up (nth_of w 1) (omega arith) (omega (arith, h.there)); between = λ i p q. go i (before_earlier k i p) (before_earlier i (nth_of w 1) q) }
        where
          go : (i : Key) → Earlier k i → Earlier i (nth_of w 1) → stands_in i (keys_of l r) ≡ false
          go i (inl p) (inl q) = absent i (λ a b. omega (arith, h.least i.name p q))
          go i (inl p) (inr (q, m)) = absent i (λ a b. omega arith)
          go i (inr (p, m)) q = no_more i p m

      after_above : (o : Option Bytes) → Least k.name (λ v. times v l + times v r) o → after k (keys_of l r) ≡ onward (first_of o) (keys_of l r)
      after_above none h = after_none (keys_of l r) k (keys_increasing l r) (none_above h)
      after_above (some w) h = after_some (keys_of l r) k (nth_of w 1) (keys_increasing l r) (follows_above w h)

    -- what comes after a key is its next key and what comes after that one; nothing where there is none
    pub after_next : after k (keys_of l r) ≡ onward (next_key l r k) (keys_of l r)
    unfolding next_key
    after_next = go (is_found (found (one_more k) l) || is_found (found (one_more k) r)) (keys_stand l r (one_more k))
      where
        go : (b : Bool) → stands_in (one_more k) (keys_of l r) ≡ b → after k (keys_of l r) ≡ onward (cond b (some (one_more k)) (next_name l r k.name)) (keys_of l r)
        go true e = after_some (keys_of l r) k (one_more k) (keys_increasing l r) (follows_more e)
        go false e = after_above e (lesser (least_above k.name l) (least_above k.name r)) (least_lesser k.name (λ v. times v l) (λ v. times v r) (least_above k.name l) (least_above k.name r) (least_scene k.name l) (least_scene k.name r))

    -- the next key is in one of both scenes
    pub next_stands : (i : Key) → next_key l r k ≡ some i → stands_in i (keys_of l r) ≡ true
    unfolding stands_in
    next_stands i e = and_right (before k i) (stands_in i (keys_of l r)) (sym (stands_after i k (keys_of l r)) ∙ ap (stands_in i) (after_next ∙ ap (λ (o : Option Key). onward o (keys_of l r)) e) ∙ rw (key_same i))

  -- every key comes after the start
  pub after_start : after start (keys_of l r) ≡ keys_of l r
  unfolding lower
  after_start = increasing_same (after start (keys_of l r)) (keys_of l r) (after_increasing start (keys_of l r) (keys_increasing l r)) (keys_increasing l r) (λ i. stands_after i start (keys_of l r) ∙ go i (stands_in i (keys_of l r)) refl)
    where
      early : (w : Bytes) (n : ℕ) → 1 ≤ n → before start (nth_of w n) ≡ true
      early [] n h = earlier_before start (nth_of [] n) (inr (refl, h))
      early (x ∷ w) n h = earlier_before start (nth_of (x ∷ w) n) (inl refl)

      go : (i : Key) (b : Bool) → stands_in i (keys_of l r) ≡ b → (before start i && b) ≡ b
      go i true e = rw (early i.name i.nth (stands_most i e).0)
      go i false e = and-false (before start i)
