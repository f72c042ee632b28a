-- The index finds what the plain search finds.
use mathlib.Core.Bool.{Bool, true, false, cond, ◌&&◌, ◌||◌}
use mathlib.Core.List.{List, [], ◌∷◌}
use mathlib.Core.Logic.{◌⊎◌, inl, inr}
use mathlib.Core.Path.{◌≡◌, refl, ap, sym, ◌∙◌, subst}
use Prim.Native.Nat.{ℕ, zero, suc, ◌+◌, ◌-◌, ◌%◌, ◌≤◌, ◌<◌}
use native.Mathlib.Omega.{arith}
use borrow.Author.Tests.{eq-eqb, eqb-true}
use lib.Dec.{eqb}
use lib.ListN.{length, get_or, set, replicate, length-set, length-replicate}
use lib.Seq.{get_or-set_same, get_or-set_other}
use Rattle.laws.proofs.BoolLaws.{and_left, and_right}
use Rattle.laws.proofs.BytesLaws.{same_eq, same_refl}
use Rattle.laws.proofs.NatLaws.{le_or_lt}
use Rattle.laws.specs.Bytes.{Bytes, same}
use Rattle.index.specs.Index.{hash, place, seek, stops, passed, number_of, entered, Primitives, index_by}
use Rattle.index.specs.Searches.{latest_of}
use Rattle.index.proofs.SearchLaws.{hash_lt, stops_zero}

bool_no : true ≡ false → ⊥
bool_no e = let v : ◌≡◌ {A = ℕ} 0 1 = cc in omega arith

eq_or : (m n : ℕ) → (m ≡ n) ⊎ (m ≡ n → ⊥)
eq_or m n = go (eqb m n) refl
  where
    go : (b : Bool) → eqb m n ≡ b → (m ≡ n) ⊎ (m ≡ n → ⊥)
    go true e = inl (eqb-true m n e)
    go false e = inr (λ q. bool_no (sym (eq-eqb m n q) ∙ e))

-- ---- the first that passes

record Least (test : ℕ → Bool) (n k r : ℕ) : Type 0 where
  low : k ≤ r
  high : r ≤ k + n
  passes : test r ≡ true
  before : (j : ℕ) → k ≤ j → j < r → test j ≡ false

-- where one of those looked at passes
seek_least : (test : ℕ → Bool) (n k m : ℕ) → k ≤ m → m ≤ k + n → test m ≡ true → Least test n k (seek test n k)
unfolding seek
seek_least test zero k m a b e = record { low = omega arith; high = omega arith; passes = (let z : k ≡ m = omega arith in ap test z) ∙ e; before = λ j x y. absurd (omega arith) }
seek_least test (suc n) k m a b e = go (test k) refl (seek_least test n (suc k) m)
  where
    go : (c : Bool) → test k ≡ c → (suc k ≤ m → m ≤ suc k + n → test m ≡ true → Least test n (suc k) (seek test n (suc k))) → Least test (suc n) k (cond c k (seek test n (suc k)))
    go true q ih = record { low = omega arith; high = omega arith; passes = q; before = λ j x y. absurd (omega arith) }
    go false q ih = rest (le_or_lt (suc k) m)
      where
        first : (j : ℕ) → k ≤ j → (suc k ≤ j → test j ≡ false) → test j ≡ false
        first j x f = pick (le_or_lt (suc k) j)
          where
            pick : (suc k ≤ j) ⊎ (j < suc k) → test j ≡ false
            pick (inl y) = f y
            pick (inr y) = (let z : j ≡ k = omega arith in ap test z) ∙ q

        rest : (suc k ≤ m) ⊎ (m < suc k) → Least test (suc n) k (seek test n (suc k))
        rest (inl l) = let r = ih l (omega arith) e in let lo = r.low in let hi = r.high in record { low = omega arith; high = omega arith; passes = r.passes; before = λ j x y. first j x (λ z. r.before j z y) }
        rest (inr l) = let z : m ≡ k = omega arith in absurd (bool_no (sym e ∙ ap test z ∙ q))

-- ---- what stops a search

stops_name : (name : ℕ → Bytes) (w : Bytes) (v : ℕ) → name v ≡ w → stops name w v ≡ true
unfolding stops
stops_name name w v e = go (eqb v 0)
  where
    go : (b : Bool) → (b || same w (name v)) ≡ true
    go true = refl
    go false = ap (same w) e ∙ same_refl w

stops_inv : (name : ℕ → Bytes) (w : Bytes) (v : ℕ) → stops name w v ≡ true → (v ≡ 0) ⊎ (name v ≡ w)
unfolding stops
stops_inv name w v e = go (eqb v 0) refl e
  where
    go : (b : Bool) → eqb v 0 ≡ b → (b || same w (name v)) ≡ true → (v ≡ 0) ⊎ (name v ≡ w)
    go true q h = inl (eqb-true v 0 q)
    go false q h = inr (sym (same_eq w (name v) h))

-- ---- some entry is free

unfoldable busy : List ℕ → ℕ
busy [] = 0
busy (v ∷ x) = cond (eqb v 0) (busy x) (suc (busy x))

cond_le : (b : Bool) (n : ℕ) → cond b n (suc n) ≤ suc n
cond_le true n = omega arith
cond_le false n = omega arith

le_cond : (b : Bool) (n : ℕ) → n ≤ cond b n (suc n)
le_cond true n = omega arith
le_cond false n = omega arith

busy_set : (x : List ℕ) (q v : ℕ) → busy (set x q v) ≤ suc (busy x)
unfolding busy
busy_set [] q v = omega arith
busy_set (u ∷ x) zero v = omega (arith, cond_le (eqb v 0) (busy x), le_cond (eqb u 0) (busy x))
busy_set (u ∷ x) (suc q) v = go (eqb u 0) (busy_set x q v)
  where
    go : (b : Bool) → busy (set x q v) ≤ suc (busy x) → cond b (busy (set x q v)) (suc (busy (set x q v))) ≤ suc (cond b (busy x) (suc (busy x)))
    go true h = h
    go false h = omega arith

busy_zeros : (n : ℕ) → busy (replicate n 0) ≡ 0
unfolding busy
busy_zeros zero = refl
busy_zeros (suc n) = busy_zeros n

free : (x : List ℕ) → busy x < length x → (q : ℕ) × (q < length x) × (get_or x q 0 ≡ 0)
unfolding busy
free [] h = absurd (omega arith)
free (v ∷ x) h = go (eqb v 0) refl h (free x)
  where
    go : (b : Bool) → eqb v 0 ≡ b → cond b (busy x) (suc (busy x)) < suc (length x) → (busy x < length x → (q : ℕ) × (q < length x) × (get_or x q 0 ≡ 0)) → (q : ℕ) × (q < suc (length x)) × (get_or (v ∷ x) q 0 ≡ 0)
    go true q h ih = (0, omega arith, eqb-true v 0 q)
    go false q h ih = let a = ih (omega arith) in (suc a.0, omega (arith, a.1), a.2)

-- ---- what holds of the index

abbrev at : List ℕ → ℕ → ℕ
at x q = get_or x q 0

place_lt : (w : Bytes) (k : ℕ) → place w k < 2048
place_lt w k = omega arith

-- every entry is on the way round
round : (w : Bytes) (q : ℕ) → q < 2048 → (k : ℕ) × (k < 2048) × (place w k ≡ q)
round w q l = let h = hash_lt 0 w (omega arith) in ((q + 2048 - hash w) % 2048, omega arith, omega arith)

-- from a name's own entry on, every entry up to q is used, and none holds what q holds
record Way (x : List ℕ) (w : Bytes) (q : ℕ) : Type 0 where
  k : ℕ
  small : k < 2048
  here : place w k ≡ q
  busy : (j : ℕ) → j < k → 0 < at x (place w j)
  other : (j : ℕ) → j < k → at x (place w j) ≡ at x q → ⊥

module _ (p : Primitives) where
  record Holds (x : List ℕ) (n : ℕ) : Type 0 where
    size : length x ≡ 2048
    few : busy x ≤ n
    low : (q : ℕ) → at x q ≤ n
    right : (q : ℕ) → q < 2048 → 0 < at x q → latest_of p (p.name (at x q)) n ≡ at x q
    way : (q : ℕ) → q < 2048 → 0 < at x q → Way x (p.name (at x q)) q
    has : (w : Bytes) → 0 < latest_of p w n → (q : ℕ) × (q < 2048) × (at x q ≡ latest_of p w n)

  abbrev hits : Bytes → ℕ → Bool
  hits w n = p.gives n && same w (p.name n)

  latest_new : (w : Bytes) (n : ℕ) → hits w (suc n) ≡ true → latest_of p w (suc n) ≡ suc n
  unfolding latest_of
  latest_new w n e = ap (λ (b : Bool). cond b (suc n) (latest_of p w n)) e

  latest_old : (w : Bytes) (n : ℕ) → hits w (suc n) ≡ false → latest_of p w (suc n) ≡ latest_of p w n
  unfolding latest_of
  latest_old w n e = ap (λ (b : Bool). cond b (suc n) (latest_of p w n)) e

  pub latest_name : (w : Bytes) (n : ℕ) → 0 < latest_of p w n → p.name (latest_of p w n) ≡ w
  unfolding latest_of
  latest_name w zero h = absurd (omega arith)
  latest_name w (suc n) h = go (hits w (suc n)) refl h (latest_name w n)
    where
      go : (b : Bool) → hits w (suc n) ≡ b → 0 < cond b (suc n) (latest_of p w n) → (0 < latest_of p w n → p.name (latest_of p w n) ≡ w) → p.name (cond b (suc n) (latest_of p w n)) ≡ w
      go true q h ih = sym (same_eq w (p.name (suc n)) (and_right (p.gives (suc n)) (same w (p.name (suc n))) q))
      go false q h ih = ih h

  hits_not : (w : Bytes) (n : ℕ) → (p.gives n ≡ true → p.name n ≡ w → ⊥) → hits w n ≡ false
  hits_not w n f = go (hits w n) refl
    where
      go : (b : Bool) → hits w n ≡ b → hits w n ≡ false
      go true e = absurd (f (and_left (p.gives n) (same w (p.name n)) e) (sym (same_eq w (p.name n) (and_right (p.gives n) (same w (p.name n)) e))))
      go false e = e

  hits_of : (w : Bytes) (n : ℕ) → p.gives n ≡ true → p.name n ≡ w → hits w n ≡ true
  hits_of w n g e = (λ i. g i && same w (e i)) ∙ same_refl w

  module _ (x : List ℕ) (n : ℕ) (h : Holds x n) (few : n < 2048) (w : Bytes) where
    test : ℕ → Bool
    test k = stops p.name w (at x (place w k))

    ended : Least test 2047 0 (passed x p.name w)
    unfolding test passed
    ended =
        let f = free x (omega (arith, h.few, h.size)) in
        let k = round w f.0 (omega (arith, f.1, h.size)) in
        seek_least test 2047 0 k.0 (omega arith) (omega (arith, k.1)) (stops_zero p.name w (at x (place w k.0)) (ap (at x) k.2 ∙ f.2))

    -- the way to the latest of that name
    to : 0 < latest_of p w n → (q : ℕ) × (at x q ≡ latest_of p w n) × Way x w q
    to z =
        let a = h.has w z in
        let e : p.name (at x a.0) ≡ w = ap p.name a.2 ∙ latest_name w n z in
        (a.0, a.2, subst (λ (y : Bytes). Way x y a.0) e (h.way a.0 a.1 (omega (arith, a.2))))

    busy_found : 0 < latest_of p w n → 0 < at x (place w (passed x p.name w))
    unfolding test
    busy_found z = go (le_or_lt (passed x p.name w) (to z).2.k)
      where
        go : (passed x p.name w ≤ (to z).2.k) ⊎ ((to z).2.k < passed x p.name w) → 0 < at x (place w (passed x p.name w))
        go (inl l) = pick (le_or_lt (to z).2.k (passed x p.name w))
          where
            pick : ((to z).2.k ≤ passed x p.name w) ⊎ (passed x p.name w < (to z).2.k) → 0 < at x (place w (passed x p.name w))
            pick (inl m) = let e : passed x p.name w ≡ (to z).2.k = omega arith in let u = ap (λ (k : ℕ). at x (place w k)) e ∙ ap (at x) (to z).2.here ∙ (to z).1 in omega arith
            pick (inr m) = (to z).2.busy (passed x p.name w) m
        go (inr l) = absurd (bool_no (sym (stops_name p.name w (at x (place w (to z).2.k)) (ap p.name (ap (at x) (to z).2.here ∙ (to z).1) ∙ latest_name w n z)) ∙ ended.before (to z).2.k (omega arith) l))

    found : at x (place w (passed x p.name w)) ≡ latest_of p w n
    unfolding test
    found = go (le_or_lt (latest_of p w n) 0) (le_or_lt (at x (place w (passed x p.name w))) 0) (stops_inv p.name w (at x (place w (passed x p.name w))) ended.passes)
      where
        go : (latest_of p w n ≤ 0) ⊎ (0 < latest_of p w n) → (at x (place w (passed x p.name w)) ≤ 0) ⊎ (0 < at x (place w (passed x p.name w))) → (at x (place w (passed x p.name w)) ≡ 0) ⊎ (p.name (at x (place w (passed x p.name w))) ≡ w) → at x (place w (passed x p.name w)) ≡ latest_of p w n
        go c (inr z) (inr e) = sym (h.right (place w (passed x p.name w)) (place_lt w (passed x p.name w)) z) ∙ ap (λ (m : Bytes). latest_of p m n) e
        go c (inr z) (inl e) = absurd (omega arith)
        go (inl z) (inl y) e = omega arith
        go (inr z) (inl y) e = absurd (omega (arith, busy_found z))

  -- ---- entering

  module _ (x : List ℕ) (n : ℕ) (h : Holds x n) (few : n < 2048) (g : p.gives (suc n) ≡ true) where
    abbrev w : Bytes
    w = p.name (suc n)

    abbrev r : ℕ
    r = passed x p.name (p.name (suc n))

    abbrev q₀ : ℕ
    q₀ = place (p.name (suc n)) (passed x p.name (p.name (suc n)))

    abbrev x' : List ℕ
    x' = set x (place (p.name (suc n)) (passed x p.name (p.name (suc n)))) (suc n)

    at_new : at x' q₀ ≡ suc n
    at_new = get_or-set_same x q₀ (suc n) 0 (omega (arith, h.size))

    at_old : (q : ℕ) → (q ≡ q₀ → ⊥) → at x' q ≡ at x q
    at_old q f = get_or-set_other x q₀ q (suc n) 0 f

    e₀ : at x q₀ ≡ latest_of p w n
    e₀ = found x n h few w

    l₀ : Least (test x n h few w) 2047 0 r
    l₀ = ended x n h few w

    -- an entry of that name is the one found
    only : (q : ℕ) → q < 2048 → 0 < at x q → p.name (at x q) ≡ w → q ≡ q₀
    unfolding test
    only q l z e = go (le_or_lt r y.k) (le_or_lt y.k r)
      where
        y : Way x w q
        y = subst (λ (m : Bytes). Way x m q) e (h.way q l z)

        v : latest_of p w n ≡ at x q
        v = ap (λ (m : Bytes). latest_of p m n) (sym e) ∙ h.right q l z

        go : (r ≤ y.k) ⊎ (y.k < r) → (y.k ≤ r) ⊎ (r < y.k) → q ≡ q₀
        go (inr a) c = absurd (bool_no (sym (stops_name p.name w (at x (place w y.k)) (ap (λ (u : ℕ). p.name (at x u)) y.here ∙ e)) ∙ l₀.before y.k (omega arith) a))
        go (inl a) (inr b) = absurd (y.other r b (e₀ ∙ v))
        go (inl a) (inl b) = sym y.here ∙ (let t : y.k ≡ r = omega arith in ap (place w) t)

    right' : (q : ℕ) → q < 2048 → 0 < at x' q → latest_of p (p.name (at x' q)) (suc n) ≡ at x' q
    right' q l z = go (eq_or q q₀)
      where
        go : (q ≡ q₀) ⊎ (q ≡ q₀ → ⊥) → latest_of p (p.name (at x' q)) (suc n) ≡ at x' q
        go (inl e) =
            let a : at x' q ≡ suc n = ap (at x') e ∙ at_new in
            ap (λ (k : ℕ). latest_of p (p.name k) (suc n)) a ∙ latest_new w n (hits_of w (suc n) g refl) ∙ sym a
        go (inr f) =
            let a = at_old q f in
            let z' : 0 < at x q = subst (λ (k : ℕ). 0 < k) a z in
            ap (λ (k : ℕ). latest_of p (p.name k) (suc n)) a ∙ latest_old (p.name (at x q)) n (hits_not (p.name (at x q)) (suc n) (λ k e. f (only q l z' (sym e)))) ∙ h.right q l z' ∙ sym a

    busy_new : (q : ℕ) → 0 < at x q → 0 < at x' q
    busy_new q z = go (eq_or q q₀)
      where
        go : (q ≡ q₀) ⊎ (q ≡ q₀ → ⊥) → 0 < at x' q
        go (inl e) = let a : at x' q ≡ suc n = ap (at x') e ∙ at_new in omega arith
        go (inr f) = let a = at_old q f in omega arith

    way₀ : Way x' w q₀
    unfolding test
    way₀ = record { k = r; small = omega (arith, l₀.high); here = refl; busy = λ j l. busy_new (place w j) (pos j l); other = λ j l e. (let a = at_old (place w j) (apart j l) in omega (arith, at_new, h.low (place w j))) }
      where
        pos : (j : ℕ) → j < r → 0 < at x (place w j)
        pos j l = go (le_or_lt (at x (place w j)) 0)
          where
            go : (at x (place w j) ≤ 0) ⊎ (0 < at x (place w j)) → 0 < at x (place w j)
            go (inl z) = let e : at x (place w j) ≡ 0 = omega arith in absurd (bool_no (sym (stops_zero p.name w (at x (place w j)) e) ∙ l₀.before j (omega arith) l))
            go (inr z) = z

        apart : (j : ℕ) → j < r → place w j ≡ q₀ → ⊥
        apart j l e = let k = l₀.high in omega arith

    way' : (q : ℕ) → q < 2048 → 0 < at x' q → Way x' (p.name (at x' q)) q
    way' q l z = go (eq_or q q₀)
      where
        go : (q ≡ q₀) ⊎ (q ≡ q₀ → ⊥) → Way x' (p.name (at x' q)) q
        go (inl e) =
            let a : at x' q ≡ suc n = ap (at x') e ∙ at_new in
            subst (λ (k : ℕ). Way x' (p.name k) q) (sym a) (subst (Way x' w) (sym e) way₀)
        go (inr f) =
            let a = at_old q f in
            let z' : 0 < at x q = subst (λ (k : ℕ). 0 < k) a z in
            subst (λ (k : ℕ). Way x' (p.name k) q) (sym a) (kept a (h.way q l z'))
          where
            kept : at x' q ≡ at x q → Way x (p.name (at x q)) q → Way x' (p.name (at x q)) q
            kept a y = record { k = y.k; small = y.small; here = y.here; busy = λ j l. busy_new (place (p.name (at x q)) j) (y.busy j l); other = λ j l e. pick (place (p.name (at x q)) j) (eq_or (place (p.name (at x q)) j) q₀) (y.other j l) e }
              where
                pick : (u : ℕ) → (u ≡ q₀) ⊎ (u ≡ q₀ → ⊥) → (at x u ≡ at x q → ⊥) → at x' u ≡ at x' q → ⊥
                pick u (inl e) o t = let b : at x' u ≡ suc n = ap (at x') e ∙ at_new in omega (arith, h.low q)
                pick u (inr f) o t = o (sym (at_old u f) ∙ t ∙ a)

    has' : (m : Bytes) → 0 < latest_of p m (suc n) → (q : ℕ) × (q < 2048) × (at x' q ≡ latest_of p m (suc n))
    has' m z = go (hits m (suc n)) refl
      where
        go : (b : Bool) → hits m (suc n) ≡ b → (q : ℕ) × (q < 2048) × (at x' q ≡ latest_of p m (suc n))
        go true e = (q₀, place_lt w r, at_new ∙ sym (latest_new m n e))
        go false e =
            let o = latest_old m n e in
            let z' : 0 < latest_of p m n = subst (λ (k : ℕ). 0 < k) o z in
            let a = h.has m z' in
            (a.0, a.1, at_old a.0 (λ q. differ z' (sym e₀ ∙ ap (at x) (sym q) ∙ a.2)) ∙ a.2 ∙ sym o)
          where
            differ : 0 < latest_of p m n → latest_of p w n ≡ latest_of p m n → ⊥
            differ z' q =
                let u : w ≡ m = sym (latest_name w n (omega arith)) ∙ ap p.name q ∙ latest_name m n z' in
                bool_no (sym (hits_of m (suc n) g u) ∙ e)

    enters : Holds x' (suc n)
    enters = record { size = simp length-set h.size; few = omega (arith, busy_set x q₀ (suc n), h.few); low = low'; right = right'; way = way'; has = has' }
      where
        low' : (q : ℕ) → at x' q ≤ suc n
        low' q = go (eq_or q q₀)
          where
            go : (q ≡ q₀) ⊎ (q ≡ q₀ → ⊥) → at x' q ≤ suc n
            go (inl e) = let a : at x' q ≡ suc n = ap (at x') e ∙ at_new in omega arith
            go (inr f) = let a = at_old q f in omega (arith, h.low q)

  -- a surface is not entered
  skips : (x : List ℕ) (n : ℕ) → p.gives (suc n) ≡ false → Holds x n → Holds x (suc n)
  skips x n g h = record { size = h.size; few = (let k = h.few in omega arith); low = λ q. (let k = h.low q in omega arith); right = λ q l z. same_latest (p.name (at x q)) ∙ h.right q l z; way = h.way; has = λ w z. (let a = h.has w (subst (λ (k : ℕ). 0 < k) (same_latest w) z) in (a.0, a.1, a.2 ∙ sym (same_latest w))) }
    where
      same_latest : (w : Bytes) → latest_of p w (suc n) ≡ latest_of p w n
      same_latest w = latest_old w n (hits_not w (suc n) (λ k e. bool_no (sym k ∙ g)))

  zeros_low : (n q : ℕ) → at (replicate n 0) q ≤ 0
  zeros_low zero q = omega arith
  zeros_low (suc n) zero = omega arith
  zeros_low (suc n) (suc q) = zeros_low n q

  blank : (n : ℕ) → n ≡ 2048 → Holds (replicate n 0) 0
  unfolding latest_of
  blank n e = record { size = length-replicate n 0 ∙ e; few = omega (arith, busy_zeros n); low = zeros_low n; right = λ q l z. absurd (omega (arith, zeros_low n q)); way = λ q l z. absurd (omega (arith, zeros_low n q)); has = λ w z. absurd (omega arith) }

  holds : (n : ℕ) → n ≤ 2048 → Holds (index_by p n) n
  unfolding index_by
  holds zero l = blank 2048 refl
  holds (suc n) l = go (p.gives (suc n)) refl (holds n (omega arith))
    where
      go : (b : Bool) → p.gives (suc n) ≡ b → Holds (index_by p n) n → Holds (cond b (entered (index_by p n) p.name (p.name (suc n)) (suc n)) (index_by p n)) (suc n)
      go true e h = enters (index_by p n) n h (omega arith) e
      go false e h = skips (index_by p n) n e h

  -- As long as fewer than 2,048 are entered, a search of the index finds the latest non-surface of that name, and 0 for none
  pub finds : (n : ℕ) → n < 2048 → (w : Bytes) → number_of (index_by p n) p.name w ≡ latest_of p w n
  finds n l w = found (index_by p n) n (holds n (omega arith)) l w

  -- an index has 2,048 entries, none above n
  pub index_length : (n : ℕ) → n ≤ 2048 → length (index_by p n) ≡ 2048
  index_length n l = (holds n l).size

  pub index_low : (n : ℕ) → n ≤ 2048 → (q : ℕ) → get_or (index_by p n) q 0 ≤ n
  index_low n l = (holds n l).low
