-- What `Shortest` works out is a shortest chain.
use mathlib.Core.Bool.{Bool, true, false}
use mathlib.Core.List.{List, [], ◌∷◌}
use mathlib.Core.Logic.{◌⊎◌, inl, inr}
use mathlib.Core.Path.{◌≡◌, refl, ap, sym, subst, subst₂}
use Prim.Native.Nat.{ℕ, zero, suc, ◌+◌, ◌-◌, ◌≤◌, ◌<◌}
use native.Mathlib.Omega.{arith}
use borrow.Author.Tests.{eqb-true, eqb-false}
use lib.Dec.{eqb}
use lib.ListN.{get_or}
use Rattle.holding.proofs.ChainLaws.{Leads, chain_on, chain_step, leads_chain, leads_within}
use Rattle.holding.proofs.NearestLaws.{At, First, Nearest, at_low, first_law, nearest_law}
use Rattle.holding.specs.Chain.{Chain, Holds}
use Rattle.holding.specs.Mattered.{DecidesLaw, Shortest}
use Rattle.holding.specs.Shortest.{chain_length, first_link, lengths, nearest, one_more}

module _ (tied : ℕ → ℕ → Bool) where
  -- ---- lengths

  -- d is 0 where nothing leads from k to m, and else one more than the fewest links
  record Measures (m k d : ℕ) : Type 0 where
    none : d ≡ 0 → (j : ℕ) → Leads tied j k m → ⊥
    some : (e : ℕ) → d ≡ suc e → Leads tied e k m × ((j : ℕ) → Leads tied j k m → e ≤ j)

  measures_end : (m : ℕ) → Measures m m 1
  measures_end m = record { none = λ q. absurd (omega (arith, q)); some = λ e q. (inl (refl, omega (arith, q)), λ j h. omega (arith, q)) }

  measures_below : (m i d j : ℕ) → Measures m i d → Leads tied j i m → (0 < d) × (d ≤ suc j)
  measures_below m i zero j h w = absurd (h.none refl j w)
  measures_below m i (suc f) j h w = (omega arith, omega (arith, (h.some f refl).1 j w))

  -- the entries for k, .., m
  record Measured (m k : ℕ) (ds : List ℕ) : Type 0 where
    entries : (i d : ℕ) → At k ds i d → Measures m i d
    covers : (i : ℕ) → k ≤ i → i ≤ m → (d : ℕ) × At k ds i d

  module _ (m k : ℕ) (l : k < m) (ds : List ℕ) (h : Measured m (suc k) ds) where
    -- where a chain goes first, there is an entry, no more than its links
    nearest_below : (x j : ℕ) → Nearest tied k (suc k) ds 0 x → Chain tied j k m → (0 < x) × (x ≤ j)
    nearest_below x j n c =
        let s = chain_step tied c in
        let a = h.covers s.to s.above (leads_within tied s.less s.to m s.rest) in
        let b = measures_below m s.to a.0 s.less (h.entries s.to a.0 a.1) s.rest in
        let y = n.least s.to a.0 a.1 s.bound b.0 in
        (y.0, omega (arith, s.one))

    nearest_chain : (x : ℕ) → Nearest tied k (suc k) ds 0 (suc x) → Chain tied (suc x) k m
    nearest_chain x n = go n.among
      where
        go : (suc x ≡ 0) ⊎ ((i : ℕ) × At (suc k) ds i (suc x) × (tied k i ≡ true)) → Chain tied (suc x) k m
        go (inl e) = absurd (omega (arith, e))
        go (inr (i, a, t)) = chain_on tied k i x m (at_low (suc k) ds i (suc x) a) t ((h.entries i (suc x) a).some x refl).0

    measures_step : (x : ℕ) → Nearest tied k (suc k) ds 0 x → Measures m k (one_more tied x)
    measures_step zero n = record {
      none = λ q j w. omega (arith, (nearest_below 0 j n (leads_chain tied j k m l w)).0);
      some = λ e q. absurd (omega (arith, q));
    }
    measures_step (suc x) n = record {
      none = λ q. absurd (omega (arith, q));
      some = λ e q. let c : suc x ≡ e = omega (arith, q) in (inr (subst (λ (j : ℕ). Chain tied j k m) c (nearest_chain x n)), λ j w. omega (arith, c, (nearest_below (suc x) j n (leads_chain tied j k m l w)).1));
    }

  measured_more : (m k d : ℕ) (ds : List ℕ) → Measures m k d → Measured m (suc k) ds → Measured m k (d ∷ ds)
  measured_more m k d ds h r = record { entries = each; covers = λ i l b. go i (eqb i k) refl l b }
    where
      each : (i e : ℕ) → At k (d ∷ ds) i e → Measures m i e
      each i e (inl a) = subst₂ (Measures m) (sym a.0) (sym a.1) h
      each i e (inr a) = r.entries i e a

      go : (i : ℕ) (b : Bool) → eqb i k ≡ b → k ≤ i → i ≤ m → (e : ℕ) × At k (d ∷ ds) i e
      go i true q l b = (d, inl (eqb-true i k q, refl))
      go i false q l b = let n = eqb-false i k q in let a = r.covers i (omega arith) b in (a.0, inr a.1)

  lengths_measured : (m c k : ℕ) → k + c ≡ m → Measured m k (lengths tied m c)
  unfolding lengths
  lengths_measured m zero k e = measured_more m k 1 [] (subst (λ (i : ℕ). Measures m i 1) (omega (arith, e)) (measures_end m)) (record { entries = λ i d a. absurd a; covers = λ i l b. absurd (omega (arith, e)) })
  lengths_measured m (suc c) k e =
      let r = lengths_measured m c (suc k) (omega (arith, e)) in
      let a : k ≡ m - suc c = omega (arith, e) in
      let b : suc k ≡ m - c = omega (arith, e) in
      let ds = lengths tied m c in
      measured_more m k (one_more tied (nearest tied (m - suc c) (m - c) ds 0)) ds (subst₂ (λ (x y : ℕ). Measures m k (one_more tied (nearest tied x y ds 0))) a b (measures_step m k (omega (arith, e)) ds r (nearest tied k (suc k) ds 0) (nearest_law tied k (suc k) ds 0))) r

  lengths_first : (m c k : ℕ) → At k (lengths tied m c) k (get_or (lengths tied m c) 0 0)
  unfolding lengths
  lengths_first m zero k = inl (refl, refl)
  lengths_first m (suc c) k = inl (refl, refl)

  -- ---- the first link

  module _ (n m : ℕ) (l : n < m) where
    abbrev ds : List ℕ
    ds = lengths tied m (m - suc n)

    abbrev long : ℕ
    long = chain_length tied n m

    behind : Measured m (suc n) ds
    behind = lengths_measured m (m - suc n) (suc n) (omega arith)

    own : Measures m n long
    unfolding chain_length
    own = (lengths_measured m (m - n) n (omega arith)).entries n long (lengths_first m (m - n) n)

    first : First tied n long (suc n) ds (first_link tied n m)
    unfolding first_link
    first = first_law tied n long (suc n) ds (omega arith)

    -- where a shortest chain may go first, the entry has one less
    entry : (i j : ℕ) → long ≡ suc (suc j) → n < i → tied n i ≡ true → Leads tied j i m → At (suc n) ds i (suc j)
    entry i j e a t w =
        let c = behind.covers i a (leads_within tied j i m w) in
        go c.0 c.1 (measures_below m i c.0 j (behind.entries i c.0 c.1) w) (behind.entries i c.0 c.1)
      where
        go : (d : ℕ) → At (suc n) ds i d → (0 < d) × (d ≤ suc j) → Measures m i d → At (suc n) ds i (suc j)
        go zero b y h = absurd (omega (arith, y.0))
        go (suc f) b y h =
            let k : suc j ≤ suc f = (own.some (suc j) e).1 (suc f) (inr (chain_on tied n i f m a t (h.some f refl).0)) in
            let q : suc f ≡ suc j = omega (arith, y.1) in
            subst (At (suc n) ds i) q b

    none_held : first_link tied n m ≡ 0 → Holds tied n m → ⊥
    none_held q (j, c) = go long refl own
      where
        go : (x : ℕ) → long ≡ x → Measures m n x → ⊥
        go zero e h = h.none refl j (inr c)
        go (suc x) e h =
            let s = chain_step tied (leads_chain tied x n m l (h.some x refl).0) in
            let y = first.lowest s.to (suc s.less) (entry s.to s.less (omega (arith, e, s.one)) s.above s.bound s.rest) (omega (arith, e, s.one)) s.bound in
            omega (arith, q, y.0)

    module _ (x : ℕ) (a : At (suc n) ds (first_link tied n m) (suc x)) (e : suc (suc x) ≡ long) (t : tied n (first_link tied n m) ≡ true) where
      on_from : Leads tied x (first_link tied n m) m → ((first_link tied n m ≡ m) × (suc x ≡ 1)) ⊎ ((j : ℕ) × (suc x ≡ suc j) × Chain tied j (first_link tied n m) m)
      on_from (inl h) = inl (h.0, ap suc h.1)
      on_from (inr c) = inr (x, refl, c)

      leads_rest : (i j : ℕ) → ((i ≡ m) × (suc x ≡ 1)) ⊎ ((suc x ≡ suc j) × Chain tied j i m) → Leads tied x i m
      leads_rest i j (inl h) = inl (h.0, omega (arith, h.1))
      leads_rest i j (inr h) = let q : j ≡ x = omega (arith, h.0) in inr (subst (λ (k : ℕ). Chain tied k i m) q h.1)

      by_first : Shortest tied n m (first_link tied n m)
      by_first =
          let k = own.some (suc x) (sym e) in
          record {
            links = suc x;
            chain = leads_chain tied (suc x) n m l k.0;
            least = λ j c. k.1 j (inr c);
            above = at_low (suc n) ds (first_link tied n m) (suc x) a;
            bound = t;
            rest = on_from ((behind.entries (first_link tied n m) (suc x) a).some x refl).0;
            lowest = λ i j b u h. (first.lowest i (suc x) (entry i x (sym e) b u (leads_rest i j h)) e u).1;
          }

    shortest : 0 < first_link tied n m → Shortest tied n m (first_link tied n m)
    shortest z = let a = first.found z in go a.0 a.1 a.2 a.3
      where
        go : (d : ℕ) → At (suc n) ds (first_link tied n m) d → suc d ≡ long → tied n (first_link tied n m) ≡ true → Shortest tied n m (first_link tied n m)
        go zero a e t = absurd (omega (arith, (chain_step tied (leads_chain tied 0 n m l (own.some 0 (sym e)).0)).one))
        go (suc x) a e t = by_first x a e t

pub decides : DecidesLaw
decides tied n m l = record { none = none_held tied n m l; some = shortest tied n m l }
