-- The walk: one law for each way a step ends, and for one step after another.
use mathlib.Core.Bool.{Bool, true, false}
use mathlib.Core.List.{List, [], ◌∷◌}
use mathlib.Core.Logic.{◌⊎◌, inl, inr}
use mathlib.Core.Path.{◌≡◌, refl, ap, sym, ◌∙◌, subst}
use Prim.Native.Nat.{ℕ, zero, suc, ◌-◌, ◌<◌, ◌≤◌}
use native.Mathlib.Omega.{arith}
use lib.ListN.{length, get_or, set, replicate, length-replicate, length-set}
use Rattle.graph.specs.Paths.{Way, one, on}
use Rattle.graph.specs.Graph.{Graph, link, links, goes_on}
use Rattle.mixtures.specs.Walk.{Marked, Onward, Ready, Walked, Reaches, ReachesFrom, Steps, StepsAside}
use Rattle.mixtures.proofs.MarkLaws.{marked_here, marked_kept, marked_inv, unmarked_set, unmarked_le, unmarked_length, none_marked}
use Rattle.graph.proofs.GraphLaws.{Among, link_of, link_inv}

-- ---- what a step is asked

lies : (n : ℕ) → (n ≡ 0 → ⊥) → 0 < n
lies zero f = absurd (f refl)
lies (suc n) f = omega arith

module _ {g : Graph} {M : List ℕ} {m d : ℕ} (r : Ready g M m d) where
  marked_first : (x : ℕ) → get_or M m 0 ≡ 0 → x < length M → Ready g (set M m 1) x (d - 1)
  marked_first x e h =
      let l = length-set M m 1 in
      let u = unmarked_set M m r.here e in
      record { within = rw l r.within; here = rw l h; deep = omega (arith, r.deep) }

  walked_first : {through : Bool} {N ms : List ℕ} (x : ℕ) → Walked g through M N ms → x < length M → Ready g N x d
  walked_first {through} {N} {ms} x w h =
      let l = w.same in
      let u = unmarked_le M N l w.kept in
      record { within = rw l r.within; here = rw l h; deep = omega (arith, r.deep) }

  pub at_modifier : {x : ℕ} → (m ≡ 0 → ⊥) → get_or M m 0 ≡ 0 → x ≡ (g.nodes m).modifier → Ready g (set M m 1) x (d - 1)
  at_modifier {x} f e q = marked_first x e (omega (arith, q, r.within.modifier m (lies m f) r.here, r.here))

  pub at_foreground : {x : ℕ} → 0 < m → x ≡ (g.sides m).foreground → Ready g M x d
  at_foreground {x} z q = record { within = r.within; here = rw q (r.within.foreground m z r.here); deep = r.deep }

  pub at_background : {through : Bool} {N ms : List ℕ} {x : ℕ} → 0 < m → Walked g through M N ms → x ≡ (g.sides m).background → Ready g N x d
  at_background {x = x} z w q = walked_first x w (rw q (r.within.background m z r.here))

pub at_mixture : {g : Graph} {M : List ℕ} {m d : ℕ} {through : Bool} {N ms : List ℕ} → Ready g M m d → (m ≡ 0 → ⊥) → get_or M m 0 ≡ 0 → Walked g through (set M m 1) N ms → (0 < m) × Ready g N m (d - 1)
at_mixture {g} {M} {m} {d} r z e w =
    let f = marked_first r m e r.here in
    (lies m z, walked_first f m w f.here)

pub ready_then : {g : Graph} {M : List ℕ} {m d : ℕ} {through : Bool} {N ms : List ℕ} → Ready g M m d → (x : ℕ) → Walked g through M N ms → x < length M → Ready g N x d
ready_then r x w h = walked_first r x w h

module _ (g : Graph) (through : Bool) where
  -- ---- one step

  pub to_none : (M : List ℕ) (m : ℕ) → m ≡ 0 → Walked g through M M (m ∷ [])
  to_none M m e = record {
    same = refl;
    kept = λ k h. h;
    begun = λ k a z. (go k a z);
    reached = λ k h. inl h;
    closed = λ a b h. inl h;
  }
    where
      go : (k : ℕ) → Among k (m ∷ []) → 0 < k → Marked M k
      go k (inl q) z = absurd (omega arith)
      go k (inr q) z = absurd q

  pub to_marked : (M : List ℕ) (m : ℕ) → Marked M m → Walked g through M M (m ∷ [])
  to_marked M m h = record {
    same = refl;
    kept = λ k h. h;
    begun = λ k a z. (go k a);
    reached = λ k h. inl h;
    closed = λ a b h. inl h;
  }
    where
      go : (k : ℕ) → Among k (m ∷ []) → Marked M k
      go k (inl q) = subst (Marked M) (sym q) h
      go k (inr q) = absurd q

  module _ (M : List ℕ) (m : ℕ) (l : m < length M) (z : 0 < m) where
    from_set : (k : ℕ) → (k ≡ m) ⊎ Marked M k → Marked M k ⊎ ((j : ℕ) × (0 < j) × Among j (m ∷ []) × Onward g through j k)
    from_set k (inl e) = inr (m, z, inl refl, inl e)
    from_set k (inr h) = inl h

    pub to_stop : goes_on g through m ≡ false → Walked g through M (set M m 1) (m ∷ [])
    to_stop f = record {
      same = length-set M m 1;
      kept = marked_kept M m l;
      begun = λ k a p. (begins k a);
      reached = λ k h. (from_set k (marked_inv M m l k h));
      closed = λ a b h. (close a b (marked_inv M m l a h));
    }
      where
        begins : (k : ℕ) → Among k (m ∷ []) → Marked (set M m 1) k
        begins k (inl q) = subst (Marked (set M m 1)) (sym q) (marked_here M m l)
        begins k (inr q) = absurd q

        close : (a b : ℕ) → (a ≡ m) ⊎ Marked M a → Marked M a ⊎ (goes_on g through a ≡ true → link g a b ≡ true → Marked (set M m 1) b)
        close a b (inl e) = inr (λ p q. (let y = ap (goes_on g through) e in let x : ◌≡◌ {A = Bool} true false = sym p ∙ y ∙ f in let w : ◌≡◌ {A = ℕ} 0 1 = cc in absurd (omega arith)))
        close a b (inr h) = inl h

    pub to_new : (N : List ℕ) → goes_on g through m ≡ true → Walked g through (set M m 1) N (links g m) → Walked g through M N (m ∷ [])
    to_new N p w = record {
      same = w.same ∙ length-set M m 1;
      kept = λ k h. w.kept k (marked_kept M m l k h);
      begun = λ k a q. (begins k a);
      reached = λ k h. (reach k (w.reached k h));
      closed = λ a b h. (close a b (w.closed a b h));
    }
      where
        begins : (k : ℕ) → Among k (m ∷ []) → Marked N k
        begins k (inl q) = subst (Marked N) (sym q) (w.kept m (marked_here M m l))
        begins k (inr q) = absurd q

        lead : (j k : ℕ) → link g m j ≡ true → Onward g through j k → Way (link g) (goes_on g through) m k
        lead j k e (inl q) = subst (Way (link g) (goes_on g through) m) (sym q) (one e)
        lead j k e (inr q) = on j e q.0 q.1

        reach : (k : ℕ) → Marked (set M m 1) k ⊎ ((j : ℕ) × (0 < j) × Among j (links g m) × Onward g through j k) → Marked M k ⊎ ((j : ℕ) × (0 < j) × Among j (m ∷ []) × Onward g through j k)
        reach k (inl h) = from_set k (marked_inv M m l k h)
        reach k (inr q) = inr (m, z, inl refl, inr (p, lead q.0 k (link_of g m q.0 q.1 q.2) q.3))

        fresh : (a b : ℕ) → (a ≡ m) ⊎ Marked M a → Marked M a ⊎ (goes_on g through a ≡ true → link g a b ≡ true → Marked N b)
        fresh a b (inl e) = inr (λ p q. (let i = link_inv g m b (subst (λ (x : ℕ). link g x b ≡ true) e q) in w.begun b i.1 i.0))
        fresh a b (inr h) = inl h

        close : (a b : ℕ) → Marked (set M m 1) a ⊎ (goes_on g through a ≡ true → link g a b ≡ true → Marked N b) → Marked M a ⊎ (goes_on g through a ≡ true → link g a b ≡ true → Marked N b)
        close a b (inl h) = fresh a b (marked_inv M m l a h)
        close a b (inr f) = inr f

  -- ---- one step after another

  pub and_then : (M N O : List ℕ) (m : ℕ) (ms : List ℕ) → Walked g through M N (m ∷ []) → Walked g through N O ms → Walked g through M O (m ∷ ms)
  and_then M N O m ms v w = record {
    same = w.same ∙ v.same;
    kept = λ k h. w.kept k (v.kept k h);
    begun = λ k a z. (begins k a z);
    reached = λ k h. (later k (w.reached k h));
    closed = λ a b h. (second a b (w.closed a b h));
  }
    where
      begins : (k : ℕ) → Among k (m ∷ ms) → 0 < k → Marked O k
      begins k (inl q) z = w.kept k (v.begun k (inl q) z)
      begins k (inr q) z = w.begun k q z

      Source : List ℕ → ℕ → Type 0
      Source ns k = (j : ℕ) × (0 < j) × Among j ns × Onward g through j k

      only : (j : ℕ) → Among j (m ∷ []) → Among j (m ∷ ms)
      only j (inl q) = inl q
      only j (inr q) = absurd q

      earlier : (k : ℕ) → Marked M k ⊎ Source (m ∷ []) k → Marked M k ⊎ Source (m ∷ ms) k
      earlier k (inl h) = inl h
      earlier k (inr q) = inr (q.0, q.1, only q.0 q.2, q.3)

      later : (k : ℕ) → Marked N k ⊎ Source ms k → Marked M k ⊎ Source (m ∷ ms) k
      later k (inl h) = earlier k (v.reached k h)
      later k (inr q) = inr (q.0, q.1, inr q.2, q.3)

      first : (a b : ℕ) → Marked M a ⊎ (goes_on g through a ≡ true → link g a b ≡ true → Marked N b) → Marked M a ⊎ (goes_on g through a ≡ true → link g a b ≡ true → Marked O b)
      first a b (inl h) = inl h
      first a b (inr f) = inr (λ p e. w.kept b (f p e))

      second : (a b : ℕ) → Marked N a ⊎ (goes_on g through a ≡ true → link g a b ≡ true → Marked O b) → Marked M a ⊎ (goes_on g through a ≡ true → link g a b ≡ true → Marked O b)
      second a b (inl h) = first a b (v.closed a b h)
      second a b (inr f) = inr f

  -- ---- the whole walk, from no marks

  pub all_reached : (size : ℕ) (N : List ℕ) (n : ℕ) → Walked g through (replicate size 0) N (links g n) → Reaches g through n N
  all_reached size N n w = record {
    sound = λ k h. (source k (w.reached k h));
    whole = λ k p. (follow n k p (λ c e. (let i = link_inv g n c e in w.begun c i.1 i.0)));
  }
    where
      lead : (j k : ℕ) → link g n j ≡ true → Onward g through j k → Way (link g) (goes_on g through) n k
      lead j k e (inl q) = subst (Way (link g) (goes_on g through) n) (sym q) (one e)
      lead j k e (inr q) = on j e q.0 q.1

      source : (k : ℕ) → Marked (replicate size 0) k ⊎ ((j : ℕ) × (0 < j) × Among j (links g n) × Onward g through j k) → Way (link g) (goes_on g through) n k
      source k (inl h) = absurd (none_marked size k h)
      source k (inr q) = lead q.0 k (link_of g n q.0 q.1 q.2) q.3

      on_from : (a b : ℕ) → Marked (replicate size 0) a ⊎ (goes_on g through a ≡ true → link g a b ≡ true → Marked N b) → goes_on g through a ≡ true → link g a b ≡ true → Marked N b
      on_from a b (inl h) p e = absurd (none_marked size a h)
      on_from a b (inr f) p e = f p e

      follow : (a b : ℕ) → Way (link g) (goes_on g through) a b → ((c : ℕ) → link g a c ≡ true → Marked N c) → Marked N b
      follow a b (one e) h = h b e
      follow a b (on c e p x) h = follow c b x (λ d f. on_from c d (w.closed c d (h c e)) p f)

-- ---- the promises, one law for each way a step ends

module _ {g : Graph} {through : Bool} {M : List ℕ} {m d : ℕ} where
  pub step_none : m ≡ 0 → Steps g through m d M M
  step_none e r = to_none g through M m e

  pub step_outside : length M ≤ m → Steps g through m d M M
  step_outside h r = absurd (omega (arith, r.here))

  pub step_marked : (get_or M m 0 ≡ 0 → ⊥) → Steps g through m d M M
  step_marked f r = to_marked g through M m (lies (get_or M m 0) f)

  -- a primitive that is not marked leaves some depth
  pub step_bounded : get_or M m 0 ≡ 0 → d ≡ 0 → Steps g through m d M M
  step_bounded e z r = absurd (omega (arith, unmarked_set M m r.here e, r.deep))

  module _ (some : m ≡ 0 → ⊥) {p : Bool} (e : p ≡ goes_on g through m) where
    pub step_stops : p ≡ false → Steps g through m d M (set M m 1)
    step_stops q r = to_stop g through M m r.here (lies m some) (sym e ∙ q)

    pub step_goes_on : get_or M m 0 ≡ 0 → p ≡ true → {x : ℕ} {N O : List ℕ} → x ≡ (g.nodes m).modifier → Steps g through x (d - 1) (set M m 1) N → StepsAside g through m (d - 1) N O → Steps g through m d M O
    step_goes_on u q {x} {N} {O} h first second r =
        let v = first (at_modifier r some u h) in
        let w = at_mixture r some u v in
        to_new g through M m r.here (lies m some) O (sym e ∙ q)
        (and_then g through (set M m 1) N O (g.nodes m).modifier ((g.sides m).foreground ∷ (g.sides m).background ∷ []) (subst (λ (y : ℕ). Walked g through (set M m 1) N (y ∷ [])) h v) (second w.0 w.1))

  pub steps_aside : {x y : ℕ} {N O : List ℕ} → x ≡ (g.sides m).foreground → y ≡ (g.sides m).background → Steps g through x d M N → Steps g through y d N O → StepsAside g through m d M O
  steps_aside {x} {y} {N} {O} h k first second z r =
      let v = first (at_foreground r z h) in
      let w = second (at_background r z v k) in
      and_then g through M N O (g.sides m).foreground ((g.sides m).background ∷ [])
      (subst (λ (n : ℕ). Walked g through M N (n ∷ [])) h v)
      (subst (λ (n : ℕ). Walked g through N O (n ∷ [])) k w)

-- ---- the whole walk, from no marks

cleared : {N : List ℕ} (size : ℕ) → N ≡ replicate size 0 → length N ≡ size
cleared size e = ap length e ∙ length-replicate size 0

pub reaches_from : (g : Graph) (through : Bool) (n size : ℕ) {x : ℕ} {N O P : List ℕ} → N ≡ replicate size 0 → x ≡ (g.nodes n).modifier → Steps g through x (length N) N O → StepsAside g through n (length N) O P → ReachesFrom g through n size P
reaches_from g through n size {x} {N} {O} {P} e q first second w z h =
    let l = cleared size e in
    let start : Ready g N x (length N) = record { within = rw l w; here = omega (arith, l, q, w.modifier n z h); deep = unmarked_length N } in
    let v = first start in
    let u = second z (ready_then start n v (rw l h)) in
    all_reached g through size P n
    (subst (λ (M : List ℕ). Walked g through M P (links g n)) e
    (and_then g through N O P (g.nodes n).modifier ((g.sides n).foreground ∷ (g.sides n).background ∷ []) (subst (λ (y : ℕ). Walked g through N O (y ∷ [])) q v) u))
