-- Whether a table can be walked: one law for each answer.
use mathlib.Core.Bool.{Bool, true, false, cond, not, ◌&&◌}
use mathlib.Core.List.{List}
use mathlib.Core.Logic.{◌⊎◌, inl, inr}
use mathlib.Core.Path.{◌≡◌, refl, ap, sym, ◌∙◌, subst}
use Prim.Native.Nat.{ℕ, zero, suc, ◌+◌, ◌*◌, ◌/◌, ◌≤◌, ◌<◌}
use native.Mathlib.Numerals.{add-one}
use native.Mathlib.Omega.{arith}
use borrow.Author.Tests.{le-leb, lt-leb, leb-true, lt-ltb, le-ltb, ltb-true, eq-eqb, ne_eqb, eqb-true}
use lib.Dec.{eqb, leb, ltb}
use lib.ListN.{length}
use Rattle.graph.proofs.GraphLaws.{or_inv}
use Rattle.graph.proofs.GraphLaws.{mixture_number}
use Rattle.graph.specs.Graph.{Graph, mixture_type}
use Rattle.laws.proofs.BoolLaws.{and_left, and_right}
use Rattle.laws.proofs.NatLaws.{le_or_lt}
use Rattle.mixtures.specs.Walk.{Within}
use Rattle.scene.specs.Types.{is_surface, is_type}
use Rattle.shown.specs.Code.{Numbered}
use Rattle.shown.specs.List.{every, link_fits, pair_refusal, primitive_fits, side_fits}
use Rattle.table.specs.Question.{number_refusal}
use Rattle.table.specs.View.{View}

-- ---- a link, and a side

module _ (v : View) (m : ℕ) where
  pub link_none : m ≡ 0 → true ≡ link_fits v m
  unfolding link_fits
  link_none e = rw e

  pub link_by_type : (m ≡ 0 → ⊥) → {s : Bool} → s ≡ is_surface (v m).type → not s ≡ link_fits v m
  unfolding link_fits
  link_by_type z e = rw (ne_eqb m 0 z) (ap not e)

  module _ (count n : ℕ) where
    pub side_none : m ≡ 0 → true ≡ side_fits v count n m
    unfolding side_fits
    side_none e = rw e

    module _ (z : m ≡ 0 → ⊥) where
      pub side_over : count < m → false ≡ side_fits v count n m
      unfolding side_fits
      side_over h = rw (ne_eqb m 0 z, lt-leb m count h)

      module _ (h : m ≤ count) {t : ℕ} (e : t ≡ (v n).type) where
        pub side_other : (t ≡ 25 → ⊥) → false ≡ side_fits v count n m
        unfolding side_fits
        side_other f = rw (ne_eqb m 0 z, le-leb m count h, ne_eqb (v n).type mixture_type (λ q. f (e ∙ q ∙ mixture_number)))

        pub side_by_type : t ≡ 25 → {s : Bool} → s ≡ is_surface (v m).type → not s ≡ side_fits v count n m
        unfolding side_fits
        side_by_type f q = rw (ne_eqb m 0 z, le-leb m count h, eq-eqb (v n).type mixture_type (sym e ∙ f ∙ sym mixture_number)) (ap not q)

    side_within : side_fits v count n m ≡ true → m ≤ count
    unfolding side_fits
    side_within e = go (or_inv (eqb m 0) (leb m count && eqb (v n).type mixture_type && not (is_surface (v m).type)) e)
      where
        go : (eqb m 0 ≡ true) ⊎ ((leb m count && eqb (v n).type mixture_type && not (is_surface (v m).type)) ≡ true) → m ≤ count
        go (inl h) = let z = eqb-true m 0 h in omega arith
        go (inr h) = leb-true m count (and_left (leb m count) (eqb (v n).type mixture_type) (and_left (leb m count && eqb (v n).type mixture_type) (not (is_surface (v m).type)) h))

-- ---- a primitive

module _ (g : Graph) (count n : ℕ) where
  pub type_outside : is_type (g.nodes n).type ≡ false → false ≡ primitive_fits g count n
  unfolding primitive_fits
  type_outside e = rw e

  module _ (t : is_type (g.nodes n).type ≡ true) {m : ℕ} (e : m ≡ (g.nodes n).modifier) where
    pub link_up : n ≤ m → false ≡ primitive_fits g count n
    unfolding primitive_fits
    link_up h = rw (t, le-ltb (g.nodes n).modifier n (omega arith))

    pub links_fit : m < n → {a b c f k : _} → a ≡ link_fits g.nodes m → f ≡ (g.sides n).foreground → b ≡ side_fits g.nodes count n f → k ≡ (g.sides n).background → c ≡ side_fits g.nodes count n k → (a && b && c) ≡ primitive_fits g count n
    unfolding primitive_fits
    links_fit h p q r s u =
        rw (t, lt-ltb (g.nodes n).modifier n (omega arith))
        (λ i. (p ∙ ap (link_fits g.nodes) e) i && (r ∙ ap (side_fits g.nodes count n) q) i && (u ∙ ap (side_fits g.nodes count n) s) i)

  record Fit : Type 0 where
    modifier : (g.nodes n).modifier < n
    foreground : (g.sides n).foreground ≤ count
    background : (g.sides n).background ≤ count

  fit_of : primitive_fits g count n ≡ true → Fit
  unfolding primitive_fits
  fit_of e =
      let v = g.nodes in
      let A = is_type (v n).type in
      let B = ltb (v n).modifier n in
      let C = link_fits v (v n).modifier in
      let D = side_fits v count n (g.sides n).foreground in
      let E = side_fits v count n (g.sides n).background in
      let abcd = and_left (A && B && C && D) E e in
      let abc = and_left (A && B && C) D abcd in
      record {
        modifier = ltb-true (v n).modifier n (and_right A B (and_left (A && B) C abc));
        foreground = side_within v (g.sides n).foreground count n (and_right (A && B && C) D abcd);
        background = side_within v (g.sides n).background count n (and_right (A && B && C && D) E e);
      }

-- ---- every primitive

module _ (test : ℕ → Bool) where
  pub every_none : every test 0 ≡ true
  unfolding every
  every_none = refl

  pub every_more : (k : ℕ) → every test k ≡ true → test (k + 1) ≡ true → every test (k + 1) ≡ true
  unfolding every
  every_more k e f = simp add-one (rw (e, simp add-one at f))

  every_at : (k n : ℕ) → every test k ≡ true → 0 < n → n ≤ k → test n ≡ true
  unfolding every
  every_at zero n e z h = absurd (omega arith)
  every_at (suc k) n e z h = go (le_or_lt n k) (and_right (every test k) (test (suc k)) e) (λ l. every_at k n (and_left (every test k) (test (suc k)) e) z l)
    where
      go : (n ≤ k) ⊎ (k < n) → test (suc k) ≡ true → (n ≤ k → test n ≡ true) → test n ≡ true
      go (inl l) q ih = ih l
      go (inr l) q ih = let e : n ≡ suc k = omega arith in subst (λ (x : ℕ). test x ≡ true) (sym e) q

  pub every_not : (k n : ℕ) → 0 < n → n ≤ k → test n ≡ false → false ≡ every test k
  every_not k n z h f = go (every test k) refl
    where
      go : (b : Bool) → every test k ≡ b → false ≡ b
      go true e = sym f ∙ every_at k n e z h
      go false e = refl

pub fits_within : (g : Graph) (count : ℕ) → every (primitive_fits g count) count ≡ true → Within g (count + 1)
fits_within g count e = record {
  modifier = λ n z h. (fit n z h).modifier;
  foreground = λ n z h. (let f = fit n z h in omega (arith, f.foreground));
  background = λ n z h. (let f = fit n z h in omega (arith, f.background));
}
  where
    fit : (n : ℕ) → 0 < n → n < count + 1 → Fit g count n
    fit n z h = fit_of g count n (every_at (primitive_fits g count) count n e z (omega arith))

-- ---- count and number

module _ (records pairs : List ℕ) (count n : ℕ) where
  pub pairs_short : length pairs / 2 < count → 18 ≡ pair_refusal records pairs count n
  unfolding pair_refusal
  pairs_short h = rw (lt-leb (count * 2) (length pairs) (omega arith))

  pub pairs_enough : count ≤ length pairs / 2 → number_refusal records count n ≡ pair_refusal records pairs count n
  unfolding pair_refusal
  pairs_enough h = rw (le-leb (count * 2) (length pairs) (omega arith))

  pub numbered : pair_refusal records pairs count n ≡ 0 → {size : ℕ} → size ≡ count + 1 → Numbered count n size
  unfolding pair_refusal number_refusal
  numbered e {size} q = go (leb (count * 2) (length pairs)) (leb count 1024) refl (leb (count * 11) (length records)) (leb 1 n) refl (leb n count) refl e
    where
      go : (p : Bool) (x : Bool) → leb count 1024 ≡ x → (w : Bool) (y : Bool) → leb 1 n ≡ y → (z : Bool) → leb n count ≡ z → ◌≡◌ {A = ℕ} (cond p (cond (x && w) (cond (y && z) 0 17) 18) 18) 0 → Numbered count n size
      go false x a w y b z c e = absurd (omega arith)
      go true false a w y b z c e = absurd (omega arith)
      go true true a false y b z c e = absurd (omega arith)
      go true true a true false b z c e = absurd (omega arith)
      go true true a true true b false c e = absurd (omega arith)
      go true true a true true b true c e = record { few = leb-true count 1024 a; some = leb-true 1 n b; within = leb-true n count c; sized = q }
