-- The lowest primitive on a loop, primitive by primitive.
use mathlib.Core.Bool.{Bool, true, false, not}
use mathlib.Core.List.{List}
use mathlib.Core.Logic.{inl, inr}
use mathlib.Core.Path.{◌≡◌, refl, sym, ◌∙◌, subst}
use Prim.Native.Nat.{ℕ, ◌+◌, ◌-◌, ◌<◌, ◌≤◌}
use native.Mathlib.Omega.{arith}
use borrow.Author.Tests.{eqb-false, eqb-true}
use lib.Dec.{eqb}
use lib.ListN.{get_or}
use Rattle.graph.proofs.GraphLaws.{Among, link_inv}
use Rattle.graph.proofs.LowestLaws.{lowest_found, lowest_more, lowest_none}
use Rattle.graph.proofs.PathLaws.{trans}
use Rattle.graph.specs.Answers.{looped, lowest, lowest_loop}
use Rattle.graph.specs.Graph.{Graph, goes_from, goes_on, link, links}
use Rattle.graph.specs.Paths.{Way, one, on}
use Rattle.mixtures.proofs.LeadLaws.{leads_path, marked_leads, unmarked_not}
use Rattle.mixtures.specs.Walk.{Reaches, Within}
use Rattle.loops.specs.Found.{NoneBelow, Tells}

-- ---- one primitive

module _ (g : Graph) (size n : ℕ) where
  -- the only link of a primitive with no sides leads down
  module _ (w : Within g size) (z : 0 < n) (h : n < size) (none : NoneBelow g size n) (left : (g.sides n).foreground ≡ 0) (right : (g.sides n).background ≡ 0) where
    only : (c : ℕ) → link g n c ≡ true → (0 < c) × (c < n)
    only c e = let i = link_inv g n c e in (i.0, go i.0 i.1)
      where
        go : 0 < c → Among c (links g n) → c < n
        go p (inl q) = omega (arith, q, w.modifier n z h)
        go p (inr (inl q)) = absurd (omega (arith, q, left))
        go p (inr (inr (inl q))) = absurd (omega (arith, q, right))
        go p (inr (inr (inr q))) = absurd q

    -- so where it leads back to itself, a lower one does
    no_way : Way (link g) (goes_on g true) n n → ⊥
    unfolding goes_from
    no_way (one e) = let l = only n e in omega (arith, l.1)
    no_way (on c e p x) =
        let l = only c e in
        let back : Way (link g) (goes_on g true) c c = trans (link g) (goes_on g true) n refl x (one e) in
        let t = (leads_path g true size c c w l.0 (omega (arith, l.1))).1 back in
        let f = lowest_none (looped g (size - 1)) (n - 1) none c l.0 (omega (arith, l.1)) in
        true_false (sym t ∙ f)
      where
        true_false : true ≡ false → ⊥
        true_false e = let v : ◌≡◌ {A = ℕ} 0 1 = cc in omega arith

  pub no_sides : {left right : ℕ} → left ≡ (g.sides n).foreground → right ≡ (g.sides n).background → left ≡ 0 → right ≡ 0 → Tells g size n false
  no_sides a b l r w z h none = go (looped g (size - 1) n) refl
    where
      go : (t : Bool) → looped g (size - 1) n ≡ t → false ≡ t
      go true e = absurd (no_way w z h none (sym a ∙ l) (sym b ∙ r) ((leads_path g true size n n w z h).0 e))
      go false e = refl

  pub by_mark : {M : List ℕ} → (Within g size → 0 < n → n < size → Reaches g true n M) → Tells g size n (not (eqb (get_or M n 0) 0))
  by_mark {M} r w z h none = go (eqb (get_or M n 0) 0) refl
    where
      go : (t : Bool) → eqb (get_or M n 0) 0 ≡ t → not t ≡ looped g (size - 1) n
      go true e = sym (unmarked_not g true size n M w (r w z h) z h n (eqb-true (get_or M n 0) 0 e))
      go false e = sym (marked_leads g true size n M w (r w z h) z h n (eqb-false (get_or M n 0) 0 e))

  pub outside : size ≤ n → (b : Bool) → Tells g size n b
  outside l b w z h none = absurd (omega arith)

-- ---- all of them

module _ (g : Graph) (size n : ℕ) {b : Bool} (tells : Tells g size n b) (w : Within g size) (z : 0 < n) (h : n < size) (none : NoneBelow g size n) where
  back : n - 1 + 1 ≡ n
  back = omega arith

  pub loop_found : b ≡ true → n ≡ lowest_loop g (size - 1)
  unfolding lowest_loop
  loop_found e =
      sym back
      ∙ lowest_found (looped g (size - 1)) (n - 1) (size - 1) (omega arith) none (subst (λ (k : ℕ). looped g (size - 1) k ≡ true) (sym back) (sym (tells w z h none) ∙ e))

  pub loop_passed : b ≡ false → NoneBelow g size (n + 1)
  loop_passed e =
      let up : n - 1 + 1 ≡ n + 1 - 1 = omega arith in
      subst (λ (k : ℕ). lowest (looped g (size - 1)) k ≡ 0) up
      (lowest_more (looped g (size - 1)) (n - 1) none (subst (λ (k : ℕ). looped g (size - 1) k ≡ false) (sym back) (sym (tells w z h none) ∙ e)))

-- past the last
pub loop_none : (g : Graph) (size n : ℕ) → n - 1 ≡ size - 1 → NoneBelow g size n → 0 ≡ lowest_loop g (size - 1)
unfolding lowest_loop
loop_none g size n e none = sym (subst (λ (k : ℕ). lowest (looped g (size - 1)) k ≡ 0) e none)

-- what is told of a number of marks is told of as many others
pub same_size : (g : Graph) (n : ℕ) {a b : ℕ} {r : Bool} → a ≡ b → Tells g a n r → Tells g b n r
same_size g n {r = r} e t = subst (λ (k : ℕ). Tells g k n r) e t
