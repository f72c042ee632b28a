-- Where n holds m, every order that keeps that of dependent blocks has n's block before m's.
use mathlib.Core.Bool.{true, false≢true}
use mathlib.Core.List.{List}
use mathlib.Core.Path.{◌≡◌, sym, ◌∙◌, subst}
use Prim.Native.Nat.{ℕ, suc, ◌-◌, ◌≤◌, ◌<◌}
use native.Mathlib.Omega.{arith}
use lib.ListN.{length}
use Rattle.holding.proofs.BoundLaws.{blocks_unbound}
use Rattle.holding.proofs.ChainLaws.{chain_rises}
use Rattle.holding.proofs.PositionLaws.{position_less}
use Rattle.holding.proofs.SaysLaws.{Said, Says, all_in}
use Rattle.holding.specs.Chain.{Chain, link, on}
use Rattle.holding.specs.Mattered.{position}
use Rattle.laws.specs.Shuffle.{Shuffle}
use Rattle.rearrangement.specs.Held.{bound_in}
use Rattle.rearrangement.proofs.PieceLaws.{shuffle_in}
use Rattle.rearrangement.specs.Cut.{Piece}
use Rattle.rearrangement.specs.Order.{Apart, Ordered}
use Rattle.scene.specs.Statement.{Statement}
use Rattle.sorting.proofs.ShuffleLaws.{all_map, all_shuffle}

module _ (d : List Statement) (old new : List Piece) (says : Says d old) (shuffle : Shuffle old new) (ordered : Ordered new) where
  not_apart : (b x : Piece) (n m : ℕ) → Said d b → Said d x → suc b.number ≡ n → suc x.number ≡ m → bound_in d n m ≡ true → Apart b x → ⊥
  not_apart b x n m p q i j e h = false≢true (sym (blocks_unbound d b x p q h) ∙ (λ k. bound_in d (i k) (j k)) ∙ e)

  link_keeps : (n m : ℕ) → 0 < n → n < m → n ≤ length d → bound_in d n m ≡ true → position new (n - 1) < position new (m - 1)
  link_keeps n m z l w e =
      let a = says.has (n - 1) (omega arith) in
      let b : Piece = a.0 in
      let p = all_in (Said d) old b says.each a.1 in
      let h = all_map (Said d) (λ (x : Piece). x.number ≡ m - 1 → Apart b x → ⊥) new (λ x q i. not_apart b x n m p q (omega (arith, a.2)) (omega (arith, i)) e) (all_shuffle (Said d) new old shuffle says.each) in
      subst (λ (j : ℕ). position new j < position new (m - 1)) a.2 (position_less Apart new b (m - 1) ordered (shuffle_in new old b shuffle a.1) (omega (arith, a.2)) h)

  pub chain_keeps : {j n m : ℕ} → Chain (bound_in d) j n m → 0 < n → m ≤ length d → position new (n - 1) < position new (m - 1)
  chain_keeps {n = n} {m = m} (link l e) z w = link_keeps n m z l (omega arith) e
  chain_keeps {n = n} {m = m} (on k l e c) z w =
      let r = chain_rises (bound_in d) c in
      let a = link_keeps n k z l (omega arith) e in
      omega (arith, chain_keeps c (omega arith) w)
