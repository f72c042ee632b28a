-- Blocks are independent exactly where their statements are not bound.
use mathlib.Core.Bool.{false}
use mathlib.Core.List.{List, [], ◌∷◌}
use mathlib.Core.Option.{Option, none, some}
use mathlib.Core.Path.{◌≡◌, refl, sym, subst₂}
use Prim.Native.Nat.{suc}
use Rattle.holding.proofs.SaysLaws.{Said, only}
use Rattle.laws.specs.Bytes.{Bytes}
use Rattle.rearrangement.specs.Held.{both, bound, bound_in}
use Rattle.rearrangement.proofs.HeldLaws.{independent_unbound, unbound_independent}
use Rattle.rearrangement.specs.Cut.{Piece}
use Rattle.rearrangement.specs.Order.{Apart}
use Rattle.scene.specs.Block.{Independent, given, referred, share, stands}
use Rattle.scene.specs.Properties.{numbered}
use Rattle.scene.specs.Statement.{Statement}

share_none : (xs : List Bytes) → share xs [] ≡ false
unfolding share stands
share_none [] = refl
share_none (x ∷ xs) = share_none xs

unbound_apart : (x y : Option Statement) → both bound x y ≡ false → Independent (only x) (only y)
unfolding given referred share
unbound_apart none y e = record { first = refl; second = share_none (given (only y)) }
unbound_apart (some s) none e = record { first = share_none (given (s ∷ [])); second = refl }
unbound_apart (some s) (some t) e = unbound_independent s t e

apart_unbound : (x y : Option Statement) → Independent (only x) (only y) → both bound x y ≡ false
apart_unbound none y h = refl
apart_unbound (some s) none h = refl
apart_unbound (some s) (some t) h = independent_unbound s t h

module _ (d : List Statement) (b c : Piece) (p : Said d b) (q : Said d c) where
  pub unbound_blocks : bound_in d (suc b.number) (suc c.number) ≡ false → Apart b c
  unfolding bound_in
  unbound_blocks e = subst₂ Independent (sym p) (sym q) (unbound_apart (numbered d (suc b.number)) (numbered d (suc c.number)) e)

  pub blocks_unbound : Apart b c → bound_in d (suc b.number) (suc c.number) ≡ false
  unfolding bound_in
  blocks_unbound h = apart_unbound (numbered d (suc b.number)) (numbered d (suc c.number)) (subst₂ Independent p q h)
