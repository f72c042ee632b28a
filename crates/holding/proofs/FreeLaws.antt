-- Where n does not hold m, the blocks of n and of all that it holds may be taken behind the others, and so behind m's.
use mathlib.Core.Bool.{Bool, true, false, not, false≢true}
use mathlib.Core.List.{List, ◌++◌}
use mathlib.Core.Logic.{inl, inr}
use mathlib.Core.Path.{◌≡◌, refl, ap, sym, ◌∙◌}
use Prim.Native.Nat.{ℕ, suc, ◌-◌, ◌≤◌, ◌<◌}
use native.Mathlib.Omega.{arith}
use lib.ListN.{length}
use Rattle.holding.proofs.BoundLaws.{unbound_blocks}
use Rattle.holding.proofs.LateLaws.{Reached, late, late_on, late_reached, reached_late}
use Rattle.holding.proofs.PartLaws.{in_those, parts_ordered, rising_those}
use Rattle.holding.proofs.PositionLaws.{position_first, position_second}
use Rattle.holding.proofs.SaysLaws.{Said, Says}
use Rattle.holding.specs.Chain.{Holds}
use Rattle.holding.specs.Mattered.{position}
use Rattle.laws.proofs.BoolLaws.{not_true}
use Rattle.laws.specs.Shuffle.{Shuffle}
use Rattle.rearrangement.specs.Held.{bound_in}
use Rattle.rearrangement.specs.Cut.{Piece}
use Rattle.rearrangement.specs.Order.{Apart, Ordered}
use Rattle.scene.specs.Statement.{Statement}
use Rattle.sorting.proofs.ShuffleLaws.{All, all_map, all_those, shuffle_partition, those}

-- blocks in an order that is allowed, m's before n's
pub record Freed (old : List Piece) (n m : ℕ) : Type 0 where
  pub new : List Piece
  pub shuffled : Shuffle old new
  pub ordered : Ordered new
  pub before : position new (m - 1) < position new (n - 1)

module _ (d : List Statement) (old : List Piece) (says : Says d old) (n m : ℕ) (z : 0 < n) (l : n < m) (w : m ≤ length d) (free : Holds (bound_in d) n m → ⊥) where
  abbrev last : Piece → Bool
  last b = late (bound_in d) n (suc b.number)

  abbrev others : Piece → Bool
  others b = not (last b)

  abbrev First : Piece → Type 0
  First b = Said d b × (others b ≡ true)

  abbrev Last : Piece → Type 0
  Last b = Said d b × (last b ≡ true)

  first_not_late : (b : Piece) → First b → late (bound_in d) n (suc b.number) ≡ false
  first_not_late b h = not_true (last b) h.1

  -- else n would hold c too
  apart : (c b : Piece) → First c → Last b → b.number < c.number → Apart b c
  apart c b p q r = unbound_blocks d b c q.0 p.0 (go (bound_in d (suc b.number) (suc c.number)) refl)
    where
      go : (t : Bool) → bound_in d (suc b.number) (suc c.number) ≡ t → t ≡ false
      go true e = sym (late_on (bound_in d) n (suc b.number) (suc c.number) (omega arith) q.1 e) ∙ first_not_late c p
      go false e = refl

  all_first : All First (those others old)
  all_first = all_those (Said d) others old says.each

  ordered : Ordered (those others old ++ those last old)
  ordered = parts_ordered Apart First Last apart 0 0 (those others old) (those last old) (rising_those others 0 old says.rise) (rising_those last 0 old says.rise) all_first (all_those (Said d) last old says.each)

  not_late : late (bound_in d) n m ≡ false
  not_late = go (late (bound_in d) n m) (late_reached (bound_in d) n m)
    where
      none : Reached (bound_in d) n m → ⊥
      none (inl e) = omega (arith, e)
      none (inr h) = free h

      go : (t : Bool) → (t ≡ true → Reached (bound_in d) n m) → t ≡ false
      go true f = absurd (none (f refl))
      go false f = refl

  -- m's block is in the first part, and n's is not
  before : position (those others old ++ those last old) (m - 1) < position (those others old ++ those last old) (n - 1)
  before =
      let a = says.has (m - 1) (omega arith) in
      let e : m ≡ suc a.0.number = omega (arith, a.2) in
      let i = in_those others old a.0 a.1 (ap not (sym (ap (late (bound_in d) n) e) ∙ not_late)) in
      let gone = all_map First (λ (x : Piece). x.number ≡ n - 1 → ⊥) (those others old) (λ x p q. false≢true (sym (first_not_late x p) ∙ reached_late (bound_in d) n (suc x.number) (inl (omega (arith, q))))) all_first in
      omega (arith, ap (position (those others old ++ those last old)) a.2, position_first (those others old) (those last old) a.0 i, position_second (those others old) (those last old) (n - 1) gone)

  pub freed : Freed old n m
  freed = record { new = those others old ++ those last old; shuffled = shuffle_partition last old; ordered = ordered; before = before }
