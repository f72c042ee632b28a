-- What is marked after a walk is what the test of the definitions says, and that is where ways lead.
use mathlib.Core.Bool.{Bool, true, false}
use mathlib.Core.List.{List}
use mathlib.Core.Logic.{◌⊎◌, inl, inr, ◌↔◌}
use mathlib.Core.Path.{◌≡◌, refl}
use Prim.Native.Nat.{ℕ, zero, suc, ◌-◌, ◌<◌}
use native.Mathlib.Omega.{arith}
use lib.ListN.{get_or}
use Rattle.graph.proofs.GraphLaws.{link_inv}
use Rattle.graph.proofs.PathLaws.{decides, decided}
use Rattle.graph.specs.Answers.{leads}
use Rattle.graph.specs.Graph.{Graph, goes_on, link}
use Rattle.graph.specs.Paths.{Way}
use Rattle.mixtures.specs.Walk.{Reaches, Within}

pub within_bound : (g : Graph) (size : ℕ) → Within g size → (a b : ℕ) → 0 < a → a < size → link g a b ≡ true → (0 < b) × (b < size)
within_bound g size w a b z h e = let i = link_inv g a b e in (i.0, go i.1)
  where
    go : (b ≡ (g.nodes a).modifier) ⊎ ((b ≡ (g.sides a).foreground) ⊎ ((b ≡ (g.sides a).background) ⊎ ⊥)) → b < size
    go (inl q) = omega (arith, q, w.modifier a z h)
    go (inr (inl q)) = rw q (w.foreground a z h)
    go (inr (inr (inl q))) = rw q (w.background a z h)
    go (inr (inr (inr q))) = absurd q

-- the test and the ways agree
pub leads_path : (g : Graph) (through : Bool) (size n k : ℕ) → Within g size → 0 < n → n < size
    → (leads g through (size - 1) n k ≡ true) ↔ Way (link g) (goes_on g through) n k
leads_path g through size n k w z h = (
  decided (link g) (goes_on g through) (size - 1) n k,
  decides (link g) (goes_on g through) (size - 1)
      (λ a b y l e. (let i = within_bound g size w a b y (omega arith) e in (i.0, omega (arith, i.1))))
      n k z (omega arith),
)

module _ (g : Graph) (through : Bool) (size n : ℕ) (M : List ℕ) (w : Within g size) (r : Reaches g through n M) (z : 0 < n) (h : n < size) where
  pub marked_leads : (k : ℕ) → (get_or M k 0 ≡ 0 → ⊥) → leads g through (size - 1) n k ≡ true
  marked_leads k f = (leads_path g through size n k w z h).1 (r.sound k (go (get_or M k 0) f))
    where
      go : (x : ℕ) → (x ≡ 0 → ⊥) → 0 < x
      go zero f = absurd (f refl)
      go (suc x) f = omega arith

  pub unmarked_not : (k : ℕ) → get_or M k 0 ≡ 0 → leads g through (size - 1) n k ≡ false
  unmarked_not k e = go (leads g through (size - 1) n k) refl
    where
      go : (t : Bool) → leads g through (size - 1) n k ≡ t → t ≡ false
      go true q = let m = r.whole k ((leads_path g through size n k w z h).0 q) in absurd (omega arith)
      go false q = refl
