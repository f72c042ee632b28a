-- The sides and the type of a primitive, as the code finds them in the tables.
use mathlib.Core.Bool.{Bool}
use mathlib.Core.List.{List}
use mathlib.Core.Path.{◌≡◌, refl, sym, ap, ◌∙◌}
use Prim.Native.Nat.{ℕ, zero, suc, ◌+◌, ◌*◌, ◌-◌, ◌≤◌}
use native.Mathlib.Omega.{arith}
use lib.ListN.{length, get_or, get_or-eq_default}
use Rattle.graph.specs.Graph.{goes_from, goes_on, graph_of, side_in}
use Rattle.scene.specs.Record.{field_in}
use Rattle.table.proofs.QuestionLaws.{type_field}

module _ (pairs : List ℕ) (n k : ℕ) where
  pub no_primitive : n ≡ 0 → 0 ≡ side_in pairs n k
  unfolding side_in
  no_primitive e = sym (ap (λ (m : ℕ). side_in pairs m k) e)

module _ (pairs : List ℕ) (k : ℕ) where
  pub side_at : (n : ℕ) → (n ≡ 0 → ⊥) → get_or pairs ((n - 1) * 2 + k) 0 ≡ side_in pairs n k
  unfolding side_in
  side_at zero h = absurd (h refl)
  side_at (suc n) h = ap (λ (m : ℕ). get_or pairs (m * 2 + k) 0) (let e : suc n - 1 ≡ n = omega arith in e)

  pub no_side : (n : ℕ) → (n ≡ 0 → ⊥) → length pairs ≤ (n - 1) * 2 + k → 0 ≡ side_in pairs n k
  no_side n z h = sym (get_or-eq_default pairs 0 h) ∙ side_at n z

-- whether the walk goes on from a primitive, by its type in the table
pub goes_by_type : (records pairs : List ℕ) (through : Bool) (n : ℕ) → goes_from through (field_in records n 0) ≡ goes_on (graph_of records pairs) through n
goes_by_type records pairs through n = ap (goes_from through) (type_field records n)
