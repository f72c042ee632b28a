-- The least name above another, by the number of the primitive that has it; 0 is none.
use Rattle.std.specs.Prelude.{cond, List, ℕ, zero, suc, eqb}
use Rattle.laws.specs.Bytes.{Bytes}
use Rattle.scene.specs.Record.{name_in}
use Rattle.keys.specs.Key.{lower}

-- number n, where its name comes after w and before that of the best so far, if any; else the best so far, which is 0 for none
unfoldable pub better : Bytes → (records : List ℕ) → (w : Bytes) → (best n : ℕ) → ℕ
better text records w best n =
    cond (lower w (name_in text records n)) (cond (eqb best 0) n (cond (lower (name_in text records n) (name_in text records best)) n best)) best

-- among the first so many of a table: the number of the first primitive with the least name above w; 0 where there is none
unfoldable pub least_in : Bytes → (records : List ℕ) → (w : Bytes) → (count : ℕ) → ℕ
least_in text records w zero = 0
least_in text records w (suc k) = better text records w (least_in text records w k) (suc k)
