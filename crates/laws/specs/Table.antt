-- A table's rule as one test over the whole table.
use Rattle.std.specs.Prelude.{Bool, true, ◌&&◌, List, [], ◌∷◌, ℕ, suc}

-- the test passes at each entry and its index, counted from i
abbrev pub ruled : {A : Type 0} → (ℕ → A → Bool) → ℕ → List A → Bool
ruled test i [] = true
ruled test i (x ∷ xs) = test i x && ruled test (suc i) xs
