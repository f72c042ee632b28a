-- What the search for a loop promises: where modifiers lead to lower numbers and sides to numbers, what the definitions say. For other
-- tables it promises to end.
use Rattle.std.specs.Prelude.{Bool, ◌≡◌, ℕ, ◌-◌, ◌<◌}
use Rattle.graph.specs.Answers.{looped, lowest, lowest_loop}
use Rattle.graph.specs.Graph.{Graph}
use Rattle.mixtures.specs.Walk.{Within}

-- none below n is on a loop
abbrev pub NoneBelow : Graph → (size n : ℕ) → Type 0
NoneBelow g size n = lowest (looped g (size - 1)) (n - 1) ≡ 0

abbrev pub Tells : Graph → (size n : ℕ) (r : Bool) → Type 0
Tells g size n r = Within g size → 0 < n → n < size → NoneBelow g size n → r ≡ looped g (size - 1) n

abbrev pub Finds : Graph → (size r : ℕ) → Type 0
Finds g size r = Within g size → r ≡ lowest_loop g (size - 1)
