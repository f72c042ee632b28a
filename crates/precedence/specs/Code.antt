-- The code's table has a place for each number from 0 to the last entry's.
use Rattle.std.specs.Prelude.{Bool, List, ◌≡◌, ℕ, ◌-◌, ◌<◌, ◌≤◌, length, drop}
use Rattle.holding.specs.Shortest.{lengths}

-- two entries of so many, the upper one first
pub record Ordered (count n m : ℕ) : Type 0 where
  pub rises : n < m
  pub within : m ≤ count
  pub most : count ≤ 1024

-- the last entry of a table
abbrev pub last : List ℕ → ℕ
last L = length L - 1

-- from place n on stands how many entries the chains have
pub record Filled (tied : ℕ → ℕ → Bool) (L : List ℕ) (n : ℕ) : Type 0 where
  pub within : n < length L
  pub chains : drop n L ≡ lengths tied (last L) (last L - n)
