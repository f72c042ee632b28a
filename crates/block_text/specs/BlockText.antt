-- Blocks by the places behind them, in an order of their numbers.
use Rattle.std.specs.Prelude.{List, [], ◌∷◌, ◌++◌, ◌≡◌, ℕ, ◌-◌, length, drop}
use Rattle.laws.specs.Bytes.{Bytes, part}
use Rattle.table.specs.Number.{number_in}
use Rattle.writer.specs.Answer.{Answer, answered, fitted, output}

-- block n, by the places behind it and behind the one before it
unfoldable pub block_in : Bytes → (ends : List ℕ) → (n : ℕ) → Bytes
block_in text E n = part text (number_in E (n - 1)) (number_in E n - number_in E (n - 1))

unfoldable pub blocks_in : Bytes → (ends order : List ℕ) → Bytes
blocks_in text E [] = []
blocks_in text E (k ∷ ks) = block_in text E k ++ blocks_in text E ks

-- and what stands behind the last of them
unfoldable pub sorted_in : Bytes → (ends order : List ℕ) → Bytes
sorted_in text E ks = blocks_in text E ks ++ drop (number_in E (length E)) text

pub record WritesBlocks (text : Bytes) (E ks : List ℕ) (out : Bytes) (r : Answer) (out' : Bytes) : Type 0 where
  pub says : r ≡ answered (fitted (length out) (sorted_in text E ks))
  pub output : out' ≡ output (length out) (fitted (length out) (sorted_in text E ks))
