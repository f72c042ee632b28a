-- A short name as a number.
use Rattle.std.specs.Prelude.{cond, [], ◌∷◌, ◌++◌, ℕ, zero, suc, ◌/◌, ◌%◌, leb}
use Rattle.laws.specs.Bytes.{Bytes}

-- the word that a number is: behind a 1, each byte is a digit to the base 256. At most n bytes of it
unfoldable pub unpacked : (n k : ℕ) → Bytes
unpacked zero k = []
unpacked (suc n) k = let front = unpacked n (k / 256) in cond (leb k 1) [] (front ++ (k % 256 ∷ []))
