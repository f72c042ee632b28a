-- Numbers counted from 1.
use Rattle.std.specs.Prelude.{List, ℕ, zero, suc, get_or}

-- number n of a list, 0 where there is none
unfoldable pub number_in : List ℕ → (n : ℕ) → ℕ
number_in ns zero = 0
number_in ns (suc n) = get_or ns n 0
