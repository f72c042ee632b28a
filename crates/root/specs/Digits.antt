-- The root's digits on the way.
use Rattle.std.specs.Prelude.{ℕ, ◌+◌, ◌*◌, ◌^◌, ◌≤◌, ◌<◌, ◌≡◌}
use Rattle.root.specs.declared.Digits.{Digits}

-- the number that the digits found and what is left to bring down stand for, 54 binary digits of it still to come
abbrev pub held : Digits → ℕ
held d = (d.root * d.root + d.rest) * 2 ^ 54 + d.number

-- the digits found are those of the whole root of what is brought down, `found` of them
pub record Found (d : Digits) : Type 0 where
  pub root_small : d.root < 2 ^ d.found
  pub rest_small : d.rest ≤ d.root * 2
  pub number_small : d.number < 2 ^ 54

-- one binary digit more: two of the number's digits are brought down
pub record OneMore (d e : Digits) : Type 0 where
  pub found : Found e
  pub same : held e ≡ held d * 4
  pub digit : e.found ≡ d.found + 1
