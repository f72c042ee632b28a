-- What a finish walk comes to: a material and the links followed, 0 for no material; or a refusal's number and its count.
use Rattle.std.specs.Prelude.{ℕ}

pub data Finish : Type 0 where
  Reached : (material links : ℕ) → Finish
  Refused : (reason links : ℕ) → Finish
