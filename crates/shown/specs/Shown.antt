-- What the list call answers: how many materials there are, or a refusal's number.
use Rattle.std.specs.Prelude.{ℕ}

pub data Shown : Type 0 where
  Listed : (many : ℕ) → Shown
  Refused : (reason : ℕ) → Shown
