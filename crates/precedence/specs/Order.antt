-- What is answered of two entries: nothing holds their order; or a chain of entries does, with the entry that it goes to first and the one
-- whose name binds; or the number of a refusal.
use Rattle.std.specs.Prelude.{ℕ}

pub data Order : Type 0 where
  Free : Order
  Held : (by named : ℕ) → Order
  Refused : (reason : ℕ) → Order
