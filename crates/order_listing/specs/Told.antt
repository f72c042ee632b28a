-- An answer about two entries, with the number of a refusal, as the definitions have it.
use Rattle.std.specs.Prelude.{Option, ℕ, Result, Ok, Err}
use Rattle.precedence.specs.Answered.{held_of}
use Rattle.precedence.specs.Order.{Order, Refused}
use Rattle.precedence.specs.declared.Held.{Held}

abbrev pub told : Result (Option Held) ℕ → Order
told (Ok h) = held_of h
told (Err n) = Refused n
