-- What the code answers, as the definitions have it.
use Rattle.std.specs.Prelude.{Option, None, Some, Result, Ok, Err}
use Rattle.precedence.specs.Order.{Order, Free, Held, Refused}
use Rattle.precedence.specs.declared.Held.{Held as Chain}
use Rattle.scene.specs.Reason.{reason_number}
use Rattle.scene.specs.declared.Reason.{Reason}

abbrev pub held_of : Option Chain → Order
held_of None = Free
held_of (Some h) = Held h.by h.named

abbrev pub order_answer : Result (Option Chain) Reason → Order
order_answer (Ok h) = held_of h
order_answer (Err r) = Refused (reason_number r)
