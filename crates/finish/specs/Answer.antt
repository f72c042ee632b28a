-- What the code answers, as the definitions have it.
use Rattle.std.specs.Prelude.{Result, Ok, Err}
use Rattle.finish.specs.Finish.{Finish, Reached, Refused}
use Rattle.finish.specs.declared.Stopped.{Stopped}
use Rattle.scene.specs.Reason.{reason_number}
use Rattle.finish.specs.declared.Reached.{Reached as Arrival}

abbrev pub finish_answer : Result Arrival Stopped → Finish
finish_answer (Ok r) = Reached r.material r.links
finish_answer (Err s) = Refused (reason_number s.reason) s.links
