-- `planning::order_answer` meets its contract.
use mathlib.Core.Path.{ap, sym}
use Rattle.planning.specs.Plan.{order_answer}
use Rattle.planning.proofs.order_answer.Goals as goal

pub returns-in-Ok : goal.returns-in-Ok
returns-in-Ok c = sym (ap order_answer c.in-Ok.is)

pub returns-in-Err : goal.returns-in-Err
returns-in-Err c = sym (ap order_answer c.in-Err.is)
