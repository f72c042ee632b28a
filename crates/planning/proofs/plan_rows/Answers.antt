-- `planning::plan_rows` meets its contract.
use mathlib.Core.Path.{sym, ◌∙◌}
use Rattle.planning.proofs.PlanLaws.{rows_once, rows_twice}
use Rattle.planning.proofs.plan_rows.Goals as goal

pub returns-then-twice : goal.returns-then-twice
returns-then-twice c = rows_twice _ _ _ _ _ _ _ _ _ _ (sym c.if-twice.true ∙ c.twice.ensures)

pub returns : goal.returns
returns c = rows_once _ _ _ _ _ _ _ _ _ _ _ _ (sym c.if-twice.false ∙ c.twice.ensures) c.order_rows.ensures
