-- `context::source_of` meets its contract.
use mathlib.Core.Path.{◌∙◌}
use Rattle.context.proofs.TableLaws.{draft_some}
use Rattle.context.proofs.source_of.Goals as goal

pub returns : goal.returns
returns c = (let l = c.linked-2.ensures in λ i. record { kind = c.field.ensures i; modifier = (l i).modifier; target = (l i).target; name = (l i).name; size = (l i).size; string = c.field-2.ensures i; strings = c.field-3.ensures i; real = c.field-4.ensures i; reals = c.field-5.ensures i }) ∙ draft_some _ _ c.if-number-eq0.false
