-- `table::name_of` meets its contract.
use mathlib.Core.Path.{◌∙◌}
use Rattle.scene.specs.Record.{name_in}
use Rattle.table.proofs.QuestionLaws.{name_field, length_field}
use Rattle.table.proofs.name_of.Goals as goal

pub returns : goal.returns
unfolding name_in
returns c = simp (← (c.field.ensures ∙ name_field _ _), ← (c.field-2.ensures ∙ length_field _ _)) c.part.ensures
