-- `mixtures::passes` meets its contract.
use mathlib.Core.Bool.{not}
use mathlib.Core.Path.{ap, ◌∙◌}
use Rattle.graph.specs.Graph.{goes_from}
use Rattle.scene.specs.Types.{is_material}
use Rattle.mixtures.proofs.passes.Goals as goal

pub returns-then-through : goal.returns-then-through
unfolding goes_from
returns-then-through c = simp c.if-through.true

pub returns : goal.returns
unfolding goes_from
returns c = simp c.if-through.false (ap not (c.is_material.ensures ∙ ap is_material c.field.ensures))
