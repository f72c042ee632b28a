-- `kinds::reals_allowed` meets its contract.
use mathlib.Core.Path.{ap, ◌∙◌}
use Rattle.scene.specs.Types.{Rule, allows, reals_allowed}
use Rattle.kinds.proofs.reals_allowed.Goals as goal

pub returns : goal.returns
unfolding reals_allowed
returns c = c.allows.ensures ∙ ap (λ (q : Rule). allows q c.args.n) c.rules.ensures.reals
