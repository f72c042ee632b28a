-- `kinds::strings_allowed` meets its contract.
use mathlib.Core.Path.{ap, ◌∙◌}
use Rattle.scene.specs.Types.{Rule, allows, strings_allowed}
use Rattle.kinds.proofs.strings_allowed.Goals as goal

pub returns : goal.returns
unfolding strings_allowed
returns c = c.allows.ensures ∙ ap (λ (q : Rule). allows q c.args.n) c.rules.ensures.strings
