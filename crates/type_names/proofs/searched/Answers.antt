-- `type_names::searched` meets its contract: a search from the present type finds what one from the first does.
use Rattle.std.proofs.Common.{refl}
use Rattle.scene.specs.Types.{type_number}
use Rattle.type_names.proofs.searched.Goals as goal

pub loop-t-init : goal.loop-t-init
unfolding type_number
loop-t-init c = refl
