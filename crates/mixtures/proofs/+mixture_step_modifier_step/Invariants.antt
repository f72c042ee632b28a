-- The depth falls: a mixture's step calls a modifier's of its own depth, and a modifier's calls both of one less.
use Prim.Native.Nat.{◌+◌}
use Rattle.mixtures.proofs.+mixture_step_modifier_step.Given as goal

abbrev pub decreases-mixture_step : goal.decreases-mixture_step
decreases-mixture_step l = l.depth + l.depth + 1

abbrev pub decreases-modifier_step : goal.decreases-modifier_step
decreases-modifier_step l = l.depth + l.depth
