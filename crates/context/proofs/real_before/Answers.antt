-- `context::real_before` meets its contract.
use Rattle.context.proofs.PhaseLaws.{at_real, not_at_real}
use Rattle.context.proofs.real_before.Goals as goal

pub returns-in-Real : goal.returns-in-Real
returns-in-Real c = at_real _ _ _ _ _ c.in-Real.is c.back.ensures

pub returns-in_default : goal.returns-in_default
unfolding lib.Ieee.of_bits
returns-in_default c =
    let a = c.args in
    not_at_real a.reals.now a.used a.j _ c.in_default.not-Real
