-- `parser::advance` meets its contract.
use Rattle.parser.proofs.StepLaws.{in_phase}
use Rattle.parser.proofs.advance.Goals as goal

pub returns-in-Idle : goal.returns-in-Idle
returns-in-Idle c = in_phase _ _ _ _ c.in-Idle.is c.modifier.ensures

pub returns-in-Kind : goal.returns-in-Kind
returns-in-Kind c = in_phase _ _ _ _ c.in-Kind.is c.kind.ensures

pub returns-in-Name : goal.returns-in-Name
returns-in-Name c = in_phase _ _ _ _ c.in-Name.is c.name.ensures

pub returns-in-StringCount : goal.returns-in-StringCount
returns-in-StringCount c = in_phase _ _ _ _ c.in-StringCount.is c.string_count.ensures

pub returns-in-FirstString : goal.returns-in-FirstString
returns-in-FirstString c = in_phase _ _ _ _ c.in-FirstString.is c.first_string.ensures

pub returns-in-LaterString : goal.returns-in-LaterString
returns-in-LaterString c = in_phase _ _ _ _ c.in-LaterString.is c.later_string.ensures

pub returns-in-IntegerCount : goal.returns-in-IntegerCount
returns-in-IntegerCount c = in_phase _ _ _ _ c.in-IntegerCount.is c.integer_count.ensures

pub returns-in-RealCount : goal.returns-in-RealCount
returns-in-RealCount c = in_phase _ _ _ _ c.in-RealCount.is c.real_count.ensures

pub returns-in-Real : goal.returns-in-Real
returns-in-Real c = in_phase _ _ _ _ c.in-Real.is c.real.ensures

pub returns-in-AliasName : goal.returns-in-AliasName
returns-in-AliasName c = in_phase _ _ _ _ c.in-AliasName.is c.name-in-AliasName.ensures

pub returns-in-Target : goal.returns-in-Target
returns-in-Target c = in_phase _ _ _ _ c.in-Target.is c.target.ensures
