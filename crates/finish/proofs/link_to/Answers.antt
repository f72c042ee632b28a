-- `finish::link_to` meets its contract.
use Rattle.finish.proofs.WalkLaws.{no_type, a_material, passed}
use Rattle.finish.proofs.link_to.Goals as goal

pub returns-then-is_material : goal.returns-then-is_material
returns-then-is_material c = a_material _ _ _ c.is_modifier.ensures c.if-is_modifier.true c.is_material.ensures c.if-is_material.true

pub returns-then-is_modifier : goal.returns-then-is_modifier
returns-then-is_modifier c = passed _ _ _ c.is_modifier.ensures c.if-is_modifier.true c.is_material.ensures c.if-is_material.false

pub returns : goal.returns
returns c = no_type _ _ _ c.is_modifier.ensures c.if-is_modifier.false
