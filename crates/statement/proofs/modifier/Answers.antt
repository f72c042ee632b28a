-- `statement::modifier` meets its contract.
use mathlib.Core.Path.{◌∙◌}
use Rattle.statement.proofs.HeadLaws.{modifier_void, modifier_unknown, modifier_known, modifier_full}
use Rattle.statement.proofs.modifier.Goals as goal

pub returns-then-same : goal.returns-then-same
returns-then-same c = c.going.ensures ∙ modifier_void _ _ _ _ c.if-s-room.true c.same.ensures c.linked.ensures c.if-same.true

pub returns-then-v-eq0 : goal.returns-then-v-eq0
returns-then-v-eq0 c = c.refused.ensures ∙ modifier_unknown _ _ _ _ c.if-s-room.true c.same.ensures c.if-same.false c.if-v-eq0.true

pub returns-then-s-room : goal.returns-then-s-room
returns-then-s-room c = c.going-then-s-room.ensures ∙ modifier_known _ _ _ _ c.if-s-room.true c.same.ensures c.linked-then-s-room.ensures c.if-same.false c.if-v-eq0.false

pub returns : goal.returns
returns c = c.refused-2.ensures ∙ modifier_full _ _ _ _ c.if-s-room.false
