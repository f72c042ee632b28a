-- `arguments::real` meets its contract.
use mathlib.Core.Path.{◌∙◌}
use native.Mathlib.Omega.{arith}
use Rattle.arguments.proofs.AnswerLaws.{means, real_breach, real_full, real_last, real_more, real_refused}
use Rattle.numeral.specs.Numeral.{answer_of}
use Rattle.arguments.proofs.real.Goals as goal

pub returns-then-breaches : goal.returns-then-breaches
returns-then-breaches c =
    c.refused-then-breaches.ensures
    ∙ real_breach _ _ _ _ (means answer_of c.numeral_of.ensures c.in-Ok.is) c.less-nth.ensures c.breaches.ensures c.if-breaches.true

pub returns-then-room-s : goal.returns-then-room-s
returns-then-room-s c =
    c.refused-then-room-s.ensures
    ∙ real_full _ _ _ _ (means answer_of c.numeral_of.ensures c.in-Ok.is) c.less-nth.ensures c.breaches.ensures c.if-breaches.false c.if-room-s.true

pub overflow_add-s : goal.overflow_add-s
overflow_add-s c = omega (arith, c.ranges.room.fits)

pub returns-then-s-eq0 : goal.returns-then-s-eq0
returns-then-s-eq0 c =
    real_last _ _ _ _ (means answer_of c.numeral_of.ensures c.in-Ok.is) c.less-nth.ensures c.breaches.ensures c.if-breaches.false c.if-room-s.false c.stored.ensures c.if-s-eq0.true

pub overflow_add-s-in-Ok : goal.overflow_add-s-in-Ok
overflow_add-s-in-Ok c = omega (arith, c.ranges.room.fits)

pub returns-in-Err-Malformed : goal.returns-in-Err-Malformed
returns-in-Err-Malformed c = c.refused.ensures ∙ real_refused _ _ _ _ (rw c.in-Err-Malformed.field-0-is at (means answer_of c.numeral_of.ensures c.in-Err-Malformed.is))

pub returns-in-Err-TooLarge : goal.returns-in-Err-TooLarge
returns-in-Err-TooLarge c = c.refused-in-Err-TooLarge.ensures ∙ real_refused _ _ _ _ (rw c.in-Err-TooLarge.field-0-is at (means answer_of c.numeral_of.ensures c.in-Err-TooLarge.is))

pub returns-else-s-eq0 : goal.returns-else-s-eq0
returns-else-s-eq0 c =
    real_more _ _ _ _ (means answer_of c.numeral_of.ensures c.in-Ok.is) c.less-nth.ensures c.breaches.ensures c.if-breaches.false c.if-room-s.false c.stored-in-Ok.ensures c.if-s-eq0.false
