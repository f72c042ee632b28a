-- `precedence::binder` meets its contract.
use mathlib.Core.Bool.{true, false}
use Rattle.precedence.proofs.AnswerLaws.{binder_is}
use Rattle.precedence.proofs.binder.Goals as goal

pub returns-then-gives_to : goal.returns-then-gives_to
returns-then-gives_to c =
    let a = c.args in
    binder_is a.records.now a.classes.now a.n a.k _ true c.gives_to.ensures c.if-gives_to.true

pub returns : goal.returns
returns c =
    let a = c.args in
    binder_is a.records.now a.classes.now a.n a.k _ false c.gives_to.ensures c.if-gives_to.false
