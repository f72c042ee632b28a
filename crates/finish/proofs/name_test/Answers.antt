-- `finish::name_test` meets its contract.
use native.Mathlib.Omega.{arith}
use Rattle.finish.proofs.QuestionLaws.{name_empty, name_inside, name_outside}
use Rattle.finish.proofs.name_test.Goals as goal

pub returns-then-len-eq0 : goal.returns-then-len-eq0
returns-then-len-eq0 c = name_empty c.args.text.now c.args.place c.args.len (omega arith)

pub returns-then-text-place : goal.returns-then-text-place
returns-then-text-place c = name_outside c.args.text.now c.args.place c.args.len (omega arith) (omega arith)

pub returns-then-text-place-2 : goal.returns-then-text-place-2
returns-then-text-place-2 c = name_outside c.args.text.now c.args.place c.args.len (omega arith) (omega arith)

pub returns : goal.returns
returns c = name_inside c.args.text.now c.args.place c.args.len (omega arith) (omega arith)
