-- `name_order::right_first` meets its contract.
use mathlib.Core.Path.{◌∙◌}
use native.Mathlib.Omega.{arith}
use lib.ListN.{drop}
use Rattle.name_order.proofs.TurnLaws.{right_none, left_none, both_there}
use Rattle.name_order.specs.Sort.{earlier}
use Rattle.name_order.proofs.right_first.Goals as goal

pub returns-then-right-j : goal.returns-then-right-j
returns-then-right-j c =
    let a = c.args in
    right_none (earlier a.text.now a.records.now) (drop a.i a.left.now) a.right.now a.j c.if-right-j.true

pub returns-then-left-i : goal.returns-then-left-i
returns-then-left-i c =
    let a = c.args in
    left_none (earlier a.text.now a.records.now) a.left.now a.right.now a.i a.j (omega arith) (omega arith)

pub returns : goal.returns
returns c =
    let a = c.args in
    c.earlier.ensures ∙ both_there (earlier a.text.now a.records.now) a.left.now a.right.now a.i a.j (omega arith) (omega arith)
