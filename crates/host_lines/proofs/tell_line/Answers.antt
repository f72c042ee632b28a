-- `host_lines::tell_line` meets its contract.
use mathlib.Core.Path.{refl}
use Rattle.host_lines.proofs.HostLaws.{line_told}
use Rattle.host_lines.proofs.tell_line.Goals as goal

pub returns-in-None : goal.returns-in-None
returns-in-None c =
    let a = c.args in
    line_told a.left.text.now a.left.records.now a.left.reals.now a.right.text.now a.right.records.now a.right.reals.now a.line.now _ _ _ c.in-None.ensures c.held_in-held.ensures refl

pub returns-in-Some : goal.returns-in-Some
returns-in-Some c =
    let a = c.args in
    line_told a.left.text.now a.left.records.now a.left.reals.now a.right.text.now a.right.records.now a.right.reals.now a.line.now _ _ _ c.in-Some.ensures c.held_in-held.ensures c.values_of.ensures
