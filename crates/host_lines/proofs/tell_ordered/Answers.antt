-- `host_lines::tell_ordered` meets its contract.
use Rattle.ordered.specs.Lent.{lent}
use Rattle.host_lines.proofs.OrderedLaws.{end_told, line_told}
use Rattle.host_lines.proofs.tell_ordered.Goals as goal

pub returns-in-None : goal.returns-in-None
returns-in-None c =
    let a = c.args in
    end_told (lent a.left) (lent a.right) a.line.now c.in-None.ensures

pub returns-in-Some : goal.returns-in-Some
returns-in-Some c =
    let a = c.args in
    line_told (lent a.left) (lent a.right) a.line.now _ _ c.in-Some.ensures c.values_of.ensures
