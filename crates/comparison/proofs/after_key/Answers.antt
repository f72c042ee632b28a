-- `comparison::after_key` meets its contract.
use Rattle.keys.specs.Key.{nth_of}
use Rattle.content.specs.Scene.{bare_rows}
use Rattle.comparison.proofs.StepLaws.{follows_none, follows_some}
use Rattle.comparison.proofs.after_key.Goals as goal

pub returns-in-Some : goal.returns-in-Some
returns-in-Some c =
    let a = c.args in
    follows_some (bare_rows a.left) (bare_rows a.right) (nth_of a.name.now a.nth) _ c.in-Some.ensures

pub returns-in-None : goal.returns-in-None
returns-in-None c =
    let a = c.args in
    follows_none (bare_rows a.left) (bare_rows a.right) (nth_of a.name.now a.nth) c.in-None.ensures _ c.next_name.ensures
