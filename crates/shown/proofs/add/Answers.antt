-- `shown::add` meets its contract.
use mathlib.Core.Path.{ap, ◌∙◌}
use lib.ListN.{length, length-set}
use Rattle.scene.specs.Types.{is_material}
use Rattle.shown.proofs.ListLaws.{not_marked, not_material, one_more}
use Rattle.shown.proofs.add.Goals as goal

pub returns-then-marks-n-eq0 : goal.returns-then-marks-n-eq0
returns-then-marks-n-eq0 c = let a = c.args in not_marked a.records.now a.marks.now a.list.now a.n a.used c.if-marks-n-eq0.true

pub shape_of-list-then-is_material : goal.shape_of-list-then-is_material
shape_of-list-then-is_material c =
    let a = c.args in
    ap length c.put.ensures ∙ length-set a.list.now a.used a.n

pub returns-then-is_material : goal.returns-then-is_material
returns-then-is_material c =
    let a = c.args in
    one_more a.records.now a.marks.now a.list.now a.n a.used _ _ c.if-marks-n-eq0.false (c.is_material.ensures ∙ ap is_material c.field.ensures) c.if-is_material.true c.put.ensures

pub returns : goal.returns
returns c =
    let a = c.args in
    not_material a.records.now a.marks.now a.list.now a.n a.used _ c.if-marks-n-eq0.false (c.is_material.ensures ∙ ap is_material c.field.ensures) c.if-is_material.false
