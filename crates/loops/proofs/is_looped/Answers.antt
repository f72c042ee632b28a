-- `loops::is_looped` meets its contract.
use mathlib.Core.Path.{refl}
use native.Mathlib.Omega.{arith}
use borrow.Author.Tests.{eqb-true}
use lib.Dec.{eqb}
use lib.ListN.{length}
use Rattle.graph.specs.Graph.{graph_of}
use Rattle.laws.proofs.BoolLaws.{and_left, and_right}
use Rattle.loops.proofs.LoopLaws.{by_mark, no_sides, outside}
use Rattle.loops.proofs.is_looped.Goals as goal

pub returns-then-side : goal.returns-then-side
returns-then-side c =
    let a = c.args in
    let none = eqb c.side.result 0 in
    let other = eqb c.side-2.result 0 in
    record { marks_len_unchanged = refl; tells = no_sides (graph_of a.records.now a.pairs.now) (length a.marks.now) a.n c.side.ensures c.side-2.ensures (eqb-true c.side.result 0 (and_left none other c.if-side.true)) (eqb-true c.side-2.result 0 (and_right none other c.if-side.true)) }

pub shape_of-marks-then-n-marks : goal.shape_of-marks-then-n-marks
shape_of-marks-then-n-marks c = c.reach.ensures.marks_len_unchanged

pub returns-then-n-marks : goal.returns-then-n-marks
returns-then-n-marks c =
    let a = c.args in
    record { marks_len_unchanged = c.reach.ensures.marks_len_unchanged; tells = by_mark (graph_of a.records.now a.pairs.now) (length a.marks.now) a.n c.reach.ensures.reaches_from }

pub shape_of-marks : goal.shape_of-marks
shape_of-marks c = c.reach.ensures.marks_len_unchanged

pub returns : goal.returns
returns c =
    let a = c.args in
    record { marks_len_unchanged = c.reach.ensures.marks_len_unchanged; tells = outside (graph_of a.records.now a.pairs.now) (length a.marks.now) a.n (omega (arith, c.reach.ensures.marks_len_unchanged, c.if-n-marks.false)) _ }
