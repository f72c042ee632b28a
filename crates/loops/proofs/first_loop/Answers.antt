-- `loops::first_loop` meets its contract.
use mathlib.Core.Path.{◌∙◌, refl}
use native.Mathlib.Omega.{arith}
use lib.ListN.{length}
use Rattle.graph.specs.Answers.{lowest}
use Rattle.graph.specs.Graph.{graph_of}
use Rattle.loops.proofs.LoopLaws.{loop_found, loop_none, loop_passed, same_size}
use Rattle.loops.proofs.first_loop.Goals as goal

pub loop-n-init : goal.loop-n-init
unfolding lowest
loop-n-init c = (refl, omega arith, λ w. refl)

pub returns-then-is_looped : goal.returns-then-is_looped
returns-then-is_looped c =
    let t = c.is_looped in
    let l = c.loop-n in
    let test = c.loop-n-test.true in
    let a = c.args in
    let g = graph_of a.records.now a.pairs.now in record { marks_len_unchanged = t.ensures.marks_len_unchanged ∙ l.invariant.0; finds = λ w. loop_found g (length a.marks.now) l.n (same_size g l.n l.invariant.0 t.ensures.tells) w (omega arith) (omega (arith, l.invariant.0, test)) (l.invariant.2 w) c.if-is_looped.true }

pub loop-n-preserved : goal.loop-n-preserved
loop-n-preserved c =
    let t = c.is_looped in
    let l = c.loop-n in
    let test = c.loop-n-test.true in
    let a = c.args in
    let g = graph_of a.records.now a.pairs.now in (
      t.ensures.marks_len_unchanged ∙ l.invariant.0,
      omega (arith, l.invariant.0, test),
      λ w. loop_passed g (length a.marks.now) l.n (same_size g l.n l.invariant.0 t.ensures.tells) w (omega arith) (omega (arith, l.invariant.0, test)) (l.invariant.2 w) c.if-is_looped.false,
    )

pub shape_of-marks : goal.shape_of-marks
shape_of-marks c = c.loop-n.invariant.0

pub returns : goal.returns
returns c =
    let l = c.loop-n in
    let a = c.args in
    record { marks_len_unchanged = l.invariant.0; finds = λ w. loop_none (graph_of a.records.now a.pairs.now) (length a.marks.now) l.n (omega (arith, l.invariant.0, l.invariant.1, c.loop-n-test.false)) (l.invariant.2 w) }
