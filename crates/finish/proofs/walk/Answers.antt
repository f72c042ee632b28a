-- `finish::walk` meets its contract.
use mathlib.Core.Path.{◌∙◌, sym}
use native.Mathlib.Omega.{arith}
use Rattle.finish.proofs.WalkLaws.{walk_start}
use Rattle.table.specs.View.{view_of}
use Rattle.finish.proofs.walk.Goals as goal

pub loop-finish-init : goal.loop-finish-init
loop-finish-init c = walk_start (view_of c.args.records.now) c.args.allowance c.args.number

pub returns-in-Break : goal.returns-in-Break
returns-in-Break c = sym (c.loop-finish.invariant ∙ (rw c.in-Break.is at c.follow.ensures))

pub overflow_add-links : goal.overflow_add-links
overflow_add-links c = let x = (rw c.in-Continue.is at c.follow.ensures) in let l = x.1 in omega arith

pub loop-finish-smaller : goal.loop-finish-smaller
loop-finish-smaller c = (rw c.in-Continue.is at c.follow.ensures).0

pub loop-finish-preserved : goal.loop-finish-preserved
loop-finish-preserved c = c.loop-finish.invariant ∙ (rw c.in-Continue.is at c.follow.ensures).2
