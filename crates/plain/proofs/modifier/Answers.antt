-- `plain::modifier` meets its contract.
use Rattle.std.proofs.Common.{arith}
use borrow.Author.Tests.{ne_eqb}
use Rattle.word_scan.proofs.PassLaws.{line_most, passed_on}
use Rattle.plain.proofs.HeadLaws.{opens}
use Rattle.plain.proofs.modifier.Goals as goal

pub bounds-text-w : goal.bounds-text-w
bounds-text-w c = omega (arith, (passed_on c.args.text.now c.args.b.at _ _ c.in_ok-w.ensures.passes).3, c.in_ok-w.ensures.place_is)

pub overflow_add-result : goal.overflow_add-result
overflow_add-result c = omega (arith, c.requires, c.in_ok-w.ensures.passes.lines_on, line_most c.args.text.now c.in_ok-w.w.next, c.well_formed.0)

pub returns : goal.returns
returns c = opens c.args.text.now c.args.records.now c.args.index.now c.args.settings c.args.b c.in_ok-w.w c.in_ok-w.ensures (rw (ne_eqb _ 35 c.if-first-eq35.false, ne_eqb _ 33 c.if-first-eq33.false)) c.if-settings-b.false c.in_ok-l.l _ c.part.ensures c.in_ok-l.ensures _ c.saturating_add.ensures
