-- `plain::alias` meets its contract.
use Rattle.std.proofs.Common.{arith}
use Rattle.word_scan.proofs.PassLaws.{line_most}
use Rattle.plain.proofs.HeadLaws.{begins_alias}
use Rattle.plain.proofs.alias.Goals as goal

pub overflow_add-result : goal.overflow_add-result
overflow_add-result c = omega (arith, c.requires, c.in_ok-n.ensures.word.passes.lines_on, line_most c.args.text.now c.in_ok-n.n.next, c.well_formed.0)

pub overflow_add-result-2 : goal.overflow_add-result-2
overflow_add-result-2 c = omega (arith, c.requires, c.in_ok-n.ensures.word.passes.lines_on, c.in_ok-t.ensures.passes.lines_on, line_most c.args.text.now c.in_ok-t.t.next, c.well_formed.0)

pub overflow_add-result-3 : goal.overflow_add-result-3
overflow_add-result-3 c = omega (arith, c.requires, c.in_ok-n.ensures.word.lines_before, line_most c.args.text.now c.in_ok-n.n.place, c.well_formed.0)

pub returns : goal.returns
returns c = λ room. begins_alias c.args.text.now c.args.records.now c.args.index.now room c.args.b c.args.link c.in_ok-n.n c.in_ok-t.t c.in_ok-n.ensures c.in_ok-t.ensures _ c.part.ensures c.search-found.result c.search-found.ensures c.if-number-eq0.false _ c.source_of-o.ensures _ _ _ _ c.saturating_add.ensures c.narrow.ensures c.narrow-2.ensures c.narrow-3.ensures
