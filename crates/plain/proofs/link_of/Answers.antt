-- `plain::link_of` meets its contract.
use Rattle.plain.proofs.HeadLaws.{found_links, void_links}
use Rattle.plain.proofs.link_of.Goals as goal

pub returns-then-same : goal.returns-then-same
returns-then-same c = void_links c.args.text.now c.args.records.now c.args.index.now c.args.count c.args.word.now c.same.ensures c.if-same.true

pub returns : goal.returns
returns c = found_links c.args.text.now c.args.records.now c.args.index.now c.args.count c.args.word.now c.same.ensures c.if-same.false c.search-found.result c.search-found.ensures _ c.narrow.ensures c.if-found-eq0.false
