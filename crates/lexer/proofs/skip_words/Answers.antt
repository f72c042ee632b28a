-- `lexer::skip_words` meets its contract.
use Rattle.std.proofs.Common.{◌∙◌}
use Rattle.lexer.proofs.WordLaws.{skipped_all, skipped_more}
use Rattle.lexer.proofs.skip_words.Goals as goal

pub loop-preserved : goal.loop-preserved
loop-preserved c = skipped_more c.args.text.now c.loop.place c.args.count c.loop.counter c.loop-test.true c.past_word-place.ensures ∙ c.loop.invariant

pub returns : goal.returns
returns c = skipped_all c.args.text.now c.loop.place c.args.count c.loop.counter c.loop-test.false ∙ c.loop.invariant
