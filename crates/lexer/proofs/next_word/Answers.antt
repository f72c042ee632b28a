-- `lexer::next_word` meets its contract: the two scans give the word.
use native.Mathlib.Omega.{arith}
use Rattle.laws.proofs.RunLaws.{past_least, past_most}
use Rattle.lexer.proofs.WordLaws.{scanned}
use Rattle.lexer.specs.Class.{is_blank, is_other}
use Rattle.lexer.proofs.next_word.Goals as goal

pub overflow_sub-result : goal.overflow_sub-result
overflow_sub-result c = omega (arith, past_least is_other c.args.text.now c.skip_blanks-place.result, past_most is_blank c.args.text.now c.args.at)

pub returns : goal.returns
returns c = scanned _ _ _ _ c.skip_blanks-place.ensures c.word_end-end.ensures
