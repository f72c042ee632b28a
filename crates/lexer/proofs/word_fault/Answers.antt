-- `lexer::word_fault` meets its contract.
use Rattle.std.proofs.Common.{sym, ◌∙◌}
use Rattle.lexer.proofs.CheckedLaws.{bad_within, good_whole}
use Rattle.lexer.proofs.WordLaws.{fault_bad, fault_length}
use Rattle.lexer.proofs.word_fault.Goals as goal

pub returns-then-good_end-word : goal.returns-then-good_end-word
returns-then-good_end-word c = sym (fault_bad _ (bad_within _ _ c.good_end.ensures c.if-good_end-word.true))

pub returns : goal.returns
returns c = c.long_fault.ensures ∙ sym (fault_length _ (good_whole _ _ c.good_end.ensures c.if-good_end-word.false))
