use Rattle.std.proofs.Common.{rules}
use Rattle.lexer.specs.Class.{is_other}
use Rattle.lexer.proofs.word_end.Goals as goal

pub returns : goal.returns
unfolding is_other
returns c = c.scan.ensures is_other (λ b r p. search rules)
