use Rattle.std.proofs.Common.{rules}
use Rattle.lexer.specs.Class.{is_in_line}
use Rattle.lexer.proofs.line_end.Goals as goal

pub returns : goal.returns
unfolding is_in_line
returns c = c.scan.ensures is_in_line (λ b r p. search rules)
