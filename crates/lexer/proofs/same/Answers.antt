-- `lexer::same` meets its contract: where the lengths or the last bytes differ the words do, and else std's comparison is asked.
use Rattle.std.proofs.Common.{sym, ◌∙◌}
use Rattle.lexer.proofs.SameLaws.{last_differs, same_is, same_length}
use Rattle.lexer.proofs.same.Goals as goal
use Rattle.lexer.proofs.same.Goals.{then-a-b, else-a-b}

pub returns-then-eq : goal.returns-then-eq
returns-then-eq c = c.eq-then-eq.ensures ∙ same_is _ _

pub returns-else-eq : goal.returns-else-eq
returns-else-eq c = elim c.if-a-b.branch [
  | then-a-b w ↦ c.if-eq.false ∙ last_differs _ _ _ _ _ w.last.ensures.value w.last-then-a-b.ensures.value w.eq.ensures (sym w.value-is ∙ c.if-eq.false)
  | else-a-b w ↦ c.if-eq.false ∙ sym (same_length _ _ w.if-a-b.false)
]
