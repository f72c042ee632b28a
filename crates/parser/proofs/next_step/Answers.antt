-- `parser::next_step` meets its contract.
use mathlib.Core.Path.{ap, sym, ◌∙◌}
use Prim.Native.Nat.{ℕ, ◌+◌}
use native.Mathlib.Omega.{arith}
use Rattle.laws.proofs.RunLaws.{past_most}
use Rattle.lexer.specs.Class.{is_in_line}
use Rattle.parser.proofs.StepLaws.{ends, opens, opens_command, scanned, word_of_lem}
use Rattle.statement.specs.States.{moved_to}
use Rattle.statement.specs.Step.{Going}
use Rattle.parser.proofs.next_step.Goals as goal

pub returns-then-word-eq0 : goal.returns-then-word-eq0
returns-then-word-eq0 c = ends _ _ _ _ _ _ _ (word_of_lem _ _ _ c.checked_word-word.ensures) c.if-word-eq0.true _ c.at_end.ensures

pub bounds-text-place : goal.bounds-text-place
bounds-text-place c = omega (arith, (scanned _ _ _ c.checked_word-word.ensures).within, c.if-word-eq0.false)

pub overflow_add-end : goal.overflow_add-end
overflow_add-end c =
    omega (arith, c.line_end-end.ensures, past_most is_in_line c.args.text.now c.checked_word-word.result.place, c.well_formed.0.1)

pub word_step-requires : goal.word_step-requires
word_step-requires c = scanned _ _ _ c.checked_word-word.ensures

pub returns-in-Comment : goal.returns-in-Comment
returns-in-Comment c =
    opens _ _ _ _ _ _ _ (word_of_lem _ _ _ c.checked_word-word.ensures) c.if-word-eq0.false _ (sym c.opens.ensures ∙ c.in-Comment.is) _ (ap Going (c.moved.ensures ∙ ap (λ (n : ℕ). moved_to c.args.s (n + 1)) c.line_end-end.ensures))

pub returns-in-Command : goal.returns-in-Command
returns-in-Command c =
    c.refused.ensures
    ∙ opens_command _ _ _ _ _ _ _ (word_of_lem _ _ _ c.checked_word-word.ensures) c.if-word-eq0.false (sym c.opens.ensures ∙ c.in-Command.is)

pub returns-in-Word : goal.returns-in-Word
returns-in-Word c =
    opens _ _ _ _ _ _ _ (word_of_lem _ _ _ c.checked_word-word.ensures) c.if-word-eq0.false _ (sym c.opens.ensures ∙ c.in-Word.is) _ c.word_step.ensures
