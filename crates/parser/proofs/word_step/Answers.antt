-- `parser::word_step` meets its contract.
use mathlib.Core.Path.{sym, ap, ◌∙◌}
use Prim.Native.Nat.{ℕ}
use Rattle.lexer.specs.Fault.{fault_number}
use Rattle.lexer.specs.Word.{word_fault}
use Rattle.parser.proofs.StepLaws.{some_fault, word_faulty, word_good}
use Rattle.statement.specs.Step.{Refused}
use Rattle.parser.proofs.word_step.Goals as goal

pub returns-in-Some : goal.returns-in-Some
returns-in-Some c =
    let part = c.part-bytes.ensures in
    let fault = ap fault_number (sym c.in-Some.is) in
    c.refused.ensures
    ∙ ap (λ (n : ℕ). Refused n c.args.word.place) c.into.ensures
    ∙ word_faulty _ _ _ _ _ _ _ _ _ part (fault ∙ c.requires.fault ∙ ap word_fault (sym part)) (λ e. some_fault _ e)

pub returns : goal.returns
returns c =
    let part = c.part-bytes.ensures in
    word_good _ _ _ _ _ _ _ _ _ part (c.requires.fault ∙ ap word_fault (sym part)) (ap fault_number c.in_default.is) _ _ _ _ c.moved-t.ensures c.look-seen.ensures c.counted-counted.ensures c.advance.ensures
