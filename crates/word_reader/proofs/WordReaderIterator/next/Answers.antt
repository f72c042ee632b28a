use Rattle.std.proofs.Common.{rules, ap, sym, ◌∙◌}
use native.Mathlib.Omega.{arith}
use Rattle.lexer.specs.declared.Word.{Word}
use Rattle.word_reader.proofs.WordsLaws.{none_left, one_left}
use Rattle.word_reader.proofs.WordReaderIterator.next.Goals as goal

pub returns-then-word-eq0-clause-steps : goal.returns-then-word-eq0-clause-steps
returns-then-word-eq0-clause-steps c =
    let n = none_left _ _ (sym (ap (λ (w : Word). w.len) c.next-word.ensures) ∙ c.if-word-eq0.true) in
    (n, n)

pub returns-clause-steps : goal.returns-clause-steps
returns-clause-steps c =
    let n = one_left c.args.self.now.text.now c.args.self.now.at (omega (arith, ap (λ (w : Word). w.len) c.next-word.ensures, c.if-word-eq0.false)) in
    search rules

pub returns-clause-goes : goal.returns-clause-goes
returns-clause-goes c = let s = returns-clause-steps c in search rules
