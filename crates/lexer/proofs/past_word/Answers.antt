-- `lexer::past_word` meets its contract: the word ends within the text, so the sum fits.
use mathlib.Core.Path.{ap}
use native.Mathlib.Omega.{arith}
use Rattle.lexer.proofs.WordLaws.{end_most}
use Rattle.lexer.specs.declared.Word.{Word}
use Rattle.lexer.proofs.past_word.Goals as goal

pub overflow_add-result : goal.overflow_add-result
overflow_add-result c =
    let a = c.args in
    omega (arith, end_most a.text.now a.at, ap (λ (w : Word). w.place) c.next_word-word.ensures, ap (λ (w : Word). w.len) c.next_word-word.ensures)
