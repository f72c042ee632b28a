use Rattle.std.proofs.Common.{◌≡◌, ◌-◌}
use Rattle.lexer.specs.Word.{behind_words}
use Rattle.lexer.proofs.skip_words.Given as goal

abbrev pub invariant-loop : goal.invariant-loop
invariant-loop l = behind_words l.text l.place (l.count - l.counter) ≡ behind_words l.text l.at l.count
