use Rattle.std.proofs.Common.{◌-◌}
use Rattle.scene.specs.Told.{words_from}
use Rattle.lines.proofs.PutsLaws.{PutsUpTo}
use Rattle.tidying.specs.Tidy.{spaced}
use Rattle.lines.proofs.put_words.Given as goal

abbrev pub invariant-loop : goal.invariant-loop
invariant-loop l = PutsUpTo l.initial.out l.initial.end (spaced (words_from l.text l.from l.count)) (spaced (words_from l.text l.place (l.count - l.counter))) l.end l.out
