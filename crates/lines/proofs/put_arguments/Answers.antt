-- `lines::put_arguments` meets its contract.
use mathlib.Core.List.{[], ◌++◌}
use mathlib.Core.Path.{ap}
use Prim.Native.Nat.{ℕ}
use Rattle.scene.specs.Told.{words_from}
use Rattle.tidying.specs.Tidy.{counted}
use Rattle.lines.proofs.LineLaws.{no_integers}
use Rattle.lines.proofs.PutsLaws.{puts_more, puts_as}
use Rattle.lines.specs.Arguments.{string_words, real_words}
use Rattle.lines.proofs.put_arguments.Goals as goal

pub returns : goal.returns
returns c =
    let a = c.args in
    let text = a.text.now in
    let strings = counted (string_words text a.name a.strings) in
    let reals = counted (real_words text a.name a.strings a.reals) in
    let strings_are = ap (λ (k : ℕ). counted (words_from text k a.strings)) c.skip_words-string.ensures in
    let reals_are = ap (λ (k : ℕ). counted (words_from text k a.reals)) c.skip_words-real.ensures in
    puts_more (strings ++ counted []) reals
    (puts_more strings (counted []) (puts_as strings strings_are c.put_counted-behind_strings.ensures) (puts_as (counted []) no_integers c.put-behind_integers.ensures))
    (puts_as reals reals_are c.put_counted.ensures)
