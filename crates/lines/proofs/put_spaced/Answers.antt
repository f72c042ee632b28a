-- `lines::put_spaced` meets its contract.
use mathlib.Core.List.{[], ◌∷◌}
use Rattle.laws.specs.Bytes.{byte}
use Rattle.lines.proofs.PutsLaws.{puts_more}
use Rattle.lines.proofs.put_spaced.Goals as goal

pub returns : goal.returns
returns c =
    puts_more (byte " " ∷ []) c.args.word.now c.put-behind_space.ensures c.put.ensures
