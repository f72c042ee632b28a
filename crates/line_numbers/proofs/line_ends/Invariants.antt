use mathlib.Core.Path.{◌≡◌}
use lib.ListN.{take}
use Rattle.scene.specs.Record.{newlines}
use Rattle.line_numbers.proofs.line_ends.Given as goal

abbrev pub invariant-loop-b : goal.invariant-loop-b
invariant-loop-b l = l.lines ≡ newlines (take l.b-index l.text)
