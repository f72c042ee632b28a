use mathlib.Core.Path.{◌≡◌}
use lib.ListN.{length}
use Rattle.keys.specs.After.{after}
use Rattle.keys.specs.Key.{keys_of}
use Rattle.content.specs.Scene.{rows}
use Rattle.comparison.specs.NextLine.{key_in, lines_after}
use Rattle.comparison.proofs.next_line.Given as goal

abbrev pub invariant-loop-p : goal.invariant-loop-p
invariant-loop-p l =
    let left = rows l.left in
    let right = rows l.right in
    lines_after left right (key_in left right l.initial.at) ≡ lines_after left right (key_in left right l.at)

abbrev pub decreases-loop-p : goal.decreases-loop-p
decreases-loop-p l =
    let left = rows l.left in
    let right = rows l.right in
    length (after (key_in left right l.at) (keys_of left right))
