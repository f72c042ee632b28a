use mathlib.Core.Bool.{false}
use mathlib.Core.Path.{◌≡◌}
use Prim.Native.Nat.{◌-◌, ◌<◌}
use lib.ListN.{length, get_or}
use Rattle.lexer.specs.Class.{is_blank}
use Rattle.rearrangement.specs.Layout.{first_word}
use Rattle.blocks.proofs.first_word.Given as goal

abbrev pub invariant-loop-place : goal.invariant-loop-place
invariant-loop-place l = (first_word l.text l.place ≡ first_word l.text l.at) × (l.place < length l.text → is_blank (get_or l.text l.place 0) ≡ false)

abbrev pub decreases-loop-place : goal.decreases-loop-place
decreases-loop-place l = length l.text - l.place
