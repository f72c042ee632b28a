use mathlib.Core.Path.{◌≡◌}
use Prim.Native.Nat.{◌+◌, ◌-◌, ◌≤◌}
use lib.ListN.{length}
use Rattle.plain.specs.Plain.{Stands}
use Rattle.scene.specs.Record.{line_at}
use Rattle.plain.proofs.statements.Given as goal

abbrev pub invariant-loop-b : goal.invariant-loop-b
invariant-loop-b l =
    (Stands l.text l.initial.records l.initial.reals l.initial.index l.settings l.initial.b → Stands l.text l.records l.reals l.index l.settings l.b)
    × (l.b.line ≤ 4294967295 + line_at l.text l.b.at) × (l.initial.b.at ≤ l.b.at) × (length l.records ≡ length l.initial.records) × (length l.reals ≡ length l.initial.reals) × (length l.index ≡ length l.initial.index)

abbrev pub decreases-loop-b : goal.decreases-loop-b
decreases-loop-b l = length l.text + 1 - l.b.at
