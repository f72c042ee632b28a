use mathlib.Core.Path.{◌≡◌}
use Prim.Native.Nat.{ℕ, ◌+◌, ◌/◌, ◌≤◌, ◌<◌, min}
use lib.ListN.{length, get_or}
use Rattle.lookup.specs.Lookup.{latest_in}
use Rattle.scene.specs.Record.{width}
use Rattle.lookup.proofs.find.Given as goal

-- the bytes from i on agree
abbrev pub invariant-loop-i : goal.invariant-loop-i
invariant-loop-i l = (l.i ≤ length l.word) × ((k : ℕ) → l.i ≤ k → k < length l.word → get_or l.text (l.name + k) 0 ≡ get_or l.word k 0)

abbrev pub invariant-search : goal.invariant-search
invariant-search l = (l.row ≤ min l.count (length l.records / width)) × (latest_in l.text l.records l.word (min l.count (length l.records / width)) ≡ latest_in l.text l.records l.word l.row)
