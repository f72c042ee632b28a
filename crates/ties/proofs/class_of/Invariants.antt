use mathlib.Core.Path.{◌≡◌}
use Prim.Native.Nat.{◌≤◌}
use Rattle.scene.specs.Record.{name_in}
use Rattle.ties.specs.Ties.{first_of}
use Rattle.ties.proofs.class_of.Given as goal

abbrev pub invariant-loop-m : goal.invariant-loop-m
invariant-loop-m l = (l.m ≤ l.n) × (first_of l.text l.records (name_in l.text l.records l.n) l.m ≡ 0)
