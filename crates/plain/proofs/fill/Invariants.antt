use Rattle.std.proofs.Common.{◌≡◌, ◌+◌, ◌≤◌, length}
use Rattle.plain.specs.Plain.{Fills}
use Rattle.scene.specs.Record.{line_at}
use Rattle.plain.proofs.fill.Given as goal

abbrev pub invariant-loop-left : goal.invariant-loop-left
invariant-loop-left l =
    Fills l.text l.initial.reals l.settings l.d l.initial.f l.f l.reals × (length l.reals ≡ length l.initial.reals) × (l.initial.f.line ≤ 4294967295 + line_at l.text l.initial.f.at)
    × (l.f.left ≡ l.left)
