use Rattle.std.proofs.Common.{◌≡◌, ◌+◌}
use Rattle.laws.specs.Runs.{past}
use Rattle.lexer.specs.Class.{is_blank}
use Rattle.scene.specs.Record.{line_at}
use Rattle.word_scan.proofs.skip.Given as goal

abbrev pub invariant-loop-place : goal.invariant-loop-place
invariant-loop-place l = (past is_blank l.text l.place ≡ past is_blank l.text l.at) × (line_at l.text l.at + l.lines ≡ line_at l.text l.place)
