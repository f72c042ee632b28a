use Rattle.scene.specs.Record.{name_in}
use Rattle.index.proofs.SearchLaws.{At}
use Rattle.index.proofs.probe.Given as goal

abbrev pub invariant-loop-passed : goal.invariant-loop-passed
invariant-loop-passed l = At l.index (name_in l.text l.records) l.word l.entry l.passed
