use Rattle.std.proofs.Common.{◌≡◌, ◌-◌, drop}
use Rattle.scene.specs.Types.{types, number_from, type_number}
use Rattle.type_names.proofs.searched.Given as goal

abbrev pub invariant-loop-t : goal.invariant-loop-t
invariant-loop-t l = number_from l.t l.word (drop (l.t - 1) types) ≡ type_number l.word
