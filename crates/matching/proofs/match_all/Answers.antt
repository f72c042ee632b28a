-- `matching::match_all` meets its contract.
use Prim.Native.Nat.{◌+◌}
use native.Mathlib.Omega.{arith}
use Rattle.matching.proofs.MatchLaws.{match_there}
use Rattle.name_index.proofs.NameLaws.{number_low}
use Rattle.scene.specs.Record.{name_in}
use Rattle.tabled.proofs.TabledLaws.{tabling_all, tabling_more, tabling_none}
use Rattle.matching.proofs.match_all.Goals as goal

pub loop-i-init : goal.loop-i-init
loop-i-init c = tabling_none _ _

pub match_with-requires : goal.match_with-requires
match_with-requires c =
    let a = c.args in
    omega (arith, c.number_there-n.ensures, number_low a.b.text.now a.b.records.now (name_in a.a.text.now a.a.records.now (c.loop-i.i + 1)))

pub loop-i-preserved : goal.loop-i-preserved
loop-i-preserved c =
    let a = c.args in
    tabling_more _ _ _ c.loop-i.i c.loop-i.invariant _ (match_there a.a.text.now a.a.records.now a.a.reals.now a.b.text.now a.b.records.now a.b.reals.now _ _ _ c.number_there-n.ensures c.match_with.ensures) (omega arith)

pub shape_of-matches : goal.shape_of-matches
shape_of-matches c = c.loop-i.invariant.size

pub returns : goal.returns
returns c = tabling_all _ _ _ c.loop-i.i c.loop-i.invariant (omega arith)
