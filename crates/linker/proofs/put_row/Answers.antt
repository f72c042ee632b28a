-- `linker::put_row` meets its contract: the row is stored number by number.
use Prim.Native.Nat.{◌*◌}
use Rattle.scene.specs.Record.{width}
use native.Mathlib.Omega.{arith}
use lib.ListN.{length-set}
use Rattle.linker.proofs.TableLaws.{row_stored}
use Rattle.linker.proofs.put_row.Goals as goal

pub bounds-records-at-2 : goal.bounds-records-at-2
bounds-records-at-2 c = simp length-set (omega arith)

pub bounds-records-at-3 : goal.bounds-records-at-3
bounds-records-at-3 c = simp length-set (omega arith)

pub bounds-records-at-4 : goal.bounds-records-at-4
bounds-records-at-4 c = simp length-set (omega arith)

pub bounds-records-at-5 : goal.bounds-records-at-5
bounds-records-at-5 c = simp length-set (omega arith)

pub bounds-records-at-6 : goal.bounds-records-at-6
bounds-records-at-6 c = simp length-set (omega arith)

pub bounds-records-at-7 : goal.bounds-records-at-7
bounds-records-at-7 c = simp length-set (omega arith)

pub bounds-records-at-8 : goal.bounds-records-at-8
bounds-records-at-8 c = simp length-set (omega arith)

pub bounds-records-at-9 : goal.bounds-records-at-9
bounds-records-at-9 c = simp length-set (omega arith)

pub bounds-records-at-10 : goal.bounds-records-at-10
bounds-records-at-10 c = simp length-set (omega arith)

pub bounds-records-at-11 : goal.bounds-records-at-11
bounds-records-at-11 c = simp length-set (omega arith)

pub shape_of-records : goal.shape_of-records
shape_of-records c = simp length-set

pub returns : goal.returns
returns c =
    let a = c.args in
    row_stored a.records.now (a.n * width) a.d.kind a.d.modifier a.d.target a.d.name a.d.size a.d.string a.d.strings a.d.real a.d.reals 0 a.line
