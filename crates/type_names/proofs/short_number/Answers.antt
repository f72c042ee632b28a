-- `type_names::short_number` meets its contract: each arm's number is that of its type's name, as antt computes.
use Rattle.laws.specs.Bytes.{same}
use Rattle.scene.specs.Types.{number_from, type_number}
use Rattle.type_names.proofs.PackLaws.{packed_type}
use Rattle.type_names.specs.Packed.{unpacked}
use Rattle.type_names.proofs.short_number.Goals as goal

pub returns-in-408397525705573 : goal.returns-in-408397525705573
unfolding unpacked type_number number_from same
returns-in-408397525705573 c = packed_type c.packed.ensures c.in-408397525705573.is

pub returns-in-408401601720933 : goal.returns-in-408401601720933
unfolding unpacked type_number number_from same
returns-in-408401601720933 c = packed_type c.packed.ensures c.in-408401601720933.is

pub returns-in-389731278023781 : goal.returns-in-389731278023781
unfolding unpacked type_number number_from same
returns-in-389731278023781 c = packed_type c.packed.ensures c.in-389731278023781.is

pub returns-in-103705303113494382 : goal.returns-in-103705303113494382
unfolding unpacked type_number number_from same
returns-in-103705303113494382 c = packed_type c.packed.ensures c.in-103705303113494382.is

pub returns-in-5963214437 : goal.returns-in-5963214437
unfolding unpacked type_number number_from same
returns-in-5963214437 c = packed_type c.packed.ensures c.in-5963214437.is

pub returns-in-23295344 : goal.returns-in-23295344
unfolding unpacked type_number number_from same
returns-in-23295344 c = packed_type c.packed.ensures c.in-23295344.is

pub returns-in-6248817253 : goal.returns-in-6248817253
unfolding unpacked type_number number_from same
returns-in-6248817253 c = packed_type c.packed.ensures c.in-6248817253.is

pub returns-in-6214479463 : goal.returns-in-6214479463
unfolding unpacked type_number number_from same
returns-in-6214479463 c = packed_type c.packed.ensures c.in-6214479463.is

pub returns-in-1565136480372 : goal.returns-in-1565136480372
unfolding unpacked type_number number_from same
returns-in-1565136480372 c = packed_type c.packed.ensures c.in-1565136480372.is

pub returns-in-1552302241133 : goal.returns-in-1552302241133
unfolding unpacked type_number number_from same
returns-in-1552302241133 c = packed_type c.packed.ensures c.in-1552302241133.is

pub returns-in-6030126967 : goal.returns-in-6030126967
unfolding unpacked type_number number_from same
returns-in-6030126967 c = packed_type c.packed.ensures c.in-6030126967.is

pub returns-in-401774635806578 : goal.returns-in-401774635806578
unfolding unpacked type_number number_from same
returns-in-401774635806578 c = packed_type c.packed.ensures c.in-401774635806578.is

pub returns-in-103701957234157923 : goal.returns-in-103701957234157923
unfolding unpacked type_number number_from same
returns-in-103701957234157923 c = packed_type c.packed.ensures c.in-103701957234157923.is

pub returns-in-1569365188972 : goal.returns-in-1569365188972
unfolding unpacked type_number number_from same
returns-in-1569365188972 c = packed_type c.packed.ensures c.in-1569365188972.is

pub returns-in-1599646822003 : goal.returns-in-1599646822003
unfolding unpacked type_number number_from same
returns-in-1599646822003 c = packed_type c.packed.ensures c.in-1599646822003.is

pub returns-in-401757488376882 : goal.returns-in-401757488376882
unfolding unpacked type_number number_from same
returns-in-401757488376882 c = packed_type c.packed.ensures c.in-401757488376882.is

pub returns-in-409509586432818 : goal.returns-in-409509586432818
unfolding unpacked type_number number_from same
returns-in-409509586432818 c = packed_type c.packed.ensures c.in-409509586432818.is

pub returns-in-1543711585139 : goal.returns-in-1543711585139
unfolding unpacked type_number number_from same
returns-in-1543711585139 c = packed_type c.packed.ensures c.in-1543711585139.is

pub returns-in-102854332335353443 : goal.returns-in-102854332335353443
unfolding unpacked type_number number_from same
returns-in-102854332335353443 c = packed_type c.packed.ensures c.in-102854332335353443.is
