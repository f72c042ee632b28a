-- `type_names::type_name` meets its contract: each arm has its type's name, as antt computes.
use Rattle.std.proofs.Common.{ap, sym, rules}
use Rattle.scene.proofs.KindLaws.{no_kind}
use Rattle.scene.specs.Types.{Kind, kind_of, type_name}
use Rattle.type_names.proofs.type_name.Goals as goal

pub returns-in_default : goal.returns-in_default
unfolding type_name
returns-in_default c = ap (λ (k : Kind). k.name) (no_kind _ (search rules))

pub returns-in-1 : goal.returns-in-1
unfolding type_name kind_of
returns-in-1 c = sym (ap type_name c.in-1.is)

pub returns-in-2 : goal.returns-in-2
unfolding type_name kind_of
returns-in-2 c = sym (ap type_name c.in-2.is)

pub returns-in-3 : goal.returns-in-3
unfolding type_name kind_of
returns-in-3 c = sym (ap type_name c.in-3.is)

pub returns-in-4 : goal.returns-in-4
unfolding type_name kind_of
returns-in-4 c = sym (ap type_name c.in-4.is)

pub returns-in-5 : goal.returns-in-5
unfolding type_name kind_of
returns-in-5 c = sym (ap type_name c.in-5.is)

pub returns-in-6 : goal.returns-in-6
unfolding type_name kind_of
returns-in-6 c = sym (ap type_name c.in-6.is)

pub returns-in-7 : goal.returns-in-7
unfolding type_name kind_of
returns-in-7 c = sym (ap type_name c.in-7.is)

pub returns-in-8 : goal.returns-in-8
unfolding type_name kind_of
returns-in-8 c = sym (ap type_name c.in-8.is)

pub returns-in-9 : goal.returns-in-9
unfolding type_name kind_of
returns-in-9 c = sym (ap type_name c.in-9.is)

pub returns-in-10 : goal.returns-in-10
unfolding type_name kind_of
returns-in-10 c = sym (ap type_name c.in-10.is)

pub returns-in-11 : goal.returns-in-11
unfolding type_name kind_of
returns-in-11 c = sym (ap type_name c.in-11.is)

pub returns-in-12 : goal.returns-in-12
unfolding type_name kind_of
returns-in-12 c = sym (ap type_name c.in-12.is)

pub returns-in-13 : goal.returns-in-13
unfolding type_name kind_of
returns-in-13 c = sym (ap type_name c.in-13.is)

pub returns-in-14 : goal.returns-in-14
unfolding type_name kind_of
returns-in-14 c = sym (ap type_name c.in-14.is)

pub returns-in-15 : goal.returns-in-15
unfolding type_name kind_of
returns-in-15 c = sym (ap type_name c.in-15.is)

pub returns-in-16 : goal.returns-in-16
unfolding type_name kind_of
returns-in-16 c = sym (ap type_name c.in-16.is)

pub returns-in-17 : goal.returns-in-17
unfolding type_name kind_of
returns-in-17 c = sym (ap type_name c.in-17.is)

pub returns-in-18 : goal.returns-in-18
unfolding type_name kind_of
returns-in-18 c = sym (ap type_name c.in-18.is)

pub returns-in-19 : goal.returns-in-19
unfolding type_name kind_of
returns-in-19 c = sym (ap type_name c.in-19.is)

pub returns-in-20 : goal.returns-in-20
unfolding type_name kind_of
returns-in-20 c = sym (ap type_name c.in-20.is)

pub returns-in-21 : goal.returns-in-21
unfolding type_name kind_of
returns-in-21 c = sym (ap type_name c.in-21.is)

pub returns-in-22 : goal.returns-in-22
unfolding type_name kind_of
returns-in-22 c = sym (ap type_name c.in-22.is)

pub returns-in-23 : goal.returns-in-23
unfolding type_name kind_of
returns-in-23 c = sym (ap type_name c.in-23.is)

pub returns-in-24 : goal.returns-in-24
unfolding type_name kind_of
returns-in-24 c = sym (ap type_name c.in-24.is)

pub returns-in-25 : goal.returns-in-25
unfolding type_name kind_of
returns-in-25 c = sym (ap type_name c.in-25.is)
