-- `kinds::rules` meets its contract: each arm has its type's rules, as antt computes.
use Rattle.std.proofs.Common.{ap, rules}
use Rattle.scene.specs.Types.{Kind, kind_of}
use Rattle.scene.proofs.KindLaws.{no_kind}
use Rattle.kinds.proofs.CountLaws.{reals_is, strings_is}
use Rattle.kinds.proofs.rules.Goals as goal

pub returns-in_default : goal.returns-in_default
returns-in_default c = let none = no_kind _ (search rules) in record { strings = ap (λ (x : Kind). x.strings) none; reals = ap (λ (x : Kind). x.reals) none }

pub returns-in-1 : goal.returns-in-1
unfolding kind_of
returns-in-1 c = record { strings = strings_is c.in-1.is; reals = reals_is c.in-1.is }

pub returns-in-2 : goal.returns-in-2
unfolding kind_of
returns-in-2 c = record { strings = strings_is c.in-2.is; reals = reals_is c.in-2.is }

pub returns-in-3 : goal.returns-in-3
unfolding kind_of
returns-in-3 c = record { strings = strings_is c.in-3.is; reals = reals_is c.in-3.is }

pub returns-in-4 : goal.returns-in-4
unfolding kind_of
returns-in-4 c = record { strings = strings_is c.in-4.is; reals = reals_is c.in-4.is }

pub returns-in-5 : goal.returns-in-5
unfolding kind_of
returns-in-5 c = record { strings = strings_is c.in-5.is; reals = reals_is c.in-5.is }

pub returns-in-6 : goal.returns-in-6
unfolding kind_of
returns-in-6 c = record { strings = strings_is c.in-6.is; reals = reals_is c.in-6.is }

pub returns-in-7 : goal.returns-in-7
unfolding kind_of
returns-in-7 c = record { strings = strings_is c.in-7.is; reals = reals_is c.in-7.is }

pub returns-in-8 : goal.returns-in-8
unfolding kind_of
returns-in-8 c = record { strings = strings_is c.in-8.is; reals = reals_is c.in-8.is }

pub returns-in-9 : goal.returns-in-9
unfolding kind_of
returns-in-9 c = record { strings = strings_is c.in-9.is; reals = reals_is c.in-9.is }

pub returns-in-10 : goal.returns-in-10
unfolding kind_of
returns-in-10 c = record { strings = strings_is c.in-10.is; reals = reals_is c.in-10.is }

pub returns-in-11 : goal.returns-in-11
unfolding kind_of
returns-in-11 c = record { strings = strings_is c.in-11.is; reals = reals_is c.in-11.is }

pub returns-in-12 : goal.returns-in-12
unfolding kind_of
returns-in-12 c = record { strings = strings_is c.in-12.is; reals = reals_is c.in-12.is }

pub returns-in-13 : goal.returns-in-13
unfolding kind_of
returns-in-13 c = record { strings = strings_is c.in-13.is; reals = reals_is c.in-13.is }

pub returns-in-14 : goal.returns-in-14
unfolding kind_of
returns-in-14 c = record { strings = strings_is c.in-14.is; reals = reals_is c.in-14.is }

pub returns-in-15 : goal.returns-in-15
unfolding kind_of
returns-in-15 c = record { strings = strings_is c.in-15.is; reals = reals_is c.in-15.is }

pub returns-in-16 : goal.returns-in-16
unfolding kind_of
returns-in-16 c = record { strings = strings_is c.in-16.is; reals = reals_is c.in-16.is }

pub returns-in-17 : goal.returns-in-17
unfolding kind_of
returns-in-17 c = record { strings = strings_is c.in-17.is; reals = reals_is c.in-17.is }

pub returns-in-18 : goal.returns-in-18
unfolding kind_of
returns-in-18 c = record { strings = strings_is c.in-18.is; reals = reals_is c.in-18.is }

pub returns-in-19 : goal.returns-in-19
unfolding kind_of
returns-in-19 c = record { strings = strings_is c.in-19.is; reals = reals_is c.in-19.is }

pub returns-in-20 : goal.returns-in-20
unfolding kind_of
returns-in-20 c = record { strings = strings_is c.in-20.is; reals = reals_is c.in-20.is }

pub returns-in-21 : goal.returns-in-21
unfolding kind_of
returns-in-21 c = record { strings = strings_is c.in-21.is; reals = reals_is c.in-21.is }

pub returns-in-22 : goal.returns-in-22
unfolding kind_of
returns-in-22 c = record { strings = strings_is c.in-22.is; reals = reals_is c.in-22.is }

pub returns-in-23 : goal.returns-in-23
unfolding kind_of
returns-in-23 c = record { strings = strings_is c.in-23.is; reals = reals_is c.in-23.is }

pub returns-in-24 : goal.returns-in-24
unfolding kind_of
returns-in-24 c = record { strings = strings_is c.in-24.is; reals = reals_is c.in-24.is }

pub returns-in-25 : goal.returns-in-25
unfolding kind_of
returns-in-25 c = record { strings = strings_is c.in-25.is; reals = reals_is c.in-25.is }
