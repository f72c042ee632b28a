-- `fresh::same_reals` meets its contract.
use mathlib.Core.Path.{◌≡◌, sym}
use Prim.Native.Nat.{◌<◌}
use Rattle.std.proofs.Common.{rules, tests}
use native.Mathlib.Omega.{arith}
use lib.Dec.{eqb}
use lib.Ieee.{Float, binary64, to_bits}
use lib.ListN.{length}
use Rattle.std.proofs.lemmas.Grind.{common_steps}
use Rattle.std.proofs.lemmas.Iterator.{YieldsList-from_slice}
use Rattle.std.proofs.lemmas.Iterator.Search.{all_from_yields_List}
use Rattle.std.specs.List.{IsSplitAt}
use Rattle.bits.proofs.BitsLaws.{reals_length}
use Rattle.scene.specs.HouseRules.{zero_real}
use Rattle.scene.proofs.ImageLaws.{filled_over}
use Rattle.fresh.proofs.FreshLaws.{bits_differ, bits_decide}
use Rattle.fresh.proofs.same_reals.Goals as goal
use Rattle.fresh.proofs.same_reals.Goals.{In-Some}

pub returns-in_default : goal.returns-in_default
returns-in_default c = let short : length c.args.table.now < length c.args.fresh.now = search rules in sym (reals_length _ _ (filled_over zero_real _ c.args.fresh.now short))

split : (c : In-Some) → IsSplitAt c.args.table.now (length c.args.fresh.now) c.in-Some.front.now c.in-Some.rest.now
split c = search rules

pub returns-then-same_front : goal.returns-then-same_front
returns-then-same_front c = bits_decide c.args.table.now c.in-Some.front.now c.in-Some.rest.now c.args.fresh.now (split (goal.at.returns-then-same_front c).In-Some) _ (grind (arith, common_steps)) c.if-same_front.true _ (all_from_yields_List (λ (x : Float). eqb (to_bits binary64 x) 0) _ _ c.all.result c.all.ensures.ran (YieldsList-from_slice c.in-Some.rest.now cc) (λ x b q k. search (rules, tests)))

pub returns-else-same_front : goal.returns-else-same_front
returns-else-same_front c = bits_differ c.args.table.now c.in-Some.front.now c.in-Some.rest.now c.args.fresh.now (split (goal.at.returns-else-same_front c).In-Some) _ (grind (arith, common_steps)) c.if-same_front.false
