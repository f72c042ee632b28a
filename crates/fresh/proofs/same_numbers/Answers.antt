-- `fresh::same_numbers` meets its contract.
use mathlib.Core.Path.{◌≡◌, sym}
use Prim.Native.Nat.{ℕ, ◌<◌}
use Rattle.std.proofs.Common.{rules, tests}
use lib.Dec.{eqb}
use lib.ListN.{length}
use Rattle.std.proofs.lemmas.Iterator.{YieldsList-from_slice}
use Rattle.std.proofs.lemmas.Iterator.Search.{all_from_yields_List}
use Rattle.std.specs.List.{IsSplitAt}
use Rattle.lexer.proofs.SameLaws.{same_length}
use Rattle.scene.proofs.ImageLaws.{filled_over}
use Rattle.fresh.proofs.FreshLaws.{by_number, front_differs, rest_decides}
use Rattle.fresh.proofs.same_numbers.Goals as goal
use Rattle.fresh.proofs.same_numbers.Goals.{In-Some}

pub returns-in_default : goal.returns-in_default
returns-in_default c = let short : length c.args.table.now < length c.args.fresh.now = search rules in sym (same_length _ _ (filled_over 0 _ c.args.fresh.now short))

split : (c : In-Some) → IsSplitAt c.args.table.now (length c.args.fresh.now) c.in-Some.front.now c.in-Some.rest.now
split c = search rules

pub returns-then-eq : goal.returns-then-eq
returns-then-eq c = rest_decides by_number 0 c.args.table.now c.in-Some.front.now c.in-Some.rest.now c.args.fresh.now (split (goal.at.returns-then-eq c).In-Some) _ c.eq.ensures c.if-eq.true _ (all_from_yields_List (λ (n : ℕ). eqb n 0) _ _ c.all.result c.all.ensures.ran (YieldsList-from_slice c.in-Some.rest.now cc) (λ x b q k. search (rules, tests)))

pub returns-else-eq : goal.returns-else-eq
returns-else-eq c = front_differs by_number 0 c.args.table.now c.in-Some.front.now c.in-Some.rest.now c.args.fresh.now (split (goal.at.returns-else-eq c).In-Some) _ c.eq.ensures c.if-eq.false
