-- `typed_matches::all_equal` meets its contract.
use Rattle.std.proofs.Common.{length, rules, tests}
use Rattle.std.proofs.lemmas.Iterator.{YieldsList-from_slice}
use Rattle.std.proofs.lemmas.Iterator.Search.{all_from_yields_List}
use Rattle.arranging.specs.Both.{either}
use Rattle.picking.specs.Picking.{is_equal}
use Rattle.table.specs.Number.{number_in}
use Rattle.typed_matches.proofs.HeldLaws.{all_tested}
use Rattle.typed_matches.proofs.all_equal.Goals as goal

pub returns : goal.returns
returns c =
    let a = c.args in
    all_tested a.right_matches.now a.left_matches.now a.order.now c.all.result (all_from_yields_List (λ n. is_equal (either (length a.right_matches.now) (number_in a.right_matches.now) (number_in a.left_matches.now) n)) _ _ c.all.result c.all.ensures.ran (YieldsList-from_slice a.order.now cc) (λ x b q k. search (rules, tests)))
