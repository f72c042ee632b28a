use Rattle.typed_matches.proofs.HeldLaws.{all_alike, named_twice, not_as_many}
use Rattle.typed_matches.proofs.all_held.Goals as goal

-- src/lib.rt:48:9
pub returns-then-not-names_once : goal.returns-then-not-names_once
returns-then-not-names_once c =
    let a = c.args in
    named_twice a.right_matches.now a.left_matches.now a.order.now a.typed.now a.typed_records.now _ c.names_once.ensures c.if-not-names_once.true-raw

-- src/lib.rt:51:9
pub returns-then-order-typed_records : goal.returns-then-order-typed_records
returns-then-order-typed_records c =
    let a = c.args in
    not_as_many a.right_matches.now a.left_matches.now a.order.now a.typed.now a.typed_records.now _ c.names_once.ensures c.if-not-names_once.false-raw c.if-order-typed_records.true

-- src/lib.rt:38:1
pub returns : goal.returns
returns c =
    let a = c.args in
    all_alike a.right_matches.now a.left_matches.now a.order.now a.typed.now a.typed_records.now _ c.names_once.ensures c.if-not-names_once.false-raw c.if-order-typed_records.false _ c.all_equal.ensures
