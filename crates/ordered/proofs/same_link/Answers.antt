-- `ordered::same_link` meets its contract.
use Rattle.content.proofs.ContentLaws.{links_lead}
use Rattle.keys.proofs.ScanLaws.{keys_apart, keys_names}
use Rattle.ordered.specs.Lent.{lent}
use Rattle.ordered.specs.Lines.{key_by}
use Rattle.ordered.proofs.same_link.Goals as goal

pub returns-then-nth_of : goal.returns-then-nth_of
returns-then-nth_of c =
    let a = c.args in
    links_lead (key_by (lent a.left)) (key_by (lent a.right)) c.number-i.result c.number-j.result _ _ _ c.number-i.ensures c.number-j.ensures (keys_apart (key_by (lent a.left) c.number-i.result) (key_by (lent a.right) c.number-j.result) _ _ c.nth_of.ensures c.nth_of-2.ensures c.if-nth_of.true)

pub returns : goal.returns
returns c =
    let a = c.args in
    links_lead (key_by (lent a.left)) (key_by (lent a.right)) c.number-i.result c.number-j.result _ _ _ c.number-i.ensures c.number-j.ensures (keys_names (key_by (lent a.left) c.number-i.result) (key_by (lent a.right) c.number-j.result) _ _ c.nth_of.ensures c.nth_of-2.ensures c.if-nth_of.false _ _ _ c.key_name.ensures c.key_name-2.ensures c.same.ensures)
