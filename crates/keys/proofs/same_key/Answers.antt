-- `keys::same_key_lem` meets its contract.
use Rattle.keys.proofs.ScanLaws.{keys_apart, keys_names}
use Rattle.keys.proofs.same_key.Goals as goal

pub returns-then-key_nth : goal.returns-then-key_nth
returns-then-key_nth c = keys_apart _ _ _ _ c.key_nth.ensures c.key_nth-2.ensures c.if-key_nth.true

pub returns : goal.returns
returns c = keys_names _ _ _ _ c.key_nth.ensures c.key_nth-2.ensures c.if-key_nth.false _ _ _ c.key_name.ensures c.key_name-2.ensures c.same.ensures
