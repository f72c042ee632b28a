-- `validation::validate` meets its contract.
use Rattle.validation.proofs.ValidateLaws.{known_validates, plain_validates, unknown_validates}
use Rattle.validation.proofs.validate.Goals as goal

pub returns-in-Plain : goal.returns-in-Plain
returns-in-Plain c =
    let a = c.args in
    let r = c.resolve.ensures in
    record { pairs_len_unchanged = r.same; validates = plain_validates a.text.now a.records.now a.index.now a.pairs.now _ a.count r c.in-Plain.is }

pub returns-in-Known : goal.returns-in-Known
returns-in-Known c =
    let a = c.args in
    let r = c.resolve.ensures in
    record { pairs_len_unchanged = r.same; validates = known_validates a.text.now a.records.now a.index.now a.pairs.now _ a.count r c.in-Known.is c.loop_refusal.ensures }

pub returns-in-Unknown : goal.returns-in-Unknown
returns-in-Unknown c =
    let a = c.args in
    let r = c.resolve.ensures in
    record { pairs_len_unchanged = r.same; validates = unknown_validates a.text.now a.records.now a.index.now a.pairs.now _ a.count r c.in-Unknown.is }
