-- `host_joining::tell_checked` meets its contract.
use Rattle.host_joining.proofs.HostLaws.{join_told}
use Rattle.host_joining.proofs.tell_checked.Goals as goal

pub returns : goal.returns
returns c = rw (← c.mode_of-m.ensures) (join_told _ _ _ _ c.check-joined.ensures c.tell_answer.ensures.value c.tell_answer.ensures.answer_after)
