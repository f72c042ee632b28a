-- `save_lines::put_state` meets its contract.
use Rattle.save_lines.proofs.put_state.Goals as goal

pub returns-in-OnlyLeft : goal.returns-in-OnlyLeft
returns-in-OnlyLeft c =
    record { out_after = rw c.in-OnlyLeft.is c.put_bytes.ensures.out_after; value = rw c.in-OnlyLeft.is c.put_bytes.ensures.value }

pub returns-in-OnlyRight : goal.returns-in-OnlyRight
returns-in-OnlyRight c =
    record { out_after = rw c.in-OnlyRight.is c.put_bytes-in-OnlyRight.ensures.out_after; value = rw c.in-OnlyRight.is c.put_bytes-in-OnlyRight.ensures.value }

pub returns-in-Changed : goal.returns-in-Changed
returns-in-Changed c =
    record { out_after = rw c.in-Changed.is c.put_bytes-in-Changed.ensures.out_after; value = rw c.in-Changed.is c.put_bytes-in-Changed.ensures.value }
