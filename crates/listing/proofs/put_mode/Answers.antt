-- `listing::put_mode` meets its contract.
use Rattle.listing.proofs.put_mode.Goals as goal

pub returns-in-New : goal.returns-in-New
returns-in-New c =
    record { out_after = rw c.in-New.is c.put_bytes.ensures.out_after; value = rw c.in-New.is c.put_bytes.ensures.value }

pub returns-in-Archive : goal.returns-in-Archive
returns-in-Archive c =
    record { out_after = rw c.in-Archive.is c.put_bytes-in-Archive.ensures.out_after; value = rw c.in-Archive.is c.put_bytes-in-Archive.ensures.value }
