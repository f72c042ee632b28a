-- `save_lines::put_scene` meets its contract.
use Rattle.save_lines.proofs.put_scene.Goals as goal

pub returns-in-Left : goal.returns-in-Left
returns-in-Left c =
    record { out_after = rw c.in-Left.is c.put_bytes.ensures.out_after; value = rw c.in-Left.is c.put_bytes.ensures.value }

pub returns-in-Right : goal.returns-in-Right
returns-in-Right c =
    record { out_after = rw c.in-Right.is c.put_bytes-in-Right.ensures.out_after; value = rw c.in-Right.is c.put_bytes-in-Right.ensures.value }
