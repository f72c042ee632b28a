-- `listing::row_line` meets its contract.
use Rattle.scene.specs.Record.{record_in}
use Rattle.listing.specs.Listing.{row_line}
use Rattle.listing.proofs.row_line.Goals as goal

pub returns : goal.returns
unfolding row_line record_in
returns c =
    record { out_after = simp (← c.field.ensures, ← c.field-2.ensures, ← c.field-3.ensures, ← c.name_of.ensures, ← c.field-4.ensures) c.put_line.ensures.out_after; value = simp (← c.field.ensures, ← c.field-2.ensures, ← c.field-3.ensures, ← c.name_of.ensures, ← c.field-4.ensures) c.put_line.ensures.value }
