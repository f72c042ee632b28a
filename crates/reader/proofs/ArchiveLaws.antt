-- The archive law of the running reader, from its contract and the archive law of what a scene means.
use mathlib.Core.Path.{◌≡◌, ap, sym, ◌∙◌}
use lib.ListN.{length}
use Rattle.mixed_driver.specs.Paired.{read_paired}
use Rattle.reader.proofs.PairedLaws.{enough, enough_there}
use Rattle.reader.proofs.ReadsLaws.{accepted_as}
use Rattle.reader.specs.Answer.{answered, read_into}
use Rattle.reader.specs.Archive.{ReaderArchive}
use Rattle.reader.specs.Paired.{read_with_pairs}
use Rattle.scene.proofs.ModeLaws.{archive_law}
use Rattle.scene.specs.Reading.{accepted}
use Rattle.scene.specs.Record.{real_image, record_image, settings_for}
use Rattle.scene.specs.declared.Mode.TheVariants.{New, Archive}
use Rattle.sides.proofs.MixedLaws.{accepted_too, resolved}
use Rattle.sides.specs.Sides.{pair_image}

pub reader_archive : ReaderArchive
reader_archive text lent lent' doubles doubles' sides sides' l d s n k table reals pairs R r table' reals' pairs' R' =
    let a = accepted_as (read_with_pairs New text lent doubles sides) n k R.says in
    let h = enough_there New text lent doubles sides a.entries a.reads in
    let new = settings_for New (length lent) (length doubles) in
    let e : read_into New text lent doubles ≡ accepted a.entries = sym (enough New text lent doubles sides h) ∙ a.reads in
    let f : read_into Archive text lent doubles ≡ accepted a.entries = accepted_too new (settings_for Archive (length lent) (length doubles)) text a.entries e (archive_law new text a.entries (resolved new text a.entries e).reads) in
    let g : read_with_pairs Archive text lent' doubles' sides' ≡ read_with_pairs New text lent doubles sides =
    (λ i. read_paired Archive text (l i) (d i) (s i)) ∙ enough Archive text lent doubles sides h ∙ f ∙ sym a.reads in
    record {
      answer = R'.says ∙ ap answered g ∙ sym R.says;
      records = R'.table ∙ (λ i. record_image text (l i) (g i)) ∙ sym R.table;
      doubles = R'.doubles ∙ (λ i. real_image (d i) (g i)) ∙ sym R.doubles;
      sides = R'.sides ∙ (λ i. pair_image (s i) (g i)) ∙ sym R.sides;
    }
