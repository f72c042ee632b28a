-- The table of an accepted text answers questions about each of its primitives.
use mathlib.Core.List.{List, [], ◌∷◌, ◌++◌}
use mathlib.Core.Path.{◌≡◌, ap, sym, ◌∙◌, subst}
use Prim.Native.Nat.{ℕ, suc, ◌-◌, ◌*◌, ◌≤◌}
use native.Mathlib.Omega.{arith}
use borrow.Author.Tests.{le-leb}
use lib.ListN.{replicate, length, length-append}
use Rattle.laws.specs.Bytes.{Bytes}
use Rattle.scene.proofs.AcceptLaws.{accept_forth}
use Rattle.scene.proofs.FlatLaws.{record_in_lem, flat_length}
use Rattle.scene.proofs.RoomLaws.{fit_forth}
use Rattle.scene.proofs.TellsLaws.{records_length, statements_length}
use Rattle.scene.specs.Reading.{Reading, Entry, statements, accepted, read_statements}
use Rattle.scene.specs.Record.{flat, record_in, records, record_image, nth, width}
use Rattle.scene.specs.declared.Settings.{Settings}
use Rattle.table.specs.Question.{number_refusal}

module _ (r : Settings) (text : Bytes) (es : List Entry) (reads : read_statements r text ≡ accepted es) (m : ℕ) where
  pub image_row : (n : ℕ) → record_in (record_image text m (read_statements r text)) n ≡ nth (records es) n
  unfolding record_image
  image_row n = ap (λ (z : Reading). record_in (record_image text m z) n) reads ∙ record_in_lem text (records es) m n

  image_length : length es * width ≤ length (record_image text m (read_statements r text))
  unfolding record_image records
  image_length = subst (λ (z : Reading). length es * width ≤ length (record_image text m z)) (sym reads) (omega (arith, length-append (flat text (records es)) (replicate (m - length (flat text (records es))) 0), flat_length text (records es), records_length [] es))

  -- a primitive of the table can be asked about, where the room was document 01's
  pub number_fine : (l : List Entry) (e : Entry) (x : List Entry) → es ≡ l ++ e ∷ x → r.records ≤ 1024 → number_refusal (record_image text m (read_statements r text)) (length es) (suc (length x)) ≡ 0
  unfolding number_refusal
  number_fine l e x q c = rw (le-leb (length es) 1024 few, le-leb (length es * width) (length (record_image text m (read_statements r text))) image_length, le-leb 1 (suc (length x)) (omega arith), le-leb (suc (length x)) (length es) (omega (arith, ap length q, length-append l (e ∷ x))))
    where
      few : length es ≤ 1024
      few = omega (arith, (fit_forth r (statements es) (accept_forth r text es reads).2).1, statements_length es)
