-- The lines in the lent table after a call: those of the names that its records state.
use mathlib.Core.List.{List, []}
use mathlib.Core.Path.{ap, sym, ◌∙◌}
use Prim.Native.Nat.{ℕ, suc, zero}
use native.Mathlib.Omega.{arith}
use lib.ListN.{length}
use Rattle.reader.proofs.ExchangeLaws.{row_of}
use Rattle.reader.proofs.ReadsLaws.{accepted_as}
use Rattle.reader.specs.Answer.{read_into}
use Rattle.reader.specs.Lines.{ReaderLines}
use Rattle.scene.proofs.FlatLaws.{line_in_lem}
use Rattle.scene.proofs.TellsLaws.{records_length}
use Rattle.scene.specs.Record.{Record, line_at, line_in, record_image, records}

pub reader_lines : ReaderLines
unfolding record_image records
reader_lines mode text lent doubles n k table reals R zero h l = absurd (omega arith)
reader_lines mode text lent doubles n k table reals R (suc i) h l =
    let a = accepted_as (read_into mode text lent doubles) n k R.says in
    let es = a.entries in
    ap (λ (t : List ℕ). line_in t (suc i)) (R.table ∙ ap (record_image text (length lent)) a.reads)
    ∙ line_in_lem text (records es) (length lent) i (omega (arith, a.primitives, records_length [] es))
    ∙ ap (λ (z : Record). line_at text z.name) (sym (row_of mode text lent doubles _ table reals R es a.reads (suc i)))
