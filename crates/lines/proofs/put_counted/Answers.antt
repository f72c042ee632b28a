-- `lines::put_counted` meets its contract.
use mathlib.Core.List.{◌++◌}
use mathlib.Core.Path.{ap, sym, ◌∙◌}
use Prim.Native.Nat.{ℕ}
use native.Mathlib.Omega.{arith}
use lib.Dec.{lit<}
use lib.ListN.{replicate}
use Rattle.buffer.proofs.DecimalLaws.{decimal_length}
use Rattle.buffer.proofs.PutLaws.{front}
use Rattle.buffer.specs.Decimal.{decimal}
use Rattle.laws.specs.Bytes.{part}
use Rattle.scene.specs.Reading.{newline}
use Rattle.scene.specs.Told.{words_from}
use Rattle.tidying.specs.Tidy.{line, spaced}
use Rattle.lines.proofs.LineLaws.{words_length}
use Rattle.lines.proofs.PutsLaws.{puts_more, puts_as}
use Rattle.lines.proofs.put_counted.Goals as goal

pub returns : goal.returns
returns c =
    let a = c.args in
    let ws = words_from a.text.now a.from a.count in
    let count = decimal a.count in
    let few = decimal_length 20 a.count (omega (arith, c.ranges)) (lit< tt) in
    let spelt = c.part.ensures ∙ (λ i. part (c.put_decimal-len.ensures.out_after i) 0 (c.put_decimal-len.ensures.value i)) ∙ front (replicate 20 48) count few in
    puts_as
    _
    (ap (λ (k : ℕ). line (decimal k) ws) (sym (words_length a.text.now a.from a.count)))
    (puts_more (count ++ spaced ws) newline (puts_more count (spaced ws) (puts_as count spelt c.put-behind_count.ensures) c.put_words-behind_words.ensures) c.put.ensures)
