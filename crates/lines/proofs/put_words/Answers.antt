-- `lines::put_words` meets its contract.
use Rattle.std.proofs.Common.{◌≡◌, ◌+◌, ◌-◌, ◌∷◌, arith}
use Rattle.laws.specs.Bytes.{byte}
use Rattle.scene.specs.Told.{words_from}
use Rattle.lines.proofs.LineLaws.{no_words, next_word}
use Rattle.lines.proofs.PutsLaws.{none_yet, some_more, all_put}
use Rattle.tidying.specs.Tidy.{spaced}
use Rattle.lines.proofs.put_words.Goals as goal

pub loop-init : goal.loop-init
loop-init c = let a = c.args in let all : a.count - 0 ≡ a.count = omega arith in rw all (none_yet a.out.now a.c (spaced (words_from a.text.now a.from a.count)))

pub loop-preserved : goal.loop-preserved
loop-preserved c =
    let w = c.word_bytes in
    let l = c.loop in
    let count = c.args.count in
    some_more (byte " " ∷ w.result.now) _
    (next_word c.args.text.now l.place (count - l.counter) (count - (l.counter + 1)) (omega arith) w.result.now w.ensures c.past_word-place.result c.past_word-place.ensures)
    l.invariant c.put_spaced-end.ensures

pub returns : goal.returns
returns c =
    let l = c.loop in
    all_put (no_words c.args.text.now l.place (c.args.count - l.counter) (omega arith)) l.invariant
