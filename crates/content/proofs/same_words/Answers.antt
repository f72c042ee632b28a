-- `content::same_words` meets its contract.
use mathlib.Core.Path.{◌≡◌, sym, ◌∙◌}
use Prim.Native.Nat.{◌-◌}
use native.Mathlib.Omega.{arith}
use Rattle.content.proofs.ContentLaws.{words_end, words_stop, words_step}
use Rattle.content.specs.Content.{same_words}
use Rattle.scene.specs.Told.{words_from}
use Rattle.content.proofs.same_words.Goals as goal

pub loop-k-init : goal.loop-k-init
loop-k-init c =
    let a = c.args in
    let z : a.n - 0 ≡ a.n = omega arith in
    λ i. same_words (words_from a.a.now a.i (z i)) (words_from a.b.now a.j (z i))

pub returns-then-not-same : goal.returns-then-not-same
returns-then-not-same c =
    let a = c.args in
    sym (words_stop a.a.now a.b.now c.loop-k.p c.loop-k.q _ _ _ c.word_bytes.ensures c.word_bytes-in-loop-k.ensures c.same.ensures (a.n - c.loop-k._k) (omega arith) c.if-not-same.true) ∙ c.loop-k.invariant

pub loop-k-preserved : goal.loop-k-preserved
loop-k-preserved c =
    let a = c.args in
    words_step a.a.now a.b.now c.loop-k.p c.loop-k.q _ _ _ c.word_bytes.ensures c.word_bytes-in-loop-k.ensures c.same.ensures (a.n - c.loop-k._k) _ _ _ (omega arith) c.if-not-same.false c.past_word-p.ensures c.past_word-q.ensures ∙ c.loop-k.invariant

pub returns : goal.returns
returns c = sym (words_end c.args.a.now c.args.b.now c.loop-k.p c.loop-k.q (c.args.n - c.loop-k._k) (omega arith)) ∙ c.loop-k.invariant
