use mathlib.Core.Path.{◌≡◌}
use Prim.Native.Nat.{◌-◌}
use Rattle.scene.specs.Told.{words_from}
use Rattle.content.specs.Content.{same_words}
use Rattle.content.proofs.same_words.Given as goal

abbrev pub invariant-loop-k : goal.invariant-loop-k
invariant-loop-k l = same_words (words_from l.a l.p (l.n - l._k)) (words_from l.b l.q (l.n - l._k)) ≡ same_words (words_from l.a l.i l.n) (words_from l.b l.j l.n)
