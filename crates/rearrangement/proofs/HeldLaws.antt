-- Statements that are not held.
use mathlib.Core.Bool.{false}
use mathlib.Core.List.{[], ◌∷◌, ◌++◌}
use mathlib.Core.Path.{◌≡◌}
use Rattle.laws.proofs.BoolLaws.{or_false_left, or_false_right}
use Rattle.laws.specs.Bytes.{same}
use Rattle.rearrangement.specs.Held.{bound, held}
use Rattle.scene.specs.Block.{Independent, given, referred, share}
use Rattle.scene.specs.Statement.{Statement}

module _ (s t : Statement) where
  pub unbound_independent : bound s t ≡ false → Independent (s ∷ []) (t ∷ [])
  unfolding bound
  unbound_independent e = record {
    first = or_false_left (share (given (s ∷ [])) (given (t ∷ []) ++ referred (t ∷ []))) (share (given (t ∷ [])) (given (s ∷ []) ++ referred (s ∷ []))) e;
    second = or_false_right (share (given (s ∷ [])) (given (t ∷ []) ++ referred (t ∷ []))) (share (given (t ∷ [])) (given (s ∷ []) ++ referred (s ∷ []))) e;
  }

  pub independent_unbound : Independent (s ∷ []) (t ∷ []) → bound s t ≡ false
  unfolding bound
  independent_unbound h = rw (h.first, h.second)

  pub unheld_independent : held s t ≡ false → Independent (s ∷ []) (t ∷ [])
  unfolding held
  unheld_independent e = unbound_independent (or_false_left (bound s t) (same s.name t.name) e)

  pub unheld_names : held s t ≡ false → same s.name t.name ≡ false
  unfolding held
  unheld_names e = or_false_right (bound s t) (same s.name t.name) e
