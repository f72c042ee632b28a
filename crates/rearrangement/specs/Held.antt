-- Which statements keep their order.
use Rattle.std.specs.Prelude.{Bool, false, ◌||◌, List, [], ◌∷◌, ◌++◌, ℕ}
use Rattle.std.proofs.Math.Option.{Option, none, some}
use Rattle.laws.specs.Bytes.{same}
use Rattle.scene.specs.Block.{given, referred, share}
use Rattle.scene.specs.Properties.{numbered}
use Rattle.scene.specs.Statement.{Statement}

-- "where one gives a name that the other gives or refers to"
unfoldable pub bound : Statement → Statement → Bool
bound s t = share (given (s ∷ [])) (given (t ∷ []) ++ referred (t ∷ [])) || share (given (t ∷ [])) (given (s ∷ []) ++ referred (s ∷ []))

-- sorting keeps the order of these, and of any two statements of one name: "compare's nth still counts surfaces", and a sorted scene is to
-- compare as the same
unfoldable pub held : Statement → Statement → Bool
held s t = bound s t || same s.name t.name

-- ---- by their numbers

-- two statements that are there
abbrev pub both : (Statement → Statement → Bool) → Option Statement → Option Statement → Bool
both test (some s) (some t) = test s t
both test (some s) none = false
both test none t = false

unfoldable pub bound_in : List Statement → ℕ → ℕ → Bool
bound_in d i j = both bound (numbered d i) (numbered d j)

unfoldable pub held_in : List Statement → ℕ → ℕ → Bool
held_in d i j = both held (numbered d i) (numbered d j)
