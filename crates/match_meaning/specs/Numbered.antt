-- The number of a name's latest statement, surfaces counted.
use Rattle.std.specs.Prelude.{cond, List, [], ◌∷◌, ℕ, suc, length}
use Rattle.laws.specs.Bytes.{Bytes, same}
use Rattle.scene.specs.Statement.{Statement}

-- 0 where there is none
unfoldable pub number_named : Bytes → List Statement → ℕ
number_named w [] = 0
number_named w (s ∷ d) = cond (same w s.name) (suc (length d)) (number_named w d)
