-- The moved text of an accepted one, read at the same sizes: its statements moved; or 1, or 13, and no other reason. And forth and back.
use Rattle.std.specs.Prelude.{true, List, ◌≡◌, ℕ, ◌≤◌, ◌<◌, length}
use Rattle.laws.specs.Bytes.{Bytes}
use Rattle.moving.specs.Moved.{moved, none_spelled}
use Rattle.moving.specs.declared.Direction.{Direction}
use Rattle.moving.specs.declared.Direction.TheVariants.{Back, Forth}
use Rattle.scene.specs.Links.{reals_used}
use Rattle.scene.specs.Reading.{Entry, accepted, refused, statements}
use Rattle.scene.specs.Statement.{Statement}
use Rattle.scene.specs.declared.Settings.{Settings}
use Rattle.sides.specs.Read.{read}
use Rattle.tidying.specs.Tidy.{tidy}

-- what comes of reading the moved text of D
pub record ReadsMoved (r : Settings) (m : Direction) (D : List Statement) : Type 0 where
  -- "the moved text reads back as the statements moved"
  pub accepts : length (tidy (moved m D)) ≤ 65536 → reals_used (moved m D) ≤ r.reals → (es : List Entry) × (read r (tidy (moved m D)) ≡ accepted es) × (statements es ≡ moved m D)
  pub long : 65536 < length (tidy (moved m D)) → read r (tidy (moved m D)) ≡ refused 1 0
  pub full : length (tidy (moved m D)) ≤ 65536 → r.reals < reals_used (moved m D) → (p : ℕ) × (read r (tidy (moved m D)) ≡ refused 13 p)

abbrev pub ReadsMovedLaw : Type 0
ReadsMovedLaw = (r : Settings) (text : Bytes) (es : List Entry) → read r text ≡ accepted es → (m : Direction) → ReadsMoved r m (statements es)

-- "Forth and back gives the tidy text again where it had no such four-real glass"
abbrev pub ForthAndBackLaw : Type 0
ForthAndBackLaw = (D : List Statement) → none_spelled D ≡ true → moved Back (moved Forth D) ≡ D
