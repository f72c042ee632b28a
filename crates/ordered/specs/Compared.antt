-- The order that `ranks::order_names` leaves, and the lines of a comparison as they are handed out.
use Rattle.std.specs.Prelude.{List, ◌≡◌, ℕ, ◌*◌, ◌/◌, ◌≤◌, length}
use Rattle.comparison.specs.Compare.{State, absent, left, right, changed, alike, Line as Compared}
use Rattle.comparison.specs.NextLine.{place_of}
use Rattle.comparison.specs.declared.State.{State as CodeState}
use Rattle.comparison.specs.declared.State.TheVariants as is
use Rattle.ranks.specs.Rank.{order_table}
use Rattle.scene.specs.Record.{width}
use Rattle.scene.specs.Told.{Told}
use Rattle.ordered.specs.Lines.{Scene}
use Rattle.comparison.specs.declared.Line.{Line}

-- how many records a scene has
abbrev pub count_of : Scene → ℕ
count_of s = length s.records / width

-- a scene of at most 1,024 records whose table is what `ranks::order_names` leaves in exactly two entries for each, so that no zeros
-- fill it up, with scratch for all of them
pub record InOrder (s : Scene) (scratch : ℕ) : Type 0 where
  pub few : count_of s ≤ 1024
  pub room : count_of s ≤ scratch
  pub table : s.order ≡ order_table s.text s.records (2 * count_of s) scratch

-- the state that a line names; a key that is absent or alike has no line, and what stands for it here is never shown
abbrev pub named : State → CodeState
named absent = is.Changed
named alike = is.Changed
named left = is.OnlyLeft
named right = is.OnlyRight
named changed = is.Changed

-- a line of a comparison with its primitive's number
abbrev pub shown : (l r : List Told) → Compared → Line
shown l r x = record { place = place_of l r x.key; nth = x.key.nth; state = named x.state }
