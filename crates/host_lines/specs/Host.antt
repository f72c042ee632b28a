-- What a host program is told of a comparison by keys: a number for the kind of answer, and the answer's values in a small array.
use Rattle.std.specs.Prelude.{cond, List, ◌≡◌, ℕ, eqb, Float, get_or}
use Rattle.comparison.specs.Answer as line
use Rattle.comparison.specs.NextLine.{next_line}
use Rattle.comparison.specs.declared.Place.{Place}
use Rattle.comparison.specs.declared.Place.TheVariants as on
use Rattle.keys.specs.Rows.{scene_rows}
use Rattle.laws.specs.Bytes.{Bytes}

-- the key held: side, of which 0 is the left scene and any other the right one, and number
unfoldable pub held_in : List ℕ → Place
held_in a = cond (eqb (get_or a 0 0) 0) (on.Left (get_or a 1 0)) (on.Right (get_or a 1 0))

-- 1 for a line and 0 for the end; the line's side, number, nth and state
pub record HostLine (left : Bytes) (lr : List ℕ) (lx : List Float) (right : Bytes) (rr : List ℕ) (rx : List Float) (held : List ℕ) (r : ℕ) (out : List ℕ) : Type 0 where
  pub says : r ≡ line.kind_number (next_line (scene_rows left lr lx) (scene_rows right rr rx) (held_in held))
  pub numbers : out ≡ line.values_of (next_line (scene_rows left lr lx) (scene_rows right rr rx) (held_in held))
