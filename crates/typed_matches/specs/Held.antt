-- Whether a typed scene holds an order of numbers and no more, by their matches in it.
use Rattle.std.specs.Prelude.{Bool, ◌&&◌, List, ℕ, ◌/◌, eqb, length}
use Rattle.join_meaning.specs.Written.{all_equal}
use Rattle.laws.specs.Bytes.{Bytes}
use Rattle.name_index.specs.Names.{names_once_in}
use Rattle.scene.specs.Record.{width}

-- each name once, as many, and each with an equal match
unfoldable pub all_held : (right_matches left_matches order : List ℕ) (typed : Bytes) (T : List ℕ) → Bool
all_held R L order typed T = names_once_in typed T && eqb (length order) (length T / width) && all_equal R L order
