-- An order by numbers: what is written of it, and whether a typed scene holds it.
use Rattle.std.specs.Prelude.{Bool, true, ◌&&◌, List, [], ◌∷◌, ◌++◌, ◌≡◌, ℕ, ◌≤◌, ◌<◌, length}
use Rattle.std.proofs.Math.Option.{some}
use Rattle.arranging.specs.Both.{either}
use Rattle.arranging.specs.Order.{Both, order_from}
use Rattle.join_meaning.specs.Kept.{in_turn}
use Rattle.join_meaning.specs.Matched.{MatchedIn}
use Rattle.join_meaning.specs.Rows.{used_rows}
use Rattle.joined_text.specs.JoinedText.{order_text}
use Rattle.joining.specs.Pick.{all_in}
use Rattle.laws.specs.Bytes.{Bytes}
use Rattle.picking.specs.Picking.{is_equal}
use Rattle.scene.specs.Reading.{Entry, accepted, read_statements, statements}
use Rattle.scene.specs.Statement.{Statement}
use Rattle.scene.specs.declared.Settings.{Settings}
use Rattle.table.specs.Number.{number_in}
use Rattle.tidying.specs.Tidy.{tidy}

-- numbers from 1 to a count
abbrev pub Numbers : (count : ℕ) (order : List ℕ) → Type 0
Numbers count [] = Unit {0}
Numbers count (n ∷ order) = (0 < n) × (n ≤ count) × Numbers count order

abbrev pub NumbersLaw : Type 0
NumbersLaw = (v : Both) (k : ℕ) (marks done order : List ℕ) → order_from v k marks done ≡ some order → Numbers (length marks) done → Numbers (length marks) order

abbrev pub TextLaw : Type 0
TextLaw =
    (r : Settings) (left right : Bytes) (ls rs : List Entry) → read_statements r left ≡ accepted ls → read_statements r right ≡ accepted rs
    → (order : List ℕ) → Numbers (length (statements ls ++ statements rs)) order
    → order_text left (used_rows left ls) right (used_rows right rs) order ≡ tidy (in_turn (statements ls ++ statements rs) order)

-- ---- a typed scene

-- each number of an order has an equal match
unfoldable pub all_equal : (right_matches left_matches order : List ℕ) → Bool
all_equal R L [] = true
all_equal R L (n ∷ order) = is_equal (either (length R) (number_in R) (number_in L) n) && all_equal R L order

abbrev pub EqualLaw : Type 0
EqualLaw =
    (left right typed : List Statement) (right_matches left_matches : List ℕ) → MatchedIn right typed right_matches → MatchedIn left typed left_matches
    → (order : List ℕ) → Numbers (length (left ++ right)) order
    → (all_equal right_matches left_matches order ≡ all_in (in_turn (left ++ right) order) typed) × (length (in_turn (left ++ right) order) ≡ length order)
