-- What is proved of the order and of the joined text.
use Rattle.std.specs.Prelude.{true, List, ◌≡◌, ◌≤◌, length}
use Rattle.std.proofs.Math.Option.{none, some}
use Rattle.joining.specs.Arranged.{NoOrder, arranged, in_order}
use Rattle.joining.specs.Definition.{names_once}
use Rattle.joining.specs.Pick.{Holds, picked}
use Rattle.laws.specs.Bytes.{Bytes}
use Rattle.laws.specs.Shuffle.{Shuffle}
use Rattle.scene.specs.Links.{reals_used}
use Rattle.scene.specs.Reading.{Entry, accepted, read_statements, statements}
use Rattle.scene.specs.Statement.{Statement}
use Rattle.scene.specs.declared.Settings.{Settings}
use Rattle.tidying.specs.Tidy.{tidy}

-- "31 [..] given exactly then": an order is found exactly where there is one, and what is found is one
pub record Arranges (ds : List Statement) : Type 0 where
  pub found : (new : List Statement) → arranged ds ≡ some new → Shuffle ds new × (in_order new ≡ true)
  pub stuck : arranged ds ≡ none → NoOrder ds

-- for statements of which no two have one name
abbrev pub ArrangeLaw : Type 0
ArrangeLaw = (ds : List Statement) → names_once ds ≡ true → Arranges ds

-- "Ours is tidy": the tidy text of what is picked from three accepted scenes, in that order, reads back as these statements where it is
-- short enough and there is room, and holds the joined definitions
pub record Reads (r : Settings) (base left right new : List Statement) : Type 0 where
  pub entries : List Entry
  pub reads : read_statements r (tidy new) ≡ accepted entries
  pub meant : statements entries ≡ new
  pub holds : Holds base left right new

abbrev pub ReadsLaw : Type 0
ReadsLaw =
    (r : Settings) (a b c : Bytes) (base left right : List Entry) → read_statements r a ≡ accepted base → read_statements r b ≡ accepted left → read_statements r c ≡ accepted right
    → names_once (statements left) ≡ true → names_once (statements right) ≡ true
    → (ds new : List Statement) → picked (statements base) (statements left) (statements right) ≡ some ds → arranged ds ≡ some new
    → length (tidy new) ≤ 65536 → length new ≤ r.records → reals_used new ≤ r.reals → Reads r (statements base) (statements left) (statements right) new
