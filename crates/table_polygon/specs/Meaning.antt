-- The hit of a polygon as its statement has it.
use Rattle.std.specs.Prelude.{List, ◌∷◌, ◌++◌, ◌≡◌, ℕ, suc, Float, length}
use Rattle.hits.specs.Outcome.{Outcome, refused}
use Rattle.hits.specs.declared.Ray.{Ray}
use Rattle.laws.specs.Bytes.{Bytes}
use Rattle.polygon.specs.Polygon.{polygon_hit}
use Rattle.scene.specs.Links.{own_body, reals_in, type_in}
use Rattle.scene.specs.Reading.{Entry, accepted, statements}
use Rattle.scene.specs.Record.{real_image, record_image, settings_for}
use Rattle.scene.specs.Statement.{Body}
use Rattle.scene.specs.declared.Mode.{Mode}
use Rattle.sides.specs.Read.{read}
use Rattle.table_polygon.specs.InTable.{hit_in_table, polygon_type}

-- asked about in the tables that the reader gave for an accepted text, a polygon is hit where the reals of its statement say; every
-- other primitive is refused with 18
pub record Means (o : Outcome) (least : Float) (ray : Ray) (b : Body) : Type 0 where
  pub polygon : type_in b ≡ polygon_type → o ≡ polygon_hit least ray (reals_in b)
  pub other : (type_in b ≡ polygon_type → ⊥) → o ≡ refused 18

abbrev pub MeaningLaw : Type 0
MeaningLaw =
    (mode : Mode) (text : Bytes) (lent doubles : ℕ) (es : List Entry) → read (settings_for mode lent doubles) text ≡ accepted es
    → (l : List Entry) (e : Entry) (x : List Entry) → es ≡ l ++ e ∷ x
    → (least : Float) (ray : Ray)
    → let reading = read (settings_for mode lent doubles) text in
    Means (hit_in_table least ray (record_image text lent reading) (length es) (suc (length x)) (real_image doubles reading)) least ray (own_body e.statement.body (statements x))
