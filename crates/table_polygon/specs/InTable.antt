-- Where a ray hits a polygon of a finished table, whose numbers may be anything at all.
use Rattle.std.specs.Prelude.{◌&&◌, cond, List, ℕ, ◌+◌, eqb, leb, Float, length}
use Rattle.hits.specs.Outcome.{Outcome, refused}
use Rattle.hits.specs.declared.Ray.{Ray}
use Rattle.laws.specs.Bytes.{bytes}
use Rattle.polygon.specs.Polygon.{polygon_hit}
use Rattle.scene.specs.Record.{record_in}
use Rattle.scene.specs.Told.{reals_of}
use Rattle.scene.specs.Types.{type_number}
use Rattle.table.specs.Question.{number_refusal}

abbrev pub polygon_type : ℕ
polygon_type = type_number (bytes "polygon")

-- 18 for a record of another type, or with n reals from one on that do not all lie in those lent; else 0
unfoldable pub corners_test : (type real n lent : ℕ) → ℕ
corners_test t real n lent = cond (eqb t polygon_type && leb (real + n) lent) 0 18

-- why a primitive cannot be asked about as a polygon, 0 where it can: count and number are tested as for a finish
unfoldable pub polygon_refusal : (table : List ℕ) (count number lent : ℕ) → ℕ
polygon_refusal table count n lent =
    let r = record_in table n in
    cond (eqb (number_refusal table count n) 0) (corners_test r.type r.real r.reals lent) (number_refusal table count n)

-- the hit of the polygon whose corners are the record's reals
unfoldable pub hit_in_table : (least : Float) → Ray → (table : List ℕ) (count number : ℕ) → (reals : List Float) → Outcome
hit_in_table least ray table count n reals =
    let reason = polygon_refusal table count n (length reals) in
    cond (eqb reason 0) (polygon_hit least ray (reals_of reals (record_in table n))) (refused reason)
