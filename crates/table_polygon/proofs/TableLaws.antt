-- Laws of a polygon in a table: one for each answer.
use mathlib.Core.List.{List}
use mathlib.Core.Path.{◌≡◌, refl, ap, sym, ◌∙◌}
use Prim.Native.Nat.{ℕ, ◌+◌, ◌≤◌, ◌<◌}
use borrow.Author.Tests.{le-leb, lt-leb, eq-eqb, ne_eqb}
use lib.Dec.{leb}
use lib.Ieee.{Float}
use lib.ListN.{length}
use Rattle.hits.specs.Outcome.{refused}
use Rattle.hits.specs.declared.Ray.{Ray}
use Rattle.laws.specs.Bytes.{same}
use Rattle.polygon.specs.Polygon.{polygon_hit}
use Rattle.scene.specs.Record.{field_in, record_in}
use Rattle.scene.specs.Told.{reals_of}
use Rattle.scene.specs.Types.{number_from, type_number}
use Rattle.table.specs.Question.{number_refusal}
use Rattle.table_polygon.specs.InTable.{corners_test, hit_in_table, polygon_refusal, polygon_type}

-- ---- whether a record is a polygon with all its corners

polygon_number : polygon_type ≡ 4
unfolding type_number number_from same
polygon_number = refl

module _ (t real n lent : ℕ) where
  pub type_other : (t ≡ 4 → ⊥) → 18 ≡ corners_test t real n lent
  unfolding corners_test
  type_other h = rw (ne_eqb t polygon_type (λ e. h (e ∙ polygon_number)))

  module _ (e : t ≡ 4) where
    pub corners_outside : lent < real + n → 18 ≡ corners_test t real n lent
    unfolding corners_test
    corners_outside h = rw (eq-eqb t polygon_type (e ∙ sym polygon_number), lt-leb (real + n) lent h)

    pub corners_lent : real + n ≤ lent → 0 ≡ corners_test t real n lent
    unfolding corners_test
    corners_lent h = rw (eq-eqb t polygon_type (e ∙ sym polygon_number), le-leb (real + n) lent h)

module _ (table : List ℕ) (count n lent : ℕ) where
  pub refusal_number : (number_refusal table count n ≡ 0 → ⊥) → number_refusal table count n ≡ polygon_refusal table count n lent
  unfolding polygon_refusal
  refusal_number h = rw (ne_eqb (number_refusal table count n) 0 h)

  pub refusal_corners : number_refusal table count n ≡ 0 → (t real many : ℕ) → t ≡ field_in table n 0 → real ≡ field_in table n 7 → many ≡ field_in table n 8 → corners_test t real many lent ≡ polygon_refusal table count n lent
  unfolding polygon_refusal field_in record_in
  refusal_corners h t real many a b c = rw (eq-eqb (number_refusal table count n) 0 h, a, b, c)

-- ---- the hit

module _ (least : Float) (ray : Ray) (table : List ℕ) (count n : ℕ) (reals : List Float) (reason : ℕ) (q : reason ≡ polygon_refusal table count n (length reals)) where
  pub hit_refused : (reason ≡ 0 → ⊥) → refused reason ≡ hit_in_table least ray table count n reals
  unfolding hit_in_table
  hit_refused h = rw (sym q, ne_eqb reason 0 h)

  pub hit_asked : reason ≡ 0 → (corners : List Float) → corners ≡ reals_of reals (record_in table n) → polygon_hit least ray corners ≡ hit_in_table least ray table count n reals
  unfolding hit_in_table
  hit_asked h corners e = rw (sym q, eq-eqb reason 0 h) (ap (polygon_hit least ray) e)
