-- In the tables of an accepted text a polygon is hit where the reals of its statement say.
use mathlib.Core.List.{List, [], ◌∷◌, ◌++◌}
use mathlib.Core.Path.{◌≡◌, refl, ap, ◌∙◌, subst}
use Prim.Native.Nat.{ℕ, ◌/◌, suc, ◌+◌, ◌-◌, ◌≤◌}
use native.Mathlib.Nat.{min-le_left}
use native.Mathlib.Omega.{arith}
use borrow.Author.Tests.{eq-eqb, le-leb, ne_eqb}
use lib.Ieee.{Float}
use lib.ListN.{length, length-append, length-drop, length-take, replicate, take, drop}
use lib.Seq.{take-append-le, drop-append-le}
use Rattle.hits.specs.declared.Ray.{Ray}
use Rattle.laws.specs.Bytes.{Bytes}
use Rattle.polygon.specs.Polygon.{polygon_hit}
use Rattle.scene.proofs.TellsLaws.{nth_at, own, read_read, tells_told}
use Rattle.scene.specs.HouseRules.{zero_real}
use Rattle.scene.specs.Links.{body_of, own_body, reals_in, source, type_in}
use Rattle.scene.specs.Reading.{Entry, Reading, accepted, read_statements, statements}
use Rattle.scene.specs.Record.{Record, first_real, real_image, real_table, record_image, record_in, record_of, settings_for, width}
use Rattle.scene.specs.Statement.{Body, Statement}
use Rattle.scene.specs.Told.{Told, reals_of, tells, told}
use Rattle.scene.specs.declared.Mode.{Mode}
use Rattle.sides.proofs.MixedLaws.{resolved, same_reading}
use Rattle.table.proofs.ImageLaws.{image_row, number_fine}
use Rattle.table_polygon.specs.InTable.{corners_test, hit_in_table, polygon_refusal, polygon_type}
use Rattle.table_polygon.specs.Meaning.{Means, MeaningLaw}

-- ---- reals that stand in a table from a place on

none_first : (z : List Statement) → reals_in (body_of z) ≡ [] → first_real z ≡ 0
none_first [] h = refl
none_first (s ∷ z) h = rw h

within : (xs table : List Float) (k : ℕ) → (xs ≡ [] → k ≡ 0) → take (length xs) (drop k table) ≡ xs → k + length xs ≤ length table
within [] table k none h = let z = none refl in omega arith
within (y ∷ xs) table k none h = omega (arith, ap length h, length-take (length (y ∷ xs)) (drop k table), length-drop k table)

-- more behind the table changes nothing
longer : (table more : List Float) (k n : ℕ) → k + n ≤ length table → take n (drop k (table ++ more)) ≡ take n (drop k table)
longer table more k n h = ap (take n) (drop-append-le k table more (omega arith)) ∙ take-append-le n (drop k table) more (rw length-drop (omega arith))

-- ---- a primitive of the table

module _ (mode : Mode) (text : Bytes) (lent doubles : ℕ) (es : List Entry) (reads : read_statements (settings_for mode lent doubles) text ≡ accepted es) (l : List Entry) (e : Entry) (x : List Entry) (q : es ≡ l ++ e ∷ x) where
  abbrev reading : Reading
  reading = read_statements (settings_for mode lent doubles) text

  abbrev rows : List ℕ
  rows = record_image text lent reading

  abbrev body : Body
  body = own_body e.statement.body (statements x)

  abbrev n : ℕ
  n = suc (length x)

  abbrev r : Record
  r = record_of l e x

  row : record_in rows n ≡ r
  row = image_row (settings_for mode lent doubles) text es reads lent n ∙ nth_at es l e x n q refl

  told_reals : take r.reals (drop r.real (real_table es)) ≡ reals_in body
  unfolding tells told
  told_reals = ap (λ (t : Told). t.reals) (tells_told text es l e x (read_read (settings_for mode lent doubles) text es reads) q)

  stored : take (length (reals_in body)) (drop r.real (real_table es)) ≡ reals_in body
  unfolding record_of
  stored = told_reals

  inside : r.real + r.reals ≤ length (real_table es)
  unfolding record_of
  inside = within (reals_in body) (real_table es) r.real (λ h. none_first (source e.statement (statements x)) (ap reals_in (own e.statement (statements x)) ∙ h)) stored

  image : real_image doubles reading ≡ real_table es ++ replicate (doubles - length (real_table es)) zero_real
  unfolding real_image
  image = ap (real_image doubles) reads

  reals_there : reals_of (real_image doubles reading) r ≡ reals_in body
  reals_there = ap (λ (z : List Float). reals_of z r) image ∙ longer (real_table es) (replicate (doubles - length (real_table es)) zero_real) r.real r.reals inside ∙ told_reals

  room : r.real + r.reals ≤ length (real_image doubles reading)
  room = omega (arith, inside, ap length image, length-append (real_table es) (replicate (doubles - length (real_table es)) zero_real))

  asked : polygon_refusal rows (length es) n (length (real_image doubles reading)) ≡ corners_test r.type r.real r.reals (length (real_image doubles reading))
  unfolding polygon_refusal
  asked = rw (number_fine (settings_for mode lent doubles) text es reads lent l e x q (min-le_left 1024 (lent / width)), row)

  means : (least : Float) (ray : Ray) → Means (hit_in_table least ray rows (length es) n (real_image doubles reading)) least ray body
  unfolding hit_in_table corners_test record_of
  means least ray = record {
    polygon = λ t. rw (asked, eq-eqb (type_in body) polygon_type t, le-leb (r.real + r.reals) (length (real_image doubles reading)) room, row) (ap (polygon_hit least ray) reals_there);
    other = λ t. rw (asked, ne_eqb (type_in body) polygon_type t);
  }

pub meaning : MeaningLaw
meaning mode text lent doubles es reads l e x q least ray =
    let s = settings_for mode lent doubles in
    subst (λ (z : Reading). Means (hit_in_table least ray (record_image text lent z) (length es) (suc (length x)) (real_image doubles z)) least ray (own_body e.statement.body (statements x))) (same_reading s text es reads)
    (means mode text lent doubles es (resolved s text es reads).reads l e x q least ray)
