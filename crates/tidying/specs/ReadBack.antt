-- The tidy text read back.
use Rattle.std.specs.Prelude.{List, map, ◌≡◌, ◌≤◌, length}
use Rattle.laws.specs.Bytes.{Bytes}
use Rattle.scene.specs.Reading.{Entry, accepted, statements}
use Rattle.scene.specs.Record.{Record, records, real_table}
use Rattle.scene.specs.declared.Settings.{Settings}
use Rattle.sides.specs.Read.{read}
use Rattle.sides.specs.Sides.{pairs}
use Rattle.tidying.specs.Tidy.{tidy}

-- "the same table but for places": of a record's numbers, the name's place and the place of the first string are places. The line,
-- which is left out "along with places", is made of the text when the table is (`fields`), and no part of a record here
abbrev pub without_places : Record → Record
without_places r = record {
  type = r.type;
  modifier = r.modifier;
  target = r.target;
  name = 0;
  name_length = r.name_length;
  string = 0;
  strings = r.strings;
  real = r.real;
  reals = r.reals;
  next = r.next;
}

-- what comes of reading the tidy text of es: the same statements, "the same table but for places", the same reals, and the same pairs
pub record ReadsBack (r : Settings) (es : List Entry) : Type 0 where
  pub entries : List Entry
  pub reads : read r (tidy (statements es)) ≡ accepted entries
  pub meant : statements entries ≡ statements es
  pub table : map without_places (records entries) ≡ map without_places (records es)
  pub reals : real_table entries ≡ real_table es
  pub sides : pairs (statements entries) ≡ pairs (statements es)

-- "Where the result is at most 65,536 bytes, reading it back at the same lent sizes"
abbrev pub ReadBackLaw : Type 0
ReadBackLaw = (r : Settings) (text : Bytes) (es : List Entry) → read r text ≡ accepted es → length (tidy (statements es)) ≤ 65536 → ReadsBack r es
