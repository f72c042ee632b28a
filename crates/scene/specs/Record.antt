-- The linked table: a record of eleven numbers for each statement, the reals, and both as they stand in the lent tables.
use Rattle.std.specs.Prelude.{cond, List, [], ◌∷◌, ◌++◌, ℕ, zero, suc, ◌+◌, ◌-◌, ◌*◌, ◌/◌, min, eqb, ltb, Float, length, get_or, replicate, take}
use Rattle.laws.specs.Bytes.{Bytes, part}
use Rattle.scene.specs.HouseRules.{zero_real}
use Rattle.scene.specs.Links.{gives, first_later, modifier_link, target_link, source, own_body, type_in, strings_in, reals_in, reals_used}
use Rattle.scene.specs.Reading.{Entry, statements, Reading, refused, accepted}
use Rattle.scene.specs.declared.Mode.{Mode}
use Rattle.scene.specs.declared.Settings.{Settings}
use Rattle.scene.specs.Statement.{Statement}

-- "Type; modifier link; alias target (0 if none); name's place; name's length; place of the first string (0 if none); string
-- count; index of the first real, from 0 (0 also if none); real count; number of the next primitive of the same name (0 if none)."
pub record Record : Type 0 where
  pub type : ℕ
  pub modifier : ℕ
  pub target : ℕ
  pub name : ℕ
  pub name_length : ℕ
  pub string : ℕ
  pub strings : ℕ
  pub real : ℕ
  pub reals : ℕ
  pub next : ℕ

-- "A line ends with byte 10"
unfoldable pub newlines : Bytes → ℕ
newlines [] = 0
newlines (b ∷ t) = cond (eqb b 10) (suc (newlines t)) (newlines t)

-- the line of a place, "from 1": one more than the bytes 10 before it
abbrev pub line_at : Bytes → ℕ → ℕ
line_at text place = suc (newlines (take place text))

-- a record's numbers as they stand in the table. "Records grow to eleven numbers, the last being the line on which the name stands"
abbrev pub fields : Bytes → Record → List ℕ
fields text r =
    r.type
    ∷ r.modifier
    ∷ r.target
    ∷ r.name
    ∷ r.name_length
    ∷ r.string
    ∷ r.strings
    ∷ r.real
    ∷ r.reals
    ∷ r.next
    ∷ line_at text r.name
    ∷ []

-- how many numbers a record has, and which of them, from 0, are the next of its name and the line
abbrev pub width : ℕ
width = 11

abbrev pub next_field : ℕ
next_field = 9

abbrev pub line_field : ℕ
line_field = 10

-- ---- a statement's record

abbrev pub unless_none : List Float → ℕ → ℕ
unless_none [] n = 0
unless_none (x ∷ xs) n = n

-- the index of the first real of the primitive that a list begins with
abbrev pub first_real : List Statement → ℕ
first_real [] = 0
first_real (s ∷ d) = unless_none (reals_in s.body) (reals_used d)

-- the place of the first string of the statement of a number
unfoldable pub string_place : List Entry → ℕ → ℕ
string_place [] n = 0
string_place (e ∷ es) n = cond (eqb n (suc (length es))) e.places.string (string_place es n)

-- the next of the same name among the later statements
abbrev pub next_of : List Statement → Statement → List Statement → ℕ
next_of later s earlier = cond (gives s) (first_later s.name later (suc (length earlier))) 0

-- the record of an entry between those that stand later in the text and those that stand earlier, both latest first
unfoldable pub record_of : List Entry → Entry → List Entry → Record
record_of later e earlier =
    let s = e.statement in
    let d = statements earlier in
    let b = own_body s.body d in
    record {
      type = type_in b;
      modifier = modifier_link s.modifier d;
      target = target_link s.body d;
      name = e.places.name;
      name_length = length s.name;
      string = string_place (e ∷ earlier) (length (source s d));
      strings = length (strings_in b);
      real = first_real (source s d);
      reals = length (reals_in b);
      next = next_of (statements later) s d;
    }

-- ---- the table

-- "Primitives and aliases are numbered from 1 together": the records in the text's order
unfoldable pub records_from : List Entry → List Entry → List Record
records_from later [] = []
records_from later (e ∷ es) = records_from (later ++ e ∷ []) es ++ record_of later e es ∷ []

unfoldable pub records : List Entry → List Record
records es = records_from [] es

abbrev pub nothing : Record
nothing = record { type = 0; modifier = 0; target = 0; name = 0; name_length = 0; string = 0; strings = 0; real = 0; reals = 0; next = 0 }

-- record n, from 1
unfoldable pub nth : List Record → ℕ → Record
nth rs zero = nothing
nth rs (suc n) = get_or rs n nothing

-- "Reals are doubles in their own table; aliases add none there": in the text's order
unfoldable pub reals : List Statement → List Float
reals [] = []
reals (s ∷ d) = reals d ++ reals_in s.body

abbrev pub real_table : List Entry → List Float
real_table es = reals (statements es)

-- number k, from 0, of record n, from 1, of a table of numbers; 0 where there is none: no record 0, and no number past the record's
-- last or the table's end
unfoldable pub field_in : List ℕ → (n k : ℕ) → ℕ
field_in table zero k = 0
field_in table (suc n) k = cond (ltb k width) (get_or table (n * width + k) 0) 0

-- record n of a table of numbers
unfoldable pub record_in : List ℕ → ℕ → Record
record_in table n =
    let field = field_in table n in
    record {
      type = field 0;
      modifier = field 1;
      target = field 2;
      name = field 3;
      name_length = field 4;
      string = field 5;
      strings = field 6;
      real = field 7;
      reals = field 8;
      next = field 9;
    }

-- its line
abbrev pub line_in : List ℕ → (n : ℕ) → ℕ
line_in table n = field_in table n line_field

-- its name: what the text has of the part that the record names
unfoldable pub name_in : Bytes → List ℕ → (n : ℕ) → Bytes
name_in text table n = part text (record_in table n).name (record_in table n).name_length

-- ---- the lent tables

-- "record room becomes the lesser of 1,024 and the lent length over 11, rounded down"; "real room the lesser of 4,096 and the lent
-- length"; "Every call that reads, later ones too, takes either reading"
abbrev pub settings_for : Mode → (lent_records lent_reals : ℕ) → Settings
settings_for mode n m = record { mode = mode; records = min 1024 (n / width); reals = min 4096 m }

-- all the room that a reading can use
abbrev pub full_room : Mode → Settings
full_room mode = settings_for mode (1024 * width) 4096

unfoldable pub flat : Bytes → List Record → List ℕ
flat text [] = []
flat text (r ∷ rs) = fields text r ++ flat text rs

-- the used entries, then "all entries beyond those used are 0"
abbrev pub filled : {A : Type 0} → A → ℕ → List A → List A
filled z n used = used ++ replicate (n - length used) z

-- "both tables are all zero" when a scene is refused
abbrev pub entries : Reading → List Entry
entries (refused n p) = []
entries (accepted es) = es

-- both tables as they stand after reading, for the lent lengths
unfoldable pub record_image : Bytes → ℕ → Reading → List ℕ
record_image text n r = filled 0 n (flat text (records (entries r)))

unfoldable pub real_image : ℕ → Reading → List Float
real_image n r = filled zero_real n (real_table (entries r))

-- the answer: number, place, and "the counts of primitives and reals"; a refusal has "both counts 0"
pub record Answer : Type 0 where
  pub reason : ℕ
  pub place : ℕ
  pub primitives : ℕ
  pub reals : ℕ

abbrev pub answer : Reading → Answer
answer (refused n p) = record { reason = n; place = p; primitives = 0; reals = 0 }
answer (accepted es) = record { reason = 0; place = 0; primitives = length es; reals = length (real_table es) }
