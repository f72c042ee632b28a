-- Reading a text: bytes to words, words to statements, and every refusal with its place. One byte after the other, so that
-- reading a text and then another is reading both.
use Rattle.std.specs.Prelude.{cond, List, [], ◌∷◌, ◌++◌, ℕ, zero, suc, ◌+◌, leb, ltb, eqb, length}
use Rattle.std.proofs.Math.Option.{Option, none, some}
use Rattle.laws.specs.Bytes.{Bytes, byte, same}
use Rattle.lexer.specs.Class.{is_blank}
use Rattle.numeral.specs.Count.{count_of}
use Rattle.scene.specs.Links.{definition, reals_used}
use Rattle.scene.specs.Phase.{Part, at_type, at_name, at_string_count, at_string, at_integer_count, at_real_count, at_real, at_alias_name, at_target, Phase, idle, busy, Outcome, refuse, into, done, word}
use Rattle.scene.specs.declared.Settings.{Settings}
use Rattle.scene.specs.Statement.{Statement, void}

-- ---- bytes into words

-- where the reading is between bytes: in a gap, in a comment, or in a word with what it has so far
pub data Scan : Type 0 where
  gap comment : Scan
  within : (sofar : Bytes) → Scan

-- what a byte does: it goes on, begins a word, is a command's mark, or ends a word
pub data Move : Type 0 where
  keep : Scan → Move
  first : (b : ℕ) → Move
  command : Move
  ended : (w : Bytes) → Move

-- "Where a statement may begin, `#` opens a comment [..] and `!` opens a command"; "inside a primitive or alias both are
-- ordinary bytes"
abbrev pub begins : Phase → ℕ → Move
begins idle b = cond (eqb b (byte "#")) (keep comment) (cond (eqb b (byte "!")) command (first b))
begins (busy m p) b = first b

-- "A line ends with byte 10"; a comment "ends with its line or the text and may hold all bytes"
abbrev pub move : Scan → Phase → ℕ → Move
move gap ph b = cond (is_blank b) (keep gap) (begins ph b)
move comment ph b = cond (eqb b 10) (keep gap) (keep comment)
move (within w) ph b = cond (is_blank b) (ended w) (keep (within (w ++ b ∷ [])))

-- ---- what a word asks of the statements above it; 0: it passes

-- "7 modifier not defined above"
abbrev pub modifier_test : Option Statement → ℕ
modifier_test none = 7
modifier_test (some s) = 0

-- "10 alias target not defined above"
abbrev pub target_test : Option Statement → ℕ
target_test none = 10
target_test (some s) = 0

-- "13 no room for the reals"
abbrev pub room_test : (room used : ℕ) → Option ℕ → ℕ
room_test room used none = 0
room_test room used (some k) = cond (leb (used + k) room) 0 13

abbrev pub part_test : Settings → List Statement → Part → Bytes → ℕ
part_test r d at_type w = 0
part_test r d (at_name t) w = 0
part_test r d (at_string_count t n) w = 0
part_test r d (at_string t n ss k) w = 0
part_test r d (at_integer_count t n ss) w = 0
part_test r d (at_real_count t n ss) w = room_test r.reals (reals_used d) (count_of w)
part_test r d (at_real t n ss rs k) w = 0
part_test r d at_alias_name w = 0
part_test r d (at_target n) w = target_test (definition w d)

-- "6 no room for a record"
abbrev pub test : Settings → List Statement → Phase → Bytes → ℕ
test r d idle w = cond (ltb (length d) r.records) (cond (same w void) 0 (modifier_test (definition w d))) 6
test r d (busy m p) w = part_test r d p w

-- ---- the reading

-- places: of the word last begun, and of the open statement's first word, name and first string
pub record Places : Type 0 where
  pub word : ℕ
  pub start : ℕ
  pub name : ℕ
  pub string : ℕ

-- a statement, its places, and the place behind its last byte
pub record Entry : Type 0 where
  pub statement : Statement
  pub places : Places
  pub end : ℕ

-- the entries above stand latest first
pub record Going : Type 0 where
  pub at : ℕ
  pub scan : Scan
  pub phase : Phase
  pub places : Places
  pub above : List Entry

pub data State : Type 0 where
  stopped : (reason place : ℕ) → State
  going : Going → State

-- a state by its parts
abbrev pub going_at : ℕ → Scan → Phase → Places → List Entry → State
going_at n m ph k es = going (record { at = n; scan = m; phase = ph; places = k; above = es })

-- the places when a word begins at p
abbrev pub begin_word : ℕ → Places → Places
begin_word p k = record { word = p; start = k.start; name = k.name; string = k.string }

abbrev pub begin_name : ℕ → Places → Places
begin_name p k = record { word = p; start = k.start; name = p; string = k.string }

abbrev pub begin_string : ℕ → Places → Places
begin_string p k = record { word = p; start = k.start; name = k.name; string = p }

abbrev pub note_part : Part → ℕ → Places → Places
note_part at_type p k = begin_word p k
note_part (at_name t) p k = begin_name p k
note_part (at_string_count t n) p k = begin_word p k
note_part (at_string t n [] c) p k = begin_string p k
note_part (at_string t n (s ∷ ss) c) p k = begin_word p k
note_part (at_integer_count t n ss) p k = begin_word p k
note_part (at_real_count t n ss) p k = begin_word p k
note_part (at_real t n ss rs c) p k = begin_word p k
note_part at_alias_name p k = begin_name p k
note_part (at_target n) p k = begin_word p k

abbrev pub note : Phase → ℕ → Places → Places
note idle p k = record { word = p; start = p; name = 0; string = 0 }
note (busy m part) p k = note_part part p k

-- where a word w has just ended that stands from p on
abbrev pub at_end : ℕ → Bytes → Phase → Places → List Entry → Going
at_end p w ph k es = record { at = p + length w; scan = within w; phase = ph; places = note ph p k; above = es }

unfoldable pub statements : List Entry → List Statement
statements [] = []
statements (e ∷ es) = e.statement ∷ statements es

-- a word has ended: "the earliest place decides; at one place, the lowest number"
abbrev pub settle : Going → Outcome → (tested : ℕ) → State
settle g (refuse reason) t = stopped reason g.places.word
settle g (into ph) zero = going (record { at = suc g.at; scan = gap; phase = ph; places = g.places; above = g.above })
settle g (into ph) (suc t) = stopped (suc t) g.places.word
settle g (done s) zero =
    going (record {
      at = suc g.at;
      scan = gap;
      phase = idle;
      places = g.places;
      above = record { statement = s; places = g.places; end = g.at } ∷ g.above;
    })
settle g (done s) (suc t) = stopped (suc t) g.places.word

-- "4 command", at the `!`
abbrev pub advance : Settings → Going → Move → State
advance r g (keep m) = going (record { at = suc g.at; scan = m; phase = g.phase; places = g.places; above = g.above })
advance r g (first b) =
    going (record {
      at = suc g.at;
      scan = within (b ∷ []);
      phase = g.phase;
      places = note g.phase g.at g.places;
      above = g.above;
    })
advance r g command = stopped 4 g.at
advance r g (ended w) = settle g (word r g.phase w) (test r (statements g.above) g.phase w)

abbrev pub feed : Settings → State → ℕ → State
feed r (stopped n p) b = stopped n p
feed r (going g) b = advance r g (move g.scan g.phase b)

unfoldable pub run : Settings → State → Bytes → State
run r s [] = s
run r s (b ∷ t) = run r (feed r s b) t

abbrev pub initial : State
initial = going (record { at = 0; scan = gap; phase = idle; places = record { word = 0; start = 0; name = 0; string = 0 }; above = [] })

-- ---- the answer

pub data Reading : Type 0 where
  refused : (reason place : ℕ) → Reading
  accepted : List Entry → Reading

-- "5 text ends inside a statement", at the text's length
abbrev pub end_in : Phase → ℕ → List Entry → Reading
end_in idle len es = accepted es
end_in (busy m p) len es = refused 5 len

abbrev pub finish : ℕ → State → Reading
finish len (stopped n p) = refused n p
finish len (going g) = end_in g.phase len g.above

abbrev pub newline : Bytes
newline = 10 ∷ []

-- A text read statement by statement, with every refusal that can be told before its end: those of mixtures, whose names may be
-- defined below, come after these. "1 text over 65,536 bytes", at 0, "comes first". A text is read as if a line ended after it: a last
-- word ends there, and nothing else changes
unfoldable pub read_statements : Settings → Bytes → Reading
read_statements r text = cond (leb (length text) 65536) (finish (length text) (run r initial (text ++ newline))) (refused 1 0)
