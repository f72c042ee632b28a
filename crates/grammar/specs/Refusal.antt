-- Why a text is refused: every reason that holds in it, and at which place. "The earliest place decides; at one place, the lowest number."
use Rattle.std.specs.Prelude.{Bool, true, false, not, ◌&&◌, List, [], ◌∷◌, ◌++◌, ◌⊎◌, ◌≡◌, ℕ, suc, ◌+◌, ◌≤◌, ◌<◌, eqb, leb, ltb, get_or, length}
use Rattle.std.proofs.Math.Option.{Option, none, some}
use Rattle.grammar.specs.Grammar.{PrimitiveWords, Spells, Words}
use Rattle.grammar.specs.Sound.{Known, KnownSides}
use Rattle.graph.specs.Graph.{goes_on, link, mixture_type}
use Rattle.graph.specs.Paths.{Way}
use Rattle.laws.specs.Bytes.{Bytes, byte, bytes, same}
use Rattle.laws.specs.Runs.{all}
use Rattle.lexer.specs.Class.{is_blank, is_good, is_other}
use Rattle.lexer.specs.Word.{word_at, word_end}
use Rattle.numeral.specs.Count.{count_of}
use Rattle.numeral.specs.Numeral.{Answer, numeral_of, reason, refusal, value}
use Rattle.scene.specs.HouseRules.{breach}
use Rattle.scene.specs.Links.{latest, reals_used}
use Rattle.scene.specs.Phase.{Part, Phase, at_alias_name, at_integer_count, at_name, at_real, at_real_count, at_string, at_string_count, at_target, at_type, busy, idle}
use Rattle.scene.specs.Reading.{Entry, newline, statements}
use Rattle.scene.specs.Record.{nth, records}
use Rattle.scene.specs.Statement.{Literal, Statement, literal, numbers, primitive, void}
use Rattle.scene.specs.Types.{is_retired, reals_allowed, strings_allowed, type_name, type_number}
use Rattle.scene.specs.declared.Mode.{Mode}
use Rattle.scene.specs.declared.Settings.{Settings}
use Rattle.sides.specs.Sides.{scene_graph}
use Rattle.tidying.specs.Proper.{Partly, starts}

-- ---- what stands before a place

-- the words before the next one of a statement, `Part` saying which that is
abbrev pub Before : (modifier : Bytes) → Part → List Bytes → Type 0
Before m at_type ws = ws ≡ m ∷ []
Before m (at_name t) ws = ws ≡ m ∷ type_name t ∷ []
Before m (at_string_count t n) ws = ws ≡ m ∷ type_name t ∷ n ∷ []
Before m (at_string t n ss more) ws = (count : Bytes) × (count_of count ≡ some (length ss + suc more)) × (ws ≡ m ∷ type_name t ∷ n ∷ count ∷ ss)
Before m (at_integer_count t n ss) ws = (count : Bytes) × (count_of count ≡ some (length ss)) × (ws ≡ m ∷ type_name t ∷ n ∷ count ∷ ss)
Before m (at_real_count t n ss) ws = (count integers : Bytes) × (count_of count ≡ some (length ss)) × (count_of integers ≡ some 0) × (ws ≡ m ∷ type_name t ∷ n ∷ count ∷ ss ++ integers ∷ [])
Before m (at_real t n ss rs more) ws = PrimitiveWords m n t ss rs (length rs + suc more) ws
Before m at_alias_name ws = ws ≡ m ∷ bytes "alias" ∷ []
Before m (at_target n) ws = ws ≡ m ∷ bytes "alias" ∷ n ∷ []

-- the words of an open statement, each right by itself (`Partly`); none where a statement may begin
abbrev pub Open : Mode → Phase → List Bytes → Type 0
Open mode idle ws = ws ≡ []
Open mode (busy m p) ws = Partly mode m p × Before m p ws

-- a text that spells d, and behind it the words of an open statement
pub record Begun (mode : Mode) (d : List Statement) (next : Phase) (t : Bytes) : Type 0 where
  pub above : Bytes
  pub own : Bytes
  pub words : List Bytes
  pub split : t ≡ above ++ own
  pub spells : Spells mode d above
  pub spelt : Words words own
  pub opened : Open mode next words

-- w is a word of the text, "a longest run of other bytes", with its first byte at a place, and all before it is well-formed
pub record WordAt (mode : Mode) (text : Bytes) (place : ℕ) (d : List Statement) (next : Phase) (w : Bytes) : Type 0 where
  pub before : Bytes
  pub end : ℕ
  pub rest : Bytes
  pub split : text ++ newline ≡ before ++ (w ++ end ∷ rest)
  pub at : length before ≡ place
  pub begun : Begun mode d next before
  pub begins : starts next w ≡ true
  pub others : all is_other w ≡ true
  pub ends : is_blank end ≡ true

-- ---- what may be wrong with a word

-- a reason's number, and whether it holds
pub record Test : Type 0 where
  pub reason : ℕ
  pub holds : Bool

abbrev test : ℕ → Bool → Test
test n b = record { reason = n; holds = b }

-- no statement above gives the name
abbrev pub undefined : Bytes → (above : List Statement) → Bool
undefined w d = eqb (latest w d) 0

-- a count that is malformed, or that is not allowed there
abbrev pub not_allowed : (ℕ → Bool) → (count : Option ℕ) → Bool
not_allowed ok none = true
not_allowed ok (some k) = not (ok k)

-- a count of more reals than there is room for
abbrev pub over : (room used : ℕ) → (count : Option ℕ) → Bool
over room used none = false
over room used (some k) = ltb room (used + k)

-- a numeral whose value completes a breach
abbrev pub completes : (type : ℕ) → List Literal → Bytes → Answer → Bool
completes t rs w (value x) = breach t (numbers (rs ++ literal w x ∷ []))
completes t rs w (refusal n) = false

abbrev pub part_tests : Settings → (above : List Statement) → Part → Bytes → List Test
-- "8 unknown type", "28 at the type word [..], new reading only"
part_tests r d at_type w = test 8 (not (same w (bytes "alias")) && eqb (type_number w) 0) ∷ test 28 (is_retired r.mode (type_number w)) ∷ []
-- "9 name is `void`"
part_tests r d (at_name t) w = test 9 (same w void) ∷ []
part_tests r d at_alias_name w = test 9 (same w void) ∷ []
-- "10 alias target not defined above"
part_tests r d (at_target n) w = test 10 (undefined w d) ∷ []
-- "12 count badly formed or not allowed", "13 no room for the reals"
part_tests r d (at_string_count t n) w = test 12 (not_allowed (strings_allowed t) (count_of w)) ∷ []
part_tests r d (at_integer_count t n ss) w = test 12 (not_allowed (λ k. eqb k 0) (count_of w)) ∷ []
part_tests r d (at_real_count t n ss) w = test 12 (not_allowed (reals_allowed t) (count_of w)) ∷ test 13 (over r.reals (reals_used d) (count_of w)) ∷ []
part_tests r d (at_string t n ss more) w = []
-- "14 breaks the numeral rule", "15 coefficient or power too large", "16 breaks a house rule"
part_tests r d (at_real t n ss rs more) w = test 14 (eqb (reason (numeral_of w)) 14) ∷ test 15 (eqb (reason (numeral_of w)) 15) ∷ test 16 (completes t rs w (numeral_of w)) ∷ []

-- "6 no room for a record", "7 modifier not defined above"
abbrev pub next_tests : Settings → (above : List Statement) → Phase → Bytes → List Test
next_tests r d idle w = test 6 (leb r.records (length d)) ∷ test 7 (not (same w void) && undefined w d) ∷ []
next_tests r d (busy m p) w = part_tests r d p w

-- "2 bad byte in a word", "3 word over 64 bytes"
abbrev pub word_tests : Settings → (above : List Statement) → Phase → Bytes → List Test
word_tests r d next w = test 2 (not (all is_good w)) ∷ test 3 (ltb 64 (length w)) ∷ next_tests r d next w

-- a reason is among those that hold
abbrev pub Fails : (reason : ℕ) → List Test → Type 0
Fails n [] = ⊥
Fails n (x ∷ xs) = ((x.reason ≡ n) × (x.holds ≡ true)) ⊎ Fails n xs

-- ---- the reasons that hold in a text

pub data Holds (r : Settings) (text : Bytes) : (reason place : ℕ) → Type 0 where
  -- "1 text over 65,536 bytes", at 0
  long : 65536 < length text → Holds r text 1 0
  -- "Where a statement may begin, [..] `!` opens a command"; "4 command", at the `!`
  command : (d : List Statement) (before rest : Bytes) → text ++ newline ≡ before ++ byte "!" ∷ rest → Spells r.mode d before → Holds r text 4 (length before)
  -- "5 text ends inside a statement", at the text's length
  unfinished : (d : List Statement) (m : Bytes) (p : Part) → Begun r.mode d (busy m p) (text ++ newline) → Holds r text 5 (length text)
  -- all other reasons, at the word that they are about
  wrong : {n place : ℕ} (d : List Statement) (next : Phase) (w : Bytes) → WordAt r.mode text place d next w → Fails n (word_tests r d next w) → Holds r text n place

-- "1 comes first. Then the earliest place decides; at one place, the lowest number."
pub record First (r : Settings) (text : Bytes) (n place : ℕ) : Type 0 where
  pub holds : Holds r text n place
  pub first : (m p : ℕ) → Holds r text m p → (place < p) ⊎ ((place ≡ p) × (n ≤ m))

-- ---- "Refusals, after all earlier ones": those of mixtures, in a text that no reason above refuses. Its entries have the places

-- "25 name not defined, at the first such word": of the first mixture with such a side, its first such side
pub record Unknown (text : Bytes) (es : List Entry) (place : ℕ) : Type 0 where
  pub later : List Entry
  pub entry : Entry
  pub earlier : List Entry
  pub strings : List Bytes
  pub reals : List Literal
  pub split : es ≡ later ++ entry ∷ earlier
  pub mixture : entry.statement.body ≡ primitive mixture_type strings reals
  pub above : KnownSides (statements es) (statements earlier)
  pub here :
      ((Known (get_or strings 0 void) (statements es) → ⊥) × (place ≡ entry.places.string))
      ⊎ (Known (get_or strings 0 void) (statements es) × (Known (get_or strings 1 void) (statements es) → ⊥) × (place ≡ (word_at text (word_end text entry.places.string)).place))

-- "26 loop, only where there is no 25, at the name of its lowest-numbered primitive, the lowest over all loops"
pub record Looped (es : List Entry) (place : ℕ) : Type 0 where
  pub number : ℕ
  pub known : KnownSides (statements es) (statements es)
  pub loop : Way (link (scene_graph (statements es))) (goes_on (scene_graph (statements es)) true) number number
  pub lowest : (n : ℕ) → Way (link (scene_graph (statements es))) (goes_on (scene_graph (statements es)) true) n n → number ≤ n
  pub name : place ≡ (nth (records es) number).name
