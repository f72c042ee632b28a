-- The statements that can be written back, word by word, and read in a mode. Every text accepted in that mode has only such.
use Rattle.std.specs.Prelude.{Bool, true, false, not, ◌&&◌, List, [], ◌∷◌, ◌++◌, ◌≡◌, ℕ, suc, ◌+◌, ◌^◌, ◌≤◌, ◌<◌, eqb, length}
use Rattle.laws.specs.Bytes.{Bytes, byte, same}
use Rattle.laws.specs.Runs.{all}
use Rattle.lexer.specs.Class.{is_good}
use Rattle.numeral.specs.Numeral.{value, numeral_of}
use Rattle.scene.specs.HouseRules.{breach}
use Rattle.scene.specs.Phase.{Part, Phase, at_alias_name, at_integer_count, at_name, at_real, at_real_count, at_string, at_string_count, at_target, at_type, busy, idle}
use Rattle.scene.specs.Statement.{Literal, numbers, Body, primitive, alias, Statement, void}
use Rattle.scene.specs.Types.{is_type, is_retired, strings_allowed, reals_allowed}
use Rattle.scene.specs.declared.Mode.{Mode}

-- ---- words

-- a word with no fault of its own
pub record Good (w : Bytes) : Type 0 where
  pub filled : 0 < length w
  pub good : all is_good w ≡ true
  pub short : length w ≤ 64

abbrev pub Words : List Bytes → Type 0
Words [] = Unit {0}
Words (w ∷ ws) = Good w × Words ws

-- whether a word may begin a statement: where one may, `#` begins a comment and `!` a command
abbrev pub may_begin : Bytes → Bool
may_begin [] = false
may_begin (b ∷ w) = not (eqb b (byte "#")) && not (eqb b (byte "!"))

abbrev pub Modifier : Bytes → Type 0
Modifier m = Good m × (may_begin m ≡ true)

abbrev pub Name : Bytes → Type 0
Name n = Good n × (same n void ≡ false)

-- ---- arguments

-- numerals behind others, each with its value and none completing a breach
abbrev pub Literals : (type : ℕ) (before : List Literal) → List Literal → Type 0
Literals t before [] = Unit {0}
Literals t before (l ∷ ls) = Good l.word × (numeral_of l.word ≡ value l.number) × (breach t (numbers (before ++ l ∷ [])) ≡ false) × Literals t (before ++ l ∷ []) ls

-- as many strings as the type allows, counted in at most five digits
pub record Strings (t : ℕ) (ss : List Bytes) : Type 0 where
  pub allowed : strings_allowed t (length ss) ≡ true
  pub few : length ss < 10 ^ 5
  pub words : Words ss

pub record Reals (t : ℕ) (rs : List Literal) : Type 0 where
  pub allowed : reals_allowed t (length rs) ≡ true
  pub few : length rs < 10 ^ 5
  pub literals : Literals t [] rs

-- ---- statements

-- a type that the mode accepts
abbrev pub TypeIn : Mode → ℕ → Type 0
TypeIn mode t = (is_type t ≡ true) × (is_retired mode t ≡ false)

abbrev pub ProperBody : Mode → Body → Type 0
ProperBody mode (primitive t ss rs) = TypeIn mode t × Strings t ss × Reals t rs
ProperBody mode (alias x) = Good x

pub record Proper (mode : Mode) (s : Statement) : Type 0 where
  pub modifier : Modifier s.modifier
  pub name : Name s.name
  pub body : ProperBody mode s.body

abbrev pub AllProper : Mode → List Statement → Type 0
AllProper mode [] = Unit {0}
AllProper mode (s ∷ d) = Proper mode s × AllProper mode d

-- ---- an open statement, `Phase` saying which word comes next

-- whether a word can begin there
abbrev pub starts : Phase → Bytes → Bool
starts idle w = may_begin w
starts (busy m p) [] = false
starts (busy m p) (b ∷ w) = true

-- what holds of the words before a part
abbrev pub Partly : Mode → (modifier : Bytes) → Part → Type 0
Partly mode m at_type = Modifier m
Partly mode m (at_name t) = Modifier m × TypeIn mode t
Partly mode m (at_string_count t n) = Modifier m × TypeIn mode t × Name n
Partly mode m (at_string t n ss k) = Modifier m × TypeIn mode t × Name n × (strings_allowed t (length ss + suc k) ≡ true) × (length ss + suc k < 10 ^ 5) × Words ss
Partly mode m (at_integer_count t n ss) = Modifier m × TypeIn mode t × Name n × Strings t ss
Partly mode m (at_real_count t n ss) = Modifier m × TypeIn mode t × Name n × Strings t ss
Partly mode m (at_real t n ss rs k) = Modifier m × TypeIn mode t × Name n × Strings t ss × (reals_allowed t (length rs + suc k) ≡ true) × (length rs + suc k < 10 ^ 5) × Literals t [] rs
Partly mode m at_alias_name = Modifier m
Partly mode m (at_target n) = Modifier m × Name n
