-- What a word does to the open statement, with no look at the statements above it.
use Rattle.std.specs.Prelude.{cond, List, [], ◌∷◌, ◌++◌, ℕ, zero, suc}
use Rattle.std.proofs.Math.Option.{Option, none, some}
use Rattle.laws.specs.Bytes.{Bytes, bytes, same}
use Rattle.lexer.specs.Word.{word_fault}
use Rattle.numeral.specs.Count.{count_of}
use Rattle.numeral.specs.Numeral.{Answer, value, refusal, numeral_of}
use Rattle.scene.specs.HouseRules.{breach}
use Rattle.scene.specs.declared.Mode.{Mode}
use Rattle.scene.specs.declared.Settings.{Settings}
use Rattle.scene.specs.Types.{type_number, strings_allowed, reals_allowed, is_retired}
use Rattle.scene.specs.Statement.{Literal, literal, numbers, Body, primitive, alias, Statement, void}

-- which word of a statement comes next, with what was read before it and how many of its kind come after it
pub data Part : Type 0 where
  at_type : Part
  at_name : (type : ℕ) → Part
  at_string_count : (type : ℕ) (name : Bytes) → Part
  at_string : (type : ℕ) (name : Bytes) (strings : List Bytes) (more : ℕ) → Part
  at_integer_count : (type : ℕ) (name : Bytes) (strings : List Bytes) → Part
  at_real_count : (type : ℕ) (name : Bytes) (strings : List Bytes) → Part
  at_real : (type : ℕ) (name : Bytes) (strings : List Bytes) (reals : List Literal) (more : ℕ) → Part
  at_alias_name : Part
  at_target : (name : Bytes) → Part

-- no statement is open, or one is, with its modifier
pub data Phase : Type 0 where
  idle : Phase
  busy : (modifier : Bytes) → Part → Phase

-- what a word makes of a part: a fault with its reason, the next part, or the end of the statement
pub data Turn : Type 0 where
  fault : (reason : ℕ) → Turn
  onto : Part → Turn
  ends : (name : Bytes) → Body → Turn

-- "8 unknown type"; "28 at the type word [..], new reading only"
abbrev pub typed : Mode → ℕ → Turn
typed m zero = fault 8
typed m (suc t) = cond (is_retired m (suc t)) (fault 28) (onto (at_name (suc t)))

abbrev pub strings : ℕ → Bytes → ℕ → Turn
strings t n zero = onto (at_integer_count t n [])
strings t n (suc k) = onto (at_string t n [] k)

-- "12 count badly formed or not allowed"
abbrev pub string_count : ℕ → Bytes → Option ℕ → Turn
string_count t n none = fault 12
string_count t n (some k) = cond (strings_allowed t k) (strings t n k) (fault 12)

-- "the integer count has the value 0"
abbrev pub integer_count : ℕ → Bytes → List Bytes → Option ℕ → Turn
integer_count t n ss none = fault 12
integer_count t n ss (some zero) = onto (at_real_count t n ss)
integer_count t n ss (some (suc k)) = fault 12

abbrev pub reals : ℕ → Bytes → List Bytes → List Literal → ℕ → Turn
reals t n ss rs zero = ends n (primitive t ss rs)
reals t n ss rs (suc k) = onto (at_real t n ss rs k)

abbrev pub real_count : ℕ → Bytes → List Bytes → Option ℕ → Turn
real_count t n ss none = fault 12
real_count t n ss (some k) = cond (reals_allowed t k) (reals t n ss [] k) (fault 12)

-- "14 breaks the numeral rule", "15 coefficient or power too large", "16 breaks a house rule"
abbrev pub real : ℕ → Bytes → List Bytes → List Literal → ℕ → Bytes → Answer → Turn
real t n ss rs k w (refusal reason) = fault reason
real t n ss rs k w (value x) = cond (breach t (numbers (rs ++ literal w x ∷ []))) (fault 16) (reals t n ss (rs ++ literal w x ∷ []) k)

-- "9 name is `void`"
abbrev pub named : Bytes → Part → Turn
named w next = cond (same w void) (fault 9) (onto next)

abbrev pub turn : Settings → Part → Bytes → Turn
turn r at_type w = cond (same w (bytes "alias")) (onto at_alias_name) (typed r.mode (type_number w))
turn r (at_name t) w = named w (at_string_count t w)
turn r (at_string_count t n) w = string_count t n (count_of w)
turn r (at_string t n ss zero) w = onto (at_integer_count t n (ss ++ w ∷ []))
turn r (at_string t n ss (suc k)) w = onto (at_string t n (ss ++ w ∷ []) k)
turn r (at_integer_count t n ss) w = integer_count t n ss (count_of w)
turn r (at_real_count t n ss) w = real_count t n ss (count_of w)
turn r (at_real t n ss rs k) w = real t n ss rs k w (numeral_of w)
turn r at_alias_name w = named w (at_target w)
turn r (at_target n) w = ends n (alias w)

-- what a word makes of a phase: a refusal, the next phase, or a finished statement
pub data Outcome : Type 0 where
  refuse : (reason : ℕ) → Outcome
  into : Phase → Outcome
  done : Statement → Outcome

abbrev pub outcome : Bytes → Turn → Outcome
outcome m (fault reason) = refuse reason
outcome m (onto p) = into (busy m p)
outcome m (ends n b) = done (record { modifier = m; name = n; body = b })

abbrev pub taken : Settings → Phase → Bytes → Outcome
taken r idle w = into (busy w at_type)
taken r (busy m p) w = outcome m (turn r p w)

-- a word's own faults come first: "2 bad byte in a word", "3 word over 64 bytes"
abbrev pub unless_fault : (reason : ℕ) → Outcome → Outcome
unless_fault zero o = o
unless_fault (suc n) o = refuse (suc n)

abbrev pub word : Settings → Phase → Bytes → Outcome
word r ph w = unless_fault (word_fault w) (taken r ph w)
