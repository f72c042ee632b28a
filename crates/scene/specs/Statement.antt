-- A statement: what is written, and nothing about links or places.
use Rattle.std.specs.Prelude.{List, [], ◌∷◌, ℕ, Float}
use Rattle.laws.specs.Bytes.{Bytes, bytes}

-- a numeral: its bytes and its value
pub record Literal : Type 0 where
  pub word : Bytes
  pub number : Float

abbrev pub literal : Bytes → Float → Literal
literal w x = record { word = w; number = x }

abbrev pub numbers : List Literal → List Float
numbers [] = []
numbers (l ∷ ls) = l.number ∷ numbers ls

abbrev pub numeral_words : List Literal → List Bytes
numeral_words [] = []
numeral_words (l ∷ ls) = l.word ∷ numeral_words ls

-- "A primitive is modifier, type, name, string count, that many words, integer count, real count, that many numerals.
-- An alias is modifier, `alias`, name, target."
pub data Body : Type 0 where
  primitive : (type : ℕ) (strings : List Bytes) (reals : List Literal) → Body
  alias : (target : Bytes) → Body

pub record Statement : Type 0 where
  pub modifier : Bytes
  pub name : Bytes
  pub body : Body

abbrev pub void : Bytes
void = bytes "void"
