-- "every numeral becomes the nearest double", said by distances.
use Rattle.std.specs.Prelude.{List, [], ◌∷◌, ◌++◌, ◌≡◌, ℕ, ◌*◌, ◌^◌, Float, length}
use Rattle.std.specs.Float.{binary64}
use Rattle.laws.specs.Bytes.{Bytes}
use Rattle.numeral.specs.Numeral.{coefficient, down, numeral_of, up, value}
use Rattle.numeral_parts.specs.Parts.{negative}
use Rattle.reader.specs.Answer.{Answer, Reads, read_into}
use Rattle.rounding.specs.Nearest.{Nearest}
use Rattle.scene.specs.HouseRules.{zero_real}
use Rattle.scene.specs.Reading.{Entry, accepted, statements}
use Rattle.scene.specs.Record.{filled}
use Rattle.scene.specs.Statement.{Body, Literal, Statement, alias, numbers, primitive}
use Rattle.scene.specs.declared.Mode.{Mode}

-- x is the double nearest to the number that a numeral spells: its coefficient times ten to its power, with its sign
abbrev pub NearestTo : Bytes → Float → Type 0
NearestTo w x = Nearest binary64 (negative w) (coefficient w * 10 ^ up w) (10 ^ down w) x

-- the value of an accepted numeral is, and no other double is
pub record Written (w : Bytes) (x : Float) : Type 0 where
  pub nearest : NearestTo w x
  pub only : (y : Float) → NearestTo w y → y ≡ x

abbrev pub NumeralLaw : Type 0
NumeralLaw = (w : Bytes) (x : Float) → numeral_of w ≡ value x → Written w x

-- ---- the numbers of a scene

-- the numerals of a scene, in the text's order; "aliases add none"
abbrev pub literals_in : Body → List Literal
literals_in (primitive t ss rs) = rs
literals_in (alias x) = []

unfoldable pub literals : List Statement → List Literal
literals [] = []
literals (s ∷ d) = literals d ++ literals_in s.body

abbrev pub AllWritten : List Literal → Type 0
AllWritten [] = Unit {0}
AllWritten (l ∷ ls) = Written l.word l.number × AllWritten ls

-- after a call that accepts a text, the lent table of reals has the numbers of its numerals, each nearest to what is written, and zeros
pub record TableWritten (reals reals' : List Float) (d : List Statement) : Type 0 where
  pub table : reals' ≡ filled zero_real (length reals) (numbers (literals d))
  pub written : AllWritten (literals d)

abbrev pub TableLaw : Type 0
TableLaw =
    (mode : Mode) (text : Bytes) (records : List ℕ) (reals : List Float) (r : Answer) (records' : List ℕ) (reals' : List Float) → Reads mode text records reals r records' reals'
    → (es : List Entry) → read_into mode text records reals ≡ accepted es → TableWritten reals reals' (statements es)
