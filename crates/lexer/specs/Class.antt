-- The classes of bytes.
use Rattle.std.specs.Prelude.{Bool, ◌&&◌, ◌||◌, not, cond, ℕ, leb, eqb}
use Rattle.lexer.specs.declared.Class.{Class}
use Rattle.lexer.specs.declared.Class.TheVariants.{Blank, Good, Bad}

-- "Blanks are bytes 9 to 13 and 32."
unfoldable pub is_blank : ℕ → Bool
is_blank b = leb 9 b && leb b 13 || eqb b 32

-- "A word is a longest run of other bytes"
unfoldable pub is_other : ℕ → Bool
is_other b = not (is_blank b)

-- "only bytes 33 to 126 are good in one"
unfoldable pub is_good : ℕ → Bool
is_good b = leb 33 b && leb b 126

-- "A table gives each of the 256 byte numbers its one class": 0 blank, 1 good, 2 bad
unfoldable pub class_of : ℕ → ℕ
class_of b = cond (is_blank b) 0 (cond (is_good b) 1 2)

-- the number of a class
abbrev pub class_number : Class → ℕ
class_number Blank = 0
class_number Good = 1
class_number Bad = 2

-- "A line ends with byte 10": any other byte stands in a line
unfoldable pub is_in_line : ℕ → Bool
is_in_line b = not (eqb b 10)
