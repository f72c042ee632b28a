-- What is wrong with a word's bytes, by the numbers of the reasons.
use Rattle.std.specs.Prelude.{ℕ, Option, None, Some}
use Rattle.lexer.specs.declared.WordFault.{WordFault}
use Rattle.lexer.specs.declared.WordFault.TheVariants.{BadByte, TooLong}

abbrev pub number_of : WordFault → ℕ
number_of BadByte = 2
number_of TooLong = 3

-- 0 for none
abbrev pub fault_number : Option WordFault → ℕ
fault_number None = 0
fault_number (Some f) = number_of f
