-- The argument lines of a primitive, from the text that it stands in.
use Rattle.std.specs.Prelude.{List, [], ◌++◌, ℕ, ◌+◌}
use Rattle.laws.specs.Bytes.{Bytes}
use Rattle.lexer.specs.Word.{behind_words}
use Rattle.scene.specs.Told.{words_from}
use Rattle.tidying.specs.Tidy.{counted}

-- from the name on a primitive's words are: name, string count, strings, integer count, real count, numerals
abbrev pub string_words : Bytes → (name strings : ℕ) → List Bytes
string_words text name strings = words_from text (behind_words text name 2) strings

abbrev pub real_words : Bytes → (name strings reals : ℕ) → List Bytes
real_words text name strings reals = words_from text (behind_words text name (4 + strings)) reals

abbrev pub argument_lines : Bytes → (name strings reals : ℕ) → Bytes
argument_lines text name strings reals =
    counted (string_words text name strings) ++ counted [] ++ counted (real_words text name strings reals)
