-- The words of a text in order, and what a word reader hands out.
use Rattle.std.specs.Prelude.{Bool, false, ◌&&◌, not, cond, List, [], ◌∷◌, ℕ, zero, suc, eqb, drop}
use Rattle.laws.specs.Bytes.{Bytes}
use Rattle.laws.specs.Runs.{run}
use Rattle.lexer.specs.Class.{is_other}
use Rattle.lexer.specs.Word.{word_at, word_end}
use Rattle.lexer.specs.declared.Word.{Word}

-- "A word is a longest run of other bytes": one starts at each other byte that has no other byte before it. `rest` stands
-- from place `at` on, and `inside` says whether an other byte stands before it
unfoldable pub words_from : Bool → ℕ → Bytes → List Word
words_from inside at [] = []
words_from inside at (b ∷ rest) =
    let word : Word = record { place = at; len = run is_other (b ∷ rest) } in
    let later = words_from (is_other b) (suc at) rest in
    cond (is_other b && not inside) (word ∷ later) later

-- the words of a text, each with its place, in the text's order
unfoldable pub words_in : Bytes → List Word
words_in text = words_from false 0 text

-- "hands out one word at a time with its place": the words from `at` on until an empty one, at most `most` of them
unfoldable pub handed_out : ℕ → Bytes → ℕ → List Word
handed_out zero text at = []
handed_out (suc most) text at =
    let later = handed_out most text (word_end text at) in
    cond (eqb (word_at text at).len 0) [] (word_at text at ∷ later)

-- the words that are left from a place on
abbrev pub words_left : Bytes → ℕ → List Word
words_left text at = words_from false at (drop at text)
