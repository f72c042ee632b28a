-- The words of a text.
use Rattle.std.specs.Prelude.{Bool, ◌||◌, cond, ℕ, zero, suc, ◌+◌, leb, length, drop, get_or}
use Rattle.laws.specs.Bytes.{Bytes, part}
use Rattle.laws.specs.Runs.{all, run, past}
use Rattle.lexer.specs.Class.{is_blank, is_other, is_good}
use Rattle.lexer.specs.Fault.{fault_number}
use Rattle.lexer.specs.declared.Checked.{Checked as CheckedWord}
use Rattle.lexer.specs.declared.Word.{Word}

-- the word at or after a place: blanks are skipped, and "a word is a longest run of other bytes";
-- a word reader "at or past the end gives an empty word at the text length"
unfoldable pub word_at : Bytes → ℕ → Word
word_at text at =
    let place = past is_blank text at in
    record { place = place; len = run is_other (drop place text) }

-- the bytes of that word
abbrev pub word_bytes : Bytes → ℕ → Bytes
word_bytes text at = part text (word_at text at).place (word_at text at).len

-- where that word ends: the first place behind it
abbrev pub word_end : Bytes → ℕ → ℕ
word_end text at = (word_at text at).place + (word_at text at).len

-- the place behind so many words from a place on
unfoldable pub behind_words : Bytes → (at count : ℕ) → ℕ
behind_words text at zero = at
behind_words text at (suc n) = behind_words text (word_end text at) n

-- "2 bad byte in a word", "3 word over 64 bytes"; "at one place, the lowest number"; 0 for a good word
unfoldable pub word_fault : Bytes → ℕ
word_fault w = cond (all is_good w) (cond (leb (length w) 64) 0 3) 2

-- a word with the number of its fault, 0 for none
pub record Checked : Type 0 where
  pub place : ℕ
  pub len : ℕ
  pub fault : ℕ

abbrev pub checked_of : CheckedWord → Checked
checked_of c = record { place = c.place; len = c.len; fault = fault_number c.fault }

-- the word at or after a place with its fault
abbrev pub checked_at : Bytes → ℕ → Checked
checked_at text at = record { place = (word_at text at).place; len = (word_at text at).len; fault = word_fault (word_bytes text at) }

-- whether no word goes on at a place
unfoldable pub ends_word : Bytes → ℕ → Bool
ends_word text at = leb (length text) at || is_blank (get_or text at 0)
