-- What is said of a word, a count, a numeral or a comment that was passed.
use Rattle.std.proofs.Math.Option.{some}
use Rattle.std.specs.Prelude.{◌≡◌, ℕ, ◌+◌, ◌≤◌, ◌<◌, get_or, length, Float}
use Rattle.laws.specs.Bytes.{Bytes, byte}
use Rattle.laws.specs.Runs.{past}
use Rattle.lexer.specs.Class.{is_in_line}
use Rattle.lexer.specs.Word.{word_at, word_bytes, word_end, word_fault}
use Rattle.numeral.specs.Count.{count_of}
use Rattle.numeral.specs.Numeral.{numeral_of, value}
use Rattle.scene.specs.Record.{line_at}
use Rattle.word_scan.specs.declared.Passed.{Passed}
use Rattle.word_scan.specs.declared.Skipped.{Skipped}
use Rattle.word_scan.specs.declared.Valued.{Valued}

-- the next word from `at` on is good; `next` is the place behind the byte that ends it, and `lines` lines end from `at` to there
pub record Passes (text : Bytes) (at next lines : ℕ) : Type 0 where
  pub some_bytes : 0 < (word_at text at).len
  pub fine : word_fault (word_bytes text at) ≡ 0
  pub behind : next ≡ word_end text at + 1
  pub lines_on : line_at text at + lines ≡ line_at text next

-- it is the word of r, and so many lines end before it
pub record PassesWord (text : Bytes) (at : ℕ) (r : Passed) : Type 0 where
  pub passes : Passes text at r.next r.lines
  pub place_is : r.place ≡ (word_at text at).place
  pub len_is : r.len ≡ (word_at text at).len
  pub lines_before : line_at text at + r.before ≡ line_at text r.place

-- it is a count
pub record PassesCount (text : Bytes) (at : ℕ) (r : Valued ℕ) : Type 0 where
  pub passes : Passes text at r.next r.lines
  pub value_is : count_of (word_bytes text at) ≡ some r.value

-- it is a numeral
pub record PassesReal (text : Bytes) (at : ℕ) (r : Valued Float) : Type 0 where
  pub passes : Passes text at r.next r.lines
  pub value_is : numeral_of (word_bytes text at) ≡ value r.value

-- a comment, where a statement may begin: `next` is the place behind its line
pub record PassesComment (text : Bytes) (at : ℕ) (r : Skipped) : Type 0 where
  pub some_bytes : 0 < (word_at text at).len
  pub opens : get_or text (word_at text at).place 0 ≡ byte "#"
  pub behind : r.next ≡ past is_in_line text (word_at text at).place + 1
  pub further : at < r.next
  pub within : at ≤ length text
  pub lines_on : line_at text at + r.lines ≡ line_at text r.next
