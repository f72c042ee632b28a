-- A numeral read where it stands in a text.
use Rattle.std.specs.Prelude.{true, ◌≡◌, ℕ, ◌-◌, ◌≤◌, ◌<◌, length}
use Rattle.laws.specs.Bytes.{Bytes, part}
use Rattle.laws.specs.Runs.{all}
use Rattle.lexer.specs.Class.{is_good}
use Rattle.lexer.specs.Word.{ends_word}
use Rattle.numeral.specs.Numeral.{numeral_of, value}
use Rattle.numeral_scan.specs.declared.Scanned.{Scanned}

-- a numeral that was read where it stands: its bytes are a good word's, no word goes on behind it, and it has that value
pub record ReadAt (text : Bytes) (place : ℕ) (r : Scanned) : Type 0 where
  pub some_bytes : place < r.end
  pub within : r.end ≤ length text
  pub good_bytes : all is_good (part text place (r.end - place)) ≡ true
  pub ended : ends_word text r.end ≡ true
  pub value_is : numeral_of (part text place (r.end - place)) ≡ value r.value
