-- The moved text of records, from the text and the table that they stand in.
use Rattle.std.specs.Prelude.{Bool, cond, not, ◌&&◌, List, [], ◌∷◌, ◌++◌, ◌≡◌, ℕ, zero, suc, eqb, length}
use Rattle.laws.specs.Bytes.{Bytes, bytes, same}
use Rattle.lexer.specs.Word.{behind_words, word_bytes}
use Rattle.moved_text.specs.declared.Change.{Change}
use Rattle.moved_text.specs.declared.Change.TheVariants.{Added, Dropped, Kept}
use Rattle.moving.specs.Moved.{moved}
use Rattle.moving.specs.declared.Direction.{Direction}
use Rattle.moving.specs.declared.Direction.TheVariants.{Back, Forth}
use Rattle.record_text.specs.RecordText.{modifier_word, record_text}
use Rattle.scene.specs.Reading.{Entry, accepted, read_statements, statements}
use Rattle.scene.specs.Record.{name_in, record_image, record_in}
use Rattle.scene.specs.Told.{words_from}
use Rattle.scene.specs.declared.Settings.{Settings}
use Rattle.tidying.specs.Tidy.{spaced, tidy}

-- from the name on the words of glass are: name, 0, 0, real count, reals
unfoldable pub spelled_at : Bytes → (table : List ℕ) → (n : ℕ) → Bool
spelled_at text T n = same (word_bytes text (behind_words text (record_in T n).name 7)) (bytes "1.52")

-- glass with so many reals, and whether the fourth is spelled `1.52`
abbrev pub change_by : Direction → (reals : ℕ) (spelled : Bool) → Change
change_by Forth k s = cond (eqb k 3) Added Kept
change_by Back k s = cond (eqb k 4 && s) Dropped Kept

-- 23 is glass
unfoldable pub change_of : Direction → Bytes → (table : List ℕ) → (n : ℕ) → Change
change_of m text T n = cond (not (eqb (record_in T n).target 0)) Kept (cond (not (eqb (record_in T n).type 23)) Kept (change_by m (record_in T n).reals (spelled_at text T n)))

unfoldable pub glass_text : Bytes → (table : List ℕ) → (n : ℕ) → (count end : Bytes) → Bytes
glass_text text T n count end =
    modifier_word text T n ++ (spaced (bytes "glass" ∷ name_in text T n ∷ []) ++ (bytes "\n0\n0\n" ++ (count ++ (spaced (words_from text (behind_words text (record_in T n).name 4) 3) ++ end))))

abbrev pub row_by : Change → Bytes → (table : List ℕ) → (n : ℕ) → Bytes
row_by Kept text T n = record_text text T n
row_by Added text T n = glass_text text T n (bytes "4") (bytes " 1.52\n")
row_by Dropped text T n = glass_text text T n (bytes "3") (bytes "\n")

abbrev pub moved_row : Direction → Bytes → (table : List ℕ) → (n : ℕ) → Bytes
moved_row m text T n = row_by (change_of m text T n) text T n

-- the first n records
unfoldable pub moved_rows : Direction → Bytes → (table : List ℕ) → ℕ → Bytes
moved_rows m text T zero = []
moved_rows m text T (suc n) = moved_rows m text T n ++ moved_row m text T (suc n)

-- on the table of an accepted text this is the tidy text of the statements moved
abbrev pub MovedRowsLaw : Type 0
MovedRowsLaw = (m : Direction) (r : Settings) (text : Bytes) (es : List Entry) (k : ℕ) → read_statements r text ≡ accepted es → moved_rows m text (record_image text k (accepted es)) (length es) ≡ tidy (moved m (statements es))
