-- Which blocks a text is cut into: one for each statement, up to the end of the line of its last word. It starts where the block before it
-- ends, so a comment belongs to the statement below it, and a comment behind a statement, on its last line, to that statement.
use Rattle.std.specs.Prelude.{Bool, true, cond, List, [], ◌∷◌, ◌++◌, ℕ, suc, ◌-◌, min, eqb, ltb, length, drop}
use Rattle.std.proofs.Math.Option.{Option, none, some}
use Rattle.laws.specs.Bytes.{Bytes, part}
use Rattle.laws.specs.Runs.{past}
use Rattle.lexer.specs.Class.{is_in_line}
use Rattle.scene.specs.Reading.{Entry}

-- the place behind the line of a place: behind the first byte 10 from there on, or the text's end
unfoldable pub behind_line : Bytes → ℕ → ℕ
behind_line text p = min (length text) (suc (past is_in_line text p))

-- the place behind the block of the latest of some statements
abbrev pub block_end : Bytes → List Entry → ℕ
block_end text [] = 0
block_end text (e ∷ es) = behind_line text e.end

-- where the blocks of all statements end, in the text's order
unfoldable pub block_ends : Bytes → List Entry → List ℕ
block_ends text [] = []
block_ends text (e ∷ es) = block_ends text es ++ behind_line text e.end ∷ []

-- and those blocks
unfoldable pub blocks : Bytes → List Entry → List Bytes
blocks text [] = []
blocks text (e ∷ es) = blocks text es ++ part text (block_end text es) (behind_line text e.end - block_end text es) ∷ []

-- what stands behind the last of them is a block too, where there is something
abbrev pub unless_empty : Bytes → List Bytes
unless_empty [] = []
unless_empty (b ∷ t) = (b ∷ t) ∷ []

abbrev pub behind_blocks : Bytes → List Entry → Bytes
behind_blocks text es = drop (block_end text es) text

abbrev pub all_blocks : Bytes → List Entry → List Bytes
all_blocks text es = blocks text es ++ unless_empty (behind_blocks text es)

-- ---- which texts can be cut

-- "whose lines all end in a newline"
unfoldable pub lines_end : Bytes → Bool
lines_end [] = true
lines_end (b ∷ []) = eqb b 10
lines_end (b ∷ c ∷ t) = lines_end (c ∷ t)

-- "none with words of two statements": the place of the first statement that begins on the line on which the one before it ends
abbrev pub or_else : Option ℕ → Option ℕ → Option ℕ
or_else none y = y
or_else (some x) y = some x

unfoldable pub crowded : Bytes → List Entry → Option ℕ
crowded text [] = none
crowded text (e ∷ es) = or_else (crowded text es) (cond (ltb e.places.start (block_end text es)) (some e.places.start) none)

-- why a text cannot be cut: 33, a last line that is not ended, at the text's length; then 34, a line with words of two statements, at the
-- first word of the second
pub data Verdict : Type 0 where
  cannot : (reason place : ℕ) → Verdict
  can : Verdict

abbrev pub uncrowded : Option ℕ → Verdict
uncrowded none = can
uncrowded (some p) = cannot 34 p

abbrev pub unended : Bytes → Verdict
unended text = cannot 33 (length text)

unfoldable pub verdict : Bytes → List Entry → Verdict
verdict text es = cond (lines_end text) (uncrowded (crowded text es)) (unended text)
