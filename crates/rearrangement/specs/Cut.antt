-- "Cut an accepted text whose lines all end in a newline, none with words of two statements, into 01's blocks, each of at most one
-- statement."
use Rattle.std.specs.Prelude.{List, [], ◌∷◌, ◌++◌, ℕ, suc, ◌+◌, ◌≤◌, length}
use Rattle.laws.specs.Bytes.{Bytes}
use Rattle.scene.specs.Block.{CutsNone, EndsLine, in_block}
use Rattle.scene.specs.Reading.{Entry}
use Rattle.scene.specs.Statement.{Statement}

-- the parts of a text from a place on: each ends a line, cuts no statement and has at most one
abbrev pub Cut : List Entry → (at : ℕ) → List Bytes → Type 0
Cut es at [] = Unit {0}
Cut es at (t ∷ ts) = EndsLine t × CutsNone (at + length t) es × (length (in_block at (at + length t) es) ≤ 1) × Cut es (at + length t) ts

-- a block: which one of the text it is, from 0; its bytes; and its statements
pub record Piece : Type 0 where
  pub number : ℕ
  pub text : Bytes
  pub said : List Statement

-- the blocks of a text from a place on
unfoldable pub pieces : List Entry → (number at : ℕ) → List Bytes → List Piece
pieces es n at [] = []
pieces es n at (t ∷ ts) = record { number = n; text = t; said = in_block at (at + length t) es } ∷ pieces es (suc n) (at + length t) ts

-- the text of parts, and of blocks
unfoldable pub joined : List Bytes → Bytes
joined [] = []
joined (t ∷ ts) = t ++ joined ts

unfoldable pub text_of : List Piece → Bytes
text_of [] = []
text_of (b ∷ bs) = b.text ++ text_of bs

-- what blocks say, latest first
unfoldable pub saids : List Piece → List Statement
saids [] = []
saids (b ∷ bs) = saids bs ++ b.said
