-- What a text is, with no machine that reads it: blanks, comments where a statement may begin, and words with blanks between them.
use Rattle.std.specs.Prelude.{Bool, false, true, List, [], ◌∷◌, ◌++◌, ◌≡◌, ℕ, ◌<◌, length}
use Rattle.std.proofs.Math.Option.{some}
use Rattle.laws.specs.Bytes.{Bytes, byte, bytes}
use Rattle.laws.specs.Runs.{all}
use Rattle.lexer.specs.Class.{is_blank, is_in_line}
use Rattle.numeral.specs.Count.{count_of}
use Rattle.scene.specs.Reading.{newline}
use Rattle.scene.specs.Statement.{Body, Literal, Statement, alias, numeral_words, primitive}
use Rattle.scene.specs.Types.{type_name}
use Rattle.scene.specs.declared.Mode.{Mode}
use Rattle.tidying.specs.Proper.{Good, Proper}

-- ---- words

-- what has no word: blanks, and comments where they may stand
pub data Between (comments : Bool) : Bytes → Type 0 where
  empty : Between comments []
  -- "Blanks are bytes 9 to 13 and 32."
  blank : {t : Bytes} (b : ℕ) → is_blank b ≡ true → Between comments t → Between comments (b ∷ t)
  -- "`#` opens a comment, which ends with its line [..] and may hold all bytes"
  comment : {t : Bytes} (line : Bytes) → comments ≡ true → all is_in_line line ≡ true → Between comments t → Between comments (byte "#" ∷ line ++ newline ++ t)

-- a good word, the blanks behind it, and what stands behind those. "Inside a primitive or alias" `#` is an ordinary byte
pub record WordThen (w : Bytes) (Behind : Bytes → Type 0) (t : Bytes) : Type 0 where
  pub gap : Bytes
  pub rest : Bytes
  pub split : t ≡ w ++ (gap ++ rest)
  pub good : Good w
  pub some : 0 < length gap
  pub between : Between false gap
  pub behind : Behind rest

-- a text that is these words, each with blanks behind it. "Line breaks between words mean nothing", as they are blanks
abbrev pub Words : List Bytes → Bytes → Type 0
Words [] t = t ≡ []
Words (w ∷ ws) t = WordThen w (Words ws) t

-- ---- statements

-- "A primitive is modifier, type, name, string count, that many words, integer count, real count, that many numerals": the real count is
-- k, and these are the first numerals
pub record PrimitiveWords (modifier name : Bytes) (type : ℕ) (strings : List Bytes) (reals : List Literal) (k : ℕ) (ws : List Bytes) : Type 0 where
  pub string_count : Bytes
  pub integer_count : Bytes
  pub real_count : Bytes
  pub words : ws ≡ modifier ∷ type_name type ∷ name ∷ string_count ∷ strings ++ integer_count ∷ real_count ∷ numeral_words reals
  pub many_strings : count_of string_count ≡ some (length strings)
  pub no_integers : count_of integer_count ≡ some 0
  pub many_reals : count_of real_count ≡ some k

-- "An alias is modifier, `alias`, name, target."
abbrev pub WordsOf : (modifier name : Bytes) → Body → List Bytes → Type 0
WordsOf m n (primitive t ss rs) ws = PrimitiveWords m n t ss rs (length rs) ws
WordsOf m n (alias x) ws = ws ≡ m ∷ bytes "alias" ∷ n ∷ x ∷ []

-- the words of a statement that is well-formed by itself: by its type's row, the house rules, names and numerals (`Proper`)
pub record Writes (mode : Mode) (s : Statement) (ws : List Bytes) : Type 0 where
  pub words : WordsOf s.modifier s.name s.body ws
  pub proper : Proper mode s

-- ---- texts

-- which statements a text is, the latest first. "Where a statement may begin" there may be comments
pub data Spells (mode : Mode) : List Statement → Bytes → Type 0 where
  nothing : Spells mode [] []
  between : {d : List Statement} {t : Bytes} (own : Bytes) → Between true own → Spells mode d t → Spells mode d (t ++ own)
  statement : {d : List Statement} {t : Bytes} (s : Statement) (ws : List Bytes) (own : Bytes) → Writes mode s ws → Words ws own → Spells mode d t → Spells mode (s ∷ d) (t ++ own)

-- a comment "ends with its line or the text", and so does a word: the text's end is a line's end
abbrev pub SpellsText : Mode → List Statement → Bytes → Type 0
SpellsText mode d text = Spells mode d (text ++ newline)
