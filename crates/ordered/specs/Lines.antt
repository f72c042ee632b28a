-- Two scenes compared along an order of each: what the orders hold is taken as it is.
use Rattle.std.specs.Prelude.{cond, List, [], ◌∷◌, ℕ, ◌/◌, Float, length, take, drop, Option, Some, None}
use Rattle.content.specs.Content.{Content, content_with, same_content}
use Rattle.comparison.specs.declared.Line.{Line}
use Rattle.comparison.specs.declared.Place.{Place}
use Rattle.comparison.specs.declared.State.{State}
use Rattle.comparison.specs.declared.Place.TheVariants as on
use Rattle.comparison.specs.declared.State.TheVariants as is
use Rattle.keys.specs.Key.{Key, nth_of, key_of, before}
use Rattle.keys.specs.Rows.{scene_rows}
use Rattle.laws.specs.Bytes.{Bytes}
use Rattle.ranks.specs.Rank.{entry_of}
use Rattle.scene.specs.Record.{record_in}
use Rattle.scene.specs.Told.{tells}
use Rattle.ordered.specs.declared.Cursors.{Cursors}
use Rattle.ordered.specs.declared.NextLine.{NextLine}

-- ---- a scene and its order

-- the table of an order: numbers in its first half, and from there on the nth of each number; none for 0 and past its end
abbrev pub numbers_in : (order : List ℕ) → List ℕ
numbers_in o = take (length o / 2) o

abbrev pub nth_in : (order : List ℕ) → (n : ℕ) → ℕ
nth_in o n = entry_of (drop (length o / 2) o) n

-- the key of a number: its name, and its nth as the table has it
abbrev pub key_in : Bytes → (records order : List ℕ) → (n : ℕ) → Key
key_in text records order n = nth_of (key_of (scene_rows text records []) n).name (nth_in order n)

-- a scene as it is lent
pub record Scene : Type 0 where
  pub text : Bytes
  pub records : List ℕ
  pub reals : List Float
  pub order : List ℕ

abbrev pub scene : Bytes → (records : List ℕ) → (reals : List Float) → (order : List ℕ) → Scene
scene text records reals order = record { text = text; records = records; reals = reals; order = order }

abbrev pub numbers_of : Scene → List ℕ
numbers_of s = numbers_in s.order

abbrev pub key_by : Scene → (n : ℕ) → Key
key_by s n = key_in s.text s.records s.order n

-- what a number is, with the keys of its links as the table has them
abbrev pub content_by : Scene → (n : ℕ) → Content
content_by s n = content_with (key_by s) (tells s.text s.reals (record_in s.records n))

-- ---- the lines

-- the line of a scene's number: a primitive by its scene and number, its nth, and its state
abbrev pub line_of : Scene → Place → (n : ℕ) → State → Line
line_of s p n x = record { place = p; nth = (key_by s n).nth; state = x }

module _ (l r : Scene) where
  -- two orders merged: the lesser key goes first; keys that are the same go together, with no line where their content is the same
  unfoldable pub lines : (o p : List ℕ) → List Line
  lines [] [] = []
  lines (m ∷ o) [] = line_of l (on.Left m) m is.OnlyLeft ∷ lines o []
  lines [] (n ∷ p) = line_of r (on.Right n) n is.OnlyRight ∷ lines [] p
  lines (m ∷ o) (n ∷ p) =
      let only_left = line_of l (on.Left m) m is.OnlyLeft ∷ lines o (n ∷ p) in
      let only_right = line_of r (on.Right n) n is.OnlyRight ∷ lines (m ∷ o) p in
      let changed = line_of l (on.Left m) m is.Changed ∷ lines o p in
      cond (before (key_by l m) (key_by r n)) only_left (cond (before (key_by r n) (key_by l m)) only_right (cond (same_content (content_by l m) (content_by r n)) (lines o p) changed))

  -- the lines from two cursors on
  abbrev pub lines_from : Cursors → List Line
  lines_from c = lines (drop c.left (numbers_of l)) (drop c.right (numbers_of r))

  -- what an answer hands out: a line, and those from its cursors on
  abbrev pub handed : Option NextLine → List Line
  handed None = []
  handed (Some x) = x.line ∷ lines_from x.cursors
