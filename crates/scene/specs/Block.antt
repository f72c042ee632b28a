-- Blocks of an accepted text, what they give and refer to, and the renumbering when two of them change places.
use Rattle.std.specs.Prelude.{Bool, false, ◌&&◌, ◌||◌, cond, List, [], ◌∷◌, ◌++◌, ◌⊎◌, ◌≡◌, ℕ, ◌+◌, ◌-◌, ◌≤◌, leb, ltb, length}
use Rattle.laws.specs.Bytes.{Bytes, same}
use Rattle.scene.specs.Links.{gives}
use Rattle.scene.specs.Reading.{Entry, newline}
use Rattle.scene.specs.Statement.{Body, primitive, alias, Statement, void}

-- a text that ends with a byte 10
abbrev pub EndsLine : Bytes → Type 0
EndsLine t = (x : Bytes) × (t ≡ x ++ newline)

-- "cuts no statement", "from its first word to its last": the place k lies at or before its first byte, or behind its last
abbrev pub CutsNone : ℕ → List Entry → Type 0
CutsNone k [] = Unit {0}
CutsNone k (e ∷ es) = ((k ≤ e.places.start) ⊎ (e.end ≤ k)) × CutsNone k es

-- "A block of an accepted text starts at the text's start or just after a byte 10, ends with a byte 10 and cuts no statement".
-- `before` is what stands before it in the text whose statements are es
pub record Block (es : List Entry) (before block : Bytes) : Type 0 where
  pub starts : (before ≡ []) ⊎ EndsLine before
  pub ends : EndsLine block
  pub first : CutsNone (length before) es
  pub last : CutsNone (length (before ++ block)) es

-- the statements that start from one place up to another, latest first
unfoldable pub in_block : ℕ → ℕ → List Entry → List Statement
in_block lo hi [] = []
in_block lo hi (e ∷ es) =
    cond (leb lo e.places.start && ltb e.places.start hi) (e.statement ∷ in_block lo hi es) (in_block lo hi es)

-- "A statement gives its name, and refers to its modifier unless `void` and to its alias target; nothing else is giving or
-- referring." "A block gives and refers to what its statements do."
unfoldable pub given : List Statement → List Bytes
given [] = []
given (s ∷ d) = cond (gives s) (s.name ∷ given d) (given d)

abbrev pub targets : Body → List Bytes
targets (primitive t ss rs) = []
targets (alias x) = x ∷ []

unfoldable pub referred : List Statement → List Bytes
referred [] = []
referred (s ∷ d) = cond (same s.modifier void) [] (s.modifier ∷ []) ++ targets s.body ++ referred d

-- a word stands in a list; some word stands in both
unfoldable pub stands : Bytes → List Bytes → Bool
stands w [] = false
stands w (x ∷ xs) = same w x || stands w xs

unfoldable pub share : List Bytes → List Bytes → Bool
share [] ys = false
share (x ∷ xs) ys = stands x ys || share xs ys

-- neither gives a name that the other gives or refers to
pub record Independent (a b : List Statement) : Type 0 where
  pub first : share (given a) (given b ++ referred b) ≡ false
  pub second : share (given b) (given a ++ referred a) ≡ false

-- "With i statements in the first and j in the second, a number n becomes n+j in the first, n-i in the second, and stays
-- elsewhere, as 0 does." p statements stand before the two
unfoldable pub shift : (p i j n : ℕ) → ℕ
shift p i j n = cond (leb n p) n (cond (leb n (p + i)) (n + j) (cond (leb n (p + i + j)) (n - i) n))
