-- What a lent index of any length holds while statements are entered, and what a reading counts of its searches.
use Rattle.std.specs.Prelude.{cond, List, [], ◌∷◌, ℕ, ◌+◌, min, leb, replicate}
use Rattle.laws.specs.Bytes.{Bytes, same}
use Rattle.scene.specs.Links.{gives}
use Rattle.scene.specs.Record.{filled}
use Rattle.scene.specs.Statement.{Body, primitive, alias, Statement, void}
use Rattle.index.specs.Report.{index_of, looked}

-- the lent index, of n entries, when d are entered; one of under 2,048 is not used
unfoldable pub lent : ℕ → List Statement → List ℕ
lent n d = cond (leb 2048 n) (filled 0 n (index_of d)) (replicate n 0)

-- the entries that a search looks at
unfoldable pub looked_by : ℕ → Bytes → List Statement → ℕ
looked_by n w d = cond (leb 2048 n) (looked w d) 0

-- a count goes on, up to the largest that is kept
abbrev pub counted : ℕ → ℕ → ℕ
counted a b = min (a + b) 4294967295

-- the count behind the modifier and behind the last word of a statement: t stands before it
abbrev pub count_open : ℕ → ℕ → Bytes → List Statement → ℕ
count_open n t m d = counted t (cond (same m void) 0 (looked_by n m d))

abbrev pub count_whole : ℕ → ℕ → Body → List Statement → ℕ
count_whole n t (primitive k ss rs) d = t
count_whole n t (alias x) d = counted t (looked_by n x d)

-- the count of all look-ups and enterings
unfoldable pub tally : ℕ → List Statement → ℕ
tally n [] = 0
tally n (s ∷ d) = counted (count_whole n (count_open n (tally n d) s.modifier d) s.body d) (cond (gives s) (looked_by n s.name d) 0)
