-- The index of a scene's statements, latest first, and the report of the entries that its searches look at.
use Rattle.std.specs.Prelude.{Bool, false, cond, List, [], ◌∷◌, ◌≡◌, ℕ, suc, ◌+◌, ◌<◌, eqb, length, replicate}
use Rattle.laws.specs.Bytes.{Bytes, same}
use Rattle.scene.specs.Links.{gives, latest}
use Rattle.scene.specs.Reading.{Reading, accepted, refused, statements}
use Rattle.scene.specs.Record.{filled}
use Rattle.scene.specs.Statement.{Body, primitive, alias, Statement, void}
use Rattle.index.specs.Index.{Primitives, index_by, looked_at, number_of}

-- the name of the statement of a number, and whether it is entered
unfoldable pub name_no : List Statement → ℕ → Bytes
name_no [] n = []
name_no (s ∷ d) n = cond (eqb n (suc (length d))) s.name (name_no d n)

unfoldable pub gives_no : List Statement → ℕ → Bool
gives_no [] n = false
gives_no (s ∷ d) n = cond (eqb n (suc (length d))) (gives s) (gives_no d n)

abbrev pub primitives_of : List Statement → Primitives
primitives_of d = record { name = name_no d; gives = gives_no d }

-- the index when all are entered, what a search in it finds, and how many entries it looks at
abbrev pub index_of : List Statement → List ℕ
index_of d = index_by (primitives_of d) (length d)

abbrev pub indexed : Bytes → List Statement → ℕ
indexed w d = number_of (index_of d) (name_no d) w

abbrev pub looked : Bytes → List Statement → ℕ
looked w d = looked_at (index_of d) (name_no d) w

-- "look-ups of modifiers other than `void` and of alias targets and all enterings": those of one statement, d the earlier ones
abbrev pub modifier_looked : Bytes → List Statement → ℕ
modifier_looked m d = cond (same m void) 0 (looked m d)

abbrev pub target_looked : Body → List Statement → ℕ
target_looked (primitive t ss rs) d = 0
target_looked (alias x) d = looked x d

abbrev pub entering_looked : Statement → List Statement → ℕ
entering_looked s d = cond (gives s) (looked s.name d) 0

unfoldable pub all_looked : List Statement → ℕ
all_looked [] = 0
all_looked (s ∷ d) = all_looked d + modifier_looked s.modifier d + target_looked s.body d + entering_looked s d

-- the report of a reading; "a refusal reports 0"
abbrev pub report : Reading → ℕ
report (refused n p) = 0
report (accepted es) = all_looked (statements es)

-- the lent index, of n entries, after a reading: the first 2,048 as they were used, zero past them, and all zero after a refusal
abbrev pub index_image : ℕ → Reading → List ℕ
index_image n (refused c p) = replicate n 0
index_image n (accepted es) = filled 0 n (index_of (statements es))

-- Both searches find alike: the index leads to "the latest earlier non-surface of that name"
abbrev pub SearchesAlike : Type 0
SearchesAlike = (w : Bytes) (d : List Statement) → length d < 2048 → indexed w d ≡ latest w d
