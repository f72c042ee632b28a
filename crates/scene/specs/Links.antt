-- Which statement a name leads to. Lists of statements stand latest first, so a statement's number is how many stand from it on.
use Rattle.std.specs.Prelude.{Bool, true, not, ◌&&◌, cond, List, [], ◌∷◌, ℕ, zero, suc, ◌+◌, Float, length}
use Rattle.std.proofs.Math.Option.{Option, none, some}
use Rattle.laws.specs.Bytes.{Bytes, same}
use Rattle.scene.specs.Statement.{numbers, Body, primitive, alias, Statement, void}
use Rattle.scene.specs.Types.{is_surface}

-- "only types 10 to 25 may be looked up": "a surface is no definition" and "gives no name"; an alias, whose target is none, gives its own
abbrev pub is_definition : Body → Bool
is_definition (primitive t ss rs) = not (is_surface t)
is_definition (alias x) = true

unfoldable pub gives : Statement → Bool
gives s = is_definition s.body

-- THE rule of look-ups: a name leads to a statement that gives it
unfoldable pub hits : Bytes → Statement → Bool
hits w s = gives s && same w s.name

-- "the latest earlier non-surface of that name": the statements from it on, none where there is none
unfoldable pub found : Bytes → List Statement → List Statement
found w [] = []
found w (s ∷ d) = cond (hits w s) (s ∷ d) (found w d)

abbrev pub head : List Statement → Option Statement
head [] = none
head (s ∷ d) = some s

-- that statement, and its number, 0 for none
abbrev pub definition : Bytes → List Statement → Option Statement
definition w d = head (found w d)

abbrev pub latest : Bytes → List Statement → ℕ
latest w d = length (found w d)

-- "number of the next primitive of the same name (0 if none)": the first among the later ones, of which the first has the
-- number after n
abbrev pub or_else : ℕ → ℕ → ℕ
or_else zero y = y
or_else (suc x) y = suc x

unfoldable pub first_later : Bytes → List Statement → ℕ → ℕ
first_later w [] n = 0
first_later w (s ∷ d) n = or_else (first_later w d n) (cond (hits w s) (suc (n + length d)) 0)

-- ---- links

-- "A modifier `void` gives link 0. Any other modifier, and every alias target, leads to the latest earlier primitive"
abbrev pub modifier_link : Bytes → List Statement → ℕ
modifier_link m d = cond (same m void) 0 (latest m d)

abbrev pub target_link : Body → List Statement → ℕ
target_link (primitive t ss rs) d = 0
target_link (alias x) d = latest x d

-- ---- through aliases

-- "An alias takes type, strings and reals from its target": the statements from the primitive on that a name leads to
abbrev pub through : Body → List Statement → (Bytes → List Statement) → List Statement
through (primitive t ss rs) here there = here
through (alias x) here there = there x

unfoldable pub resolve : Bytes → List Statement → List Statement
resolve w [] = []
resolve w (s ∷ d) =
    let hit = through s.body (s ∷ d) (λ x. resolve x d) in
    let miss = resolve w d in
    cond (hits w s) hit miss

-- the statements from the primitive on whose type, strings and reals a statement has
abbrev pub source : Statement → List Statement → List Statement
source s d = through s.body (s ∷ d) (λ x. resolve x d)

abbrev pub body_of : List Statement → Body
body_of [] = primitive 0 [] []
body_of (s ∷ d) = s.body

abbrev pub own_body : Body → List Statement → Body
own_body (primitive t ss rs) d = primitive t ss rs
own_body (alias x) d = body_of (resolve x d)

-- ---- what a body has

abbrev pub type_in : Body → ℕ
type_in (primitive t ss rs) = t
type_in (alias x) = 0

abbrev pub strings_in : Body → List Bytes
strings_in (primitive t ss rs) = ss
strings_in (alias x) = []

abbrev pub reals_in : Body → List Float
reals_in (primitive t ss rs) = numbers rs
reals_in (alias x) = []

-- how many reals a body adds: "aliases add none"
abbrev pub reals_added : Body → ℕ
reals_added (primitive t ss rs) = length rs
reals_added (alias x) = 0

-- how many reals all statements have
unfoldable pub reals_used : List Statement → ℕ
reals_used [] = 0
reals_used (s ∷ d) = reals_used d + reals_added s.body
