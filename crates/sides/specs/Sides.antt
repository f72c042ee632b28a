-- The two sides of each mixture: "the last non-surface of that name in the whole file counts".
use Rattle.std.specs.Prelude.{cond, List, [], ◌∷◌, ◌++◌, ℕ, suc, eqb, get_or, length}
use Rattle.graph.specs.Graph.{Graph, Sides, mixture_type}
use Rattle.laws.specs.Bytes.{Bytes}
use Rattle.scene.specs.Links.{modifier_link, own_body, strings_in, type_in}
use Rattle.scene.specs.Reading.{Reading, statements}
use Rattle.scene.specs.Record.{entries, filled}
use Rattle.scene.specs.Statement.{Statement, void}
use Rattle.table.specs.View.{Node}

abbrev pub sides : (foreground background : ℕ) → Sides
sides f b = record { foreground = f; background = b }

-- "Resolve both names this way, `void` to 0": a mixture's strings begin with the names of its foreground and its background. The
-- statements are those of the whole file, latest first
abbrev pub sides_in : (type : ℕ) (strings : List Bytes) (whole : List Statement) → Sides
sides_in t ss D = cond (eqb t mixture_type) (sides (modifier_link (get_or ss 0 void) D) (modifier_link (get_or ss 1 void) D)) (sides 0 0)

-- "aliases of a mixfunc have the same pair, all else is 0"
abbrev pub sides_of : (whole : List Statement) → Statement → (earlier : List Statement) → Sides
sides_of D s d = let b = own_body s.body d in sides_in (type_in b) (strings_in b) D

abbrev pub pair_of : Sides → List ℕ
pair_of p = p.foreground ∷ p.background ∷ []

-- "a separate lent table of two numbers per primitive", in the text's order
unfoldable pub pairs_from : (whole : List Statement) → List Statement → List ℕ
pairs_from D [] = []
pairs_from D (s ∷ d) = pairs_from D d ++ pair_of (sides_of D s d)

unfoldable pub pairs : List Statement → List ℕ
pairs D = pairs_from D D

-- ---- what both tables say of a scene

-- the statements from the one of a number on; none where there is none
unfoldable pub from_number : List Statement → ℕ → List Statement
from_number [] n = []
from_number (s ∷ d) n = cond (eqb n (suc (length d))) (s ∷ d) (from_number d n)

abbrev pub node_at : List Statement → Node
node_at [] = record { type = 0; modifier = 0 }
node_at (s ∷ d) = record { type = type_in (own_body s.body d); modifier = modifier_link s.modifier d }

abbrev pub sides_at : (whole : List Statement) → List Statement → Sides
sides_at D [] = sides 0 0
sides_at D (s ∷ d) = sides_of D s d

abbrev pub scene_graph : List Statement → Graph
scene_graph D = record { nodes = λ n. node_at (from_number D n); sides = λ n. sides_at D (from_number D n) }

-- the table as it stands after reading, for its lent length
unfoldable pub pair_image : ℕ → Reading → List ℕ
pair_image n r = filled 0 n (pairs (statements (entries r)))
