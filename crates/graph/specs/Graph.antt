-- What primitives lead to, as numbers: their modifier links, and the two sides of mixtures.
use Rattle.std.specs.Prelude.{Bool, not, ◌&&◌, ◌||◌, List, [], ◌∷◌, ℕ, zero, suc, ◌+◌, ◌*◌, eqb, leb, get_or}
use Rattle.laws.specs.Bytes.{bytes}
use Rattle.scene.specs.Types.{is_material, type_number}
use Rattle.table.specs.View.{View, view_of}

abbrev pub mixture_type : ℕ
mixture_type = type_number (bytes "mixfunc")

-- the foreground and the background of a mixture; 0 for none
pub record Sides : Type 0 where
  pub foreground : ℕ
  pub background : ℕ

pub record Graph : Type 0 where
  pub nodes : View
  pub sides : ℕ → Sides

-- "a separate lent table of two numbers per primitive": number k, from 0, of primitive n's; 0 where there is none
unfoldable pub side_in : List ℕ → (n k : ℕ) → ℕ
side_in pairs zero k = 0
side_in pairs (suc n) k = get_or pairs (n * 2 + k) 0

abbrev pub graph_of : (records pairs : List ℕ) → Graph
graph_of records pairs = record { nodes = view_of records; sides = λ n. record { foreground = side_in pairs n 0; background = side_in pairs n 1 } }

-- where n's links lead
abbrev pub links : Graph → ℕ → List ℕ
links g n = (g.nodes n).modifier ∷ (g.sides n).foreground ∷ (g.sides n).background ∷ []

-- n leads to m in one step: "following modifiers and both sides of mixtures". 0 is none
unfoldable pub link : Graph → (n m : ℕ) → Bool
link g n m = leb 1 m && (eqb m (g.nodes n).modifier || (eqb m (g.sides n).foreground || eqb m (g.sides n).background))

-- a way goes on from a primitive of a type: from each, or "stopping at each material reached"
unfoldable pub goes_from : (through : Bool) (type : ℕ) → Bool
goes_from through t = through || not (is_material t)

abbrev pub goes_on : Graph → (through : Bool) → ℕ → Bool
goes_on g through n = goes_from through (g.nodes n).type
