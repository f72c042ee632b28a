-- Which definition of a name is taken, of a base and two hands.
use Rattle.std.specs.Prelude.{Bool, true, false, ◌&&◌, ◌||◌, cond, List, [], ◌∷◌, ◌++◌, ◌≡◌, eqb, length}
use Rattle.std.proofs.Math.Option.{Option, none, some}
use Rattle.joining.specs.Definition.{named, names_once, same_definition}
use Rattle.joining.specs.declared.Choice.{Choice}
use Rattle.joining.specs.declared.Choice.TheVariants.{Clash, Left, Right}
use Rattle.laws.specs.Bytes.{Bytes}
use Rattle.scene.specs.Statement.{Statement}

-- "if both hands agree, take that, spelled as left; else if one left the base's, take the other's"; else "30 both changed one name
-- differently"
unfoldable pub chosen : (agree left_kept right_kept : Bool) → Choice
chosen agree left_kept right_kept = cond agree Left (cond left_kept Right (cond right_kept Left Clash))

unfoldable pub choose : (base left right : Option Statement) → Choice
choose b l r = chosen (same_definition l r) (same_definition l b) (same_definition r b)

unfoldable pub choice_for : (base left right : List Statement) → Bytes → Choice
choice_for base left right w = choose (named w base) (named w left) (named w right)

abbrev pub is_left : Choice → Bool
is_left Left = true
is_left Right = false
is_left Clash = false

abbrev pub is_right : Choice → Bool
is_right Left = false
is_right Right = true
is_right Clash = false

abbrev pub is_clash : Choice → Bool
is_clash Left = false
is_clash Right = false
is_clash Clash = true

-- whether the name of some statement passes, and those whose name does
unfoldable pub some_name : (Bytes → Bool) → List Statement → Bool
some_name test [] = false
some_name test (s ∷ d) = test s.name || some_name test d

unfoldable pub with_names : (Bytes → Bool) → List Statement → List Statement
with_names test [] = []
with_names test (s ∷ d) = cond (test s.name) (s ∷ with_names test d) (with_names test d)

-- what is taken of each hand; none where some name clashes. A name that only the base has was dropped by both
unfoldable pub picked : (base left right : List Statement) → Option (List Statement)
picked base left right =
    let choice = choice_for base left right in
    cond (some_name (λ w. is_clash (choice w)) (left ++ right)) none (some (with_names (λ w. is_left (choice w)) left ++ with_names (λ w. is_right (choice w)) right))

-- ---- said of each name

abbrev pub Agrees : Choice → (left right there : Option Statement) → Type 0
Agrees Left l r x = same_definition l x ≡ true
Agrees Right l r x = same_definition r x ≡ true
Agrees Clash l r x = ⊥

-- for a name, a definition is the one to be taken
abbrev pub Taken : (base left right : List Statement) → Bytes → Option Statement → Type 0
Taken base left right w x = Agrees (choice_for base left right w) (named w left) (named w right) x

-- "it holds these definitions and no more"
pub record Holds (base left right d : List Statement) : Type 0 where
  pub once : names_once d ≡ true
  pub each : (w : Bytes) → Taken base left right w (named w d)

-- where each name of both hands stands once: what is picked holds these definitions, and it is 30 exactly where some name clashes
pub record Picks (base left right : List Statement) : Type 0 where
  pub found : (d : List Statement) → picked base left right ≡ some d → Holds base left right d
  pub clashes : picked base left right ≡ none → (w : Bytes) × (choice_for base left right w ≡ Clash)
  pub clashed : (w : Bytes) → choice_for base left right w ≡ Clash → picked base left right ≡ none

abbrev pub PickLaw : Type 0
PickLaw = (base left right : List Statement) → names_once left ≡ true → names_once right ≡ true → Picks base left right

-- ---- the same, tested

-- each of these is defined there
unfoldable pub all_in : (these there : List Statement) → Bool
all_in [] d = true
all_in (s ∷ these) d = same_definition (some s) (named s.name d) && all_in these d

-- "holds these definitions and no more": as many, each under a name of its own
unfoldable pub holds : (these there : List Statement) → Bool
holds these d = names_once d && eqb (length these) (length d) && all_in these d

pub record Tested (base left right these d : List Statement) : Type 0 where
  pub forth : holds these d ≡ true → Holds base left right d
  pub back : Holds base left right d → holds these d ≡ true

abbrev pub TestLaw : Type 0
TestLaw = (base left right these d : List Statement) → Holds base left right these → Tested base left right these d

-- ---- the hands

-- "joining with an unchanged hand gives the other hand's definitions"
pub record Unchanged (base other : List Statement) : Type 0 where
  pub left : (w : Bytes) → Taken base base other w (named w other)
  pub right : (w : Bytes) → Taken base other base w (named w other)

abbrev pub UnchangedLaw : Type 0
UnchangedLaw = (base other : List Statement) → Unchanged base other

-- "exchanging the hands changes at most spelling": what holds the one join's definitions holds the other's
abbrev pub TurnedLaw : Type 0
TurnedLaw = (base left right d : List Statement) → Holds base left right d → Holds base right left d
