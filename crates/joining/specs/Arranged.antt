-- The order of a joined scene: "of the names whose needs already stand, the least by bytes comes next".
use Rattle.std.specs.Prelude.{Bool, true, not, ◌&&◌, ◌||◌, cond, List, [], ◌∷◌, ◌≡◌, ℕ, zero, suc, eqb, length}
use Rattle.std.proofs.Math.Option.{Option, none, some}
use Rattle.keys.specs.Key.{lower}
use Rattle.laws.specs.Bytes.{Bytes, same}
use Rattle.laws.specs.Shuffle.{Shuffle}
use Rattle.scene.specs.Links.{latest}
use Rattle.scene.specs.Statement.{Body, Statement, alias, primitive, void}

-- ---- orders

-- a name is found among the statements above: "a missing one or a surface included" are not
abbrev pub is_found : Bytes → List Statement → Bool
is_found w d = not (eqb (latest w d) 0)

abbrev pub target_found : List Statement → Body → Bool
target_found d (primitive t ss rs) = true
target_found d (alias x) = is_found x d

-- what a statement needs stands above it
unfoldable pub ready : List Statement → Statement → Bool
ready d s = (same s.modifier void || is_found s.modifier d) && target_found d s.body

-- each definition stands after those it needs; latest first
unfoldable pub in_order : List Statement → Bool
in_order [] = true
in_order (s ∷ d) = ready d s && in_order d

-- "31 no order puts each definition after those it needs"
abbrev pub NoOrder : List Statement → Type 0
NoOrder ds = (new : List Statement) → Shuffle ds new → in_order new ≡ true → ⊥

-- ---- the one that is taken

-- the least name of those that are ready, over those that stand; none where nothing is ready
abbrev pub lesser : Statement → Option Statement → Statement
lesser s none = s
lesser s (some t) = cond (lower t.name s.name) t s

unfoldable pub least_ready : (above left : List Statement) → Option Statement
least_ready d [] = none
least_ready d (s ∷ left) = cond (ready d s) (some (lesser s (least_ready d left))) (least_ready d left)

-- all but those of a name
unfoldable pub without_name : Bytes → List Statement → List Statement
without_name w [] = []
without_name w (s ∷ d) = cond (same w s.name) (without_name w d) (s ∷ without_name w d)

-- one after the other, so many; latest first
abbrev pub and_then : (List Statement → List Statement → Option (List Statement)) → (above left : List Statement) → Option Statement → Option (List Statement)
and_then on d left none = none
and_then on d left (some s) = on (s ∷ d) (without_name s.name left)

unfoldable pub arranged_from : (count : ℕ) → (above left : List Statement) → Option (List Statement)
arranged_from zero d left = some d
arranged_from (suc n) d left = and_then (arranged_from n) d left (least_ready d left)

unfoldable pub arranged : List Statement → Option (List Statement)
arranged ds = arranged_from (length ds) [] ds
