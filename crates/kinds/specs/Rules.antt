-- What the code's rules on counts mean, and the house rules as it tests them.
use Rattle.std.specs.Prelude.{Bool, false, not, ◌&&◌, ◌||◌, List, [], ◌∷◌, ℕ, eqb, Float}
use Rattle.std.specs.Float.Ieee.{lt}
use Rattle.scene.specs.HouseRules.{House, is0, is_at_least0}
use Rattle.scene.specs.Types.{Rule, exactly, or_more, either, corners, any}
use Rattle.kinds.specs.declared.Rule.{Rule as CodeRule}
use Rattle.kinds.specs.declared.Rule.TheVariants.{Exactly, AtLeast, ThreeOrFour, Corners, Any}

-- a rule on a count
abbrev pub rule_of : CodeRule → Rule
rule_of (Exactly n) = exactly n
rule_of (AtLeast n) = or_more n
rule_of ThreeOrFour = either 3 4
rule_of Corners = corners
rule_of Any = any

-- ---- house rules, type by type, as the code tests them

-- whether a list has one of a type
unfoldable pub is_ruled : List House → ℕ → Bool
is_ruled [] t = false
is_ruled (h ∷ hs) t = eqb h.type t || is_ruled hs t

-- a cone's or a cup's
unfoldable pub cone_breach : (count : ℕ) → (x previous : Float) → Bool
cone_breach k x y = eqb 7 k && not (is_at_least0 x) || (eqb 8 k && not (is_at_least0 x) || eqb 8 k && (is0 x && is0 y))

-- a ring's
unfoldable pub ring_breach : (count : ℕ) → (x previous first : Float) → Bool
ring_breach k x y z = eqb 7 k && not (is_at_least0 x) || (eqb 8 k && not (lt y x) || eqb 6 k && (is0 x && is0 y && is0 z))
