-- Which phases are idle.
use mathlib.Core.Bool.{false}
use mathlib.Core.List.{[], ◌∷◌}
use mathlib.Core.Path.{◌≡◌, refl}
use Rattle.progress.specs.Image.{phase_of}
use Rattle.scene.specs.Phase.{Part, at_type, at_name, at_string_count, at_string, at_integer_count, at_real_count, at_real, at_alias_name, at_target}
use Rattle.statement.specs.States.{is_idle}

-- a statement is open at each of its parts
pub part_busy : (p : Part) → is_idle (phase_of p) ≡ false
unfolding is_idle
part_busy at_type = refl
part_busy (at_name t) = refl
part_busy (at_string_count t n) = refl
part_busy (at_string t n [] j) = refl
part_busy (at_string t n (x ∷ ss) j) = refl
part_busy (at_integer_count t n ss) = refl
part_busy (at_real_count t n ss) = refl
part_busy (at_real t n ss rs j) = refl
part_busy at_alias_name = refl
part_busy (at_target n) = refl
