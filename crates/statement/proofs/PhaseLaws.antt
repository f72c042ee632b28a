-- Which phases are idle.
use mathlib.Core.Bool.{false}
use mathlib.Core.Path.{◌≡◌, refl}
use Rattle.statement.specs.States.{is_idle}
use Rattle.statement.specs.declared.Phase.{Phase}
use Rattle.statement.specs.declared.Phase.TheVariants as is

-- what the code's test leaves: the phase is not the one that was tested
pub not_idle : (ph : Phase) → (ph ≡ is.Idle → ⊥) → false ≡ is_idle ph
unfolding is_idle
not_idle is.Idle k = absurd (k refl)
not_idle is.Kind k = refl
not_idle is.Name k = refl
not_idle is.StringCount k = refl
not_idle is.FirstString k = refl
not_idle is.LaterString k = refl
not_idle is.IntegerCount k = refl
not_idle is.RealCount k = refl
not_idle is.Real k = refl
not_idle is.AliasName k = refl
not_idle is.Target k = refl
