-- In which phases a word is looked up, and in which the reals before are.
use mathlib.Core.Bool.{Bool, false, not}
use mathlib.Core.List.{List}
use mathlib.Core.Path.{◌≡◌, refl, ap, sym, ◌∙◌}
use Prim.Native.Nat.{ℕ}
use lib.Ieee.{Float}
use Rattle.laws.specs.Bytes.{Bytes, same}
use Rattle.context.specs.Seen.{back, is_looked_up, real_before}
use Rattle.scene.specs.HouseRules.{zero_real}
use Rattle.scene.specs.Statement.{void}
use Rattle.statement.specs.declared.Phase.{Phase}
use Rattle.statement.specs.declared.Phase.TheVariants as is

-- what the code's tests leave: the phase is none of those that were tested
pub not_looked_up : (ph : Phase) → (ph ≡ is.Idle → ⊥) → (ph ≡ is.Target → ⊥) → (w : Bytes) → false ≡ is_looked_up ph w
unfolding is_looked_up
not_looked_up is.Idle k l w = absurd (k refl)
not_looked_up is.Kind k l w = refl
not_looked_up is.Name k l w = refl
not_looked_up is.StringCount k l w = refl
not_looked_up is.FirstString k l w = refl
not_looked_up is.LaterString k l w = refl
not_looked_up is.IntegerCount k l w = refl
not_looked_up is.RealCount k l w = refl
not_looked_up is.Real k l w = refl
not_looked_up is.AliasName k l w = refl
not_looked_up is.Target k l w = absurd (l refl)

-- b tells whether a modifier is `void`
pub modifier_looked_up : (ph : Phase) (w : Bytes) (b : Bool) → ph ≡ is.Idle → b ≡ same w void → not b ≡ is_looked_up ph w
unfolding is_looked_up
modifier_looked_up ph w b p e = ap not e ∙ sym (ap (λ (z : Phase). is_looked_up z w) p)

-- only a real's step looks at the reals before
module _ (reals : List Float) (u j : ℕ) where
  pub at_real : (ph : Phase) (x : Float) → ph ≡ is.Real → x ≡ back reals u j → x ≡ real_before ph reals u j
  unfolding real_before
  at_real ph x p e = e ∙ sym (ap (λ (z : Phase). real_before z reals u j) p)

  pub not_at_real : (ph : Phase) → (ph ≡ is.Real → ⊥) → zero_real ≡ real_before ph reals u j
  unfolding real_before
  not_at_real is.Idle k = refl
  not_at_real is.Kind k = refl
  not_at_real is.Name k = refl
  not_at_real is.StringCount k = refl
  not_at_real is.FirstString k = refl
  not_at_real is.LaterString k = refl
  not_at_real is.IntegerCount k = refl
  not_at_real is.RealCount k = refl
  not_at_real is.Real k = absurd (k refl)
  not_at_real is.AliasName k = refl
  not_at_real is.Target k = refl
