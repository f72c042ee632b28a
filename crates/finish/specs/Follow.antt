-- One link of the finish walk.
use Rattle.std.specs.Prelude.{cond, ◌≡◌, ℕ, ◌+◌, ◌-◌, ◌<◌, Result}
use Rattle.std.specs.declared.ops.ControlFlow.{ControlFlow}
use Rattle.std.specs.declared.ops.ControlFlow.TheVariants.{Break, Continue}
use Rattle.finish.specs.Answer.{finish_answer}
use Rattle.finish.specs.declared.Stopped.{Stopped}
use Rattle.finish.specs.Walk.{walk_from}
use Rattle.finish.specs.Finish.{Finish, Reached, Refused}
use Rattle.scene.specs.Types.{is_material, is_modifier}
use Rattle.table.specs.View.{View}
use Rattle.finish.specs.declared.Reached.{Reached as Arrival}

-- what a link leads to: the walk ends, or goes on from a primitive
pub data Link : Type 0 where
  Ended : (finish : Finish) → Link
  On : (from : ℕ) → Link

-- as the code has it
abbrev pub link_of : ControlFlow (Result Arrival Stopped) ℕ → Link
link_of (Break r) = Ended (finish_answer r)
link_of (Continue m) = On m

-- what primitive m of type t comes to, reached by k links
unfoldable pub reached_of : (t m k : ℕ) → Link
reached_of t m k = cond (is_modifier t) (cond (is_material t) (Ended (Reached m k)) (On m)) (Ended (Refused 18 0))

-- the walk from primitive n, after k links, ends here, or goes on from an earlier primitive
abbrev pub Follows : View → (n k allowance : ℕ) → Link → Type 0
Follows v n k allowance (Ended f) = walk_from v (allowance - k) k n ≡ f
Follows v n k allowance (On m) = (m < n) × (k < allowance) × (walk_from v (allowance - k) k n ≡ walk_from v (allowance - (k + 1)) (k + 1) m)
