-- A join, as host programs are told of it.
use mathlib.Core.List.{List}
use mathlib.Core.Path.{◌≡◌, ap, ◌∙◌, subst}
use Prim.Native.Nat.{ℕ}
use lib.Ieee.{Float}
use Rattle.host_joining.specs.Host.{HostJoins}
use Rattle.join_answer.specs.Answer.{Joins, reason_of, values_of}
use Rattle.join_answer.specs.Answer.{Answer}
use Rattle.joining.specs.Outcome.{Outcome}
use Rattle.laws.specs.Bytes.{Bytes}

-- an answer, told by its numbers
pub join_told : (o : Outcome) (records : List ℕ) (reals : List Float) (out : Bytes) {a : Answer} {records' : List ℕ} {reals' : List Float} {out' : Bytes} → Joins o records reals out a records' reals' out'
    → {r : ℕ} {values : List ℕ} → r ≡ reason_of a → values ≡ values_of a → HostJoins o records reals out r values records' reals' out'
join_told o records reals out {records' = records'} {reals' = reals'} {out' = out'} h f g = record { says = f ∙ ap reason_of h.says; numbers = g ∙ ap values_of h.says; lent = subst (λ (z : Answer). Joins o records reals out z records' reals' out') h.says h }
