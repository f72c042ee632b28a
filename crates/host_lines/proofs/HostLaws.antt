-- A line by keys and the key held, as host programs are told of them.
use mathlib.Core.Bool.{Bool, cond}
use mathlib.Core.List.{List, [], ◌∷◌}
use mathlib.Core.Path.{◌≡◌, refl, sym, ap, ◌∙◌}
use Prim.Native.Nat.{ℕ}
use borrow.Author.Tests.{eq-eqb, ne_eqb}
use lib.Ieee.{Float}
use lib.ListN.{get_or}
use Rattle.comparison.specs.Answer as line
use Rattle.comparison.specs.NextLine.{next_line}
use Rattle.comparison.specs.Next.{Next}
use Rattle.comparison.specs.Next as next
use Rattle.comparison.specs.declared.Place.{Place}
use Rattle.comparison.specs.declared.Place.TheVariants as on
use Rattle.comparison.specs.declared.State.{State}
use Rattle.keys.specs.Rows.{scene_rows}
use Rattle.laws.specs.Bytes.{Bytes}
use Rattle.host_lines.specs.Host.{HostLine, held_in}

-- the line y after the key held, told by its numbers
pub line_told : (left : Bytes) (lr : List ℕ) (lx : List Float) (right : Bytes) (rr : List ℕ) (rx : List Float) (held : List ℕ) (p : Place) (y : Next) (out : List ℕ) → y ≡ next_line (scene_rows left lr lx) (scene_rows right rr rx) p → p ≡ held_in held → out ≡ line.values_of y → HostLine left lr lx right rr rx held (line.kind_number y) out
line_told left lr lx right rr rx held p y out e h v =
    let f = e ∙ ap (next_line (scene_rows left lr lx) (scene_rows right rr rx)) h in
    record { says = ap line.kind_number f; numbers = v ∙ ap line.values_of f }

module _ (a : List ℕ) where
  held_by : Bool → Place
  held_by b = cond b (on.Left (get_or a 1 0)) (on.Right (get_or a 1 0))

  pub held_left : get_or a 0 0 ≡ 0 → on.Left (get_or a 1 0) ≡ held_in a
  unfolding held_in held_by
  held_left h = sym (ap held_by (eq-eqb _ 0 h))

  pub held_right : (get_or a 0 0 ≡ 0 → ⊥) → on.Right (get_or a 1 0) ≡ held_in a
  unfolding held_in held_by
  held_right h = sym (ap held_by (ne_eqb _ 0 h))

-- the array of a line that was told holds its key for the next call, and one of zeros stands before the first key
pub held_on : (p : Place) (n : ℕ) (s : State) → held_in (line.values_of (next.Line p n s)) ≡ p
unfolding held_in
held_on (on.Left m) n s = refl
held_on (on.Right m) n s = refl

pub held_first : held_in (0 ∷ 0 ∷ 0 ∷ 0 ∷ []) ≡ on.Left 0
unfolding held_in
held_first = refl
