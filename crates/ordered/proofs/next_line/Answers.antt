-- `ordered::next_line` meets its contract.
use mathlib.Core.Path.{refl, ap, sym, ◌∙◌}
use mathlib.Core.List.{List}
use Prim.Native.Nat.{ℕ}
use native.Mathlib.Omega.{arith}
use Rattle.ordered.proofs.TurnLaws.{left_stands, right_stands, next_end, next_left, next_right, next_changed, next_same}
use Rattle.ordered.specs.Lent.{lent}
use Rattle.ordered.specs.Lines.{Scene, handed}
use Rattle.comparison.specs.declared.Line.{Line}
use Rattle.comparison.specs.declared.Place.{Place}
use Rattle.comparison.specs.declared.State.{State}
use Rattle.ordered.specs.Turn.{Turn, turn_told}
use Rattle.ordered.specs.declared.Turn.{Turn as CodeTurn}
use Rattle.std.specs.Prelude.{Some}
use Rattle.ordered.proofs.next_line.Goals as goal
use Rattle.ordered.proofs.next_line.Goals.{At-loop-m, in-Left, in-Right, in-Changed}

abbrev told : CodeTurn → Turn
told x = turn_told (Some x)

-- what is handed out by the parts of a line
abbrev shown : (l r : Scene) → (ℕ × ℕ) × Place × ℕ × State → List Line
shown l r p = handed l r (Some (record { cursors = record { left = p.0.0; right = p.0.1 }; line = record { place = p.1; nth = p.2; state = p.3 } }))

-- both scenes, at the head of the loop
abbrev left-scene : At-loop-m → Scene
left-scene c =
    let a = c.args in
    lent a.left

abbrev right-scene : At-loop-m → Scene
right-scene c =
    let a = c.args in
    lent a.right

pub loop-m-init : goal.loop-m-init
loop-m-init c = refl

pub returns-in_err-m : goal.returns-in_err-m
returns-in_err-m c =
    let l = left-scene (goal.at.returns-in_err-m c).At-loop-m in
    let r = right-scene (goal.at.returns-in_err-m c).At-loop-m in
    ap (handed l r) c.from_residual.ensures ∙ next_end l r c.loop-m.i c.loop-m.j c.in_err-m.ensures ∙ c.loop-m.invariant

pub returns-in-loop-m : goal.returns-in-loop-m
returns-in-loop-m c =
    let l = left-scene (goal.at.returns-in-loop-m c).At-loop-m in
    let r = right-scene (goal.at.returns-in-loop-m c).At-loop-m in
    let i = c.loop-m.i in
    let j = c.loop-m.j in
    elim c.match-branch-2.branch [
      | in-Left w ↦ ap (shown l r) w.place-is ∙ next_left l r i j _ _ (sym (ap told w.in-Left.is) ∙ c.in_ok-m.ensures) ∙ c.loop-m.invariant
      | in-Right w ↦ ap (shown l r) w.place-is ∙ next_right l r i j _ _ (sym (ap told w.in-Right.is) ∙ c.in_ok-m.ensures) ∙ c.loop-m.invariant
      | in-Changed w ↦ ap (shown l r) w.place-is ∙ next_changed l r i j _ _ (sym (ap told w.in-Changed.is) ∙ c.in_ok-m.ensures) ∙ c.loop-m.invariant
    ]

pub overflow_add-i : goal.overflow_add-i
overflow_add-i c = omega (arith, left_stands (left-scene (goal.at.overflow_add-i c).At-loop-m) (right-scene (goal.at.overflow_add-i c).At-loop-m) c.loop-m.i c.loop-m.j _ (sym (ap told c.in-Same.is) ∙ c.in_ok-m.ensures) refl)

pub overflow_add-j : goal.overflow_add-j
overflow_add-j c = omega (arith, right_stands (left-scene (goal.at.overflow_add-j c).At-loop-m) (right-scene (goal.at.overflow_add-j c).At-loop-m) c.loop-m.i c.loop-m.j _ (sym (ap told c.in-Same.is) ∙ c.in_ok-m.ensures) refl)

pub loop-m-smaller : goal.loop-m-smaller
loop-m-smaller c = omega (arith, left_stands (left-scene (goal.at.loop-m-smaller c).At-loop-m) (right-scene (goal.at.loop-m-smaller c).At-loop-m) c.loop-m.i c.loop-m.j _ (sym (ap told c.in-Same.is) ∙ c.in_ok-m.ensures) refl)

pub loop-m-preserved : goal.loop-m-preserved
loop-m-preserved c = next_same (left-scene (goal.at.loop-m-preserved c).At-loop-m) (right-scene (goal.at.loop-m-preserved c).At-loop-m) c.loop-m.i c.loop-m.j (sym (ap told c.in-Same.is) ∙ c.in_ok-m.ensures) ∙ c.loop-m.invariant
