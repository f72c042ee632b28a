-- What is marked by numbers is what is picked of statements.
use mathlib.Core.Bool.{cond}
use mathlib.Core.List.{List, ◌++◌}
use mathlib.Core.Logic.{◌⊎◌, inl, inr}
use mathlib.Core.Option.{none, some}
use mathlib.Core.Path.{◌≡◌, refl, ap, sym, ◌∙◌}
use Prim.Native.Nat.{ℕ, ◌+◌, ◌-◌, ◌≤◌, ◌<◌}
use native.Mathlib.Omega.{arith}
use borrow.Author.Tests.{le-leb, lt-leb}
use lib.Dec.{eqb}
use lib.ListN.{length}
use Rattle.joining.specs.Pick.{choice_for, is_clash, is_left, is_right, picked, some_name, with_names}
use Rattle.joining.specs.declared.Choice.{Choice}
use Rattle.joining.specs.declared.Choice.TheVariants.{Clash, Left, Right}
use Rattle.laws.proofs.NatLaws.{le_or_lt}
use Rattle.laws.specs.Bytes.{Bytes}
use Rattle.scene.proofs.NumberedLaws.{numbered_high, numbered_low, numbered_range}
use Rattle.scene.specs.Properties.{numbered}
use Rattle.scene.specs.Statement.{Statement}
use Rattle.tabled.specs.Tabled.{tabled}
use Rattle.join_meaning.proofs.ChoiceLaws.{Sound, choice_left_lem, choice_right_lem}
use Rattle.join_meaning.proofs.KeptLaws.{kept_append, kept_names, waiting_tabled}
use Rattle.join_meaning.proofs.PickingLaws.{clash_names, taken_kept}
use Rattle.join_meaning.specs.Kept.{kept_by, waiting}
use Rattle.join_meaning.specs.Matched.{MarkLaw, Marked}
use Rattle.picking.proofs.PickingLaws.{mark_low}
use Rattle.picking.specs.Picking.{clash_to, mark_at, mark_left, mark_right}

-- ---- what a mark says of a choice

left_kept : (c : Choice) → eqb (mark_left c) 1 ≡ is_left c
left_kept Left = refl
left_kept Right = refl
left_kept Clash = refl

left_clash : (c : Choice) → eqb (mark_left c) 2 ≡ is_clash c
left_clash Left = refl
left_clash Right = refl
left_clash Clash = refl

right_kept : (c : Choice) → eqb (mark_right c) 1 ≡ is_right c
right_kept Left = refl
right_kept Right = refl
right_kept Clash = refl

right_clash : (c : Choice) → eqb (mark_right c) 2 ≡ is_clash c
right_clash Left = refl
right_clash Right = refl
right_clash Clash = refl

module _ (base left right : List Statement) (left_right left_base right_left right_base : List ℕ) where
  abbrev mark : ℕ → ℕ
  mark = mark_at left_right left_base right_left right_base

  abbrev choice : Bytes → Choice
  choice = choice_for base left right

  module _ (h : Sound base left right left_right left_base right_left right_base) where
    -- right's records come first, then left's
    mark_right_lem : (n : ℕ) (s : Statement) → numbered right n ≡ some s → mark n ≡ mark_right (choice s.name)
    unfolding mark_at
    mark_right_lem n s e =
        let l : n ≤ length right_left = omega (arith, h.right_in_left.size, (numbered_range right n s e).1) in
        rw (le-leb n (length right_left) l) (ap mark_right (choice_right_lem base left right left_right left_base right_left right_base h n s e))

    mark_left_lem : (n : ℕ) (s : Statement) → numbered left n ≡ some s → mark (n + length right) ≡ mark_left (choice s.name)
    unfolding mark_at
    mark_left_lem n s e =
        let l : length right_left < n + length right = omega (arith, h.right_in_left.size, (numbered_range left n s e).0) in
        let k : n + length right - length right_left ≡ n = omega (arith, h.right_in_left.size) in
        rw (lt-leb (n + length right) (length right_left) l, k) (ap mark_left (choice_left_lem base left right left_right left_base right_left right_base h n s e))

    clash_each : (n : ℕ) (s : Statement) → numbered (left ++ right) n ≡ some s → eqb (mark n) 2 ≡ is_clash (choice s.name)
    clash_each n s e = go (le_or_lt n (length right))
      where
        go : (n ≤ length right) ⊎ (length right < n) → eqb (mark n) 2 ≡ is_clash (choice s.name)
        go (inl l) = ap (λ (m : ℕ). eqb m 2) (mark_right_lem n s (sym (numbered_low left right n l) ∙ e)) ∙ right_clash (choice s.name)
        go (inr l) =
            let k : n ≡ n - length right + length right = omega arith in
            ap (λ (m : ℕ). eqb (mark m) 2) k ∙ ap (λ (m : ℕ). eqb m 2) (mark_left_lem (n - length right) s (numbered_high left right n s l e)) ∙ left_clash (choice s.name)

    clashes : clash_to mark (length (left ++ right)) ≡ some_name (λ w. is_clash (choice w)) (left ++ right)
    clashes = clash_names mark (λ w. is_clash (choice w)) (left ++ right) clash_each

    -- what waits is what is taken of each hand
    waits : waiting (tabled mark (length (left ++ right))) (left ++ right) ≡ with_names (λ w. is_left (choice w)) left ++ with_names (λ w. is_right (choice w)) right
    waits = waiting_tabled mark (left ++ right) ∙ kept_append (λ n. eqb (mark n) 1) left right ∙ (λ i. of_left i ++ of_right i)
      where
        of_left : kept_by (λ n. eqb (mark (n + length right)) 1) left ≡ with_names (λ w. is_left (choice w)) left
        of_left = kept_names _ _ left (λ n s e. ap (λ (m : ℕ). eqb m 1) (mark_left_lem n s e) ∙ left_kept (choice s.name))

        of_right : kept_by (λ n. eqb (mark n) 1) right ≡ with_names (λ w. is_right (choice w)) right
        of_right = kept_names _ _ right (λ n s e. ap (λ (m : ℕ). eqb m 1) (mark_right_lem n s e) ∙ right_kept (choice s.name))

    marked : Marked base left right left_right left_base right_left right_base
    unfolding picked
    marked = record {
      clashes = λ i. cond (sym clashes i) none (some (sym waits i));
      counted = λ e. taken_kept mark (mark_low left_right left_base right_left right_base) (left ++ right) e ∙ ap length (sym (waiting_tabled mark (left ++ right)));
    }

pub marks_meant : (base left right : List Statement) (left_right left_base right_left right_base : List ℕ) → MarkLaw base left right left_right left_base right_left right_base
marks_meant base left right left_right left_base right_left right_base once_left once_right left_in_right left_in_base right_in_left right_in_base =
    marked base left right left_right left_base right_left right_base (record { once_left = once_left; once_right = once_right; left_in_right = left_in_right; left_in_base = left_in_base; right_in_left = right_in_left; right_in_base = right_in_base })
