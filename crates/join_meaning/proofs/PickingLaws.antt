-- Marks of numbers: whether one clashes is whether a name does, and where none does as many are taken as wait.
use mathlib.Core.Bool.{or_comm, Bool, false, ◌||◌, cond}
use mathlib.Core.List.{List, [], ◌∷◌}
use mathlib.Core.Option.{some}
use mathlib.Core.Path.{◌≡◌, refl, ◌∙◌}
use Prim.Native.Nat.{ℕ, zero, suc, ◌+◌, ◌≤◌}
use native.Mathlib.Omega.{arith}
use borrow.Author.Tests.{eqb-false}
use lib.Dec.{eqb}
use lib.ListN.{length}
use Rattle.joining.specs.Pick.{some_name}
use Rattle.laws.proofs.BoolLaws.{or_false_left, or_false_right}
use Rattle.laws.specs.Bytes.{Bytes}
use Rattle.scene.proofs.NumberedLaws.{numbered_last, numbered_later}
use Rattle.scene.specs.Properties.{numbered}
use Rattle.scene.specs.Statement.{Statement}
use Rattle.join_meaning.specs.Kept.{kept_by}
use Rattle.picking.specs.Picking.{clash_to, taken_to}

-- where each number clashes as the name of its statement does
pub clash_names : (mark : ℕ → ℕ) (test : Bytes → Bool) (d : List Statement) → ((n : ℕ) (s : Statement) → numbered d n ≡ some s → eqb (mark n) 2 ≡ test s.name) → clash_to mark (length d) ≡ some_name test d
unfolding clash_to some_name
clash_names mark test [] h = refl
clash_names mark test (s ∷ d) h =
    let k = clash_names mark test d (λ n t e. h n t (numbered_later s d n t e)) in
    (λ i. k i || h (suc (length d)) s (numbered_last s d) i) ∙ or_comm (some_name test d) (test s.name)

-- where none is 2, their sum counts those that are 1
module _ (mark : ℕ → ℕ) (most : (n : ℕ) → mark n ≤ 2) where
  pub taken_kept : (d : List Statement) → clash_to mark (length d) ≡ false → taken_to mark (length d) ≡ length (kept_by (λ n. eqb (mark n) 1) d)
  unfolding clash_to taken_to kept_by
  taken_kept [] e = refl
  taken_kept (s ∷ d) e =
      go (mark (suc (length d))) (most (suc (length d))) (or_false_right (clash_to mark (length d)) (eqb (mark (suc (length d))) 2) e) (taken_kept d (or_false_left (clash_to mark (length d)) (eqb (mark (suc (length d))) 2) e))
    where
      sum : ℕ
      sum = taken_to mark (length d)

      kept : List Statement
      kept = kept_by (λ n. eqb (mark n) 1) d

      go : (m : ℕ) → m ≤ 2 → eqb m 2 ≡ false → sum ≡ length kept → sum + m ≡ length (cond (eqb m 1) (s ∷ kept) kept)
      go zero l f h = omega arith
      go (suc zero) l f h = omega arith
      go (suc (suc m)) l f h = absurd (eqb-false (suc (suc m)) 2 f (omega arith))
