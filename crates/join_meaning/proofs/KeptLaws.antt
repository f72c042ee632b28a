-- The statements whose number passes: of two lists, of two tests, and where a number passes as its name does.
use mathlib.Core.Bool.{Bool, true, false, cond}
use mathlib.Core.List.{List, [], ◌∷◌, ◌++◌}
use mathlib.Core.Option.{some}
use mathlib.Core.Path.{◌≡◌, refl, ap, ◌∙◌}
use Prim.Native.Nat.{ℕ, suc, ◌+◌, ◌≤◌, ◌<◌}
use native.Mathlib.Omega.{arith}
use lib.Dec.{eqb}
use lib.ListN.{length, length-append}
use Rattle.joining.specs.Pick.{with_names}
use Rattle.laws.specs.Bytes.{Bytes}
use Rattle.scene.proofs.NumberedLaws.{numbered_last, numbered_later}
use Rattle.scene.specs.Properties.{numbered}
use Rattle.scene.specs.Statement.{Statement}
use Rattle.tabled.proofs.TabledLaws.{tabled_at}
use Rattle.tabled.specs.Tabled.{tabled}
use Rattle.join_meaning.specs.Kept.{kept_by, waiting}

-- two tests that agree on the numbers of a list
pub kept_alike : (p q : ℕ → Bool) (d : List Statement) → ((n : ℕ) → 0 < n → n ≤ length d → p n ≡ q n) → kept_by p d ≡ kept_by q d
unfolding kept_by
kept_alike p q [] h = refl
kept_alike p q (s ∷ d) h =
    let k = kept_alike p q d (λ n l m. h n l (omega arith)) in
    λ i. cond (h (suc (length d)) (omega arith) (omega arith) i) (s ∷ k i) (k i)

-- a test by the numbers' table is the test by their rule
pub waiting_tabled : (mark : ℕ → ℕ) (d : List Statement) → waiting (tabled mark (length d)) d ≡ kept_by (λ n. eqb (mark n) 1) d
waiting_tabled mark d = kept_alike _ _ d (λ n l m. ap (λ (x : ℕ). eqb x 1) (tabled_at mark n (length d) l m))

-- of two lists, the second one's numbers come first
pub kept_append : (p : ℕ → Bool) (a b : List Statement) → kept_by p (a ++ b) ≡ kept_by (λ n. p (n + length b)) a ++ kept_by p b
unfolding kept_by
kept_append p [] b = refl
kept_append p (s ∷ a) b =
    let e : suc (length (a ++ b)) ≡ suc (length a) + length b = omega (arith, length-append a b) in
    ap (λ (n : ℕ). cond (p n) (s ∷ kept_by p (a ++ b)) (kept_by p (a ++ b))) e ∙ go (p (suc (length a) + length b)) (kept_append p a b)
  where
    front : List Statement
    front = kept_by (λ n. p (n + length b)) a

    go : (t : Bool) → kept_by p (a ++ b) ≡ front ++ kept_by p b → cond t (s ∷ kept_by p (a ++ b)) (kept_by p (a ++ b)) ≡ cond t (s ∷ front) front ++ kept_by p b
    go true h = ap {B = List Statement} (λ (x : List Statement). s ∷ x) h
    go false h = h

-- where each number passes as the name of its statement does
pub kept_names : (p : ℕ → Bool) (test : Bytes → Bool) (d : List Statement) → ((n : ℕ) (s : Statement) → numbered d n ≡ some s → p n ≡ test s.name) → kept_by p d ≡ with_names test d
unfolding kept_by with_names
kept_names p test [] h = refl
kept_names p test (s ∷ d) h =
    let k = kept_names p test d (λ n t e. h n t (numbered_later s d n t e)) in
    λ i. cond (h (suc (length d)) s (numbered_last s d) i) (s ∷ k i) (k i)
