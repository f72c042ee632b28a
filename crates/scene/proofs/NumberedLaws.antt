-- The statement of a number in a list that stands latest first.
use mathlib.Core.Bool.{Bool, true, false, cond}
use mathlib.Core.List.{List, [], ◌∷◌, ◌++◌}
use mathlib.Core.Option.{none, some}
use mathlib.Core.Path.{◌≡◌, refl, ap, ◌∙◌}
use Prim.Native.Nat.{ℕ, suc, ◌-◌, ◌≤◌, ◌<◌}
use native.Mathlib.Omega.{arith}
use borrow.Author.Tests.{eq-eqb, eqb-true, ne_eqb}
use lib.Dec.{eqb}
use lib.ListN.{length, length-append}
use Rattle.scene.specs.Properties.{numbered}
use Rattle.scene.specs.Statement.{Statement}

-- a statement of a number splits the list
pub record Split (D : List Statement) (k : ℕ) (s : Statement) : Type 0 where
  pub later : List Statement
  pub earlier : List Statement
  pub whole : D ≡ later ++ s ∷ earlier
  pub number : k ≡ suc (length earlier)

pub split : (D : List Statement) (k : ℕ) (s : Statement) → numbered D k ≡ some s → Split D k s
unfolding numbered
split [] k s e = let z : ◌≡◌ {A = ℕ} 0 1 = cc in absurd (omega arith)
split (t ∷ D) k s e = go (eqb k (suc (length D))) refl e (split D k s)
  where
    go : (b : Bool) → eqb k (suc (length D)) ≡ b → cond b (some t) (numbered D k) ≡ some s → (numbered D k ≡ some s → Split D k s) → Split (t ∷ D) k s
    go true q e ih = record { later = []; earlier = D; whole = (let h : t ≡ s = cc in ap {B = List Statement} (λ (x : Statement). x ∷ D) h); number = eqb-true k (suc (length D)) q }
    go false q e ih = let a = ih e in record { later = t ∷ a.later; earlier = a.earlier; whole = ap {B = List Statement} (λ (x : List Statement). t ∷ x) a.whole; number = a.number }

pub numbered_range : (d : List Statement) (n : ℕ) (s : Statement) → numbered d n ≡ some s → (0 < n) × (n ≤ length d)
numbered_range d n s e =
    let a = split d n s e in
    let l = ap length a.whole ∙ length-append a.later (s ∷ a.earlier) in
    let k = a.number in
    (omega arith, omega arith)

pub numbered_last : (s : Statement) (d : List Statement) → numbered (s ∷ d) (suc (length d)) ≡ some s
unfolding numbered
numbered_last s d = rw (eq-eqb (suc (length d)) (suc (length d)) refl)

pub numbered_before : (s : Statement) (d : List Statement) (n : ℕ) → n ≤ length d → numbered (s ∷ d) n ≡ numbered d n
unfolding numbered
numbered_before s d n h = rw (ne_eqb n (suc (length d)) (λ e. omega arith))

-- a number of the earlier ones counts on
pub numbered_later : (s : Statement) (d : List Statement) (n : ℕ) (t : Statement) → numbered d n ≡ some t → numbered (s ∷ d) n ≡ some t
numbered_later s d n t e = numbered_before s d n (numbered_range d n t e).1 ∙ e

-- of two lists, the second one's numbers come first
pub numbered_low : (a b : List Statement) (n : ℕ) → n ≤ length b → numbered (a ++ b) n ≡ numbered b n
numbered_low [] b n h = refl
numbered_low (s ∷ a) b n h = let l = length-append a b in numbered_before s (a ++ b) n (omega arith) ∙ numbered_low a b n h

pub numbered_high : (a b : List Statement) (n : ℕ) (s : Statement) → length b < n → numbered (a ++ b) n ≡ some s → numbered a (n - length b) ≡ some s
unfolding numbered
numbered_high [] b n s h e = let r = (numbered_range b n s e).1 in absurd (omega arith)
numbered_high (t ∷ a) b n s h e = go (eqb n (suc (length (a ++ b)))) refl e (numbered_high a b n s h)
  where
    go : (p : Bool) → eqb n (suc (length (a ++ b))) ≡ p → cond p (some t) (numbered (a ++ b) n) ≡ some s → (numbered (a ++ b) n ≡ some s → numbered a (n - length b) ≡ some s) → numbered (t ∷ a) (n - length b) ≡ some s
    go true q f ih =
        let k = eqb-true n (suc (length (a ++ b))) q in
        let l = length-append a b in
        let m : n - length b ≡ suc (length a) = omega arith in
        ap (numbered (t ∷ a)) m ∙ numbered_last t a ∙ f
    go false q f ih = numbered_later t a (n - length b) s (ih f)

pub numbered_none : (d : List Statement) (n : ℕ) → length d < n → numbered d n ≡ none
unfolding numbered
numbered_none [] n l = refl
numbered_none (s ∷ d) n l = rw (ne_eqb n (suc (length d)) (λ e. omega (arith, e))) (numbered_none d n (omega arith))
