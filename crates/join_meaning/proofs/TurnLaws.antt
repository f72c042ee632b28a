-- A mark set anew, one statement taken out, one more in an order.
use mathlib.Core.Bool.{Bool, true, false, cond}
use mathlib.Core.List.{List, [], ◌∷◌, ◌++◌}
use mathlib.Core.Option.{some}
use mathlib.Core.Path.{◌≡◌, refl, ap, sym, ◌∙◌}
use Prim.Native.Nat.{ℕ, zero, suc, ◌-◌, ◌≤◌, ◌<◌}
use native.Mathlib.Omega.{arith}
use borrow.Author.Tests.{eqb-true, eqb-false}
use lib.Dec.{eqb}
use lib.ListN.{length, set}
use lib.Seq.{get_or-set_other, get_or-set_same}
use Rattle.join_meaning.proofs.KeptLaws.{kept_alike}
use Rattle.join_meaning.specs.Kept.{in_turn, kept_by, one_of}
use Rattle.joining.proofs.OnceLaws.{once_less, without_middle}
use Rattle.joining.specs.Arranged.{without_name}
use Rattle.joining.specs.Definition.{names_once}
use Rattle.scene.specs.Properties.{numbered}
use Rattle.scene.specs.Statement.{Statement}
use Rattle.table.proofs.NumberLaws.{number_in_lem}
use Rattle.table.specs.Number.{number_in}

-- ---- a mark set anew

module _ (ns : List ℕ) (n new : ℕ) (low : 0 < n) where
  pub number_set : n ≤ length ns → number_in (set ns (n - 1) new) n ≡ new
  number_set h = sym (number_in_lem (set ns (n - 1) new) n (λ e. omega arith)) ∙ get_or-set_same ns (n - 1) new 0 (omega arith)

  pub number_other : (m : ℕ) → (m ≡ n → ⊥) → number_in (set ns (n - 1) new) m ≡ number_in ns m
  unfolding number_in
  number_other zero h = refl
  number_other (suc m) h = get_or-set_other ns (n - 1) m new 0 (λ e. h (omega arith))

-- ---- one statement taken out

-- where q passes all that p passes but statement s
record Without (p q : ℕ → Bool) (d : List Statement) (s : Statement) : Type 0 where
  front : List Statement
  back : List Statement
  old : kept_by p d ≡ front ++ s ∷ back
  new : kept_by q d ≡ front ++ back

module _ (p q : ℕ → Bool) (n : ℕ) (s : Statement) (passes : p n ≡ true) (fails : q n ≡ false) (others : (m : ℕ) → (m ≡ n → ⊥) → p m ≡ q m) where
  without : (d : List Statement) → numbered d n ≡ some s → Without p q d s
  unfolding kept_by numbered
  without [] e = let z : ◌≡◌ {A = ℕ} 0 1 = cc in absurd (omega arith)
  without (t ∷ d) e = go (eqb n (suc (length d))) refl e (without d)
    where
      other : (b : Bool) → p (suc (length d)) ≡ b → q (suc (length d)) ≡ b → Without p q d s → Without p q (t ∷ d) s
      other true x y w = record { front = t ∷ w.front; back = w.back; old = rw (x, w.old); new = rw (y, w.new) }
      other false x y w = record { front = w.front; back = w.back; old = rw (x, w.old); new = rw (y, w.new) }

      go : (b : Bool) → eqb n (suc (length d)) ≡ b → cond b (some t) (numbered d n) ≡ some s → (numbered d n ≡ some s → Without p q d s) → Without p q (t ∷ d) s
      go true k e f =
          let a : suc (length d) ≡ n = sym (eqb-true n (suc (length d)) k) in
          let z : t ≡ s = cc in
          let x : p (suc (length d)) ≡ true = ap p a ∙ passes in
          let y : q (suc (length d)) ≡ false = ap q a ∙ fails in
          record {
            front = [];
            back = kept_by p d;
            old = (λ i. cond (x i) (z i ∷ kept_by p d) (kept_by p d));
            new = (λ i. cond (y i) (t ∷ kept_by q d) (kept_by q d)) ∙ sym (kept_alike p q d (λ m z l. others m (λ j. omega arith)));
          }
      go false k e f =
          let x = others (suc (length d)) (λ j. eqb-false n (suc (length d)) k (sym j)) in
          other (q (suc (length d))) x refl (f e)

  -- its name takes exactly it out, where the names stand once
  pub without_number : (d : List Statement) → numbered d n ≡ some s → names_once (kept_by p d) ≡ true → (without_name s.name (kept_by p d) ≡ kept_by q d) × (names_once (kept_by q d) ≡ true)
  without_number d e o =
      let w = without d e in
      let k = once_less w.front s w.back (ap names_once (sym w.old) ∙ o) in
      (ap (without_name s.name) w.old ∙ without_middle w.front s w.back k.0 ∙ sym w.new, ap names_once w.new ∙ k.1)

-- ---- one more in an order

pub turn_more : (d : List Statement) (order : List ℕ) (n : ℕ) (s : Statement) → numbered d n ≡ some s → in_turn d (order ++ n ∷ []) ≡ s ∷ in_turn d order
unfolding in_turn
turn_more d [] n s e = ap one_of e
turn_more d (m ∷ order) n s e = ap {B = List Statement} (λ (x : List Statement). x ++ one_of (numbered d m)) (turn_more d order n s e)
