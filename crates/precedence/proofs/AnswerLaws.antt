-- Whether two entries can be asked about, and what is answered: one law for each answer.
use mathlib.Core.Bool.{Bool, true, false, not, cond, ◌&&◌}
use mathlib.Core.List.{List}
use mathlib.Core.Logic.{◌⊎◌, inl, inr}
use mathlib.Core.Path.{◌≡◌, refl, ap, sym, ◌∙◌}
use Prim.Native.Nat.{ℕ, zero, suc, ◌+◌, ◌*◌, ◌≤◌, ◌<◌, min, max}
use native.Mathlib.Numerals.{add-one}
use native.Mathlib.Omega.{arith}
use borrow.Author.Tests.{eq-eqb, eqb-false, eqb-true, leb-true, ne_eqb}
use lib.Dec.{eqb, leb, ltb}
use lib.ListN.{length}
use Rattle.holding.specs.Shortest.{first_link}
use Rattle.laws.proofs.BoolLaws.{not_false, not_true}
use Rattle.laws.proofs.NatLaws.{le_or_lt}
use Rattle.laws.specs.Bytes.{Bytes}
use Rattle.precedence.specs.Answer.{all_fit, between, binder, by_link, order_of, refusal_of, row_fits}
use Rattle.precedence.specs.Code.{Ordered}
use Rattle.precedence.specs.Order.{Order, Free, Held, Refused}
use Rattle.scene.specs.Record.{field_in, width}
use Rattle.table.proofs.QuestionLaws.{length_field, modifier_field, name_field, target_field}
use Rattle.table.specs.Question.{number_refusal}
use Rattle.ties.specs.Ties.{bound_rows, classes_to, gives_to}

-- ---- records that fit

module _ (text : Bytes) (T : List ℕ) where
  pub row_fits_is : (n m t p l : ℕ) → m ≡ field_in T n 1 → t ≡ field_in T n 2 → p ≡ field_in T n 3 → l ≡ field_in T n 4 → (ltb m n && ltb t n && leb 1 l && leb (p + l) (length text)) ≡ row_fits text T n
  unfolding row_fits
  row_fits_is n m t p l e f g h =
      let size = h ∙ length_field T n in
      λ i. ltb ((e ∙ modifier_field T n) i) n && ltb ((f ∙ target_field T n) i) n && leb 1 (size i) && leb ((g ∙ name_field T n) i + size i) (length text)

  pub fits_none : all_fit text T 0 ≡ true
  unfolding all_fit
  fits_none = refl

  -- where one does not fit, not all do
  unfit_kept : (n count : ℕ) → all_fit text T n ≡ false → n ≤ count → false ≡ all_fit text T count
  unfolding all_fit
  unfit_kept n zero e l = sym (ap (all_fit text T) (let q : 0 ≡ n = omega arith in q) ∙ e)
  unfit_kept n (suc c) e l = go (le_or_lt n c) (unfit_kept n c e)
    where
      go : (n ≤ c) ⊎ (c < n) → (n ≤ c → false ≡ all_fit text T c) → false ≡ all_fit text T (suc c)
      go (inl k) ih = ap (λ (b : Bool). b && row_fits text T (suc c)) (ih k)
      go (inr k) ih = sym (ap (all_fit text T) (let q : suc c ≡ n = omega arith in q) ∙ e)

  module _ (n : ℕ) (b : Bool) (h : all_fit text T n ≡ true) (e : b ≡ row_fits text T (n + 1)) where
    fits_next : all_fit text T (n + 1) ≡ b
    unfolding all_fit
    fits_next = ap (all_fit text T) (add-one n) ∙ (λ i. h i && row_fits text T (sym (add-one n) i)) ∙ sym e

    pub fits_more : not b ≡ false → all_fit text T (n + 1) ≡ true
    fits_more f = fits_next ∙ not_false b f

    pub fits_not : (count : ℕ) → not b ≡ true → n < count → false ≡ all_fit text T count
    fits_not count f l = unfit_kept (n + 1) count (fits_next ∙ not_true b f) (omega arith)

  pub fits_all : (n count : ℕ) → all_fit text T n ≡ true → n ≤ count → count ≤ n → true ≡ all_fit text T count
  fits_all n count h l m = sym (ap (all_fit text T) (let q : count ≡ n = omega arith in q) ∙ h)

-- ---- why two entries cannot be asked about

module _ (text : Bytes) (T : List ℕ) (count n m a : ℕ) (e : a ≡ number_refusal T count n) where
  pub refused_first : (a ≡ 0 → ⊥) → a ≡ refusal_of text T count n m
  unfolding refusal_of
  refused_first h = rw (← e, ne_eqb a 0 h)

  module _ (z : a ≡ 0) (b : ℕ) (f : b ≡ number_refusal T count m) where
    pub refused_second : (b ≡ 0 → ⊥) → b ≡ refusal_of text T count n m
    unfolding refusal_of
    refused_second h = rw (← e, eq-eqb a 0 z, ← f, ne_eqb b 0 h)

    pub refused_same : b ≡ 0 → n ≡ m → 17 ≡ refusal_of text T count n m
    unfolding refusal_of
    refused_same y h = rw (← e, eq-eqb a 0 z, ← f, eq-eqb b 0 y, eq-eqb n m h)

    pub refused_unfit : b ≡ 0 → (n ≡ m → ⊥) → (r : Bool) → r ≡ all_fit text T count → cond r 0 18 ≡ refusal_of text T count n m
    unfolding refusal_of
    refused_unfit y h r g = rw (← e, eq-eqb a 0 z, ← f, eq-eqb b 0 y, ne_eqb n m h, ← g)

-- ---- two entries that can be asked about

number_fits : (T : List ℕ) (count n : ℕ) → number_refusal T count n ≡ 0 → (count ≤ 1024) × (n ≤ count)
unfolding number_refusal
number_fits T count n = go (leb count 1024) (leb (count * width) (length T)) (leb 1 n) (leb n count) refl refl
  where
    go : (p q s t : Bool) → leb count 1024 ≡ p → leb n count ≡ t → ◌≡◌ {A = ℕ} (cond (p && q) (cond (s && t) 0 17) 18) 0 → (count ≤ 1024) × (n ≤ count)
    go true true true true e f z = (leb-true count 1024 e, leb-true n count f)
    go true true true false e f z = absurd (omega arith)
    go true true false t e f z = absurd (omega arith)
    go true false s t e f z = absurd (omega arith)
    go false q s t e f z = absurd (omega arith)

module _ (text : Bytes) (T : List ℕ) (count n m r : ℕ) (e : r ≡ refusal_of text T count n m) where
  pub order_refused : (r ≡ 0 → ⊥) → Refused r ≡ order_of text T count n m
  unfolding order_of
  order_refused h = rw (← e, ne_eqb r 0 h)

  module _ (z : r ≡ 0) where
    asked : (number_refusal T count n ≡ 0) × (number_refusal T count m ≡ 0) × (n ≡ m → ⊥)
    unfolding refusal_of
    asked = go (eqb (number_refusal T count n) 0) (eqb (number_refusal T count m) 0) (eqb n m) (all_fit text T count) refl refl refl (sym e ∙ z)
      where
        a : ℕ
        a = number_refusal T count n

        b : ℕ
        b = number_refusal T count m

        go : (x y p q : Bool) → eqb a 0 ≡ x → eqb b 0 ≡ y → eqb n m ≡ p → cond x (cond y (cond p 17 (cond q 0 18)) b) a ≡ 0 → (a ≡ 0) × (b ≡ 0) × (n ≡ m → ⊥)
        go true true true q f g h k = absurd (omega arith)
        go true true false q f g h k = (eqb-true a 0 f, eqb-true b 0 g, eqb-false n m h)
        go true false p q f g h k = absurd (eqb-false b 0 g k)
        go false y p q f g h k = absurd (eqb-false a 0 f k)

    pub ordered_both : {x y : ℕ} → x ≡ min n m → y ≡ max n m → Ordered count x y
    ordered_both p q =
        let f = number_fits T count n asked.0 in
        let g = number_fits T count m asked.1 in
        record { rises = omega (arith, p, q, asked.2); within = omega (arith, q, f.1, g.1); most = f.0 }

    pub order_asked : {x y : ℕ} {o : Order} → x ≡ min n m → y ≡ max n m → o ≡ between text T count x y → o ≡ order_of text T count n m
    unfolding order_of
    order_asked p q f = f ∙ (λ i. between text T count (p i) (q i)) ∙ rw (← e, eq-eqb r 0 z) refl

-- ---- the first link, and the name that binds

module _ (T C : List ℕ) (n k : ℕ) where
  pub binder_is : (p t : Bool) → p ≡ gives_to T C n k → p ≡ t → cond t n k ≡ binder T C n k
  unfolding binder
  binder_is p t e z = ap (λ (x : Bool). cond x n k) (sym z ∙ e)

  module _ (x : ℕ) (e : k ≡ x) where
    pub link_none : k ≡ 0 → Free ≡ by_link T C n x
    link_none z = sym (ap (λ (b : Bool). cond b Free (Held k (binder T C n k))) (eq-eqb k 0 z)) ∙ ap (by_link T C n) e

    pub link_held : (k ≡ 0 → ⊥) → (b : ℕ) → b ≡ binder T C n k → Held k b ≡ by_link T C n x
    link_held h b f = ap (Held k) f ∙ sym (ap (λ (b : Bool). cond b Free (Held k (binder T C n k))) (ne_eqb k 0 h)) ∙ ap (by_link T C n) e

-- with the classes of as many records as there are, read back
pub between_is : (text : Bytes) (T : List ℕ) (count n m : ℕ) (C D : List ℕ) (o : Order) {k : ℕ} → C ≡ classes_to text T k → k ≡ count → D ≡ C → o ≡ by_link T D n (first_link (bound_rows T D) n m) → o ≡ between text T count n m
unfolding between
between_is text T count n m C D o e f g h = h ∙ ap (λ (c : List ℕ). by_link T c n (first_link (bound_rows T c) n m)) (g ∙ e ∙ ap (classes_to text T) f)
