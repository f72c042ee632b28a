-- What becomes of each record, as the code finds it.
use mathlib.Core.Bool.{Bool, true, false, ◌||◌, cond, false≢true}
use mathlib.Core.List.{List}
use mathlib.Core.Logic.{◌⊎◌, inl, inr}
use mathlib.Core.Path.{◌≡◌, refl, ap, sym, ◌∙◌}
use Prim.Native.Nat.{ℕ, zero, suc, ◌+◌, ◌-◌, ◌/◌, ◌≤◌, ◌<◌}
use Rattle.std.specs.Prelude.{Some, None}
use native.Mathlib.Numerals.{add-one}
use native.Mathlib.Omega.{arith}
use borrow.Author.Tests.{eq-eqb, le-leb, lt-leb, ne_eqb}
use lib.Dec.{eqb, leb}
use lib.ListN.{length, set}
use Rattle.joining.specs.Pick.{chosen}
use Rattle.joining.specs.declared.Choice.{Choice}
use Rattle.joining.specs.declared.Choice.TheVariants.{Clash, Left, Right}
use Rattle.laws.proofs.NatLaws.{le_or_lt}
use Rattle.picking.specs.Picking.{Picks, choice_left, choice_right, clash_to, is_equal, mark_at, mark_left, mark_right, right_kept, taken_to}
use Rattle.table.specs.Number.{number_in}
use Rattle.tabled.proofs.TabledLaws.{tabling_all, tabling_more, tabling_none}
use Rattle.tabled.specs.Tabled.{Tabling}

-- ---- one choice

module _ (right_base : List ℕ) (other base : ℕ) where
  pub kept_absent : other ≡ 0 → (r : Bool) → r ≡ eqb base 0 → r ≡ right_kept right_base other base
  unfolding right_kept
  kept_absent e r q = q ∙ sym (ap (λ (b : Bool). cond b (eqb base 0) (is_equal (number_in right_base (other / 2)))) (eq-eqb other 0 e))

  pub kept_there : (other ≡ 0 → ⊥) → (m : ℕ) → m ≡ number_in right_base (other / 2) → (r : Bool) → r ≡ is_equal m → r ≡ right_kept right_base other base
  unfolding right_kept
  kept_there e m f r q = q ∙ ap is_equal f ∙ sym (ap (λ (b : Bool). cond b (eqb base 0) (is_equal (number_in right_base (other / 2)))) (ne_eqb other 0 e))

module _ (left_right left_base right_base : List ℕ) where
  pub left_chosen : (l other base : ℕ) → other ≡ number_in left_right l → base ≡ number_in left_base l → (a b c : Bool) → a ≡ is_equal other → b ≡ is_equal base → c ≡ right_kept right_base other base
      → (r : Choice) → r ≡ chosen a b c → r ≡ choice_left left_right left_base right_base l
  unfolding choice_left
  left_chosen l other base o e a b c p q k r h = h ∙ (λ i. chosen ((p ∙ ap is_equal o) i) ((q ∙ ap is_equal e) i) ((k ∙ (λ j. right_kept right_base (o j) (e j))) i))

  module _ (right_left : List ℕ) where
    -- left has not the name
    pub right_alone : (n other base : ℕ) → other ≡ number_in right_left n → other ≡ 0 → base ≡ number_in right_base n → (a b : Bool) → a ≡ eqb base 0 → b ≡ is_equal base
        → (r : Choice) → r ≡ chosen false a b → r ≡ choice_right left_right left_base right_left right_base n
    unfolding choice_right
    right_alone n other base o z e a b p q r h =
        h
        ∙ (λ i. chosen false ((p ∙ ap (λ (x : ℕ). eqb x 0) e) i) ((q ∙ ap is_equal e) i))
        ∙ sym (ap (λ (t : Bool). cond t (chosen false (eqb (number_in right_base n) 0) (is_equal (number_in right_base n))) (choice_left left_right left_base right_base (number_in right_left n / 2))) (eq-eqb (number_in right_left n) 0 (sym o ∙ z)))

    pub right_shared : (n other : ℕ) → other ≡ number_in right_left n → (other ≡ 0 → ⊥) → (r : Choice) → r ≡ choice_left left_right left_base right_base (other / 2) → r ≡ choice_right left_right left_base right_left right_base n
    unfolding choice_right
    right_shared n other o z r h =
        h
        ∙ ap (λ (x : ℕ). choice_left left_right left_base right_base (x / 2)) o
        ∙ sym (ap (λ (t : Bool). cond t (chosen false (eqb (number_in right_base n) 0) (is_equal (number_in right_base n))) (choice_left left_right left_base right_base (number_in right_left n / 2))) (ne_eqb (number_in right_left n) 0 (λ e. z (o ∙ e))))

    abbrev lefts : ℕ → ℕ
    lefts n = mark_left (choice_left left_right left_base right_base (n - length right_left))

    abbrev rights : ℕ → ℕ
    rights n = mark_right (choice_right left_right left_base right_left right_base n)

    pub marked_right : (n : ℕ) → n ≤ length right_left → (c : Choice) → c ≡ choice_right left_right left_base right_left right_base n → (r : ℕ) → r ≡ mark_right c → r ≡ mark_at left_right left_base right_left right_base n
    unfolding mark_at
    marked_right n l c e r h = h ∙ ap mark_right e ∙ sym (ap (λ (t : Bool). cond t (rights n) (lefts n)) (le-leb n (length right_left) l))

    pub marked_left : (n : ℕ) → length right_left < n → (c : Choice) → c ≡ choice_left left_right left_base right_base (n - length right_left) → (r : ℕ) → r ≡ mark_left c → r ≡ mark_at left_right left_base right_left right_base n
    unfolding mark_at
    marked_left n l c e r h = h ∙ ap mark_left e ∙ sym (ap (λ (t : Bool). cond t (rights n) (lefts n)) (lt-leb n (length right_left) l))

-- ---- one after the other

-- the first i are marked, and none of them clashes
pub record Picking (mark : ℕ → ℕ) (old new : List ℕ) (count i : ℕ) : Type 0 where
  pub table : Tabling mark old new i
  pub free : clash_to mark i ≡ false
  pub total : count ≡ taken_to mark i
  pub few : count ≤ i

module _ (mark : ℕ → ℕ) where
  pub picking_none : (old : List ℕ) → Picking mark old old 0 0
  unfolding clash_to taken_to
  picking_none old = record { table = tabling_none mark old; free = refl; total = refl; few = omega arith }

  clash_kept : (i n : ℕ) → i ≤ n → clash_to mark i ≡ true → clash_to mark n ≡ true
  unfolding clash_to
  clash_kept i zero l e = ap (clash_to mark) (let z : 0 ≡ i = omega arith in z) ∙ e
  clash_kept i (suc n) l e = go (le_or_lt i n) (λ k. clash_kept i n k e)
    where
      go : (i ≤ n) ⊎ (n < i) → (i ≤ n → clash_to mark n ≡ true) → clash_to mark (suc n) ≡ true
      go (inl k) ih = rw (ih k)
      go (inr k) ih = ap (clash_to mark) (let z : suc n ≡ i = omega arith in z) ∙ e

  next_clash : (i v : ℕ) → clash_to mark i ≡ false → v ≡ mark (i + 1) → clash_to mark (i + 1) ≡ eqb v 2
  unfolding clash_to
  next_clash i v f e = ap (clash_to mark) (add-one i) ∙ (λ j. f j || eqb (sym (e ∙ ap mark (add-one i)) j) 2)

  module _ (old new : List ℕ) (count i : ℕ) (h : Picking mark old new count i) (v : ℕ) (e : v ≡ mark (i + 1)) where
    -- one more
    pub picking_more : v ≤ 2 → (v ≡ 2 → ⊥) → i < length old → Picking mark old (set new i v) (count + v) (i + 1)
    unfolding taken_to
    picking_more low f l = record {
      table = tabling_more mark old new i h.table v e l;
      free = next_clash i v h.free e ∙ ne_eqb v 2 f;
      total = (λ j. h.total j + e j) ∙ rw (add-one i);
      few = let z : v ≤ 1 = at_most v low f in omega (arith, h.few);
    }
      where
        at_most : (n : ℕ) → n ≤ 2 → (n ≡ 2 → ⊥) → n ≤ 1
        at_most n l f = go (le_or_lt n 1)
          where
            go : (n ≤ 1) ⊎ (1 < n) → n ≤ 1
            go (inl k) = k
            go (inr k) = absurd (f (omega arith))

    pub picks_clash : v ≡ 2 → i < length old → (left : List ℕ) → Picks mark (length old) None left
    picks_clash z l left =
        let c = clash_kept (i + 1) (length old) (omega arith) (next_clash i v h.free e ∙ eq-eqb v 2 z) in
        record { answer = sym (ap (λ (b : Bool). cond b None (Some (taken_to mark (length old)))) c); marked = λ f. absurd (false≢true (sym f ∙ c)) }

  pub picks_all : (old new : List ℕ) (count i : ℕ) → Picking mark old new count i → length new ≤ i → Picks mark (length old) (Some count) new
  picks_all old new count i h l =
      let z : i ≡ length old = omega (arith, h.table.most, h.table.size) in
      record {
        answer = ap Some (h.total ∙ ap (taken_to mark) z) ∙ sym (ap (λ (b : Bool). cond b None (Some (taken_to mark (length old)))) (ap (clash_to mark) (sym z) ∙ h.free));
        marked = λ f. tabling_all mark old new i h.table l;
      }

-- ---- the marks

left_low : (c : Choice) → mark_left c ≤ 2
left_low Left = omega arith
left_low Right = omega arith
left_low Clash = omega arith

right_low : (c : Choice) → mark_right c ≤ 2
right_low Left = omega arith
right_low Right = omega arith
right_low Clash = omega arith

pub mark_low : (left_right left_base right_left right_base : List ℕ) (n : ℕ) → mark_at left_right left_base right_left right_base n ≤ 2
unfolding mark_at
mark_low left_right left_base right_left right_base n = go (leb n (length right_left))
  where
    go : (b : Bool) → cond b (rights left_right left_base right_base right_left n) (lefts left_right left_base right_base right_left n) ≤ 2
    go true = right_low (choice_right left_right left_base right_left right_base n)
    go false = left_low (choice_left left_right left_base right_base (n - length right_left))
