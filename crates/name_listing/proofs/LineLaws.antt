-- The line's parts, one law for each answer and each turn.
use mathlib.Core.Bool.{Bool, true, false, ◌&&◌, ◌||◌, cond}
use mathlib.Core.List.{List, [], ◌++◌}
use mathlib.Core.Path.{◌≡◌, refl, ap, sym, ◌∙◌}
use Prim.Native.Nat.{ℕ, zero, suc, ◌+◌, ◌-◌, ◌≤◌, ◌<◌}
use native.Mathlib.Numerals.{add-one}
use native.Mathlib.Omega.{arith}
use borrow.Author.Tests.{eq-eqb, ne_eqb}
use lib.Dec.{eqb, ltb}
use Rattle.buffer.specs.Decimal.{decimal}
use Rattle.fields.specs.Fields.{field, text_field}
use Rattle.laws.specs.Bytes.{Bytes, bytes}
use Rattle.scene.specs.Record.{field_in, line_in, name_in, record_in}
use Rattle.table.proofs.QuestionLaws.{modifier_field, target_field}
use Rattle.name_listing.specs.NameLine.{definition_text, definition_texts, first_user, later_text, later_users, name_line, uses, users_text}

module _ (T : List ℕ) where
  pub uses_is : (d j m t : ℕ) → m ≡ field_in T j 1 → t ≡ field_in T j 2 → (eqb m d || eqb t d) ≡ uses T d j
  unfolding uses
  uses_is d j m t e f = λ i. eqb ((e ∙ modifier_field T j) i) d || eqb ((f ∙ target_field T j) i) d

  module _ (d : ℕ) where
    -- ---- the first user

    pub none_first : first_user T d 0 ≡ 0
    unfolding first_user
    none_first = refl

    pub not_yet : (j : ℕ) → first_user T d j ≡ 0 → uses T d (j + 1) ≡ false → first_user T d (j + 1) ≡ 0
    unfolding first_user
    not_yet j e f = ap (first_user T d) (add-one j) ∙ rw (eq-eqb (first_user T d j) 0 e, ap (uses T d) (sym (add-one j)) ∙ f)

    -- one that is found stays the first
    stays : (j n k : ℕ) → first_user T d j ≡ suc k → first_user T d (n + j) ≡ suc k
    unfolding first_user
    stays j zero k e = let q : zero + j ≡ j = omega arith in ap (first_user T d) q ∙ e
    stays j (suc n) k e = ap (first_user T d) (let q : suc n + j ≡ suc (n + j) = omega arith in q) ∙ (let h = stays j n k e in rw (ne_eqb (first_user T d (n + j)) 0 (λ z. omega (arith, z, h))) h)

    pub first_found : (j count : ℕ) → j + 1 ≤ count → first_user T d j ≡ 0 → uses T d (j + 1) ≡ true → j + 1 ≡ first_user T d count
    unfolding first_user
    first_found j count l e f =
        let here : first_user T d (suc j) ≡ suc j = rw (eq-eqb (first_user T d j) 0 e, ap (uses T d) (sym (add-one j)) ∙ f) in
        let all = stays (suc j) (count - suc j) j here in
        let n : count - suc j + suc j ≡ count = omega arith in
        add-one j ∙ sym (ap (first_user T d) (sym n) ∙ all)

    -- ---- those behind it

    pub later_here : (k j : ℕ) → (ltb k j && uses T d j) ≡ true → field "," j ≡ later_text T d k j
    unfolding later_text
    later_here k j e = rw e

    pub later_not : (k j : ℕ) → (ltb k j && uses T d j) ≡ false → [] ≡ later_text T d k j
    unfolding later_text
    later_not k j e = rw e

    pub laters_none : (k : ℕ) → later_users T d k 0 ≡ []
    unfolding later_users
    laters_none k = refl

    pub laters_more : (k j : ℕ) → later_users T d k j ++ later_text T d k (j + 1) ≡ later_users T d k (j + 1)
    unfolding later_users
    laters_more k j = ap (λ (z : Bytes). later_users T d k j ++ z) (ap (later_text T d k) (add-one j)) ∙ sym (ap (later_users T d k) (add-one j))

    -- ---- all of them

    pub no_users : (count : ℕ) {first : ℕ} → first ≡ first_user T d count → first ≡ 0 → [] ≡ users_text T d count
    unfolding users_text
    no_users count e z = rw (eq-eqb (first_user T d count) 0 (sym e ∙ z))

    pub all_users : (count : ℕ) {first : ℕ} → first ≡ first_user T d count → (first ≡ 0 → ⊥) → decimal first ++ later_users T d first count ≡ users_text T d count
    unfolding users_text
    all_users count e z = (λ i. decimal (e i) ++ later_users T d (e i) count) ∙ sym (ap (λ (b : Bool). cond b [] (decimal (first_user T d count) ++ later_users T d (first_user T d count) count)) (ne_eqb (first_user T d count) 0 (λ q. z (e ∙ q))))

  -- ---- the definitions

  module _ (count : ℕ) where
    pub no_definition : (left d : ℕ) → d ≡ 0 → definition_texts T count left d ≡ []
    unfolding definition_texts
    no_definition zero d e = refl
    no_definition (suc l) d e = rw (eq-eqb d 0 e)

    pub none_left : (left d : ℕ) → left ≤ 0 → definition_texts T count left d ≡ []
    unfolding definition_texts
    none_left zero d h = refl
    none_left (suc l) d h = absurd (omega arith)

    pub one_definition : (left d next : ℕ) → 0 < left → (d ≡ 0 → ⊥) → next ≡ field_in T d 9 → definition_texts T count left d ≡ definition_text T count d ++ definition_texts T count (left - 1) next
    unfolding definition_texts record_in
    one_definition zero d next h z e = absurd (omega arith)
    one_definition (suc l) d next h z e = let m : suc l - 1 ≡ l = omega arith in rw (ne_eqb d 0 z) (λ i. definition_text T count d ++ definition_texts T count (sym m i) (sym e i))

    pub definition_is : (d : ℕ) → field " no=" d ++ field " line=" (line_in T d) ++ bytes " used=" ++ users_text T d count ≡ definition_text T count d
    unfolding definition_text
    definition_is d = refl

-- ---- the whole line

module _ (text : Bytes) (T : List ℕ) where
  pub name_is : (count n : ℕ) → text_field "name=" (name_in text T n) ++ definition_texts T count count n ++ bytes "\n" ≡ name_line text T count n
  unfolding name_line
  name_is count n = refl
