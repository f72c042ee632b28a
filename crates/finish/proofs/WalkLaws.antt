-- Laws of the finish walk: one for each end of a link, and one for going on.
use mathlib.Core.Bool.{Bool, true, false, cond}
use mathlib.Core.List.{List}
use mathlib.Core.Path.{◌≡◌, sym, ap, subst, ◌∙◌}
use Prim.Native.Nat.{ℕ, zero, suc, ◌+◌, ◌-◌, ◌≤◌, ◌<◌}
use native.Mathlib.Omega.{arith}
use borrow.Author.Tests.{lt-ltb, le-ltb, eq-eqb, ne_eqb}
use Rattle.finish.specs.Follow.{Follows, reached_of}
use Rattle.table.specs.Question.{number_refusal}
use Rattle.table.specs.View.{View, view_of}
use Rattle.finish.specs.Walk.{at_link, at_type, finish_of, walk_from}
use Rattle.finish.specs.Finish.{Finish, Reached, Refused}
use Rattle.finish.specs.Follow.{Link, Ended, On}
use Rattle.scene.specs.Record.{field_in}
use Rattle.scene.specs.Types.{is_material, is_modifier}
use Rattle.table.proofs.QuestionLaws.{modifier_field, type_field}

-- ---- what a type comes to

module _ (t m k : ℕ) {b : Bool} (e : b ≡ is_modifier t) where
  pub no_type : b ≡ false → Ended (Refused 18 0) ≡ reached_of t m k
  unfolding reached_of
  no_type h = rw (← e, h)

  pub a_material : {c : Bool} → b ≡ true → c ≡ is_material t → c ≡ true → Ended (Reached m k) ≡ reached_of t m k
  unfolding reached_of
  a_material h f g = rw (← e, h, ← f, g)

  pub passed : {c : Bool} → b ≡ true → c ≡ is_material t → c ≡ false → On m ≡ reached_of t m k
  unfolding reached_of
  passed h f g = rw (← e, h, ← f, g)

-- ---- what a link comes to

link_late : (m n k : ℕ) (f : Finish) → 0 < m → n ≤ m → at_link m n k f ≡ Refused 18 0
link_late zero n k f z h = absurd (omega (arith, z))
link_late (suc m) n k f z h = rw (le-ltb (suc m) n h)

link_on : (m n k : ℕ) (f : Finish) → 0 < m → m < n → at_link m n k f ≡ f
link_on zero n k f z h = absurd (omega (arith, z))
link_on (suc m) n k f z h = rw (lt-ltb (suc m) n h)

walk_0 : (v : View) (left k n : ℕ) → (v n).modifier ≡ 0 → walk_from v left k n ≡ Reached 0 k
unfolding walk_from
walk_0 v zero k n e = rw e
walk_0 v (suc left) k n e = rw e

walk_late : (v : View) (left k n : ℕ) → 0 < (v n).modifier → n ≤ (v n).modifier → walk_from v left k n ≡ Refused 18 0
unfolding walk_from
walk_late v zero k n z h = link_late _ n k _ z h
walk_late v (suc left) k n z h = link_late _ n k _ z h

walk_out : (v : View) (left k n : ℕ) → 0 < (v n).modifier → (v n).modifier < n → left ≡ 0 → walk_from v left k n ≡ Refused 19 k
unfolding walk_from
walk_out v zero k n z h e = link_on _ n k _ z h
walk_out v (suc left) k n z h e = absurd (omega (arith, e))

walk_on : (v : View) (left k n : ℕ) → 0 < (v n).modifier → (v n).modifier < n → walk_from v (suc left) k n ≡ at_type (v (v n).modifier).type (v n).modifier (suc k) (walk_from v left (suc k) (v n).modifier)
unfolding walk_from
walk_on v left k n z h = link_on _ n k _ z h

-- by the number that the table has as the link of primitive n
module _ (table : List ℕ) (n k allowance : ℕ) where
  abbrev v : View
  v = view_of table

  abbrev link : ℕ
  link = field_in table n 1

  link_is : (v n).modifier ≡ link
  link_is = sym (modifier_field table n)

  pub follows_0 : link ≡ 0 → Follows v n k allowance (Ended (Reached 0 k))
  follows_0 e = walk_0 v (allowance - k) k n (link_is ∙ e)

  pub follows_late : 0 < link → n ≤ link → Follows v n k allowance (Ended (Refused 18 0))
  follows_late z h = walk_late v (allowance - k) k n (omega (arith, z, link_is)) (omega (arith, h, link_is))

  pub follows_out : 0 < link → link < n → allowance ≤ k → Follows v n k allowance (Ended (Refused 19 k))
  follows_out z h a = walk_out v (allowance - k) k n (omega (arith, z, link_is)) (omega (arith, h, link_is)) (omega (arith, a))

  further : 0 < link → link < n → k < allowance → walk_from v (allowance - k) k n ≡ at_type (v link).type link (k + 1) (walk_from v (allowance - (k + 1)) (k + 1) link)
  further z h a =
      let left : allowance - k ≡ suc (allowance - (k + 1)) = omega (arith, a) in
      let more : suc k ≡ k + 1 = omega arith in
      ap (λ (l : ℕ). walk_from v l k n) left
      ∙ walk_on v (allowance - (k + 1)) k n (omega (arith, z, link_is)) (omega (arith, h, link_is))
      ∙ ap (λ (m : ℕ). at_type (v m).type m (suc k) (walk_from v (allowance - (k + 1)) (suc k) m)) link_is
      ∙ ap (λ (j : ℕ). at_type (v link).type link j (walk_from v (allowance - (k + 1)) j link)) more

  on_type : (t : ℕ) → link < n → k < allowance → walk_from v (allowance - k) k n ≡ at_type t link (k + 1) (walk_from v (allowance - (k + 1)) (k + 1) link) → Follows v n k allowance (reached_of t link (k + 1))
  unfolding reached_of
  on_type t h a e = go (is_modifier t) (is_material t) e
    where
      go : (b c : Bool) → walk_from v (allowance - k) k n ≡ cond b (cond c (Reached link (k + 1)) (walk_from v (allowance - (k + 1)) (k + 1) link)) (Refused 18 0) → Follows v n k allowance (cond b (cond c (Ended (Reached link (k + 1))) (On link)) (Ended (Refused 18 0)))
      go true true e = e
      go true false e = (h, a, e)
      go false c e = e

  pub follows_type : 0 < link → link < n → k < allowance → (r : Link) → r ≡ reached_of (field_in table link 0) link (k + 1) → Follows v n k allowance r
  follows_type z h a r e =
      let w = further z h a ∙ ap (λ (s : ℕ). at_type s link (k + 1) (walk_from v (allowance - (k + 1)) (k + 1) link)) (sym (type_field table link)) in
      subst (Follows v n k allowance) (sym e) (on_type (field_in table link 0) h a w)

-- a link in each case
pub ruleset follows = (follows_0, follows_late, follows_out, follows_type)

-- ---- the walk

pub walk_start : (v : View) (allowance n : ℕ) → walk_from v allowance 0 n ≡ walk_from v (allowance - 0) 0 n
walk_start v allowance n = ap (λ (l : ℕ). walk_from v l 0 n) (let e : allowance ≡ allowance - 0 = omega arith in e)

-- ---- the answer

module _ (table : List ℕ) (count n allowance : ℕ) where
  pub finish_refused : (number_refusal table count n ≡ 0 → ⊥) → Refused (number_refusal table count n) 0 ≡ finish_of table count n allowance
  unfolding finish_of
  finish_refused h = rw (ne_eqb (number_refusal table count n) 0 h)

  pub finish_walked : number_refusal table count n ≡ 0 → walk_from (view_of table) allowance 0 n ≡ finish_of table count n allowance
  unfolding finish_of
  finish_walked h = rw (eq-eqb (number_refusal table count n) 0 h)
