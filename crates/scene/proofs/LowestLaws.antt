-- "at one place, the lowest number": a word's own reason is taken before what the statements above say of it, and wherever both
-- speak it is the lower.
use mathlib.Core.Bool.{Bool, true, false, cond}
use mathlib.Core.List.{List, []}
use mathlib.Core.Option.{Option, none, some}
use mathlib.Core.Path.{◌≡◌}
use Prim.Native.Nat.{ℕ, zero, suc, ◌+◌, ◌≤◌}
use native.Mathlib.Omega.{arith}
use lib.Dec.{leb, ltb}
use lib.ListN.{length}
use Rattle.laws.proofs.BoolLaws.{cond_elim}
use Rattle.laws.specs.Bytes.{Bytes, same}
use Rattle.laws.specs.Runs.{all}
use Rattle.lexer.specs.Class.{is_good}
use Rattle.lexer.specs.Word.{word_fault}
use Rattle.numeral.specs.Count.{count_of}
use Rattle.scene.specs.Links.{definition, reals_used}
use Rattle.scene.specs.Phase.{Phase, at_alias_name, at_integer_count, at_name, at_real, at_real_count, at_string, at_string_count, at_target, at_type, busy, fault, idle, outcome, real_count, reals, refuse, taken, unless_fault, word}
use Rattle.scene.specs.Reading.{modifier_test, room_test, target_test, test}
use Rattle.scene.specs.Statement.{Statement, void}
use Rattle.scene.specs.Types.{reals_allowed}
use Rattle.scene.specs.declared.Settings.{Settings}

fault_most : (w : Bytes) → word_fault w ≤ 3
unfolding word_fault
fault_most w = cond_elim (λ n. n ≤ 3) (all is_good w) (cond_elim (λ n. n ≤ 3) (leb (length w) 64) (omega arith) (omega arith)) (omega arith)

-- ---- what the statements above say is 6 or more

modifier_least : (K : Option Statement) (t : ℕ) → modifier_test K ≡ suc t → 6 ≤ suc t
modifier_least none t e = omega (arith, e)
modifier_least (some s) t e = absurd (omega (arith, e))

target_least : (K : Option Statement) (t : ℕ) → target_test K ≡ suc t → 6 ≤ suc t
target_least none t e = omega (arith, e)
target_least (some s) t e = absurd (omega (arith, e))

room_is : (room used : ℕ) (c : Option ℕ) (t : ℕ) → room_test room used c ≡ suc t → 13 ≡ suc t
room_is room used none t e = absurd (omega (arith, e))
room_is room used (some k) t e = go (leb (used + k) room) e
  where
    go : (b : Bool) → cond b 0 13 ≡ suc t → 13 ≡ suc t
    go true e = absurd (omega (arith, e))
    go false e = e

test_least : (r : Settings) (d : List Statement) (ph : Phase) (w : Bytes) (t : ℕ) → test r d ph w ≡ suc t → 6 ≤ suc t
test_least r d idle w t e = go (ltb (length d) r.records) (same w void) e
  where
    go : (a b : Bool) → cond a (cond b 0 (modifier_test (definition w d))) 6 ≡ suc t → 6 ≤ suc t
    go true true e = absurd (omega (arith, e))
    go true false e = modifier_least (definition w d) t e
    go false b e = omega (arith, e)
test_least r d (busy m at_type) w t e = absurd (omega (arith, e))
test_least r d (busy m (at_name k)) w t e = absurd (omega (arith, e))
test_least r d (busy m (at_string_count k n)) w t e = absurd (omega (arith, e))
test_least r d (busy m (at_string k n ss c)) w t e = absurd (omega (arith, e))
test_least r d (busy m (at_integer_count k n ss)) w t e = absurd (omega (arith, e))
test_least r d (busy m (at_real_count k n ss)) w t e = omega (arith, room_is r.reals (reals_used d) (count_of w) t e)
test_least r d (busy m (at_real k n ss rs c)) w t e = absurd (omega (arith, e))
test_least r d (busy m at_alias_name) w t e = absurd (omega (arith, e))
test_least r d (busy m (at_target n)) w t e = target_least (definition w d) t e

-- ---- a good word's own reason where they speak: 12 at a real count, 13 being theirs

never : {A : Type 0} (m : Bytes) (n : ℕ) (c : ℕ) (k : ℕ) (name : Bytes) (ss : List Bytes) → outcome m (reals k name ss [] c) ≡ refuse n → A
never m n zero k name ss e = let z : ◌≡◌ {A = ℕ} 0 1 = cc in absurd (omega arith)
never m n (suc c) k name ss e = let z : ◌≡◌ {A = ℕ} 0 1 = cc in absurd (omega arith)

own_count : (m : Bytes) (k : ℕ) (name : Bytes) (ss : List Bytes) (c : Option ℕ) (n : ℕ) → outcome m (real_count k name ss c) ≡ refuse n → n ≤ 12
own_count m k name ss none n e = let q : n ≡ 12 = cc in omega arith
own_count m k name ss (some c) n e = go (reals_allowed k c) e
  where
    go : (b : Bool) → outcome m (cond b (reals k name ss [] c) (fault 12)) ≡ refuse n → n ≤ 12
    go true e = never m n c k name ss e
    go false e = let q : n ≡ 12 = cc in omega arith

own_lower : (r : Settings) (d : List Statement) (ph : Phase) (w : Bytes) (n t : ℕ) → taken r ph w ≡ refuse n → test r d ph w ≡ suc t → n ≤ suc t
own_lower r d idle w n t o e = let z : ◌≡◌ {A = ℕ} 0 1 = cc in absurd (omega arith)
own_lower r d (busy m at_type) w n t o e = absurd (omega (arith, e))
own_lower r d (busy m (at_name k)) w n t o e = absurd (omega (arith, e))
own_lower r d (busy m (at_string_count k name)) w n t o e = absurd (omega (arith, e))
own_lower r d (busy m (at_string k name ss c)) w n t o e = absurd (omega (arith, e))
own_lower r d (busy m (at_integer_count k name ss)) w n t o e = absurd (omega (arith, e))
own_lower r d (busy m (at_real_count k name ss)) w n t o e = omega (arith, own_count m k name ss (count_of w) n o, room_is r.reals (reals_used d) (count_of w) t e)
own_lower r d (busy m (at_real k name ss rs c)) w n t o e = absurd (omega (arith, e))
own_lower r d (busy m at_alias_name) w n t o e = absurd (omega (arith, e))
own_lower r d (busy m (at_target name)) w n t o e = let z : ◌≡◌ {A = ℕ} 0 1 = cc in absurd (omega arith)

-- the word's own reason n is at most the test's
pub lowest_first : (r : Settings) (d : List Statement) (ph : Phase) (w : Bytes) (n t : ℕ) → word r ph w ≡ refuse n → test r d ph w ≡ suc t → n ≤ suc t
lowest_first r d ph w n t o e = go (word_fault w) (fault_most w) o
  where
    go : (f : ℕ) → f ≤ 3 → unless_fault f (taken r ph w) ≡ refuse n → n ≤ suc t
    go zero h o = own_lower r d ph w n t o e
    go (suc f) h o = let q : n ≡ suc f = cc in omega (arith, test_least r d ph w t e)
