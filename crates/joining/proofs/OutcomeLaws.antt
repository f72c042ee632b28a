-- What is proposed passes the check, and what passes holds the joined definitions.
use mathlib.Core.Bool.{Bool, true, false, ◌&&◌, cond}
use mathlib.Core.List.{List}
use mathlib.Core.Option.{Option, none, some}
use mathlib.Core.Path.{◌≡◌, refl, ap, sym, ◌∙◌, subst}
use Prim.Native.Nat.{ℕ}
use native.Mathlib.Omega.{arith}
use borrow.Author.Tests.{le-leb}
use lib.Dec.{leb}
use lib.ListN.{length}
use Rattle.joining.proofs.ReadsLaws.{joined_proper, picked_order}
use Rattle.joining.proofs.TestLaws.{tests}
use Rattle.joining.specs.Arranged.{arranged}
use Rattle.joining.specs.Definition.{names_once}
use Rattle.joining.specs.Outcome.{AcceptLaw, OwnLaw, Plan, check_plan, checked, fitted, joined, order_plan, pick_plan, plan_of, plan_read, planned, propose_plan, read_as, refused}
use Rattle.joining.specs.Pick.{Holds, holds, picked}
use Rattle.joining.specs.declared.Scene.TheVariants.{None}
use Rattle.laws.proofs.BoolLaws.{and_left, and_right}
use Rattle.laws.specs.Bytes.{Bytes}
use Rattle.laws.specs.Shuffle.{Shuffle}
use Rattle.scene.specs.Reading as reading
use Rattle.scene.specs.Reading.{Entry, Reading, accepted, statements}
use Rattle.scene.specs.Statement.{Statement}
use Rattle.scene.specs.declared.Settings.{Settings}
use Rattle.sides.proofs.MixedLaws.{resolved}
use Rattle.sides.specs.Read.{read}
use Rattle.tidying.proofs.ReadBackLaws.{tidy_meant}
use Rattle.tidying.specs.Tidy.{tidy}

-- ---- what a plan is made of

-- the names stand once in each hand, these are picked, and this is their order
record Made (base left right new : List Statement) : Type 0 where
  left_once : names_once left ≡ true
  right_once : names_once right ≡ true
  ds : List Statement
  taken : picked base left right ≡ some ds
  ordered : arranged ds ≡ some new

module _ (base left right new : List Statement) where
  made : plan_of base left right ≡ planned new → Made base left right new
  unfolding plan_of
  made = once (names_once base && names_once left && names_once right) refl
    where
      order : (x : Option (List Statement)) → order_plan x ≡ planned new → x ≡ some new
      order none e = let z : ◌≡◌ {A = ℕ} 0 1 = cc in absurd (omega arith)
      order (some l) e = cc

      pick : (x : Option (List Statement)) → picked base left right ≡ x → names_once left ≡ true → names_once right ≡ true → pick_plan x ≡ planned new → Made base left right new
      pick none q ol or e = let z : ◌≡◌ {A = ℕ} 0 1 = cc in absurd (omega arith)
      pick (some ds) q ol or e = record { left_once = ol; right_once = or; ds = ds; taken = q; ordered = order (arranged ds) e }

      once : (b : Bool) → (names_once base && names_once left && names_once right) ≡ b → cond b (pick_plan (picked base left right)) (refused None 29 0) ≡ planned new → Made base left right new
      once true q e = let k = and_left (names_once base && names_once left) (names_once right) q in pick (picked base left right) refl (and_right (names_once base) (names_once left) k) (and_right (names_once base && names_once left) (names_once right) q) e
      once false q e = let z : ◌≡◌ {A = ℕ} 0 1 = cc in absurd (omega arith)

  -- what is planned is what is picked, shuffled, and holds the joined definitions
  planned_holds : (m : Made base left right new) → Shuffle m.ds new × Holds base left right new
  planned_holds m =
      let k = picked_order base left right m.left_once m.right_once m.ds new m.taken m.ordered in
      (k.0, k.1)

-- ---- what a text that comes out is

-- the text given is the one that comes out, read as these entries, tested, and there is room
record Passed (good : List Statement → Bool) (room : ℕ) (given : Bytes) (x : Reading) (out : Bytes) (es : List Entry) : Type 0 where
  text : given ≡ out
  reads : x ≡ accepted es
  tested : good (statements es) ≡ true
  fits : leb (length given) room ≡ true

module _ (good : List Statement → Bool) (room : ℕ) (text : Bytes) where
  passed : (x : Reading) (out : Bytes) (es : List Entry) → read_as good room text x ≡ joined out es → Passed good room text x out es
  passed (reading.refused n p) out es e = let z : ◌≡◌ {A = ℕ} 0 1 = cc in absurd (omega arith)
  passed (accepted fs) out es e = test (good (statements fs)) refl e
    where
      fit : (c : Bool) → leb (length text) room ≡ c → good (statements fs) ≡ true → cond c (joined text fs) (refused None 23 0) ≡ joined out es → Passed good room text (accepted fs) out es
      fit true f t e = let q : fs ≡ es = cc in record { text = cc; reads = ap accepted q; tested = ap (λ (l : List Entry). good (statements l)) (sym q) ∙ t; fits = f }
      fit false f t e = let z : ◌≡◌ {A = ℕ} 0 1 = cc in absurd (omega arith)

      test : (b : Bool) → good (statements fs) ≡ b → cond b (fitted room text fs) (refused None 32 0) ≡ joined out es → Passed good room text (accepted fs) out es
      test true t e = fit (leb (length text) room) refl t e
      test false t e = let z : ◌≡◌ {A = ℕ} 0 1 = cc in absurd (omega arith)

  passes : (x : Reading) (es : List Entry) → x ≡ accepted es → good (statements es) ≡ true → leb (length text) room ≡ true → read_as good room text x ≡ joined text es
  passes x es e t f = ap (read_as good room text) e ∙ rw (t, f)

-- ---- the laws

module _ (s : Settings) (left right : Bytes) (room : ℕ) (out : Bytes) (es : List Entry) where
  -- an accepted tidy text of what is planned reads as that, so it holds it
  own_planned : (b l r : List Entry) → read s left ≡ accepted l → read s right ≡ accepted r → (new : List Statement) → plan_of (statements b) (statements l) (statements r) ≡ planned new
      → propose_plan s room (planned new) ≡ joined out es → check_plan s out room (planned new) ≡ joined out es
  own_planned b l r el er new p e =
      let m = made (statements b) (statements l) (statements r) new p in
      let h = planned_holds (statements b) (statements l) (statements r) new m in
      let f = joined_proper s left right (statements b) l r (resolved s left l el).reads (resolved s right r er).reads m.ds new m.taken h.0 in
      let i = passed (λ d. true) room (tidy new) (read s (tidy new)) out es e in
      let q = tidy_meant s new f es (resolved s (tidy new) es i.reads).reads in
      let t = ap (holds new) q ∙ (tests (statements b) (statements l) (statements r) new new h.1).back h.1 in
      subst (λ (x : Bytes). read_as (holds new) room x (read s x) ≡ joined x es) i.text (passes (holds new) room (tidy new) (read s (tidy new)) es i.reads t i.fits)

  -- and where there is no plan nothing is proposed
  own_read : (x y : Reading) → read s left ≡ y → (z : Reading) → read s right ≡ z → propose_plan s room (plan_read x y z) ≡ joined out es → check_plan s out room (plan_read x y z) ≡ joined out es
  own_read (reading.refused n p) y el z er e = e
  own_read (accepted b) (reading.refused n p) el z er e = e
  own_read (accepted b) (accepted l) el (reading.refused n p) er e = e
  own_read (accepted b) (accepted l) el (accepted r) er e = go (plan_of (statements b) (statements l) (statements r)) refl e
    where
      go : (x : Plan) → plan_of (statements b) (statements l) (statements r) ≡ x → propose_plan s room x ≡ joined out es → check_plan s out room x ≡ joined out es
      go (refused t n p) q e = e
      go (planned new) q e = own_planned b l r el er new q e

pub own : OwnLaw
own s base left right room out es e = own_read s left right room out es (read s base) (read s left) refl (read s right) refl e

pub accepts : AcceptLaw
accepts s base left right typed room b l r es eb el er new p fits =
    let h = (planned_holds (statements b) (statements l) (statements r) new (made (statements b) (statements l) (statements r) new p)).1 in
    let t = tests (statements b) (statements l) (statements r) new (statements es) h in
    let c : checked s base left right typed room ≡ check_plan s typed room (planned new) = (λ i. check_plan s typed room (plan_read (eb i) (el i) (er i))) ∙ ap (check_plan s typed room) p in
    record {
      forth = λ e. let i = passed (holds new) room typed (read s typed) typed es (sym c ∙ e) in (i.reads, t.forth i.tested);
      back = λ e k. c ∙ passes (holds new) room typed (read s typed) es e (t.back k) (le-leb (length typed) room fits);
    }
