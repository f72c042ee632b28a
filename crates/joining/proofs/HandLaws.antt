-- The hands may be exchanged, and where one left all as it was the other's own text passes the check.
use mathlib.Core.Bool.{Bool, true, false, ◌&&◌, cond}
use mathlib.Core.List.{List}
use mathlib.Core.Option.{Option, none, some}
use mathlib.Core.Path.{◌≡◌, refl, sym, ◌∙◌, subst}
use Prim.Native.Nat.{ℕ}
use Rattle.joining.proofs.OrderLaws.{order_carried}
use Rattle.joining.proofs.OutcomeLaws.{accepts}
use Rattle.joining.proofs.PickLaws.{picks, turned, unchanged}
use Rattle.joining.proofs.ReadsLaws.{picked_order}
use Rattle.joining.proofs.TestLaws.{held_equal, tests}
use Rattle.joining.specs.Arranged.{arranged}
use Rattle.joining.specs.Definition.{named, names_once}
use Rattle.joining.specs.Outcome.{Outcome, Plan, TurnedCheckLaw, UnchangedCheckLaw, check_plan, order_plan, pick_plan, plan_of, plan_read, planned, read_as, refused}
use Rattle.joining.specs.Pick.{Agrees, Holds, holds, picked}
use Rattle.joining.specs.declared.Choice.{Choice}
use Rattle.joining.specs.declared.Scene.TheVariants.{None}
use Rattle.laws.proofs.BoolLaws.{same_bool}
use Rattle.laws.specs.Bytes.{Bytes}
use Rattle.scene.proofs.PropertyLaws.{accepted_linked}
use Rattle.scene.proofs.SwapLaws.{Linked}
use Rattle.scene.specs.Reading as reading
use Rattle.scene.specs.Reading.{Reading, accepted, statements}
use Rattle.scene.specs.Statement.{Statement}
use Rattle.scene.specs.declared.Settings.{Settings}
use Rattle.sides.proofs.MixedLaws.{resolved}
use Rattle.sides.specs.Read.{read}

-- ---- where something holds the joined definitions

module _ (base left right : List Statement) (o : names_once left ≡ true) (p : names_once right ≡ true) where
  -- no name clashes
  held_picked : (d : List Statement) → Holds base left right d → picked base left right ≡ none → ⊥
  held_picked d h e =
      let k = (picks base left right o p).clashes e in
      subst (λ (c : Choice). Agrees c (named k.0 left) (named k.0 right) (named k.0 d)) k.1 (h.each k.0)

  -- and if it is linked, what is picked has an order
  held_arranged : (d : List Statement) → Holds base left right d → Linked d → (ds : List Statement) → picked base left right ≡ some ds → arranged ds ≡ none → ⊥
  held_arranged d h l ds e =
      let k = (picks base left right o p).found ds e in
      order_carried d ds h.once k.once (held_equal base left right d ds h k) l

  -- so there is a plan
  held_planned : names_once base ≡ true → (d : List Statement) → Holds base left right d → Linked d → (new : List Statement) × (plan_of base left right ≡ planned new)
  unfolding plan_of
  held_planned q d h l = rw (q, o, p) (pick (picked base left right) refl)
    where
      order : (ds : List Statement) → picked base left right ≡ some ds → (x : Option (List Statement)) → arranged ds ≡ x → (new : List Statement) × (order_plan x ≡ planned new)
      order ds e none f = absurd (held_arranged d h l ds e f)
      order ds e (some new) f = (new, refl)

      pick : (x : Option (List Statement)) → picked base left right ≡ x → (new : List Statement) × (pick_plan x ≡ planned new)
      pick none e = absurd (held_picked d h e)
      pick (some ds) e = order ds e (arranged ds) refl

-- ---- the hands exchanged: what the one join has the other has

module _ (base left right : List Statement) (o : names_once left ≡ true) (p : names_once right ≡ true) where
  pick_turned : (ds : List Statement) → picked base left right ≡ some ds → picked base right left ≡ none → ⊥
  pick_turned ds e = held_picked base right left p o ds (turned base left right ds ((picks base left right o p).found ds e))

  order_turned : (ds es : List Statement) → picked base left right ≡ some ds → picked base right left ≡ some es → (new : List Statement) → arranged ds ≡ some new → arranged es ≡ none → ⊥
  order_turned ds es e f new a =
      let k = picked_order base left right o p ds new e a in
      held_arranged base right left p o new (turned base left right new k.1) k.2 es f

-- and the tests pass together
holds_turned : (base left right new other d : List Statement) → Holds base left right new → Holds base right left other → holds new d ≡ true → holds other d ≡ true
holds_turned base left right new other d h k e = (tests base right left other d k).back (turned base left right d ((tests base left right new d h).forth e))

-- two options, both there or neither, answered alike
both_there : {A B : Type 0} (f : Option A → B) (x y : Option A) → ((a : A) → x ≡ some a → y ≡ none → ⊥) → ((b : A) → y ≡ some b → x ≡ none → ⊥) → ((a b : A) → x ≡ some a → y ≡ some b → f (some a) ≡ f (some b)) → f x ≡ f y
both_there f none none g h k = refl
both_there f none (some b) g h k = absurd (h b refl refl)
both_there f (some a) none g h k = absurd (g a refl refl)
both_there f (some a) (some b) g h k = k a b refl refl

module _ (s : Settings) (typed : Bytes) (room : ℕ) (base left right : List Statement) where
  abbrev check : Plan → Outcome
  check = check_plan s typed room

  picks_turned : names_once left ≡ true → names_once right ≡ true → check (pick_plan (picked base left right)) ≡ check (pick_plan (picked base right left))
  picks_turned o p = both_there (λ x. check (pick_plan x)) (picked base left right) (picked base right left) (pick_turned base left right o p) (pick_turned base right left p o) orders
    where
      orders : (ds es : List Statement) → picked base left right ≡ some ds → picked base right left ≡ some es → check (order_plan (arranged ds)) ≡ check (order_plan (arranged es))
      orders ds es e f = both_there (λ x. check (order_plan x)) (arranged ds) (arranged es) (order_turned base left right o p ds es e f) (order_turned base right left p o es ds f e) tested
        where
          tested : (new other : List Statement) → arranged ds ≡ some new → arranged es ≡ some other → check (planned new) ≡ check (planned other)
          tested new other a b =
              let h = (picked_order base left right o p ds new e a).1 in
              let k = (picked_order base right left p o es other f b).1 in
              λ i. read_as (λ d. same_bool (holds new d) (holds other d) (holds_turned base left right new other d h k) (holds_turned base right left other new d k h) i) room typed (read s typed)

  plans_turned : check (plan_of base left right) ≡ check (plan_of base right left)
  unfolding plan_of
  plans_turned = go (names_once base) (names_once left) refl (names_once right) refl
    where
      go : (n l : Bool) → names_once left ≡ l → (r : Bool) → names_once right ≡ r
          → check (cond (n && l && r) (pick_plan (picked base left right)) (refused None 29 0)) ≡ check (cond (n && r && l) (pick_plan (picked base right left)) (refused None 29 0))
      go false l o r p = refl
      go true true o true p = picks_turned o p
      go true true o false p = refl
      go true false o true p = refl
      go true false o false p = refl

-- ---- the laws

pub turned_check : TurnedCheckLaw
turned_check s base left right typed room l r el er = go (read s base)
  where
    go : (x : Reading) → check_plan s typed room (plan_read x (read s left) (read s right)) ≡ check_plan s typed room (plan_read x (read s right) (read s left))
    go (reading.refused n p) = refl
    go (accepted b) =
        (λ i. check_plan s typed room (plan_read (accepted b) (el i) (er i))) ∙ plans_turned s typed room (statements b) (statements l) (statements r)
        ∙ sym (λ i. check_plan s typed room (plan_read (accepted b) (er i) (el i)))

pub unchanged_check : UnchangedCheckLaw
unchanged_check s base other room b o eb eo once_b once_o fits =
    let h : Holds (statements b) (statements b) (statements o) (statements o) = record { once = once_o; each = (unchanged (statements b) (statements o)).left } in
    let p = held_planned (statements b) (statements b) (statements o) once_b once_o once_b (statements o) h (accepted_linked s other o (resolved s other o eo).reads) in
    let e = (accepts s base base other other room b b o o eb eb eo p.0 p.1 fits).back eo h in
    (e, sym (turned_check s base base other other room b o eb eo) ∙ e)
