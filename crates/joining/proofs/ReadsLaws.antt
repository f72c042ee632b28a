-- The tidy text of what is picked, in its order, reads back and holds the joined definitions.
use mathlib.Core.Bool.{Bool, true, false, not, ◌||◌, cond, false≢true}
use mathlib.Core.List.{List, [], ◌∷◌}
use mathlib.Core.Logic.{◌⊎◌, inl, inr}
use mathlib.Core.Option.{some}
use mathlib.Core.Path.{◌≡◌, refl, sym, subst}
use lib.Dec.{eqb}
use lib.ListN.{length}
use Rattle.joining.proofs.ArrangeLaws.{arrange, order_forth}
use Rattle.joining.proofs.MemberLaws.{In, in_append, shuffle_of}
use Rattle.joining.proofs.OnceLaws.{named_shuffle, once_shuffle}
use Rattle.joining.proofs.PickLaws.{of_left, of_right, picked_some, picks}
use Rattle.joining.specs.Arranged.{arranged, in_order, is_found, ready, target_found}
use Rattle.joining.specs.Definition.{names_once}
use Rattle.joining.specs.Joined.{ReadsLaw}
use Rattle.joining.specs.Pick.{Holds, Taken, picked, with_names}
use Rattle.laws.proofs.BoolLaws.{and_left, and_right}
use Rattle.laws.specs.Bytes.{Bytes, same}
use Rattle.laws.specs.Shuffle.{Shuffle}
use Rattle.scene.proofs.RoomLaws.{fit_back}
use Rattle.scene.proofs.SwapLaws.{Linked, LinkedOne, BodyLink}
use Rattle.scene.specs.Links.{found, head}
use Rattle.scene.specs.Reading.{Entry, accepted, modifier_test, read_statements, statements, target_test}
use Rattle.scene.specs.Statement.{Body, Statement, alias, primitive, void}
use Rattle.scene.specs.declared.Mode.{Mode}
use Rattle.scene.specs.declared.Settings.{Settings}
use Rattle.tidying.proofs.ReadBackLaws.{accepted_proper, tidy_reads}
use Rattle.tidying.specs.Proper.{AllProper, Proper}

-- ---- an order is linked

found_linked : (w : Bytes) (d : List Statement) → is_found w d ≡ true → (modifier_test (head (found w d)) ≡ 0) × (target_test (head (found w d)) ≡ 0)
found_linked w d e = go (found w d) e
  where
    go : (x : List Statement) → not (eqb (length x) 0) ≡ true → (modifier_test (head x) ≡ 0) × (target_test (head x) ≡ 0)
    go [] h = absurd (false≢true h)
    go (s ∷ x) h = (refl, refl)

ready_linked : (d : List Statement) (s : Statement) → ready d s ≡ true → LinkedOne d s
unfolding ready
ready_linked d s e =
    let m = same s.modifier void || is_found s.modifier d in
    record { modifier = above (same s.modifier void) (and_left m (target_found d s.body) e); body = target s.body (and_right m (target_found d s.body) e) }
  where
    above : (b : Bool) → (b || is_found s.modifier d) ≡ true → cond b 0 (modifier_test (head (found s.modifier d))) ≡ 0
    above true h = refl
    above false h = (found_linked s.modifier d h).0

    target : (b : Body) → target_found d b ≡ true → BodyLink d b
    target (primitive t ss rs) h = tt
    target (alias x) h = (found_linked x d h).1

order_linked : (d : List Statement) → in_order d ≡ true → Linked d
order_linked [] h = tt
order_linked (s ∷ d) h = let k = order_forth s d h in (ready_linked d s k.0, order_linked d k.1)

-- ---- what is picked is left's or right's

with_in : (test : Bytes → Bool) (d : List Statement) (s : Statement) → In s (with_names test d) → In s d
unfolding with_names
with_in test [] s i = i
with_in test (t ∷ d) s i = go (test t.name) i (with_in test d s)
  where
    go : (b : Bool) → In s (cond b (t ∷ with_names test d) (with_names test d)) → (In s (with_names test d) → In s d) → In s (t ∷ d)
    go true (inl e) f = inl e
    go true (inr j) f = inr (f j)
    go false j f = inr (f j)

picked_in : (base left right ds : List Statement) → picked base left right ≡ some ds → (s : Statement) → In s ds → In s left ⊎ In s right
picked_in base left right ds e s i = go (in_append (of_left base left right) (of_right base left right) s (subst (In s) (sym (picked_some base left right ds e).1) i))
  where
    go : In s (of_left base left right) ⊎ In s (of_right base left right) → In s left ⊎ In s right
    go (inl j) = inl (with_in _ left s j)
    go (inr j) = inr (with_in _ right s j)

-- ---- proper statements

module _ (m : Mode) where
  proper_one : (d : List Statement) → AllProper m d → (s : Statement) → In s d → Proper m s
  proper_one [] h s i = absurd i
  proper_one (t ∷ d) h s (inl e) = subst (Proper m) (sym e) h.0
  proper_one (t ∷ d) h s (inr i) = proper_one d h.1 s i

  proper_all : (d : List Statement) → ((s : Statement) → In s d → Proper m s) → AllProper m d
  proper_all [] f = tt
  proper_all (t ∷ d) f = (f t (inl refl), proper_all d (λ s i. f s (inr i)))

-- what is picked from accepted texts is proper, in whatever order
pub joined_proper : (r : Settings) (b c : Bytes) (base : List Statement) (left right : List Entry) → read_statements r b ≡ accepted left → read_statements r c ≡ accepted right
    → (ds new : List Statement) → picked base (statements left) (statements right) ≡ some ds → Shuffle ds new → AllProper r.mode new
joined_proper r b c base left right eb ec ds new p k = proper_all r.mode new (λ s i. proper s (picked_in base (statements left) (statements right) ds p s (shuffle_of new ds s k i)))
  where
    proper : (s : Statement) → In s (statements left) ⊎ In s (statements right) → Proper r.mode s
    proper s (inl i) = proper_one r.mode (statements left) (accepted_proper r b left eb) s i
    proper s (inr i) = proper_one r.mode (statements right) (accepted_proper r c right ec) s i

-- ---- the law

holds_shuffle : (base left right ds new : List Statement) → Shuffle ds new → Holds base left right ds → Holds base left right new
holds_shuffle base left right ds new s h = record { once = once_shuffle new ds s h.once; each = λ w. subst (Taken base left right w) (sym (named_shuffle w new ds s h.once)) (h.each w) }

-- what is picked, in its order
pub picked_order : (base left right : List Statement) → names_once left ≡ true → names_once right ≡ true → (ds new : List Statement) → picked base left right ≡ some ds → arranged ds ≡ some new → Shuffle ds new × Holds base left right new × Linked new
picked_order base left right o p ds new e f =
    let h = (picks base left right o p).found ds e in
    let k = (arrange ds h.once).found new f in
    (k.0, holds_shuffle base left right ds new k.0 h, order_linked new k.1)

pub reads_joined : ReadsLaw
reads_joined r a b c base left right ea eb ec ol or ds new p e fits n u =
    let k = picked_order (statements base) (statements left) (statements right) ol or ds new p e in
    let f = joined_proper r b c (statements base) left right eb ec ds new p k.0 in
    let t = tidy_reads r new f (fit_back r new k.2 n u) fits in
    record { entries = t.0; reads = t.1; meant = t.2; holds = k.1 }
