-- An order is found exactly where there is one.
use mathlib.Core.Bool.{Bool, true, false, not, ◌||◌, cond, false≢true}
use mathlib.Core.List.{List, [], ◌∷◌, ◌++◌, append_assoc, append-nil}
use mathlib.Core.Logic.{◌⊎◌, inl, inr}
use mathlib.Core.Option.{Option, none, some}
use mathlib.Core.Path.{◌≡◌, refl, ap, sym, ◌∙◌, subst}
use Prim.Native.Nat.{ℕ, zero, suc}
use native.Mathlib.Omega.{arith}
use borrow.Author.Tests.{ne_eqb}
use lib.Dec.{eqb}
use lib.ListN.{length}
use Rattle.joining.proofs.MemberLaws.{In, in_more, in_less, in_split, length_middle, shuffle_in, shuffle_of, shuffle_more}
use Rattle.joining.proofs.OnceLaws.{once_less, without_middle}
use Rattle.joining.specs.Arranged.{and_then, arranged, arranged_from, in_order, is_found, least_ready, lesser, ready, target_found, without_name}
use Rattle.joining.specs.Definition.{names_once}
use Rattle.joining.specs.Joined.{ArrangeLaw}
use Rattle.keys.specs.Key.{lower}
use Rattle.laws.proofs.BoolLaws.{and_left, and_right}
use Rattle.laws.specs.Bytes.{Bytes, same}
use Rattle.laws.specs.Shuffle.{Shuffle}
use Rattle.scene.specs.Links.{found, hits}
use Rattle.scene.specs.Statement.{Body, Statement, alias, primitive, void}

-- ---- what stands above

pub found_hit : (w : Bytes) (d : List Statement) → is_found w d ≡ true → (s : Statement) × In s d × (hits w s ≡ true)
unfolding found
found_hit w [] e = absurd (false≢true e)
found_hit w (s ∷ d) e = go (hits w s) refl e (found_hit w d)
  where
    go : (b : Bool) → hits w s ≡ b → not (eqb (length (cond b (s ∷ d) (found w d))) 0) ≡ true → (is_found w d ≡ true → (t : Statement) × In t d × (hits w t ≡ true)) → (t : Statement) × In t (s ∷ d) × (hits w t ≡ true)
    go true q e f = (s, inl refl, q)
    go false q e f = let k = f e in (k.0, inr k.1, k.2)

pub hit_found : (w : Bytes) (d : List Statement) (s : Statement) → In s d → hits w s ≡ true → is_found w d ≡ true
unfolding found
hit_found w [] s i h = absurd i
hit_found w (t ∷ d) s i h = go (hits w t) refl i (λ j. hit_found w d s j h)
  where
    go : (b : Bool) → hits w t ≡ b → In s (t ∷ d) → (In s d → is_found w d ≡ true) → not (eqb (length (cond b (t ∷ d) (found w d))) 0) ≡ true
    go true q j f = rw (ne_eqb (suc (length d)) 0 (λ e. omega (arith, e)))
    go false q (inl e) f = absurd (false≢true (sym q ∙ ap (hits w) (sym e) ∙ h))
    go false q (inr j) f = f j

-- more above find at least as much
module _ (d above : List Statement) (more : (s : Statement) → In s d → In s above) where
  found_more : (w : Bytes) → is_found w d ≡ true → is_found w above ≡ true
  found_more w e = let k = found_hit w d e in hit_found w above k.0 (more k.0 k.1) k.2

  ready_more : (s : Statement) → ready d s ≡ true → ready above s ≡ true
  unfolding ready
  ready_more s e =
      let m = same s.modifier void || is_found s.modifier d in
      rw (modifier (same s.modifier void) (and_left m (target_found d s.body) e)) (target s.body (and_right m (target_found d s.body) e))
    where
      modifier : (b : Bool) → (b || is_found s.modifier d) ≡ true → (b || is_found s.modifier above) ≡ true
      modifier true h = refl
      modifier false h = found_more s.modifier h

      target : (b : Body) → target_found d b ≡ true → target_found above b ≡ true
      target (primitive t ss rs) h = refl
      target (alias x) h = found_more x h

pub order_forth : (s : Statement) (d : List Statement) → in_order (s ∷ d) ≡ true → (ready d s ≡ true) × (in_order d ≡ true)
unfolding in_order
order_forth s d e = (and_left (ready d s) (in_order d) e, and_right (ready d s) (in_order d) e)

pub order_back : (s : Statement) (d : List Statement) → ready d s ≡ true → in_order d ≡ true → in_order (s ∷ d) ≡ true
unfolding in_order
order_back s d h e = rw h e

-- ---- the least that is ready

none_ready : (d left : List Statement) → least_ready d left ≡ none → (s : Statement) → In s left → ready d s ≡ true → ⊥
unfolding least_ready
none_ready d [] e s i h = i
none_ready d (t ∷ left) e s i h = go (ready d t) refl e i (λ q j. none_ready d left q s j h)
  where
    go : (b : Bool) → ready d t ≡ b → cond b (some (lesser t (least_ready d left))) (least_ready d left) ≡ none → In s (t ∷ left) → (least_ready d left ≡ none → In s left → ⊥) → ⊥
    go true q e j f = let z : ◌≡◌ {A = ℕ} 0 1 = cc in absurd (omega arith)
    go false q e (inl z) f = false≢true (sym q ∙ ap (ready d) (sym z) ∙ h)
    go false q e (inr j) f = f e j

-- one of those left that is ready
abbrev Next : (above left : List Statement) → Statement → Type 0
Next d left s = In s left × (ready d s ≡ true)

least_next : (d left : List Statement) (s : Statement) → least_ready d left ≡ some s → Next d left s
unfolding least_ready
least_next d [] s e = let z : ◌≡◌ {A = ℕ} 0 1 = cc in absurd (omega arith)
least_next d (t ∷ left) s e = go (ready d t) refl (least_ready d left) e (least_next d left)
  where
    later : (u : Statement) → Next d left u → Next d (t ∷ left) u
    later u k = (inr k.0, k.1)

    pick : (u : Statement) (b : Bool) → ready d t ≡ true → Next d left u → Next d (t ∷ left) (cond b u t)
    pick u true q k = later u k
    pick u false q k = (inl refl, q)

    this : (x : Option Statement) → ready d t ≡ true → ((u : Statement) → x ≡ some u → Next d left u) → Next d (t ∷ left) (lesser t x)
    this none q f = (inl refl, q)
    this (some u) q f = pick u (lower u.name t.name) q (f u refl)

    go : (b : Bool) → ready d t ≡ b → (x : Option Statement) → cond b (some (lesser t x)) x ≡ some s → ((u : Statement) → x ≡ some u → Next d left u) → Next d (t ∷ left) s
    go true q x e f = let z : lesser t x ≡ s = cc in subst (Next d (t ∷ left)) z (this x q f)
    go false q x e f = later s (f s e)

-- it stands among those left, and these without it
record Taken (d left : List Statement) (s : Statement) : Type 0 where
  fit : ready d s ≡ true
  front : List Statement
  back : List Statement
  old : left ≡ front ++ s ∷ back
  new : without_name s.name left ≡ front ++ back
  once : names_once (without_name s.name left) ≡ true

taken : (d left : List Statement) (s : Statement) → names_once left ≡ true → least_ready d left ≡ some s → Taken d left s
taken d left s h e =
    let n = least_next d left s e in
    let k = in_split s left n.0 in
    let o = once_less k.0 s k.1 (subst (λ (x : List Statement). names_once x ≡ true) k.2 h) in
    let q = ap (without_name s.name) k.2 ∙ without_middle k.0 s k.1 o.0 in
    record { fit = n.1; front = k.0; back = k.1; old = k.2; new = q; once = ap names_once q ∙ o.1 }

one_less : (d left : List Statement) (s : Statement) (n : ℕ) → Taken d left s → length left ≡ suc n → length (without_name s.name left) ≡ n
one_less d left s n t e = omega (arith, ap length t.old, ap length t.new, length_middle t.front s t.back, e)

-- ---- what is found is an order

-- those left, in another order, stand in front of those above
record Reached (d left new : List Statement) : Type 0 where
  later : List Statement
  whole : new ≡ later ++ d
  shuffled : Shuffle left later
  ordered : in_order new ≡ true

reached_more : (d left : List Statement) (s : Statement) (new : List Statement) → Taken d left s → Reached (s ∷ d) (without_name s.name left) new → Reached d left new
reached_more d left s new t r =
    let h : Shuffle (t.front ++ t.back) (r.later ++ []) = subst (Shuffle (t.front ++ t.back)) (sym (append-nil r.later)) (subst (λ (x : List Statement). Shuffle x r.later) t.new r.shuffled) in
    record {
      later = r.later ++ s ∷ [];
      whole = r.whole ∙ sym (append_assoc r.later (s ∷ []) d);
      shuffled = subst (λ (x : List Statement). Shuffle x (r.later ++ s ∷ [])) (sym t.old) (shuffle_more s r.later [] t.front t.back h);
      ordered = r.ordered;
    }

reached : (n : ℕ) (d left new : List Statement) → length left ≡ n → names_once left ≡ true → in_order d ≡ true → arranged_from n d left ≡ some new → Reached d left new
unfolding arranged_from
reached zero d [] new l o h e = let z : d ≡ new = cc in record { later = []; whole = sym z; shuffled = refl; ordered = ap in_order (sym z) ∙ h }
reached zero d (t ∷ left) new l o h e = absurd (omega (arith, l))
reached (suc n) d left new l o h e = go (least_ready d left) refl e (reached n)
  where
    go : (x : Option Statement) → least_ready d left ≡ x → and_then (arranged_from n) d left x ≡ some new → ((d left new : List Statement) → length left ≡ n → names_once left ≡ true → in_order d ≡ true → arranged_from n d left ≡ some new → Reached d left new) → Reached d left new
    go none q e f = let z : ◌≡◌ {A = ℕ} 0 1 = cc in absurd (omega arith)
    go (some s) q e f = let t = taken d left s o q in reached_more d left s new t (f (s ∷ d) (without_name s.name left) new (one_less d left s n t l) t.once (order_back s d t.fit h) e)

-- ---- where none is found there is none

-- all of an order stand above or are left, and those left are in it
record Open (d left order : List Statement) : Type 0 where
  all : (s : Statement) → In s left → In s order
  only : (s : Statement) → In s order → In s d ⊎ In s left

-- nothing is ready: then an order has none of those left, for its earliest one would be
blocked : (d left order : List Statement) → ((s : Statement) → In s left → ready d s ≡ true → ⊥) → in_order order ≡ true → ((s : Statement) → In s order → In s d ⊎ In s left) → (s : Statement) → In s order → In s d × (In s left → ⊥)
blocked d left [] f h c s i = absurd i
blocked d left (t ∷ order) f h c s i = let k = order_forth t order h in go k.0 (blocked d left order f k.1 (λ u j. c u (inr j))) i
  where
    above : (In s left → ⊥) → In s d ⊎ In s left → In s d
    above g (inl j) = j
    above g (inr j) = absurd (g j)

    go : ready order t ≡ true → ((u : Statement) → In u order → In u d × (In u left → ⊥)) → In s (t ∷ order) → In s d × (In s left → ⊥)
    go r g (inl e) =
        let never : In s left → ⊥ = λ j. f s j (ap (ready d) e ∙ ready_more order d (λ u x. (g u x).0) t r) in
        (above never (c s (inl e)), never)
    go r g (inr j) = g s j

open_less : (d left order : List Statement) (s : Statement) → Taken d left s → Open d left order → Open (s ∷ d) (without_name s.name left) order
open_less d left order s t o = record { all = λ u i. o.all u (subst (In u) (sym t.old) (in_more t.front s t.back u (subst (In u) t.new i))); only = λ u i. sort u (o.only u i) }
  where
    part : (u : Statement) → (u ≡ s) ⊎ In u (t.front ++ t.back) → In u (s ∷ d) ⊎ In u (without_name s.name left)
    part u (inl e) = inl (inl e)
    part u (inr i) = inr (subst (In u) (sym t.new) i)

    sort : (u : Statement) → In u d ⊎ In u left → In u (s ∷ d) ⊎ In u (without_name s.name left)
    sort u (inl i) = inl (inr i)
    sort u (inr i) = part u (in_less t.front s t.back u (subst (In u) t.old i))

some_left : (left : List Statement) (n : ℕ) → length left ≡ suc n → (s : Statement) × In s left
some_left [] n e = absurd (omega (arith, e))
some_left (s ∷ left) n e = (s, inl refl)

no_order : (n : ℕ) (d left order : List Statement) → length left ≡ n → names_once left ≡ true → arranged_from n d left ≡ none → in_order order ≡ true → Open d left order → ⊥
unfolding arranged_from
no_order zero d left order l o e h c = let z : ◌≡◌ {A = ℕ} 0 1 = cc in absurd (omega arith)
no_order (suc n) d left order l o e h c = go (least_ready d left) refl e (no_order n)
  where
    go : (x : Option Statement) → least_ready d left ≡ x → and_then (arranged_from n) d left x ≡ none → ((d left order : List Statement) → length left ≡ n → names_once left ≡ true → arranged_from n d left ≡ none → in_order order ≡ true → Open d left order → ⊥) → ⊥
    go none q e f = let s = some_left left n l in (blocked d left order (none_ready d left q) h c.only s.0 (c.all s.0 s.1)).1 s.1
    go (some s) q e f = let t = taken d left s o q in f (s ∷ d) (without_name s.name left) order (one_less d left s n t l) t.once e h (open_less d left order s t c)

-- ---- the law

pub arrange : ArrangeLaw
unfolding arranged in_order
arrange ds o = record { found = first; stuck = λ e new s h. no_order (length ds) [] ds new refl o e h (record { all = λ t i. shuffle_in new ds t s i; only = λ t i. inr (shuffle_of new ds t s i) }) }
  where
    first : (new : List Statement) → arranged ds ≡ some new → Shuffle ds new × (in_order new ≡ true)
    first new e =
        let r = reached (length ds) [] ds new refl o refl e in
        (subst (Shuffle ds) (sym (r.whole ∙ append-nil r.later)) r.shuffled, r.ordered)
