-- Names that stand once: without one of the statements, and in another order.
use mathlib.Core.Bool.{Bool, true, false, cond}
use mathlib.Core.List.{List, [], ◌∷◌, ◌++◌}
use mathlib.Core.Logic.{inl, inr}
use mathlib.Core.Option.{none, some, or_else}
use mathlib.Core.Path.{◌≡◌, refl, ap, sym, ◌∙◌, subst}
use Prim.Native.Nat.{ℕ}
use native.Mathlib.Omega.{arith}
use Rattle.joining.proofs.DefinitionLaws.{named_append, named_behind, named_equal, named_here, none_append, none_cons, once_behind, once_here, once_more}
use Rattle.joining.proofs.MemberLaws.{In}
use Rattle.joining.specs.Arranged.{without_name}
use Rattle.joining.specs.Definition.{named, names_once}
use Rattle.keys.proofs.OrderLaws.{same_sym}
use Rattle.laws.proofs.BytesLaws.{same_eq, same_refl}
use Rattle.laws.specs.Bytes.{Bytes, same}
use Rattle.laws.specs.Shuffle.{Shuffle}
use Rattle.scene.specs.Statement.{Statement}

-- the statement of a name has it
pub named_in : (w : Bytes) (d : List Statement) (s : Statement) → named w d ≡ some s → In s d × (w ≡ s.name)
unfolding named
named_in w [] s e = let z : ◌≡◌ {A = ℕ} 0 1 = cc in absurd (omega arith)
named_in w (t ∷ d) s e = go (same w t.name) refl e (named_in w d s)
  where
    go : (b : Bool) → same w t.name ≡ b → cond b (some t) (named w d) ≡ some s → (named w d ≡ some s → In s d × (w ≡ s.name)) → In s (t ∷ d) × (w ≡ s.name)
    go true q e f = let z : t ≡ s = cc in (inl (sym z), same_eq w t.name q ∙ ap (λ (x : Statement). x.name) z)
    go false q e f = let k = f e in (inr k.0, k.1)

-- ---- without one of them

-- any other name finds the same
pub named_less : (w : Bytes) (xs : List Statement) (c : Statement) (ys : List Statement) → same w c.name ≡ false → named w (xs ++ c ∷ ys) ≡ named w (xs ++ ys)
named_less w xs c ys e = named_append w xs (c ∷ ys) ∙ ap (or_else (named w xs)) (named_behind w c ys e) ∙ sym (named_append w xs ys)

-- no other has its name
pub once_less : (xs : List Statement) (c : Statement) (ys : List Statement) → names_once (xs ++ c ∷ ys) ≡ true → (named c.name (xs ++ ys) ≡ none) × (names_once (xs ++ ys) ≡ true)
once_less [] c ys o = (once_here c ys o, once_behind c ys o)
once_less (x ∷ xs) c ys o =
    let h = once_here x (xs ++ c ∷ ys) o in
    let e = (none_cons x.name c ys (none_append x.name xs (c ∷ ys) h).1).0 in
    let k = once_less xs c ys (once_behind x (xs ++ c ∷ ys) o) in
    (named_behind c.name x (xs ++ ys) (same_sym c.name x.name ∙ e) ∙ k.0, once_more x (xs ++ ys) (sym (named_less x.name xs c ys e) ∙ h) k.1)

without_absent : (w : Bytes) (d : List Statement) → named w d ≡ none → without_name w d ≡ d
unfolding without_name
without_absent w [] e = refl
without_absent w (s ∷ d) e = let k = none_cons w s d e in rw k.0 (ap {B = List Statement} (λ (x : List Statement). s ∷ x) (without_absent w d k.1))

-- its name takes exactly it out
pub without_middle : (xs : List Statement) (c : Statement) (ys : List Statement) → named c.name (xs ++ ys) ≡ none → without_name c.name (xs ++ c ∷ ys) ≡ xs ++ ys
unfolding without_name
without_middle [] c ys e = rw (same_refl c.name) (without_absent c.name ys e)
without_middle (x ∷ xs) c ys e = let k = none_cons c.name x (xs ++ ys) e in rw k.0 (ap {B = List Statement} (λ (z : List Statement). x ∷ z) (without_middle xs c ys k.1))

-- ---- in another order

-- one of them put first
named_first : (w : Bytes) (xs : List Statement) (c : Statement) (ys : List Statement) → named c.name (xs ++ ys) ≡ none → named w (xs ++ c ∷ ys) ≡ named w (c ∷ xs ++ ys)
unfolding or_else
named_first w xs c ys n = go (same w c.name) refl
  where
    found : named c.name (xs ++ c ∷ ys) ≡ some c
    found = named_append c.name xs (c ∷ ys) ∙ rw (none_append c.name xs ys n).0 (named_here c ys)

    go : (b : Bool) → same w c.name ≡ b → named w (xs ++ c ∷ ys) ≡ named w (c ∷ xs ++ ys)
    go true q = named_equal w c.name (xs ++ c ∷ ys) q ∙ found ∙ sym (named_equal w c.name (c ∷ xs ++ ys) q ∙ named_here c (xs ++ ys))
    go false q = named_less w xs c ys q ∙ sym (named_behind w c (xs ++ ys) q)

pub named_shuffle : (w : Bytes) (new old : List Statement) → Shuffle old new → names_once old ≡ true → named w new ≡ named w old
unfolding named
named_shuffle w [] old e o = ap (named w) (sym e)
named_shuffle w (c ∷ new) old (xs, ys, e, s) o =
    let k = once_less xs c ys (subst (λ (d : List Statement). names_once d ≡ true) e o) in
    ap (cond (same w c.name) (some c)) (named_shuffle w new (xs ++ ys) s k.1) ∙ sym (named_first w xs c ys k.0) ∙ ap (named w) (sym e)

pub once_shuffle : (new old : List Statement) → Shuffle old new → names_once old ≡ true → names_once new ≡ true
unfolding names_once
once_shuffle [] old e o = refl
once_shuffle (c ∷ new) old (xs, ys, e, s) o =
    let k = once_less xs c ys (subst (λ (d : List Statement). names_once d ≡ true) e o) in
    once_more c new (named_shuffle c.name new (xs ++ ys) s k.1 ∙ k.0) (once_shuffle new (xs ++ ys) s k.1)
