-- Statements have an order where some linked list, such as that of an accepted text, has equal definitions.
use mathlib.Core.Bool.{Bool, true, false, not, ◌&&◌, ◌||◌, cond, false≢true}
use mathlib.Core.List.{List, [], ◌∷◌, ◌++◌}
use mathlib.Core.Logic.{inl, inr}
use mathlib.Core.Option.{Option, none, some, none-ne-some}
use mathlib.Core.Path.{◌≡◌, refl, ap, sym, ◌∙◌, subst}
use Prim.Native.Nat.{ℕ}
use native.Mathlib.Omega.{arith}
use borrow.Author.Tests.{eqb-true, ne_eqb}
use lib.Dec.{eqb}
use lib.ListN.{length}
use Rattle.bits.specs.Bits.{same_reals}
use Rattle.content.specs.Content.{same_words}
use Rattle.joining.proofs.ArrangeLaws.{arrange, found_hit, hit_found, order_back}
use Rattle.joining.proofs.DefinitionLaws.{definition_same, named_behind, named_equal, named_here, named_later, once_behind, once_here}
use Rattle.joining.proofs.MemberLaws.{In, in_split}
use Rattle.joining.proofs.OnceLaws.{named_in, named_less, named_shuffle, once_less}
use Rattle.joining.proofs.TestLaws.{Equal}
use Rattle.joining.specs.Arranged.{arranged, in_order, is_found, ready, target_found}
use Rattle.joining.specs.Definition.{named, names_once, same_body, same_definition}
use Rattle.laws.proofs.BoolLaws.{and_left, and_right}
use Rattle.laws.proofs.BytesLaws.{same_eq}
use Rattle.laws.specs.Bytes.{Bytes, same}
use Rattle.laws.specs.Shuffle.{Shuffle}
use Rattle.scene.proofs.PropertyLaws.{modifier_defined, target_defined}
use Rattle.scene.proofs.SwapLaws.{Linked, LinkedOne, BodyLink, hits_of, hits_true}
use Rattle.scene.specs.Links.{definition, found, gives, head, is_definition}
use Rattle.scene.specs.Reading.{modifier_test}
use Rattle.scene.specs.Statement.{Body, Literal, Statement, alias, numbers, primitive, void}

-- ---- what equal definitions share

-- what is said of a body by its type or its target alone is said of both
body_alike : {A : Type 0} (f : Body → A) → ((t : ℕ) (ss vs : List Bytes) (rs ws : List Literal) → f (primitive t ss rs) ≡ f (primitive t vs ws)) → (b c : Body) → same_body b c ≡ true → f b ≡ f c
unfolding same_body
body_alike f g (primitive t ss rs) (primitive u vs ws) e =
    let k = and_left (eqb t u) (same_words ss vs) (and_left (eqb t u && same_words ss vs) (same_reals (numbers rs) (numbers ws)) e) in
    g t ss vs rs ws ∙ ap (λ n. f (primitive n vs ws)) (eqb-true t u k)
body_alike f g (primitive t ss rs) (alias y) e = absurd (false≢true e)
body_alike f g (alias x) (primitive u vs ws) e = absurd (false≢true e)
body_alike f g (alias x) (alias y) e = ap (λ w. f (alias w)) (same_eq x y e)

module _ (s t : Statement) (e : same_definition (some s) (some t) ≡ true) where
  equal_parts : (s.modifier ≡ t.modifier) × (same_body s.body t.body ≡ true)
  unfolding same_definition
  equal_parts =
      let m = same s.modifier t.modifier in
      let b = same_body s.body t.body in
      (same_eq s.modifier t.modifier (and_left m b e), and_right m b e)

  equal_gives : gives s ≡ gives t
  unfolding gives
  equal_gives = body_alike is_definition (λ n ss vs rs ws. refl) s.body t.body equal_parts.1

  equal_ready : (d : List Statement) → ready d s ≡ ready d t
  unfolding ready
  equal_ready d =
      let b = body_alike (target_found d) (λ n ss vs rs ws. refl) s.body t.body equal_parts.1 in
      λ i. (same (equal_parts.0 i) void || is_found (equal_parts.0 i) d) && b i

-- ---- lists that define the same

in_named : (s : Statement) (d : List Statement) → names_once d ≡ true → In s d → named s.name d ≡ some s
in_named s [] o i = absurd i
in_named s (t ∷ d) o (inl e) = subst (λ (x : Statement). named x.name (t ∷ d) ≡ some x) (sym e) (named_here t d)
in_named s (t ∷ d) o (inr i) = named_later t d o s.name s (in_named s d (once_behind t d o) i)

-- the statement of a name, defined as s is
record Counterpart (w : Bytes) (s : Statement) (d : List Statement) : Type 0 where
  statement : Statement
  there : In statement d
  name : w ≡ statement.name
  alike : same_definition (some s) (some statement) ≡ true

module _ (d new : List Statement) (q : Equal d new) where
  counterpart : (w : Bytes) (s : Statement) → named w d ≡ some s → Counterpart w s new
  unfolding same_definition
  counterpart w s e = go (named w new) refl (subst (λ (x : Option Statement). same_definition x (named w new) ≡ true) e (q w))
    where
      go : (x : Option Statement) → named w new ≡ x → same_definition (some s) x ≡ true → Counterpart w s new
      go none f h = absurd (false≢true h)
      go (some t) f h = let k = named_in w new t f in record { statement = t; there = k.0; name = k.1; alike = h }

  -- counterparts are both surfaces or neither is, so no name is lost
  found_equal : names_once d ≡ true → (w : Bytes) → is_found w d ≡ true → is_found w new ≡ true
  found_equal o w e =
      let k = found_hit w d e in
      let h = hits_true w k.0 k.2 in
      let c = counterpart w k.0 (ap (λ (x : Bytes). named x d) h.1 ∙ in_named k.0 d o k.1) in
      hit_found w new c.statement c.there (hits_of w c.statement (sym (equal_gives k.0 c.statement c.alike) ∙ h.0) c.name)

-- as they do without a statement and its counterpart
equal_less : (s t : Statement) (d xs ys : List Statement) → names_once (s ∷ d) ≡ true → s.name ≡ t.name → named t.name (xs ++ ys) ≡ none → Equal (s ∷ d) (xs ++ t ∷ ys) → Equal d (xs ++ ys)
equal_less s t d xs ys o e n q w = go (same w s.name) refl
  where
    go : (b : Bool) → same w s.name ≡ b → same_definition (named w d) (named w (xs ++ ys)) ≡ true
    go true f =
        let v = named_equal w s.name d f ∙ once_here s d o in
        let u = named_equal w s.name (xs ++ ys) f ∙ ap (λ (x : Bytes). named x (xs ++ ys)) e ∙ n in
        (λ i. same_definition (v i) (u i)) ∙ definition_same none
    go false f =
        let v = named_behind w s d f in
        let u = named_less w xs t ys (ap (same w) (sym e) ∙ f) in
        sym (λ i. same_definition (v i) (u i)) ∙ q w

equal_nothing : (d : List Statement) → Equal [] d → d ≡ []
unfolding named same_definition
equal_nothing [] q = refl
equal_nothing (t ∷ d) q = absurd (false≢true (sym (ap (same_definition none) (named_here t d)) ∙ q t.name))

-- ---- the order of one, carried to the other

-- what is linked is ready wherever no less is found
linked_ready : (d new : List Statement) → ((w : Bytes) → is_found w d ≡ true → is_found w new ≡ true) → (s : Statement) → LinkedOne d s → ready new s ≡ true
unfolding ready
linked_ready d new f s l = rw (modifier (same s.modifier void) l.modifier) (target s.body l.body)
  where
    defined : (w : Bytes) → (t : Statement) × (definition w d ≡ some t) → is_found w new ≡ true
    defined w k = f w (go (found w d) k.1)
      where
        go : (x : List Statement) → head x ≡ some k.0 → not (eqb (length x) 0) ≡ true
        go [] e = absurd (none-ne-some k.0 e)
        go (u ∷ x) e = rw (ne_eqb (length (u ∷ x)) 0 (λ z. omega (arith, z)))

    modifier : (b : Bool) → cond b 0 (modifier_test (definition s.modifier d)) ≡ 0 → (b || is_found s.modifier new) ≡ true
    modifier true h = refl
    modifier false h = defined s.modifier (modifier_defined (definition s.modifier d) h)

    target : (b : Body) → BodyLink d b → target_found new b ≡ true
    target (primitive t ss rs) h = refl
    target (alias x) h = defined x (target_defined (definition x d) h)

-- the counterparts, each where its statement stood
carried : (d ds : List Statement) → names_once d ≡ true → names_once ds ≡ true → Equal d ds → Linked d → (new : List Statement) × Shuffle ds new × (in_order new ≡ true)
unfolding in_order
carried [] ds o p q l = ([], equal_nothing ds q, refl)
carried (s ∷ d) ds o p q l =
    let c = counterpart (s ∷ d) ds q s.name s (named_here s d) in
    let t = c.statement in
    let k = in_split t ds c.there in
    let rest = k.0 ++ k.1 in
    let n = once_less k.0 t k.1 (subst (λ (x : List Statement). names_once x ≡ true) k.2 p) in
    let e = equal_less s t d k.0 k.1 o c.name n.0 (subst (Equal (s ∷ d)) k.2 q) in
    let h = once_behind s d o in
    let r = carried d rest h n.1 e l.1 in
    let f = found_equal d r.0 (λ w. ap (same_definition (named w d)) (named_shuffle w r.0 rest r.1 n.1) ∙ e w) h in
    (t ∷ r.0, (k.0, k.1, k.2, r.1), order_back t r.0 (sym (equal_ready s t c.alike r.0) ∙ linked_ready d r.0 f s l.0) r.2)

pub order_carried : (d ds : List Statement) → names_once d ≡ true → names_once ds ≡ true → Equal d ds → Linked d → arranged ds ≡ none → ⊥
order_carried d ds o p q l e = let k = carried d ds o p q l in (arrange ds p).stuck e k.0 k.1 k.2
