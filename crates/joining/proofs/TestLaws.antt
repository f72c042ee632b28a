-- What holds the joined definitions passes the test, and nothing else does.
use mathlib.Core.Bool.{Bool, true, false, ◌&&◌, false≢true}
use mathlib.Core.List.{List, [], ◌∷◌, ◌++◌}
use mathlib.Core.Logic.{inl, inr}
use mathlib.Core.Option.{Option, none, some, none-ne-some, some-ne-none}
use mathlib.Core.Path.{◌≡◌, refl, ap, sym, ◌∙◌, subst}
use Prim.Native.Nat.{◌≤◌}
use native.Mathlib.Omega.{arith}
use borrow.Author.Tests.{eq-eqb, eqb-true}
use lib.Dec.{eqb}
use lib.ListN.{length}
use Rattle.joining.proofs.DefinitionLaws.{definition_sym, definition_trans, named_behind, named_equal, named_here, named_later, none_cons, not_same, once_behind, once_here, once_more}
use Rattle.joining.proofs.MemberLaws.{In, in_split, length_middle}
use Rattle.joining.proofs.OnceLaws.{named_in, named_less}
use Rattle.joining.specs.Definition.{named, names_once, same_definition}
use Rattle.joining.specs.Pick.{Agrees, Holds, TestLaw, all_in, choice_for, holds}
use Rattle.joining.specs.declared.Choice.{Choice}
use Rattle.joining.specs.declared.Choice.TheVariants.{Clash, Left, Right}
use Rattle.laws.proofs.BoolLaws.{and_left, and_right}
use Rattle.laws.specs.Bytes.{Bytes, same}
use Rattle.scene.specs.Statement.{Statement}

-- ---- counting names

-- each name of a stands in d
abbrev Within : (a d : List Statement) → Type 0
Within a d = (w : Bytes) → named w d ≡ none → named w a ≡ none

-- one name less in a, and its statement less in d
within_less : (s t : Statement) (a xs ys : List Statement) → names_once (s ∷ a) ≡ true → s.name ≡ t.name → Within (s ∷ a) (xs ++ t ∷ ys) → Within a (xs ++ ys)
within_less s t a xs ys o e f w n = go (same w s.name) refl
  where
    go : (b : Bool) → same w s.name ≡ b → named w a ≡ none
    go true q = named_equal w s.name a q ∙ once_here s a o
    go false q = (none_cons w s a (f w (named_less w xs t ys (ap (same w) (sym e) ∙ q) ∙ n))).1

-- there are no more statements in a than in d
within_count : (a d : List Statement) → names_once a ≡ true → Within a d → length a ≤ length d
within_count [] d o f = omega arith
within_count (s ∷ a) d o f = go (named s.name d) refl (within_count a)
  where
    go : (x : Option Statement) → named s.name d ≡ x → ((e : List Statement) → names_once a ≡ true → Within a e → length a ≤ length e) → length (s ∷ a) ≤ length d
    go none e ih = absurd (some-ne-none s (sym (named_here s a) ∙ f s.name e))
    go (some t) e ih =
        let k = named_in s.name d t e in
        let m = in_split t d k.0 in
        let h = ih (m.0 ++ m.1) (once_behind s a o) (within_less s t a m.0 m.1 o k.1 (subst (Within (s ∷ a)) m.2 f)) in
        omega (arith, h, ap length m.2, length_middle m.0 t m.1)

-- where there are as many, no other name stands in d
within_back : (a d : List Statement) → names_once a ≡ true → Within a d → length a ≡ length d → Within d a
within_back a d o f l w n = go (named w d) refl
  where
    more : (t : Statement) → named t.name d ≡ some t → Within (t ∷ a) d
    more t e v m = named_behind v t a (not_same v t.name (λ q. none-ne-some t (sym m ∙ ap (λ (x : Bytes). named x d) q ∙ e))) ∙ f v m

    go : (x : Option Statement) → named w d ≡ x → x ≡ none
    go none e = refl
    go (some t) e =
        let q = (named_in w d t e).1 in
        let c = within_count (t ∷ a) d (once_more t a (ap (λ (x : Bytes). named x a) (sym q) ∙ n) o) (more t (ap (λ (x : Bytes). named x d) (sym q) ∙ e)) in
        absurd (omega (arith, c, l))

-- ---- defined alike

-- what a defines, d defines alike
abbrev Defined : (a d : List Statement) → Type 0
Defined a d = (w : Bytes) (s : Statement) → named w a ≡ some s → same_definition (some s) (named w d) ≡ true

module _ (d : List Statement) where
  all_defined : (a : List Statement) → all_in a d ≡ true → Defined a d
  unfolding all_in
  all_defined a h w s e = let k = named_in w a s e in subst (λ (x : Bytes). same_definition (some s) (named x d) ≡ true) (sym k.1) (one a h k.0)
    where
      one : (b : List Statement) → all_in b d ≡ true → In s b → same_definition (some s) (named s.name d) ≡ true
      one [] h i = absurd i
      one (t ∷ b) h (inl q) = subst (λ (x : Statement). same_definition (some x) (named x.name d) ≡ true) (sym q) (and_left (same_definition (some t) (named t.name d)) (all_in b d) h)
      one (t ∷ b) h (inr i) = one b (and_right (same_definition (some t) (named t.name d)) (all_in b d) h) i

  defined_all : (a : List Statement) → names_once a ≡ true → Defined a d → all_in a d ≡ true
  unfolding all_in
  defined_all [] o f = refl
  defined_all (s ∷ a) o f = rw (f s.name s (named_here s a)) (defined_all a (once_behind s a o) (λ w t e. f w t (named_later s a o w t e)))

  defined_within : (a : List Statement) → Defined a d → Within a d
  unfolding same_definition
  defined_within a f w n = go (named w a) (f w)
    where
      go : (x : Option Statement) → ((s : Statement) → x ≡ some s → same_definition (some s) (named w d) ≡ true) → x ≡ none
      go none g = refl
      go (some s) g = absurd (false≢true (ap (same_definition (some s)) (sym n) ∙ g s refl))

-- each name is defined alike in both, or in neither
abbrev pub Equal : (a d : List Statement) → Type 0
Equal a d = (w : Bytes) → same_definition (named w a) (named w d) ≡ true

defined_equal : (a d : List Statement) → Defined a d → Within d a → Equal a d
unfolding same_definition
defined_equal a d f g w = go (named w a) refl (f w)
  where
    go : (x : Option Statement) → named w a ≡ x → ((s : Statement) → x ≡ some s → same_definition (some s) (named w d) ≡ true) → same_definition x (named w d) ≡ true
    go none e h = ap (same_definition none) (g w e)
    go (some s) e h = h s refl

equal_defined : (a d : List Statement) → Equal a d → Defined a d
equal_defined a d f w s e = subst (λ (x : Option Statement). same_definition x (named w d) ≡ true) e (f w)

-- ---- the law

module _ (l r x y : Option Statement) where
  agrees_equal : (c : Choice) → Agrees c l r x → Agrees c l r y → same_definition x y ≡ true
  agrees_equal Left h k = definition_trans x l y (definition_sym x l ∙ h) k
  agrees_equal Right h k = definition_trans x r y (definition_sym x r ∙ h) k
  agrees_equal Clash h k = absurd h

  equal_agrees : (c : Choice) → Agrees c l r x → same_definition x y ≡ true → Agrees c l r y
  equal_agrees Left h k = definition_trans l x y h k
  equal_agrees Right h k = definition_trans r x y h k
  equal_agrees Clash h k = h

-- two lists that hold the joined definitions define the same
pub held_equal : (base left right a d : List Statement) → Holds base left right a → Holds base left right d → Equal a d
held_equal base left right a d h k w = agrees_equal (named w left) (named w right) (named w a) (named w d) (choice_for base left right w) (h.each w) (k.each w)

pub tests : TestLaw
unfolding holds
tests base left right these d h = record { forth = forth; back = back }
  where
    forth : holds these d ≡ true → Holds base left right d
    forth t =
        let n = names_once d in
        let b = eqb (length these) (length d) in
        let c = and_left (n && b) (all_in these d) t in
        let f = all_defined d these (and_right (n && b) (all_in these d) t) in
        let g = within_back these d h.once (defined_within d these f) (eqb-true (length these) (length d) (and_right n b c)) in
        record { once = and_left n b c; each = λ w. equal_agrees (named w left) (named w right) (named w these) (named w d) (choice_for base left right w) (h.each w) (defined_equal these d f g w) }

    back : Holds base left right d → holds these d ≡ true
    back k =
        let q = held_equal base left right these d h k in
        let f = equal_defined these d q in
        let g = equal_defined d these (λ w. definition_sym (named w d) (named w these) ∙ q w) in
        let l : length these ≡ length d = omega (arith, within_count these d h.once (defined_within d these f), within_count d these k.once (defined_within these d g)) in
        rw (k.once, eq-eqb (length these) (length d) l) (defined_all d these h.once f)
