-- Equal definitions are an equivalence, and what stands under a name.
use mathlib.Core.Bool.{Bool, true, false, not, ◌&&◌, cond, false≢true}
use mathlib.Core.List.{List, [], ◌∷◌, ◌++◌}
use mathlib.Core.Logic.{◌⊎◌, inl, inr}
use mathlib.Core.Option.{Option, none, some, or_else, none-ne-some, some-ne-none}
use mathlib.Core.Path.{◌≡◌, refl, ap, sym, ◌∙◌, subst}
use borrow.Author.Tests.{eq-eqb, eqb-true}
use lib.Dec.{eqb}
use lib.Ieee.{Float, binary64, to_bits}
use Rattle.bits.proofs.BitsLaws.{reals_same}
use Rattle.bits.specs.Bits.{same_reals}
use Rattle.content.specs.Content.{same_words}
use Rattle.keys.proofs.OrderLaws.{eqb_sym, same_sym}
use Rattle.laws.proofs.BoolLaws.{and_left, and_right}
use Rattle.laws.proofs.BytesLaws.{same_eq, same_refl}
use Rattle.laws.proofs.CompareLaws.{ByElement}
use Rattle.laws.specs.Bytes.{Bytes, same}
use Rattle.scene.specs.Statement.{Body, Statement, alias, numbers, primitive}
use Rattle.joining.specs.Definition.{named, names_once, same_body, same_definition, stands}

-- ---- an equivalence

abbrev pub Symmetric : {A : Type 0} → (A → A → Bool) → Type 0
Symmetric {A} alike = (x y : A) → alike x y ≡ alike y x

abbrev pub Transitive : {A : Type 0} → (A → A → Bool) → Type 0
Transitive {A} alike = (x y z : A) → alike x y ≡ true → alike y z ≡ true → alike x z ≡ true

-- two tests, each handed on
and_trans : (a b c d : Bool) {e f : Bool} → (a ≡ true → c ≡ true → e ≡ true) → (b ≡ true → d ≡ true → f ≡ true) → (a && b) ≡ true → (c && d) ≡ true → (e && f) ≡ true
and_trans a b c d h k p q = λ i. h (and_left a b p) (and_left c d q) i && k (and_right a b p) (and_right c d q) i

module _ {A : Type 0} {alike : A → A → Bool} {equal : List A → List A → Bool} (c : ByElement alike equal) where
  list_sym : Symmetric alike → Symmetric equal
  list_sym h [] [] = refl
  list_sym h [] (y ∷ ys) = c.second y ys ∙ sym (c.first y ys)
  list_sym h (x ∷ xs) [] = c.first x xs ∙ sym (c.second x xs)
  list_sym h (x ∷ xs) (y ∷ ys) = c.both x xs y ys ∙ (λ i. h x y i && list_sym h xs ys i) ∙ sym (c.both y ys x xs)

  list_trans : Transitive alike → Transitive equal
  list_trans h [] [] zs p q = q
  list_trans h [] (y ∷ ys) zs p q = absurd (false≢true (sym (c.second y ys) ∙ p))
  list_trans h (x ∷ xs) [] zs p q = absurd (false≢true (sym (c.first x xs) ∙ p))
  list_trans h (x ∷ xs) (y ∷ ys) [] p q = absurd (false≢true (sym (c.first y ys) ∙ q))
  list_trans h (x ∷ xs) (y ∷ ys) (z ∷ zs) p q =
      c.both x xs z zs ∙ and_trans (alike x y) (equal xs ys) (alike y z) (equal ys zs) (h x y z) (list_trans h xs ys zs) (sym (c.both x xs y ys) ∙ p) (sym (c.both y ys z zs) ∙ q)

eqb_trans : Transitive eqb
eqb_trans a b c p q = eq-eqb a c (eqb-true a b p ∙ eqb-true b c q)

same_trans : Transitive same
same_trans u v w p q = subst (λ (x : Bytes). same x w ≡ true) (sym (same_eq u v p)) q

by_words : ByElement same same_words
unfolding same_words
by_words = record { neither = refl; second = λ y ys. refl; first = λ x xs. refl; both = λ x xs y ys. refl }

words_same : (ws : List Bytes) → same_words ws ws ≡ true
unfolding same_words
words_same [] = refl
words_same (w ∷ ws) = rw (same_refl w) (words_same ws)

abbrev same_bits : Float → Float → Bool
same_bits x y = eqb (to_bits binary64 x) (to_bits binary64 y)

by_bits : ByElement same_bits same_reals
unfolding same_reals
by_bits = record { neither = refl; second = λ y ys. refl; first = λ x xs. refl; both = λ x xs y ys. refl }

body_same : (b : Body) → same_body b b ≡ true
unfolding same_body
body_same (primitive t ss rs) = rw (eq-eqb t t refl, words_same ss) (reals_same (numbers rs))
body_same (alias x) = same_refl x

body_sym : Symmetric same_body
unfolding same_body
body_sym (primitive t ss rs) (primitive u vs ws) =
    λ i. eqb_sym t u i && list_sym by_words same_sym ss vs i && list_sym by_bits (λ x y. eqb_sym (to_bits binary64 x) (to_bits binary64 y)) (numbers rs) (numbers ws) i
body_sym (primitive t ss rs) (alias y) = refl
body_sym (alias x) (primitive u vs ws) = refl
body_sym (alias x) (alias y) = same_sym x y

body_trans : Transitive same_body
unfolding same_body
body_trans (primitive t ss rs) (primitive u vs ws) (primitive a bs cs) =
    and_trans (eqb t u && same_words ss vs) (same_reals (numbers rs) (numbers ws)) (eqb u a && same_words vs bs) (same_reals (numbers ws) (numbers cs))
    (and_trans (eqb t u) (same_words ss vs) (eqb u a) (same_words vs bs) (eqb_trans t u a) (list_trans by_words same_trans ss vs bs))
    (list_trans by_bits (λ x y z. eqb_trans (to_bits binary64 x) (to_bits binary64 y) (to_bits binary64 z)) (numbers rs) (numbers ws) (numbers cs))
body_trans (primitive t ss rs) (primitive u vs ws) (alias z) = λ p q. q
body_trans (primitive t ss rs) (alias y) c = λ p q. absurd (false≢true p)
body_trans (alias x) (primitive u vs ws) c = λ p q. absurd (false≢true p)
body_trans (alias x) (alias y) (primitive a bs cs) = λ p q. q
body_trans (alias x) (alias y) (alias z) = same_trans x y z

pub definition_same : (x : Option Statement) → same_definition x x ≡ true
unfolding same_definition
definition_same none = refl
definition_same (some s) = rw (same_refl s.modifier) (body_same s.body)

pub definition_sym : Symmetric same_definition
unfolding same_definition
definition_sym none none = refl
definition_sym none (some t) = refl
definition_sym (some s) none = refl
definition_sym (some s) (some t) = λ i. same_sym s.modifier t.modifier i && body_sym s.body t.body i

pub definition_trans : Transitive same_definition
unfolding same_definition
definition_trans none none z = λ p q. q
definition_trans none (some t) z = λ p q. absurd (false≢true p)
definition_trans (some s) none z = λ p q. absurd (false≢true p)
definition_trans (some s) (some t) none = λ p q. q
definition_trans (some s) (some t) (some u) =
    and_trans (same s.modifier t.modifier) (same_body s.body t.body) (same t.modifier u.modifier) (same_body t.body u.body)
    (same_trans s.modifier t.modifier u.modifier) (body_trans s.body t.body u.body)

-- ---- the statement of a name

pub not_same : (v w : Bytes) → (v ≡ w → ⊥) → same v w ≡ false
not_same v w f = go (same v w) refl
  where
    go : (b : Bool) → same v w ≡ b → b ≡ false
    go true e = absurd (f (same_eq v w e))
    go false e = refl

pub named_equal : (v w : Bytes) (d : List Statement) → same v w ≡ true → named v d ≡ named w d
named_equal v w d e = ap (λ (x : Bytes). named x d) (same_eq v w e)

pub named_here : (s : Statement) (d : List Statement) → named s.name (s ∷ d) ≡ some s
unfolding named
named_here s d = rw (same_refl s.name)

module _ (w : Bytes) where
  pub named_behind : (s : Statement) (d : List Statement) → same w s.name ≡ false → named w (s ∷ d) ≡ named w d
  unfolding named
  named_behind s d e = rw e

  -- where none has the name
  pub none_cons : (s : Statement) (d : List Statement) → named w (s ∷ d) ≡ none → (same w s.name ≡ false) × (named w d ≡ none)
  unfolding named
  none_cons s d = go (same w s.name)
    where
      go : (b : Bool) → cond b (some s) (named w d) ≡ none → (b ≡ false) × (named w d ≡ none)
      go true e = absurd (some-ne-none s e)
      go false e = (refl, e)

  -- of two lists
  pub named_append : (a b : List Statement) → named w (a ++ b) ≡ or_else (named w a) (named w b)
  unfolding named or_else
  named_append [] b = refl
  named_append (s ∷ a) b = go (same w s.name) (named_append a b)
    where
      go : (p : Bool) → named w (a ++ b) ≡ or_else (named w a) (named w b) → cond p (some s) (named w (a ++ b)) ≡ or_else (cond p (some s) (named w a)) (named w b)
      go true h = refl
      go false h = h

  pub none_append : (a b : List Statement) → named w (a ++ b) ≡ none → (named w a ≡ none) × (named w b ≡ none)
  unfolding or_else
  none_append a b e = go (named w a) (sym (named_append a b) ∙ e)
    where
      go : (x : Option Statement) → or_else x (named w b) ≡ none → (x ≡ none) × (named w b ≡ none)
      go none h = (refl, h)
      go (some s) h = absurd (some-ne-none s h)

-- ---- names that stand once

module _ (s : Statement) (d : List Statement) where
  pub once_here : names_once (s ∷ d) ≡ true → named s.name d ≡ none
  unfolding names_once
  once_here o = go (named s.name d) (and_left (not (stands (named s.name d))) (names_once d) o)
    where
      go : (x : Option Statement) → not (stands x) ≡ true → x ≡ none
      go none e = refl
      go (some t) e = absurd (false≢true e)

  pub once_behind : names_once (s ∷ d) ≡ true → names_once d ≡ true
  unfolding names_once
  once_behind o = and_right (not (stands (named s.name d))) (names_once d) o

  pub once_more : named s.name d ≡ none → names_once d ≡ true → names_once (s ∷ d) ≡ true
  unfolding names_once
  once_more e o = rw e o

  -- a name found behind s is not that of s
  pub named_later : names_once (s ∷ d) ≡ true → (w : Bytes) (t : Statement) → named w d ≡ some t → named w (s ∷ d) ≡ some t
  named_later o w t e = named_behind w s d (not_same w s.name (λ q. none-ne-some t (sym (once_here o) ∙ sym (ap (λ (x : Bytes). named x d) q) ∙ e))) ∙ e

-- where no name stands in both
pub once_append : (a b : List Statement) → names_once a ≡ true → names_once b ≡ true → ((w : Bytes) → (named w a ≡ none) ⊎ (named w b ≡ none)) → names_once (a ++ b) ≡ true
unfolding or_else
once_append [] b o p apart = p
once_append (s ∷ a) b o p apart = once_more s (a ++ b) (new (apart s.name)) (once_append a b (once_behind s a o) p (λ w. less w (apart w)))
  where
    new : (named s.name (s ∷ a) ≡ none) ⊎ (named s.name b ≡ none) → named s.name (a ++ b) ≡ none
    new (inl e) = absurd (some-ne-none s (sym (named_here s a) ∙ e))
    new (inr e) = named_append s.name a b ∙ rw (once_here s a o) e

    less : (w : Bytes) → (named w (s ∷ a) ≡ none) ⊎ (named w b ≡ none) → (named w a ≡ none) ⊎ (named w b ≡ none)
    less w (inl e) = inl (none_cons w s a e).1
    less w (inr e) = inr e
