-- Which two statements keep their order, as a few tests.
use mathlib.Core.Bool.{Bool, true, false, cond, ◌&&◌, ◌||◌, or-false}
use mathlib.Core.List.{List, [], ◌∷◌, ◌++◌, append-nil}
use mathlib.Core.Path.{◌≡◌, refl, ap, ◌∙◌}
use Rattle.laws.specs.Bytes.{Bytes, same}
use Rattle.scene.specs.Block.{given, referred, share, stands, targets}
use Rattle.scene.specs.Links.{gives}
use Rattle.scene.specs.Statement.{Statement, void}

stands_append : (w : Bytes) (xs ys : List Bytes) → stands w (xs ++ ys) ≡ (stands w xs || stands w ys)
unfolding stands
stands_append w [] ys = refl
stands_append w (x ∷ xs) ys = go (same w x) (stands_append w xs ys)
  where
    go : (b : Bool) → stands w (xs ++ ys) ≡ (stands w xs || stands w ys) → (b || stands w (xs ++ ys)) ≡ (b || stands w xs || stands w ys)
    go true e = refl
    go false e = e

-- the word of a modifier, unless `void`
abbrev pub modifiers : Statement → List Bytes
modifiers s = cond (same s.modifier void) [] (s.modifier ∷ [])

-- a statement refers to a name by its modifier or its target
pub stands_referred : (w : Bytes) (s : Statement) → stands w (referred (s ∷ [])) ≡ (stands w (modifiers s) || stands w (targets s.body))
unfolding referred
stands_referred w s = ap (stands w) (append-nil (modifiers s ++ targets s.body)) ∙ stands_append w (modifiers s) (targets s.body)

-- what one statement gives
pub share_given : (s : Statement) (ys : List Bytes) → share (given (s ∷ [])) ys ≡ (gives s && stands s.name ys)
unfolding share given
share_given s ys = go (gives s)
  where
    go : (b : Bool) → share (cond b (s.name ∷ []) []) ys ≡ (b && stands s.name ys)
    go true = or-false (stands s.name ys)
    go false = refl

stands_given : (w : Bytes) (s : Statement) → stands w (given (s ∷ [])) ≡ (gives s && same w s.name)
unfolding stands given
stands_given w s = go (gives s)
  where
    go : (b : Bool) → stands w (cond b (s.name ∷ []) []) ≡ (b && same w s.name)
    go true = or-false (same w s.name)
    go false = refl

-- one gives a name that the other gives or refers to
pub given_shared : (s t : Statement) → share (given (s ∷ [])) (given (t ∷ []) ++ referred (t ∷ [])) ≡ (gives s && (gives t && same s.name t.name || stands s.name (referred (t ∷ []))))
given_shared s t = share_given s (given (t ∷ []) ++ referred (t ∷ [])) ∙ ap (λ (b : Bool). gives s && b) (stands_append s.name (given (t ∷ [])) (referred (t ∷ [])) ∙ ap (λ (b : Bool). b || stands s.name (referred (t ∷ []))) (stands_given s.name t))
