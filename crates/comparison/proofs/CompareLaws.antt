-- A scene against itself, the sides exchanged, and one state for each key.
use mathlib.Core.Bool.{Bool, true, false, cond, ◌||◌, false≢true}
use mathlib.Core.List.{List, [], ◌∷◌, map}
use mathlib.Core.Path.{◌≡◌, refl, ap, sym, ◌∙◌}
use Prim.Native.Nat.{suc, ◌+◌, ◌≤◌}
use native.Mathlib.Omega.{arith}
use lib.ListN.{length}
use Rattle.laws.proofs.BoolLaws.{cond_elim}
use Rattle.scene.specs.Told.{Told}
use Rattle.content.proofs.ContentLaws.{content_same, content_sym}
use Rattle.content.specs.Content.{Content, content_of, same_content}
use Rattle.keys.proofs.KeyLaws.{keys_most, keys_stand, keys_turned}
use Rattle.comparison.specs.Compare.{State, absent, left, right, changed, alike, state_at, state_of, Line, line, lines_for, compared, turned, turned_line}
use Rattle.keys.specs.Key.{Key, found, is_found, keys_of}
use Rattle.keys.specs.Properties.{stands_in}

-- ---- a state that prints nothing

abbrev pub Quiet : State → Type 0
Quiet s = (k : Key) (rest : List Line) → line s k rest ≡ rest

quiet_lines : (l r : List Told) → ((k : Key) → Quiet (state_of l r k)) → (ks : List Key) → lines_for l r ks ≡ []
unfolding lines_for
quiet_lines l r h [] = refl
quiet_lines l r h (k ∷ ks) = h k k (lines_for l r ks) ∙ quiet_lines l r h ks

pub quiet_compared : (l r : List Told) → ((k : Key) → Quiet (state_of l r k)) → compared l r ≡ []
unfolding compared
quiet_compared l r h = quiet_lines l r h (keys_of l r)

-- equal content is quiet
pub quiet_alike : (l r : List Told) (t u : Told) (d e : List Told) → content_of l t ≡ content_of r u → Quiet (state_at l r (t ∷ d) (u ∷ e))
quiet_alike l r t u d e q k rest = ap (λ (b : Bool). line (cond b alike changed) k rest) (ap (λ (c : Content). same_content (content_of l t) c) (sym q) ∙ content_same (content_of l t))

-- ---- a scene against itself gives nothing

pub compare_self : (d : List Told) → compared d d ≡ []
compare_self d = quiet_compared d d (λ k. quiet (found k d))
  where
    quiet : (x : List Told) → Quiet (state_at d d x x)
    quiet [] k rest = refl
    quiet (t ∷ x) k rest = quiet_alike d d t t x x refl k rest

-- ---- the sides exchanged

state_turned : (l r x y : List Told) → state_at r l y x ≡ turned (state_at l r x y)
state_turned l r [] [] = refl
state_turned l r [] (u ∷ y) = refl
state_turned l r (t ∷ x) [] = refl
state_turned l r (t ∷ x) (u ∷ y) = ap (λ (b : Bool). cond {A = State} b alike changed) (content_sym (content_of r u) (content_of l t)) ∙ go (same_content (content_of l t) (content_of r u))
  where
    go : (b : Bool) → cond b alike changed ≡ turned (cond b alike changed)
    go true = refl
    go false = refl

line_turned : (s : State) (k : Key) (rest : List Line) → line (turned s) k (map turned_line rest) ≡ map turned_line (line s k rest)
line_turned absent k rest = refl
line_turned left k rest = refl
line_turned right k rest = refl
line_turned changed k rest = refl
line_turned alike k rest = refl

lines_turned : (l r : List Told) (ks : List Key) → lines_for r l ks ≡ map turned_line (lines_for l r ks)
unfolding lines_for
lines_turned l r [] = refl
lines_turned l r (k ∷ ks) = (λ i. line (state_turned l r (found k l) (found k r) i) k (lines_turned l r ks i)) ∙ line_turned (state_of l r k) k (lines_for l r ks)

-- left and right change places, and nothing else does
pub compare_turned : (l r : List Told) → compared r l ≡ map turned_line (compared l r)
unfolding compared
compare_turned l r = ap (lines_for r l) (keys_turned l r) ∙ lines_turned l r (keys_of l r)

-- ---- one state for each key

-- the state of a key that stands in either scene
abbrev present : State → Bool
present absent = false
present left = true
present right = true
present changed = true
present alike = true

-- a key that stands has a state other than absent: the one that `state_of` gives
pub one_state : (l r : List Told) (k : Key) → stands_in k (keys_of l r) ≡ true → state_of l r k ≡ absent → ⊥
one_state l r k h e = false≢true (ap present (sym e) ∙ go (found k l) (found k r) ∙ sym (keys_stand l r k) ∙ h)
  where
    go : (x y : List Told) → present (state_at l r x y) ≡ (is_found x || is_found y)
    go [] [] = refl
    go (t ∷ x) [] = refl
    go [] (u ∷ y) = refl
    go (t ∷ x) (u ∷ y) = cond_elim (λ (s : State). present s ≡ true) (same_content (content_of l t) (content_of r u)) refl refl

-- ---- there are at most as many lines as primitives of both scenes

lines_most : (l r : List Told) (ks : List Key) → length (lines_for l r ks) ≤ length ks
unfolding lines_for
lines_most l r [] = omega arith
lines_most l r (k ∷ ks) = go (state_of l r k) (lines_most l r ks)
  where
    go : (s : State) → length (lines_for l r ks) ≤ length ks → length (line s k (lines_for l r ks)) ≤ suc (length ks)
    go absent h = omega arith
    go alike h = omega arith
    go left h = omega arith
    go right h = omega arith
    go changed h = omega arith

pub compared_most : (l r : List Told) → length (compared l r) ≤ length l + length r
unfolding compared
compared_most l r = omega (arith, lines_most l r (keys_of l r), keys_most l r)
