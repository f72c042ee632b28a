-- The lines after a key: none, or the next key's line and the lines after that one.
use mathlib.Core.Bool.{Bool, true, false, ◌||◌, false≢true}
use mathlib.Core.List.{List, [], ◌∷◌}
use mathlib.Core.Option.{Option, none, some}
use mathlib.Core.Path.{◌≡◌, refl, ap, sym, ◌∙◌}
use Prim.Native.Nat.{ℕ, ◌<◌}
use native.Mathlib.Omega.{arith}
use lib.ListN.{length}
use Rattle.content.specs.Content.{content_of, same_content}
use Rattle.keys.proofs.KeyLaws.{keys_stand}
use Rattle.keys.proofs.NextLaws.{after_next, next_stands}
use Rattle.keys.proofs.NumberLaws.{found_from}
use Rattle.keys.specs.After.{after}
use Rattle.keys.specs.Key.{Key, key_at, keys_of, found, is_found}
use Rattle.keys.specs.Next.{next_key, onward}
use Rattle.laws.proofs.BoolLaws.{cond_elim}
use Rattle.scene.specs.Told.{Told}
use Rattle.comparison.specs.Compare.{State, absent, left, right, changed, alike, state_at, state_of, line, lines_for}
use Rattle.comparison.specs.NextLine.{key_in, place_by, place_of, lines_after, first_line}
use Rattle.comparison.specs.Steps.{step_in, step_at, step_for}
use Rattle.comparison.specs.Next.{Next}
use Rattle.comparison.specs.declared.Place.{Place}
use Rattle.comparison.specs.declared.State.{State as CodeState}
use Rattle.comparison.specs.Step.{Step}
use Rattle.comparison.specs.Next as next
use Rattle.comparison.specs.Step as step

-- ---- the line of a key

-- the answer that a line of a key gives
abbrev line_in : Step → Next
line_in step.End = next.End
line_in (step.Same p) = next.End
line_in (step.Line p n s) = next.Line p n s

-- whether a key comes to anything
abbrev comes : Step → Bool
comes step.End = false
comes (step.Same p) = true
comes (step.Line p n s) = true

module _ (l r : List Told) where
  -- it does exactly where either scene has it
  comes_found : (k : Key) → comes (step_at l r k) ≡ (is_found (found k l) || is_found (found k r))
  comes_found k = go (found k l) (found k r)
    where
      go : (x y : List Told) → comes (step_in (state_at l r x y) (place_by (length x) (length y)) k.nth) ≡ (is_found x || is_found y)
      go [] [] = refl
      go (t ∷ x) [] = refl
      go [] (u ∷ y) = refl
      go (t ∷ x) (u ∷ y) = cond_elim (λ (s : State). comes (step_in s (place_by (length (t ∷ x)) (length (u ∷ y))) k.nth) ≡ true) (same_content (content_of l t) (content_of r u)) refl refl

  -- and then its place has that key
  pub placed : (k : Key) → comes (step_at l r k) ≡ true → key_in l r (place_of l r k) ≡ k
  placed k e = go (found k l) (found k r) refl refl (sym (comes_found k) ∙ e)
    where
      go : (x y : List Told) → found k l ≡ x → found k r ≡ y → (is_found x || is_found y) ≡ true → key_in l r (place_by (length x) (length y)) ≡ k
      go [] [] p q e = absurd (false≢true e)
      go [] (u ∷ y) p q e = let h = found_from k r u y q in ap key_at h.0 ∙ h.1
      go (t ∷ x) y p q e = let h = found_from k l t x p in ap key_at h.0 ∙ h.1

  -- ---- the lines

  module _ (k : Key) where
    lines_next : (o : Option Key) → next_key l r k ≡ o → lines_after l r k ≡ lines_for l r (onward o (keys_of l r))
    lines_next o e = ap (lines_for l r) (after_next l r k ∙ ap (λ (x : Option Key). onward x (keys_of l r)) e)

    pub lines_none : next_key l r k ≡ none → lines_after l r k ≡ []
    unfolding lines_for
    lines_none e = lines_next none e

    pub lines_some : (i : Key) (s : State) → next_key l r k ≡ some i → state_of l r i ≡ s → lines_after l r k ≡ line s i (lines_after l r i)
    unfolding lines_for
    lines_some i s e f = lines_next (some i) e ∙ ap (λ (x : State). line x i (lines_after l r i)) f

    -- the next key is in one of both scenes
    pub next_comes : (i : Key) → next_key l r k ≡ some i → comes (step_at l r i) ≡ true
    next_comes i e = comes_found i ∙ sym (keys_stand l r i) ∙ next_stands l r k i e

    -- no next key: no line
    pub answer_none : step.End ≡ step_for l r (next_key l r k) → next.End ≡ first_line l r (lines_after l r k)
    answer_none e = go (next_key l r k) refl e
      where
        go : (o : Option Key) → next_key l r k ≡ o → step.End ≡ step_for l r o → next.End ≡ first_line l r (lines_after l r k)
        go none q e = sym (ap (first_line l r) (lines_none q))
        go (some i) q e = absurd (false≢true (ap comes e ∙ next_comes i q))

    -- its line is the first one
    answer_state : (p : Place) (n : ℕ) (s : CodeState) (i : Key) (x : State) → next_key l r k ≡ some i → state_of l r i ≡ x → step.Line p n s ≡ step_in x (place_of l r i) i.nth → next.Line p n s ≡ first_line l r (lines_after l r k)
    answer_state p n s i absent q f e = let z : ◌≡◌ {A = ℕ} 0 1 = cc in absurd (omega arith)
    answer_state p n s i alike q f e = let z : ◌≡◌ {A = ℕ} 0 1 = cc in absurd (omega arith)
    answer_state p n s i left q f e = ap line_in e ∙ sym (ap (first_line l r) (lines_some i left q f))
    answer_state p n s i right q f e = ap line_in e ∙ sym (ap (first_line l r) (lines_some i right q f))
    answer_state p n s i changed q f e = ap line_in e ∙ sym (ap (first_line l r) (lines_some i changed q f))

    pub answer_line : (p : Place) (n : ℕ) (s : CodeState) → step.Line p n s ≡ step_for l r (next_key l r k) → next.Line p n s ≡ first_line l r (lines_after l r k)
    answer_line p n s e = go (next_key l r k) refl e
      where
        go : (o : Option Key) → next_key l r k ≡ o → step.Line p n s ≡ step_for l r o → next.Line p n s ≡ first_line l r (lines_after l r k)
        go none q e = let z : ◌≡◌ {A = ℕ} 0 1 = cc in absurd (omega arith)
        go (some i) q e = answer_state p n s i (state_of l r i) q refl e

    -- a same key, and its place
    same_state : (p : Place) (i : Key) (x : State) → state_of l r i ≡ x → step.Same p ≡ step_in x (place_of l r i) i.nth → (p ≡ place_of l r i) × (state_of l r i ≡ alike)
    same_state p i absent f e = let z : ◌≡◌ {A = ℕ} 0 1 = cc in absurd (omega arith)
    same_state p i alike f e = (cc, f)
    same_state p i left f e = let z : ◌≡◌ {A = ℕ} 0 1 = cc in absurd (omega arith)
    same_state p i right f e = let z : ◌≡◌ {A = ℕ} 0 1 = cc in absurd (omega arith)
    same_state p i changed f e = let z : ◌≡◌ {A = ℕ} 0 1 = cc in absurd (omega arith)

    same_next : (p : Place) → step.Same p ≡ step_for l r (next_key l r k) → (next_key l r k ≡ some (key_in l r p)) × (state_of l r (key_in l r p) ≡ alike)
    same_next p e = go (next_key l r k) refl e
      where
        go : (o : Option Key) → next_key l r k ≡ o → step.Same p ≡ step_for l r o → (next_key l r k ≡ some (key_in l r p)) × (state_of l r (key_in l r p) ≡ alike)
        go none q e = let z : ◌≡◌ {A = ℕ} 0 1 = cc in absurd (omega arith)
        go (some i) q e =
            let h = same_state p i (state_of l r i) refl e in
            let d : key_in l r p ≡ i = ap (key_in l r) h.0 ∙ placed i (next_comes i q) in
            (q ∙ ap some (sym d), ap (state_of l r) d ∙ h.1)

    pub lines_same : (p : Place) → step.Same p ≡ step_for l r (next_key l r k) → lines_after l r k ≡ lines_after l r (key_in l r p)
    lines_same p e = let h = same_next p e in lines_some (key_in l r p) alike h.0 h.1

    pub after_fewer : (i : Key) → next_key l r k ≡ some i → length (after i (keys_of l r)) < length (after k (keys_of l r))
    after_fewer i q = let e = ap length (after_next l r k ∙ ap (λ (x : Option Key). onward x (keys_of l r)) q) in omega arith

    -- a same key leaves fewer
    pub fewer : (p : Place) → step.Same p ≡ step_for l r (next_key l r k) → length (after (key_in l r p) (keys_of l r)) < length (after k (keys_of l r))
    fewer p e = after_fewer (key_in l r p) (same_next p e).0
