-- The lines handed out from the start until the end are those of the comparison.
use mathlib.Core.List.{List, [], ◌∷◌}
use mathlib.Core.Option.{Option, none, some}
use mathlib.Core.Path.{◌≡◌, refl, ap, sym, ◌∙◌, subst}
use Prim.Native.Nat.{ℕ, zero, suc, ◌+◌, ◌≤◌, ◌<◌}
use native.Mathlib.Omega.{arith}
use borrow.Author.Tests.{ne_eqb}
use lib.ListN.{length}
use Rattle.keys.proofs.NextLaws.{after_start}
use Rattle.keys.specs.After.{after}
use Rattle.keys.specs.Key.{Key, key_at, keys_of, from}
use Rattle.keys.specs.Next.{next_key}
use Rattle.scene.specs.Told.{Told}
use Rattle.comparison.proofs.CompareLaws.{compared_most}
use Rattle.comparison.proofs.LineLaws.{placed, lines_none, lines_some, next_comes, after_fewer}
use Rattle.comparison.specs.Compare.{State, absent, left, right, changed, alike, state_of, Line, line, lines_for, compared}
use Rattle.comparison.specs.NextLine.{key_in, place_of, lines_after, answer_in, first_line, next_line, state_in, handed_on, handed}
use Rattle.comparison.specs.Next.{Next}
use Rattle.comparison.specs.declared.Place.{Place}
use Rattle.comparison.specs.declared.State.{State as CodeState}
use Rattle.comparison.specs.declared.Place.TheVariants as on
use Rattle.comparison.specs.declared.State.TheVariants as is

module _ (l r : List Told) where
  -- the lines after a key: none, or that of a key in one of the three states, and those after that key
  data Heads : List Line → Type 0 where
    over : Heads []
    goes : (i : Key) (s : CodeState) → key_in l r (place_of l r i) ≡ i → Heads (record { key = i; state = state_in s } ∷ lines_after l r i)

  heads : (n : ℕ) (k : Key) → length (after k (keys_of l r)) < n → Heads (lines_after l r k)
  heads zero k b = absurd (omega arith)
  heads (suc n) k b = go (next_key l r k) refl (heads n)
    where
      line_of : (i : Key) (x : State) → next_key l r k ≡ some i → state_of l r i ≡ x → Heads (lines_after l r i) → Heads (line x i (lines_after l r i))
      line_of i absent q f h = h
      line_of i alike q f h = h
      line_of i left q f h = goes i is.OnlyLeft (placed l r i (next_comes l r k i q))
      line_of i right q f h = goes i is.OnlyRight (placed l r i (next_comes l r k i q))
      line_of i changed q f h = goes i is.Changed (placed l r i (next_comes l r k i q))

      go : (o : Option Key) → next_key l r k ≡ o → ((i : Key) → length (after i (keys_of l r)) < n → Heads (lines_after l r i)) → Heads (lines_after l r k)
      go none q ih = subst Heads (sym (lines_none l r k q)) over
      go (some i) q ih = subst Heads (sym (lines_some l r k i (state_of l r i) q refl)) (line_of i (state_of l r i) q refl (ih i (omega (arith, after_fewer l r k i q))))

  module _ (f : Place → Next) (h : (p : Place) → f p ≡ next_line l r p) where
    handed_after : (n : ℕ) (p : Place) → length (lines_after l r (key_in l r p)) ≤ n → handed l r f n p ≡ lines_after l r (key_in l r p)
    unfolding handed
    handed_after zero p b = empty (lines_after l r (key_in l r p)) b
      where
        empty : (x : List Line) → length x ≤ 0 → [] ≡ x
        empty [] b = refl
        empty (y ∷ x) b = absurd (omega arith)
    handed_after (suc n) p b =
        ap (handed_on l r (handed l r f n)) (h p) ∙ go (lines_after l r (key_in l r p)) (heads (suc (length (after (key_in l r p) (keys_of l r)))) (key_in l r p) (omega arith)) b (handed_after n)
      where
        named : (i : Key) (s : CodeState) (rest : Place → List Line) → handed_on l r rest (answer_in (state_in s) (place_of l r i) i.nth) ≡ record { key = key_in l r (place_of l r i); state = state_in s } ∷ rest (place_of l r i)
        named i is.OnlyLeft rest = refl
        named i is.OnlyRight rest = refl
        named i is.Changed rest = refl

        go : (x : List Line) → Heads x → length x ≤ suc n → ((q : Place) → length (lines_after l r (key_in l r q)) ≤ n → handed l r f n q ≡ lines_after l r (key_in l r q)) → handed_on l r (handed l r f n) (first_line l r x) ≡ x
        go [] over b ih = refl
        go (y ∷ x) (goes i s e) b ih =
            let d = ap (λ (k : Key). length (lines_after l r k)) e in
            named i s (handed l r f n) ∙ ap {B = List Line} (λ (x : List Line). record { key = key_in l r (place_of l r i); state = state_in s } ∷ x) (ih (place_of l r i) (omega arith)) ∙ (λ j. record { key = e j; state = state_in s } ∷ lines_after l r (e j))

    from_zero : (d : List Told) → from 0 d ≡ []
    unfolding from
    from_zero [] = refl
    from_zero (t ∷ d) = rw (ne_eqb 0 (suc (length d)) (λ e. omega arith)) (from_zero d)

    start_lines : lines_after l r (key_in l r (on.Left 0)) ≡ compared l r
    unfolding compared
    start_lines = ap (lines_after l r) (ap key_at (from_zero l)) ∙ ap (lines_for l r) (after_start l r)

    -- from the start until the end, the lines of the comparison: each once, and no other
    pub handed_out : (n : ℕ) → length (compared l r) ≤ n → handed l r f n (on.Left 0) ≡ compared l r
    handed_out n b = handed_after n (on.Left 0) (let e = ap length start_lines in omega arith) ∙ start_lines

    -- as many turns are enough as there are primitives of both scenes
    pub handed_enough : (n : ℕ) → length l + length r ≤ n → handed l r f n (on.Left 0) ≡ compared l r
    handed_enough n b = handed_out n (omega (arith, compared_most l r))
