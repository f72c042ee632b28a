-- Laws of runs: what one step of a scan does, and what a run's end shows.
use mathlib.Core.Bool.{Bool, true, false, ◌&&◌, cond}
use mathlib.Core.List.{List, [], ◌∷◌, ◌++◌}
use mathlib.Core.Logic.{◌⊎◌, inl, inr}
use mathlib.Core.Path.{◌≡◌, refl, ap, sym, ◌∙◌}
use Prim.Native.Nat.{ℕ, zero, suc, ◌+◌, ◌≤◌, ◌<◌, min}
use native.Mathlib.Numerals.{add-one}
use native.Mathlib.Omega.{arith}
use lib.ListN.{length, take, drop, get_or, drop_of_length-le, length-drop}
use lib.Seq.{drop-cons, get_or-drop}
use Rattle.laws.proofs.NatLaws.{le_or_lt}
use Rattle.laws.specs.Runs.{all, run, past}

module _ {A : Type 0} (test : A → Bool) where
  pub run_more : (x : A) (xs : List A) → test x ≡ true → run test (x ∷ xs) ≡ suc (run test xs)
  unfolding run
  run_more x xs e = rw e

  run_none : (x : A) (xs : List A) → test x ≡ false → run test (x ∷ xs) ≡ 0
  unfolding run
  run_none x xs e = rw e

  -- a run is no longer than the list
  pub run_length : (xs : List A) → run test xs ≤ length xs
  unfolding run
  run_length [] = omega arith
  run_length (x ∷ xs) = go (test x) (run_length xs)
    where
      go : (b : Bool) → run test xs ≤ length xs → cond b (suc (run test xs)) 0 ≤ suc (length xs)
      go true h = omega arith
      go false h = omega arith

  -- each element of the run passes
  pub run_passes : (d : A) (xs : List A) (k : ℕ) → k < run test xs → test (get_or xs k d) ≡ true
  unfolding run
  run_passes d [] k h = absurd (omega arith)
  run_passes d (x ∷ xs) zero h = go (test x) refl h
    where
      go : (b : Bool) → test x ≡ b → 0 < cond b (suc (run test xs)) 0 → test x ≡ true
      go true e h = e
      go false e h = absurd (omega arith)
  run_passes d (x ∷ xs) (suc k) h = go (test x) h (run_passes d xs k)
    where
      go : (b : Bool) → suc k < cond b (suc (run test xs)) 0 → (k < run test xs → test (get_or xs k d) ≡ true) → test (get_or xs k d) ≡ true
      go true h ih = ih (omega arith)
      go false h ih = absurd (omega arith)

  -- the element behind it fails
  pub run_stops : (d : A) (xs : List A) → run test xs < length xs → test (get_or xs (run test xs) d) ≡ false
  unfolding run
  run_stops d [] h = absurd (omega arith)
  run_stops d (x ∷ xs) h = go (test x) refl h (run_stops d xs)
    where
      go : (b : Bool) → test x ≡ b → cond b (suc (run test xs)) 0 < suc (length xs) → (run test xs < length xs → test (get_or xs (run test xs) d) ≡ false) → test (get_or (x ∷ xs) (cond b (suc (run test xs)) 0) d) ≡ false
      go true e h ih = ih (omega arith)
      go false e h ih = e

  -- the run itself passes
  pub run_all : (xs : List A) → all test (take (run test xs) xs) ≡ true
  unfolding run all
  run_all [] = refl
  run_all (x ∷ xs) = go (test x) refl (run_all xs)
    where
      go : (b : Bool) → test x ≡ b → all test (take (run test xs) xs) ≡ true → all test (take (cond b (suc (run test xs)) 0) (x ∷ xs)) ≡ true
      go true e h = rw (e, h)
      go false e h = refl

  -- a run that is shorter than the list leaves one that fails, and any other leaves none
  pub run_short : (xs : List A) → run test xs < length xs → all test xs ≡ false
  unfolding run all
  run_short [] h = absurd (omega arith)
  run_short (x ∷ xs) h = go (test x) h (run_short xs)
    where
      go : (b : Bool) → cond b (suc (run test xs)) 0 < suc (length xs) → (run test xs < length xs → all test xs ≡ false) → (b && all test xs) ≡ false
      go true h ih = ih (omega arith)
      go false h ih = refl

  pub run_whole : (xs : List A) → length xs ≤ run test xs → all test xs ≡ true
  unfolding run all
  run_whole [] h = refl
  run_whole (x ∷ xs) h = go (test x) h (run_whole xs)
    where
      go : (b : Bool) → suc (length xs) ≤ cond b (suc (run test xs)) 0 → (length xs ≤ run test xs → all test xs ≡ true) → (b && all test xs) ≡ true
      go true h ih = ih (omega arith)
      go false h ih = absurd (omega arith)

  -- with an element that fails put behind the list, one that fails stands behind the run
  pub record Behind (d : A) (xs : List A) : Type 0 where
    pub first : A
    pub rest : List A
    pub split : xs ++ d ∷ [] ≡ first ∷ rest
    pub fails : test first ≡ false

  pub behind_run : (d : A) (xs : List A) → test d ≡ false → Behind d (drop (run test xs) xs)
  unfolding run
  behind_run d [] h = record { first = d; rest = []; split = refl; fails = h }
  behind_run d (x ∷ xs) h = go (test x) refl (behind_run d xs h)
    where
      go : (b : Bool) → test x ≡ b → Behind d (drop (run test xs) xs) → Behind d (drop (cond b (suc (run test xs)) 0) (x ∷ xs))
      go true e h = h
      go false e h = record { first = x; rest = xs ++ d ∷ []; split = refl; fails = e }

  -- a scan from place i on: past the end, at an element that fails, and past one that passes
  module _ (xs : List A) (i : ℕ) where
    pub past_end : length xs ≤ i → past test xs i ≡ length xs
    unfolding past run
    past_end h = rw (drop_of_length-le xs h) (omega arith)

    module _ (d : A) (h : i < length xs) where
      pub past_stop : test (get_or xs i d) ≡ false → past test xs i ≡ i
      unfolding past
      past_stop e = rw (drop-cons xs i d h, run_none _ _ e) (omega arith)

      pub past_step : test (get_or xs i d) ≡ true → past test xs (i + 1) ≡ past test xs i
      unfolding past
      past_step e = rw (drop-cons xs i d h, run_more _ _ e, add-one) (omega arith)

    pub past_most : past test xs i ≤ length xs
    unfolding past
    past_most = omega (arith, run_length (drop i xs), length-drop i xs)

    pub past_least : min i (length xs) ≤ past test xs i
    unfolding past
    past_least = omega arith

    -- a scan within the list has gone as far as the run there
    pub past_run : i ≤ length xs → past test xs i ≡ i + run test (drop i xs)
    unfolding past
    past_run h = omega arith

  -- where a scan stops within the list, the element fails
  pub past_fails : (xs : List A) (i : ℕ) (d : A) → past test xs i < length xs → test (get_or xs (past test xs i) d) ≡ false
  past_fails xs i d h = go (le_or_lt i (length xs))
    where
      go : (i ≤ length xs) ⊎ (length xs < i) → test (get_or xs (past test xs i) d) ≡ false
      go (inl l) = ap (λ (n : ℕ). test (get_or xs n d)) (past_run xs i l) ∙ ap test (sym (get_or-drop i xs (run test (drop i xs)) d)) ∙ run_stops d (drop i xs) (omega (arith, past_run xs i l, length-drop i xs))
      go (inr l) = absurd (omega (arith, past_end xs i (omega arith)))
