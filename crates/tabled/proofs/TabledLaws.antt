-- A table filled by a rule, as a loop fills it.
use mathlib.Core.List.{List, [], ◌∷◌, ◌++◌, append-nil}
use mathlib.Core.Logic.{◌⊎◌, inl, inr}
use mathlib.Core.Path.{◌≡◌, refl, ap, sym, ◌∙◌}
use Prim.Native.Nat.{ℕ, zero, suc, ◌+◌, ◌≤◌, ◌<◌}
use native.Mathlib.Numerals.{add-one}
use native.Mathlib.Omega.{arith}
use lib.ListN.{length, get_or, set, drop, length-append, length-set, drop_of_length-le, get_or-append}
use lib.Seq.{drop-cons, get_or_at, set_at, append_snoc}
use Rattle.laws.proofs.NatLaws.{le_or_lt}
use Rattle.table.specs.Number.{number_in}
use Rattle.tabled.specs.Tabled.{Tabling, tabled}

module _ (f : ℕ → ℕ) where
  pub tabled_length : (n : ℕ) → length (tabled f n) ≡ n
  unfolding tabled
  tabled_length zero = refl
  tabled_length (suc n) = omega (arith, length-append (tabled f n) (f (suc n) ∷ []), tabled_length n)

  -- number k of it
  at_place : (k n : ℕ) → k < n → get_or (tabled f n) k 0 ≡ f (suc k)
  unfolding tabled
  at_place k zero h = absurd (omega arith)
  at_place k (suc n) h = go (le_or_lt n k) (at_place k n)
    where
      go : (n ≤ k) ⊎ (k < n) → (k < n → get_or (tabled f n) k 0 ≡ f (suc k)) → get_or (tabled f n ++ f (suc n) ∷ []) k 0 ≡ f (suc k)
      go (inl l) ih = let e : n ≡ k = omega arith in get_or_at (tabled f n) (f (suc n)) [] 0 k (tabled_length n ∙ e) ∙ ap (λ (j : ℕ). f (suc j)) e
      go (inr l) ih = get_or-append (tabled f n) (f (suc n) ∷ []) 0 k (omega (arith, tabled_length n)) ∙ ih l

  pub tabled_at : (k n : ℕ) → 0 < k → k ≤ n → number_in (tabled f n) k ≡ f k
  unfolding number_in
  tabled_at zero n h l = absurd (omega arith)
  tabled_at (suc k) n h l = at_place k n l

  -- ---- the loop

  pub tabling_none : (old : List ℕ) → Tabling f old old 0
  unfolding tabled
  tabling_none old = record { most = omega arith; size = refl; done = refl }

  module _ (old new : List ℕ) (i : ℕ) (h : Tabling f old new i) where
    pub tabling_more : (v : ℕ) → v ≡ f (i + 1) → i < length old → Tabling f old (set new i v) (i + 1)
    unfolding tabled
    tabling_more v e l = record { most = omega arith; size = length-set new i v ∙ h.size; done = stored }
      where
        front : List ℕ
        front = tabled f i

        stored : set new i v ≡ tabled f (i + 1) ++ drop (i + 1) old
        stored =
            ap (λ (t : List ℕ). set t i v) (h.done ∙ ap (λ (t : List ℕ). front ++ t) (drop-cons old i 0 l))
            ∙ set_at front (get_or old i 0) (drop (suc i) old) v i (tabled_length i)
            ∙ sym (append_snoc front v (drop (suc i) old))
            ∙ (λ j. (front ++ (e ∙ ap f (add-one i)) j ∷ []) ++ drop (suc i) old)
            ∙ (λ j. tabled f (sym (add-one i) j) ++ drop (sym (add-one i) j) old)

    pub tabling_all : length new ≤ i → new ≡ tabled f (length old)
    tabling_all l =
        let e : i ≡ length old = omega (arith, h.most, h.size) in
        h.done ∙ (λ j. tabled f (e j) ++ drop (e j) old) ∙ ap (λ (t : List ℕ). tabled f (length old) ++ t) (drop_of_length-le old {i = length old} (omega arith)) ∙ append-nil (tabled f (length old))
