-- The index of a table's names as it grows, and what a search finds in the whole of it.
use mathlib.Core.Bool.{Bool, true, false, ◌&&◌}
use mathlib.Core.List.{List}
use mathlib.Core.Logic.{◌⊎◌, inl, inr}
use mathlib.Core.Path.{◌≡◌, refl, ap, sym, ◌∙◌}
use Prim.Native.Nat.{ℕ, zero, suc, ◌+◌, ◌≤◌, ◌<◌}
use native.Mathlib.Numerals.{add-one}
use native.Mathlib.Omega.{arith}
use borrow.Author.Tests.{eq-eqb, eqb-true}
use lib.Dec.{eqb}
use lib.ListN.{length, set}
use Rattle.index.proofs.IndexLaws.{finds, index_length}
use Rattle.index.proofs.SearchLaws.{sought_indexed}
use Rattle.index.specs.Index.{entered, index_by, number_of}
use Rattle.index.specs.Searches.{latest_of, sought}
use Rattle.index.specs.declared.Found.{Found}
use Rattle.laws.proofs.BoolLaws.{and_left, and_right, cond_elim}
use Rattle.laws.proofs.NatLaws.{le_or_lt}
use Rattle.laws.specs.Bytes.{Bytes, same}
use Rattle.scene.specs.Record.{name_in}
use Rattle.name_index.specs.Names.{count_in, latest_to, names_once_in, number_of_name, rows}

module _ (text : Bytes) (T : List ℕ) where
  module _ (x : List ℕ) (n : ℕ) (e : x ≡ index_by (rows text T) n) where
    pub index_sized : n ≤ 1024 → length x ≡ 2048
    index_sized l = ap length e ∙ index_length (rows text T) n (omega arith)

    -- one name more is entered where the search for it ends
    pub entered_next : n < 1024 → set x (sought text T x (n + 1) (name_in text T (n + 1))).entry (n + 1) ≡ index_by (rows text T) (n + 1)
    unfolding index_by
    entered_next l =
        let s : length x ≡ 2048 = index_sized (omega arith) in
        ap (λ (f : Found). set x f.entry (n + 1)) (sought_indexed text T x (n + 1) (name_in text T (n + 1)) (omega arith))
        ∙ (λ i. entered (e i) (name_in text T) (name_in text T (add-one n i)) (add-one n i))
        ∙ (λ i. index_by (rows text T) (sym (add-one n) i))

    found_latest : n ≤ 1024 → (k : ℕ) (w : Bytes) → (sought text T x k w).number ≡ latest_of (rows text T) w n
    found_latest l k w =
        let s : length x ≡ 2048 = index_sized (omega arith) in
        ap (λ (f : Found). f.number) (sought_indexed text T x k w (omega arith))
        ∙ ap (λ (y : List ℕ). number_of y (name_in text T) w) e
        ∙ finds (rows text T) n (omega arith) w

  -- what a search in the index of all names finds, as the code has it: the index, the word and the answer are copies
  pub found_number : (x : List ℕ) (n : ℕ) (w v : Bytes) (f : Found) → x ≡ index_by (rows text T) (count_in T) → v ≡ w → f ≡ sought text T x n v → f.number ≡ number_of_name text T w
  unfolding number_of_name
  found_number x n w v f e q h = ap (λ (g : Found). g.number) (h ∙ ap (sought text T x n) q) ∙ found_latest x (count_in T) e (omega arith) n w

  pub latest_low : (w : Bytes) (n : ℕ) → latest_of (rows text T) w n ≤ n
  unfolding latest_of
  latest_low w zero = omega arith
  latest_low w (suc n) = cond_elim (λ (k : ℕ). k ≤ suc n) (same w (name_in text T (suc n))) (omega arith) (omega (arith, latest_low w n))

  pub number_low : (w : Bytes) → number_of_name text T w ≤ count_in T
  unfolding number_of_name
  number_low w = latest_low w (count_in T)

  -- ---- each name once

  pub latest_none : latest_to text T 0 ≡ true
  unfolding latest_to
  latest_none = refl

  pub latest_next : (n : ℕ) → latest_to text T n ≡ true → number_of_name text T (name_in text T (n + 1)) ≡ n + 1 → latest_to text T (n + 1) ≡ true
  unfolding latest_to
  latest_next n h e = ap (latest_to text T) (add-one n) ∙ (λ i. h i && eq-eqb (number_of_name text T (name_in text T (suc n))) (suc n) (ap (λ (k : ℕ). number_of_name text T (name_in text T k)) (sym (add-one n)) ∙ e ∙ add-one n) i)

  pub latest_at : (n k : ℕ) → latest_to text T n ≡ true → 0 < k → k ≤ n → number_of_name text T (name_in text T k) ≡ k
  unfolding latest_to
  latest_at zero k h p l = absurd (omega arith)
  latest_at (suc n) k h p l = go (le_or_lt k n) (latest_at n k)
    where
      own : Bool
      own = eqb (number_of_name text T (name_in text T (suc n))) (suc n)

      go : (k ≤ n) ⊎ (n < k) → (latest_to text T n ≡ true → 0 < k → k ≤ n → number_of_name text T (name_in text T k) ≡ k) → number_of_name text T (name_in text T k) ≡ k
      go (inl m) ih = ih (and_left (latest_to text T n) own h) p m
      go (inr m) ih =
          let e : k ≡ suc n = omega arith in
          ap (λ (j : ℕ). number_of_name text T (name_in text T j)) e ∙ eqb-true (number_of_name text T (name_in text T (suc n))) (suc n) (and_right (latest_to text T n) own h) ∙ sym e

  -- one that is not the latest of its name
  pub not_once : (n : ℕ) → n < count_in T → (number_of_name text T (name_in text T (n + 1)) ≡ n + 1 → ⊥) → names_once_in text T ≡ false
  not_once n l h = go (names_once_in text T) refl
    where
      go : (b : Bool) → names_once_in text T ≡ b → b ≡ false
      go true e = absurd (h (latest_at (count_in T) (n + 1) e (omega arith) (omega arith)))
      go false e = refl
