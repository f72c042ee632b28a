-- Each record is the latest of its name exactly where none has the name of an earlier one, whatever text and table hold.
use mathlib.Core.Bool.{Bool, true, false, ◌&&◌, cond, false≢true}
use mathlib.Core.List.{List}
use mathlib.Core.Logic.{◌⊎◌, inl, inr}
use mathlib.Core.Path.{◌≡◌, refl, ap, sym, ◌∙◌}
use Prim.Native.Nat.{ℕ, zero, suc, ◌≤◌, ◌<◌}
use native.Mathlib.Omega.{arith}
use borrow.Author.Tests.{eq-eqb, eqb-true}
use lib.Dec.{eqb}
use Rattle.index.proofs.IndexLaws.{latest_name}
use Rattle.index.specs.Searches.{latest_of}
use Rattle.laws.proofs.BoolLaws.{and_left, and_right, same_bool}
use Rattle.laws.proofs.BytesLaws.{same_eq, same_refl}
use Rattle.laws.proofs.NatLaws.{le_or_lt}
use Rattle.laws.specs.Bytes.{Bytes, same}
use Rattle.name_index.proofs.NameLaws.{latest_at, latest_low}
use Rattle.name_index.specs.Names.{count_in, latest_to, names_once_in, number_of_name, rows}
use Rattle.scene.specs.Record.{name_in}

module _ (text : Bytes) (T : List ℕ) where
  abbrev name : ℕ → Bytes
  name n = name_in text T n

  abbrev latest : Bytes → ℕ → ℕ
  latest w n = latest_of (rows text T) w n

  -- none of the first n has the name of an earlier one
  unfoldable pub once_to : ℕ → Bool
  once_to zero = true
  once_to (suc n) = eqb (latest (name (suc n)) n) 0 && once_to n

  -- ---- where each is the latest

  -- an earlier one of the name would be its latest too
  none_earlier : (n : ℕ) → latest_to text T (suc n) ≡ true → latest (name (suc n)) n ≡ 0
  none_earlier n h = go (le_or_lt (latest (name (suc n)) n) 0)
    where
      go : (latest (name (suc n)) n ≤ 0) ⊎ (0 < latest (name (suc n)) n) → latest (name (suc n)) n ≡ 0
      go (inl z) = omega arith
      go (inr z) =
          let k : ℕ = latest (name (suc n)) n in
          let low = latest_low text T (name (suc n)) n in
          let e : number_of_name text T (name k) ≡ number_of_name text T (name (suc n)) = ap (number_of_name text T) (latest_name (rows text T) (name (suc n)) n z) in
          absurd (omega (arith, e, latest_at text T (suc n) k h z (omega arith), latest_at text T (suc n) (suc n) h (omega arith) (omega arith)))

  forth : (n : ℕ) → latest_to text T n ≡ true → once_to n ≡ true
  unfolding latest_to once_to
  forth zero h = refl
  forth (suc n) h = λ i. eq-eqb (latest (name (suc n)) n) 0 (none_earlier n h) i && forth n (and_left (latest_to text T n) (eqb (number_of_name text T (name (suc n))) (suc n)) h) i

  -- ---- where none has the name of an earlier one

  stays : (n k : ℕ) → once_to n ≡ true → 0 < k → k ≤ n → latest (name k) n ≡ k
  unfolding latest_of once_to
  stays zero k h p l = absurd (omega arith)
  stays (suc n) k h p l = go (same (name k) (name (suc n))) refl (le_or_lt k n) (stays n k (and_right (eqb (latest (name (suc n)) n) 0) (once_to n) h) p)
    where
      go : (b : Bool) → same (name k) (name (suc n)) ≡ b → (k ≤ n) ⊎ (n < k) → (k ≤ n → latest (name k) n ≡ k) → cond b (suc n) (latest (name k) n) ≡ k
      go true q (inl m) ih =
          let none = eqb-true (latest (name (suc n)) n) 0 (and_left (eqb (latest (name (suc n)) n) 0) (once_to n) h) in
          let e : latest (name k) n ≡ latest (name (suc n)) n = ap (λ (w : Bytes). latest w n) (same_eq (name k) (name (suc n)) q) in
          absurd (omega (arith, ih m))
      go true q (inr m) ih = omega arith
      go false q (inl m) ih = ih m
      go false q (inr m) ih = let e : k ≡ suc n = omega arith in absurd (false≢true (sym q ∙ ap (λ (j : ℕ). same (name j) (name (suc n))) e ∙ same_refl (name (suc n))))

  back : once_to (count_in T) ≡ true → (n : ℕ) → n ≤ count_in T → latest_to text T n ≡ true
  unfolding latest_to number_of_name
  back h zero l = refl
  back h (suc n) l = λ i. back h n (omega arith) i && eq-eqb (latest (name (suc n)) (count_in T)) (suc n) (stays (count_in T) (suc n) h (omega arith) l) i

  pub once_to_lem : names_once_in text T ≡ once_to (count_in T)
  once_to_lem = same_bool (names_once_in text T) (once_to (count_in T)) (forth (count_in T)) (λ h. back h (count_in T) (omega arith))
