-- Records have one class where they have one name.
use mathlib.Core.Bool.{Bool, true, false, cond, false≢true}
use mathlib.Core.List.{List, [], ◌∷◌, ◌++◌}
use mathlib.Core.Logic.{◌⊎◌, inl, inr}
use mathlib.Core.Path.{◌≡◌, refl, ap, sym, ◌∙◌}
use Prim.Native.Nat.{ℕ, zero, suc, ◌≤◌, ◌<◌}
use native.Mathlib.Omega.{arith}
use borrow.Author.Tests.{eq-eqb, ne_eqb, eqb-false}
use lib.Dec.{eqb}
use lib.ListN.{get_or, get_or-append}
use lib.Seq.{get_or_at}
use Rattle.laws.proofs.BytesLaws.{same_eq, same_refl}
use Rattle.laws.proofs.NatLaws.{le_or_lt}
use Rattle.laws.specs.Bytes.{Bytes, same}
use Rattle.scene.specs.Record.{name_in}
use Rattle.ties.proofs.ClassLaws.{classes_length, first_kept}
use Rattle.table.specs.Number.{number_in}
use Rattle.ties.specs.Ties.{class_of, classes_to, first_of}

module _ (text : Bytes) (T : List ℕ) where
  -- ---- the first record of a name

  -- it has that name
  first_has : (w : Bytes) (n : ℕ) → (first_of text T w n ≡ 0 → ⊥) → name_in text T (first_of text T w n) ≡ w
  unfolding first_of
  first_has w zero h = absurd (h refl)
  first_has w (suc n) h = go (eqb (first_of text T w n) 0) refl (same (name_in text T (suc n)) w) refl h (first_has w n)
    where
      go : (b : Bool) → eqb (first_of text T w n) 0 ≡ b → (c : Bool) → same (name_in text T (suc n)) w ≡ c → (cond b (cond c (suc n) 0) (first_of text T w n) ≡ 0 → ⊥) → ((first_of text T w n ≡ 0 → ⊥) → name_in text T (first_of text T w n) ≡ w) → name_in text T (cond b (cond c (suc n) 0) (first_of text T w n)) ≡ w
      go true p true q h ih = same_eq (name_in text T (suc n)) w q
      go true p false q h ih = absurd (h refl)
      go false p c q h ih = ih h

  -- there is one for each record's name
  first_some : (n : ℕ) → 0 < n → first_of text T (name_in text T n) n ≡ 0 → ⊥
  unfolding first_of
  first_some zero h = absurd (omega arith)
  first_some (suc n) h = rw (same_refl (name_in text T (suc n))) (go (eqb (first_of text T (name_in text T (suc n)) n) 0) refl)
    where
      go : (b : Bool) → eqb (first_of text T (name_in text T (suc n)) n) 0 ≡ b → cond b (suc n) (first_of text T (name_in text T (suc n)) n) ≡ 0 → ⊥
      go true p e = omega arith
      go false p e = eqb-false (first_of text T (name_in text T (suc n)) n) 0 p e

  -- ---- classes and names

  pub class_some : (n : ℕ) → 0 < n → class_of text T n ≡ 0 → ⊥
  unfolding class_of
  class_some n h = first_some n h

  class_has : (n : ℕ) → 0 < n → name_in text T (class_of text T n) ≡ name_in text T n
  unfolding class_of
  class_has n h = first_has (name_in text T n) n (first_some n h)

  later_class : (n m : ℕ) → 0 < n → n ≤ m → name_in text T n ≡ name_in text T m → class_of text T n ≡ class_of text T m
  unfolding class_of
  later_class n m h l e = sym (first_kept text T (name_in text T n) n m (first_some n h) l) ∙ ap (λ (w : Bytes). first_of text T w m) e

  one_class : (n m : ℕ) → 0 < n → 0 < m → name_in text T n ≡ name_in text T m → class_of text T n ≡ class_of text T m
  one_class n m h k e = go (le_or_lt n m)
    where
      go : (n ≤ m) ⊎ (m < n) → class_of text T n ≡ class_of text T m
      go (inl l) = later_class n m h l e
      go (inr l) = sym (later_class m n k (omega arith) (sym e))

  pub class_same : (n m : ℕ) → 0 < n → 0 < m → eqb (class_of text T n) (class_of text T m) ≡ same (name_in text T n) (name_in text T m)
  class_same n m h k = go (same (name_in text T n) (name_in text T m)) refl
    where
      go : (b : Bool) → same (name_in text T n) (name_in text T m) ≡ b → eqb (class_of text T n) (class_of text T m) ≡ b
      go true e = eq-eqb (class_of text T n) (class_of text T m) (one_class n m h k (same_eq (name_in text T n) (name_in text T m) e))
      go false e = ne_eqb (class_of text T n) (class_of text T m) (λ q. false≢true (sym e ∙ ap (same (name_in text T n)) (sym (sym (class_has n h) ∙ ap (name_in text T) q ∙ class_has m k)) ∙ same_refl (name_in text T n)))

  -- ---- a record's class in the list of classes

  at_class : (n m : ℕ) → n < m → get_or (classes_to text T m) n 0 ≡ class_of text T (suc n)
  unfolding classes_to
  at_class n zero h = absurd (omega arith)
  at_class n (suc m) h = go (le_or_lt m n) (at_class n m)
    where
      go : (m ≤ n) ⊎ (n < m) → (n < m → get_or (classes_to text T m) n 0 ≡ class_of text T (suc n)) → get_or (classes_to text T m ++ class_of text T (suc m) ∷ []) n 0 ≡ class_of text T (suc n)
      go (inl l) ih = let e : m ≡ n = omega arith in get_or_at (classes_to text T m) (class_of text T (suc m)) [] 0 n (classes_length text T m ∙ e) ∙ ap (λ (k : ℕ). class_of text T (suc k)) e
      go (inr l) ih = get_or-append (classes_to text T m) (class_of text T (suc m) ∷ []) 0 n (omega (arith, classes_length text T m)) ∙ ih l

  pub class_at : (n m : ℕ) → 0 < n → n ≤ m → number_in (classes_to text T m) n ≡ class_of text T n
  unfolding number_in
  class_at zero m h l = absurd (omega arith)
  class_at (suc n) m h l = at_class n m l
