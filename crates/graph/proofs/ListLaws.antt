-- The list of those that pass a test: each once, smallest first, and no other.
use mathlib.Core.Bool.{Bool, true, false, cond, ◌||◌}
use mathlib.Core.List.{List, [], ◌∷◌, ◌++◌, append-nil}
use mathlib.Core.Logic.{◌⊎◌, inl, inr}
use mathlib.Core.Path.{◌≡◌, refl, ap, sym, ◌∙◌, subst}
use Prim.Native.Nat.{ℕ, zero, suc, ◌<◌, ◌≤◌}
use native.Mathlib.Omega.{arith}
use borrow.Author.Tests.{eq-eqb, ne_eqb}
use lib.Dec.{eqb}
use Rattle.laws.proofs.NatLaws.{le_or_lt}
use Rattle.graph.specs.Answers.{Ascending, ListsEachOnce, shown_in, shows, stands_in, those}
use Rattle.graph.specs.Graph.{Graph}

abbrev UpTo : ℕ → List ℕ → Type 0
UpTo k [] = Unit
UpTo k (n ∷ ns) = (n ≤ k) × UpTo k ns

-- one number more, above all
up_next : (k : ℕ) (ns : List ℕ) → UpTo k ns → UpTo (suc k) (ns ++ suc k ∷ [])
up_next k [] u = (omega arith, tt)
up_next k (n ∷ ns) u = (omega (arith, u.0), up_next k ns u.1)

up_more : (k : ℕ) (ns : List ℕ) → UpTo k ns → UpTo (suc k) ns
up_more k [] u = tt
up_more k (n ∷ ns) u = (omega (arith, u.0), up_more k ns u.1)

ascending_next : (a k : ℕ) (ns : List ℕ) → Ascending a ns → UpTo k ns → a ≤ k → Ascending a (ns ++ suc k ∷ [])
ascending_next a k [] s u h = (omega arith, tt)
ascending_next a k (n ∷ ns) s u h = (s.0, ascending_next n k ns s.1 u.1 u.0)

stands_append : (m : ℕ) (ns xs : List ℕ) → stands_in m (ns ++ xs) ≡ (stands_in m ns || stands_in m xs)
stands_append m [] xs = refl
stands_append m (n ∷ ns) xs = go (eqb m n) (stands_append m ns xs)
  where
    go : (b : Bool) → stands_in m (ns ++ xs) ≡ (stands_in m ns || stands_in m xs) → (b || stands_in m (ns ++ xs)) ≡ ((b || stands_in m ns) || stands_in m xs)
    go true e = refl
    go false e = e

stands_above : (m k : ℕ) (ns : List ℕ) → UpTo k ns → k < m → stands_in m ns ≡ false
stands_above m k [] u h = refl
stands_above m k (n ∷ ns) u h = λ i. ne_eqb m n (λ e. omega (arith, e, u.0)) i || stands_above m k ns u.1 h i

or_none : (x : Bool) → (x || false) ≡ x
or_none true = refl
or_none false = refl

itself : (b : Bool) → cond b true false ≡ b
itself true = refl
itself false = refl

-- the number suc k, where it is added, among others
module _ (m k : ℕ) where
  stands_last : (b : Bool) {c : Bool} → eqb m (suc k) ≡ c → stands_in m (cond b (suc k ∷ []) []) ≡ cond b c false
  stands_last true {c} e = ap (λ (x : Bool). x || false) e ∙ or_none c
  stands_last false e = refl

  not_last : (b : Bool) → m ≤ k → stands_in m (cond b (suc k ∷ []) []) ≡ false
  not_last true h = ap (λ (x : Bool). x || false) (ne_eqb m (suc k) (λ e. omega (arith, e)))
  not_last false h = refl

module _ (test : ℕ → Bool) where
  up_to : (k : ℕ) → UpTo k (those test k)
  unfolding those
  up_to zero = tt
  up_to (suc k) = go (test (suc k)) (up_to k)
    where
      go : (b : Bool) → UpTo k (those test k) → UpTo (suc k) (those test k ++ cond b (suc k ∷ []) [])
      go true u = up_next k (those test k) u
      go false u = subst (UpTo (suc k)) (sym (append-nil (those test k))) (up_more k (those test k) u)

  ascends : (k : ℕ) → Ascending 0 (those test k)
  unfolding those
  ascends zero = tt
  ascends (suc k) = go (test (suc k)) (ascends k)
    where
      go : (b : Bool) → Ascending 0 (those test k) → Ascending 0 (those test k ++ cond b (suc k ∷ []) [])
      go true s = ascending_next 0 k (those test k) s (up_to k) (omega arith)
      go false s = subst (Ascending 0) (sym (append-nil (those test k))) s

  stands : (k m : ℕ) → 0 < m → m ≤ k → stands_in m (those test k) ≡ test m
  unfolding those
  stands zero m z h = absurd (omega arith)
  stands (suc k) m z h = stands_append m (those test k) (cond (test (suc k)) (suc k ∷ []) []) ∙ go (le_or_lt m k) (stands k m z)
    where
      go : (m ≤ k) ⊎ (k < m) → (m ≤ k → stands_in m (those test k) ≡ test m) → (stands_in m (those test k) || stands_in m (cond (test (suc k)) (suc k ∷ []) [])) ≡ test m
      go (inl l) ih = (λ i. ih l i || not_last m k (test (suc k)) l i) ∙ or_none (test m)
      go (inr l) ih =
          let q : m ≡ suc k = omega arith in
          (λ i. stands_above m k (those test k) (up_to k) l i || stands_last m k (test (suc k)) (eq-eqb m (suc k) q) i) ∙ itself (test (suc k)) ∙ ap test (sym q)

pub lists_each_once : (g : Graph) (count n : ℕ) → ListsEachOnce g count n
unfolding shown_in
lists_each_once g count n = record { ascending = ascends (shows g count n) count; exactly = stands (shows g count n) count }
