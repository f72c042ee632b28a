-- What the code's tests and its walk over the table say.
use mathlib.Core.Bool.{Bool, true, false, ◌||◌}
use mathlib.Core.List.{List}
use mathlib.Core.Logic.{◌⊎◌, inl, inr}
use mathlib.Core.Path.{◌≡◌, refl, ap, ◌∙◌, subst}
use Prim.Native.Nat.{ℕ, ◌+◌, ◌<◌, ◌≤◌}
use native.Mathlib.Omega.{arith}
use borrow.Author.Tests.{eq-eqb, ne_eqb}
use lib.Dec.{ltb}
use lib.ListN.{get_or}
use Rattle.laws.proofs.NatLaws.{le_or_lt}
use Rattle.scene.specs.Record.{field_in}
use Rattle.table.proofs.QuestionLaws.{type_field}
use Rattle.grouping.specs.Code.{Looked, Looking, Waiting, passed, placed, type_in}
use Rattle.grouping.specs.Grouped.{better, rank}

-- ---- ranks

pub rank_last : (last t : ℕ) → t ≡ last → 0 ≡ rank last t
unfolding rank
rank_last last t e = rw (eq-eqb t last e)

pub rank_other : (last t : ℕ) → (t ≡ last → ⊥) → t ≡ rank last t
unfolding rank
rank_other last t h = rw (ne_eqb t last h)

module _ (T : List ℕ) (last best k : ℕ) where
  pub better_first : best ≡ 0 → true ≡ better (type_in T) last best k
  unfolding better
  better_first e = rw (eq-eqb best 0 e)

  pub better_rank : (t u new old : ℕ) → (best ≡ 0 → ⊥) → t ≡ field_in T k 0 → new ≡ rank last t → u ≡ field_in T best 0 → old ≡ rank last u → ltb new old ≡ better (type_in T) last best k
  unfolding better
  better_rank t u new old h e r f s = rw (ne_eqb best 0 h) (λ i. ltb ((r ∙ ap (rank last) (e ∙ type_field T k)) i) ((s ∙ ap (rank last) (f ∙ type_field T best)) i))

-- ---- looking on

module _ (held : ℕ → ℕ → Bool) (S : List ℕ) (k : ℕ) where
  pub looking_known : Waiting held S k → Looking held S k (get_or S k 0)
  looking_known w = record { within = w.waits; clear = λ i z m. w.known.clear i k z m w.waits }

  module _ (r : ℕ) (l : Looking held S k r) where
    looking_on : r + 1 < k → passed held (placed S) (r + 1) k ≡ true → Looking held S k (r + 1)
    looking_on h e = record { within = h; clear = λ i z m. go i z m (le_or_lt i r) }
      where
        go : (i : ℕ) → 0 < i → i ≤ r + 1 → (i ≤ r) ⊎ (r < i) → passed held (placed S) i k ≡ true
        go i z m (inl a) = l.clear i z a
        go i z m (inr a) = let q : r + 1 ≡ i = omega arith in subst (λ (j : ℕ). passed held (placed S) j k ≡ true) q e

    pub looking_placed : r + 1 < k → get_or S (r + 1) 0 ≡ r + 1 → Looking held S k (r + 1)
    unfolding passed placed
    looking_placed h e = looking_on h (rw (eq-eqb (get_or S (r + 1) 0) (r + 1) e))

    pub looking_apart : r + 1 < k → held (r + 1) k ≡ false → Looking held S k (r + 1)
    unfolding passed
    looking_apart h e = looking_on h (rw e (or_true (placed S (r + 1))))
      where
        or_true : (b : Bool) → (b || true) ≡ true
        or_true true = refl
        or_true false = refl

    pub looked_held : (get_or S (r + 1) 0 ≡ r + 1 → ⊥) → held (r + 1) k ≡ true → Looked held S k r
    unfolding passed placed
    looked_held h e = record { looking = l; stops = λ m. rw (ne_eqb (get_or S (r + 1) 0) (r + 1) h, e) }

    pub looked_all : k ≤ r + 1 → Looked held S k r
    looked_all h = record { looking = l; stops = λ m. absurd (omega arith) }
