-- Why a moved text is refused: one law for each answer of the code, and its tests beside the definition's.
use mathlib.Core.Bool.{Bool, true, false, cond}
use mathlib.Core.Path.{◌≡◌, refl}
use Prim.Native.Nat.{ℕ, ◌≤◌, ◌<◌, min}
use native.Mathlib.Omega.{arith}
use borrow.Author.Tests.{le-leb, leb-false, leb-true, lt-leb}
use lib.Dec.{leb}
use Rattle.mover.specs.Answer.{moved_refusal}

module _ (long : Bool) (reals room len output : ℕ) where
  pub too_long : long ≡ true → 1 ≡ moved_refusal long reals room len output
  unfolding moved_refusal
  too_long e = rw e

  pub too_many : long ≡ false → room < reals → 13 ≡ moved_refusal long reals room len output
  unfolding moved_refusal
  too_many e h = rw (e, lt-leb reals room h)

  pub too_small : long ≡ false → reals ≤ room → output < len → 23 ≡ moved_refusal long reals room len output
  unfolding moved_refusal
  too_small e h k = rw (e, le-leb reals room h, lt-leb len output k)

  pub all_fits : long ≡ false → reals ≤ room → len ≤ output → 0 ≡ moved_refusal long reals room len output
  unfolding moved_refusal
  all_fits e h k = rw (e, le-leb reals room h, le-leb len output k)

-- ---- the tests

-- reals counted up to 4,097 fit a room that a reading can have where all of them do
pub capped_fits : (reals room : ℕ) → min room 4096 ≡ room → leb (min reals 4097) room ≡ leb reals room
capped_fits reals room h = go (leb reals room) refl
  where
    go : (t : Bool) → leb reals room ≡ t → leb (min reals 4097) room ≡ t
    go true e = let k = leb-true reals room e in le-leb (min reals 4097) room (omega arith)
    go false e = let k = leb-false reals room e in lt-leb (min reals 4097) room (omega arith)

-- what is not refused is short enough for a reading and for the output
pub not_refused : (long : Bool) (reals room len out : ℕ) → moved_refusal long reals room len out ≡ 0 → (long ≡ false) × (len ≤ out)
unfolding moved_refusal
not_refused true reals room len out e = absurd (omega arith)
not_refused false reals room len out e = (refl, go (leb reals room) (leb len out) refl e)
  where
    go : (a b : Bool) → leb len out ≡ b → ◌≡◌ {A = ℕ} (cond a (cond b 0 23) 13) 0 → len ≤ out
    go false b h e = absurd (omega arith)
    go true false h e = absurd (omega arith)
    go true true h e = leb-true len out h
