-- What the functions answer, case by case.
use mathlib.Core.Bool.{Bool, true, false}
use mathlib.Core.List.{List}
use mathlib.Core.Path.{◌≡◌, refl}
use Prim.Native.Nat.{ℕ, zero, suc, ◌-◌, ◌≤◌, ◌<◌}
use borrow.Author.Tests.{le-leb, lt-leb}
use lib.Ieee.{Float}
use lib.ListN.{get_or}
use Rattle.laws.specs.Bytes.{Bytes}
use Rattle.context.specs.Seen.{back, draft_in, is_looked_up, looked_for}
use Rattle.statement.specs.declared.Phase.{Phase}
use Rattle.scene.specs.HouseRules.{zero_real}
use Rattle.scene.specs.Record.{field_in, record_in}

-- ---- a look-up, b tells whether the word is looked up

module _ {b : Bool} (ph : Phase) (w : Bytes) (x : ℕ) (e : b ≡ is_looked_up ph w) where
  pub looked_yes : b ≡ true → x ≡ looked_for ph w x
  looked_yes h = rw (← e, h)

  pub looked_no : b ≡ false → 0 ≡ looked_for ph w x
  looked_no h = rw (← e, h)

-- ---- the record of a number

pub draft_some : (t : List ℕ) (k : ℕ) → (k ≡ 0 → ⊥)
    → record { kind = field_in t k 0; modifier = 0; target = 0; name = 0; size = 0; string = field_in t k 5; strings = field_in t k 6; real = field_in t k 7; reals = field_in t k 8 } ≡ draft_in t k
unfolding record_in
draft_some t zero h = absurd (h refl)
draft_some t (suc k) h = refl

-- ---- a real

pub back_some : (D : List Float) (u j : ℕ) → j ≤ u → get_or D (u - j) zero_real ≡ back D u j
unfolding back
back_some D u j l = rw (le-leb j u l)

pub back_none : (D : List Float) (u j : ℕ) → u < j → zero_real ≡ back D u j
unfolding back
back_none D u j h = rw (lt-leb j u h)
