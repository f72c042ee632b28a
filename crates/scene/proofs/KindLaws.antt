-- A number that is none of the types'.
use mathlib.Core.Path.{◌≡◌, refl, sym}
use Prim.Native.Nat.{ℕ, zero, suc, ◌≤◌, ◌<◌}
use native.Mathlib.Omega.{arith}
use lib.ListN.{get_or-eq_default}
use Rattle.scene.specs.Types.{kind_of, no_type, types}

-- a number that is none of 1 to n, as a `match` tells it
abbrev pub NoneTo : ℕ → ℕ → Type 0
NoneTo zero t = Unit {0}
NoneTo (suc n) t = NoneTo n t × (t ≡ suc n → ⊥)

past : (n t : ℕ) → NoneTo n t → 0 < t → n < t
past zero t h l = l
past (suc n) t h l = let m = past n t h.0 l in let e = h.1 in omega arith

pub no_kind : (t : ℕ) → NoneTo 25 t → no_type ≡ kind_of t
unfolding kind_of
no_kind zero h = refl
no_kind (suc t) h = let m : 25 ≤ t = (let l = past 25 (suc t) h (omega arith) in omega arith) in sym (get_or-eq_default types no_type m)
