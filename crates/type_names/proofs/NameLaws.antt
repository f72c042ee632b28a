-- A search along the types finds a name's number.
use Rattle.std.proofs.Common.{true, false, ◌≡◌, ℕ, zero, suc, ◌+◌, ◌-◌, ◌≤◌, ◌<◌, ◌∷◌, drop, arith}
use lib.ListN.{drop_of_length-le}
use lib.Seq.{drop-cons}
use Rattle.laws.specs.Bytes.{Bytes, same}
use Rattle.scene.specs.Types.{no_type, types, kind_of, type_name, number_from}

module _ (w : Bytes) (t : ℕ) (h : t < 25) where
  next : drop t types ≡ kind_of (suc t) ∷ drop (suc t) types
  unfolding kind_of
  next = drop-cons types t no_type h

  hit : same w (type_name (suc t)) ≡ true → number_from (suc t) w (drop t types) ≡ suc t
  unfolding number_from type_name
  hit e = rw (next, e)

  miss : same w (type_name (suc t)) ≡ false → number_from (suc (suc t)) w (drop (suc t) types) ≡ number_from (suc t) w (drop t types)
  unfolding number_from type_name
  miss e = rw (next, e)

-- from number t on: past the last type, at the type that has the name, and past one that has not
pub number_end : (w : Bytes) (t : ℕ) → 25 < t → number_from t w (drop (t - 1) types) ≡ 0
unfolding number_from
number_end w t h = let m : 25 ≤ t - 1 = omega arith in rw (drop_of_length-le types m)

pub number_hit : (w : Bytes) (t : ℕ) → 1 ≤ t → t ≤ 25 → same w (type_name t) ≡ true → number_from t w (drop (t - 1) types) ≡ t
number_hit w zero l h e = absurd (omega arith)
number_hit w (suc t) l h e = let m : suc t - 1 ≡ t = omega arith in rw m (hit w t (omega arith) e)

pub number_miss : (w : Bytes) (t : ℕ) → 1 ≤ t → t ≤ 25 → same w (type_name t) ≡ false → number_from (t + 1) w (drop (t + 1 - 1) types) ≡ number_from t w (drop (t - 1) types)
number_miss w zero l h e = absurd (omega arith)
number_miss w (suc t) l h e =
    let m : suc t - 1 ≡ t = omega arith in
    let n : suc t + 1 - 1 ≡ suc t = omega arith in
    let o : suc t + 1 ≡ suc (suc t) = omega arith in
    rw (n, o, m) (miss w t (omega arith) e)

-- a search from number t on, in each case
pub ruleset searched_from = (number_end, number_hit, number_miss)
