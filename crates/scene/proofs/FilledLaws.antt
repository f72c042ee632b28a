-- A lent table of numbers that is filled from its front on.
use mathlib.Core.List.{List, ◌∷◌, ◌++◌, append_assoc}
use mathlib.Core.Path.{◌≡◌, ap, ◌∙◌}
use Prim.Native.Nat.{ℕ, zero, suc, ◌+◌, ◌-◌, ◌≤◌}
use native.Mathlib.Nat.{sub-zero, suc-sub-suc, zero-sub}
use native.Mathlib.Omega.{arith}
use lib.ListN.{drop, length, length-append, length-replicate, replicate}
use lib.Seq.{drop-append-add, sets, sets-eq, take-append_seam}
use Rattle.scene.specs.Record.{filled}

drop_zeros : (k n : ℕ) → drop {A = ℕ} k (replicate n 0) ≡ replicate (n - k) 0
drop_zeros zero n = rw sub-zero
drop_zeros (suc k) zero = rw zero-sub
drop_zeros (suc k) (suc n) = rw suc-sub-suc (drop_zeros k n)

-- numbers put behind those that are there
pub put_behind : (xs ys : List ℕ) (m : ℕ) → length xs + length ys ≤ m → sets (filled 0 m xs) (length xs) ys ≡ filled 0 m (xs ++ ys)
put_behind xs ys m h =
    let z : List ℕ = replicate (m - length xs) 0 in
    let f : length xs + length ys ≤ length (xs ++ z) = omega (arith, length-append xs z, length-replicate {A = ℕ} (m - length xs) 0) in
    let c : m - length xs - length ys ≡ m - length (xs ++ ys) = omega (arith, length-append xs ys) in
    let b : drop (length xs + length ys) (xs ++ z) ≡ replicate (m - length (xs ++ ys)) 0 = drop-append-add xs z (length ys) ∙ drop_zeros (length ys) (m - length xs) ∙ ap (λ (k : ℕ). replicate k 0) c in
    sets-eq ys (xs ++ z) (length xs) f ∙ (λ i. (take-append_seam xs z i ++ ys) ++ b i)

zeros_more : (k n : ℕ) → k ≤ n → replicate {A = ℕ} k 0 ++ replicate (n - k) 0 ≡ replicate n 0
zeros_more zero n h = ap (λ (j : ℕ). replicate j 0) (sub-zero n)
zeros_more (suc k) zero h = absurd (omega arith)
zeros_more (suc k) (suc n) h = ap (λ (l : List ℕ). 0 ∷ l) (ap (λ (j : ℕ). replicate {A = ℕ} k 0 ++ replicate j 0) (suc-sub-suc n k) ∙ zeros_more k n (omega arith))

-- zeros are there already
pub zeros_behind : (xs : List ℕ) (k m : ℕ) → length xs + k ≤ m → filled 0 m (xs ++ replicate k 0) ≡ filled 0 m xs
zeros_behind xs k m h =
    let l : m - length (xs ++ replicate k 0) ≡ m - length xs - k = omega (arith, length-append xs (replicate {A = ℕ} k 0), length-replicate {A = ℕ} k 0) in
    ap (λ (j : ℕ). (xs ++ replicate k 0) ++ replicate j 0) l ∙ append_assoc xs (replicate k 0) (replicate (m - length xs - k) 0) ∙ ap (λ (l : List ℕ). xs ++ l) (zeros_more k (m - length xs) (omega arith))
