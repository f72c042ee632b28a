-- Parts of a list.
use mathlib.Core.List.{List, [], ◌∷◌, ◌++◌}
use mathlib.Core.Path.{◌≡◌, sym, ap, ◌∙◌}
use Prim.Native.Nat.{ℕ, ◌+◌, ◌-◌, ◌≤◌, ◌<◌, min}
use native.Mathlib.Nat.{zero-add, suc-add}
use native.Mathlib.Omega.{arith}
use lib.ListN.{length, length-append, take, drop, get_or, set, drop_of_length-le, length-drop}
use lib.Seq.{get_or-drop, get_or-take, length-take-le, take_all}
use Rattle.laws.proofs.NatLaws.{cut}
use Rattle.laws.specs.Bytes.{Bytes, part}

module _ {A : Type 0} (n : ℕ) (xs : List A) where
  -- a count past the end is as good as the length
  pub drop_min : drop (min n (length xs)) xs ≡ drop n xs
  drop_min = cut (λ (k : ℕ). drop k xs) n (length xs) (λ h. drop_of_length-le xs {i = length xs} (omega arith) ∙ sym (drop_of_length-le xs {i = n} (omega arith)))

  pub take_min : take (min n (length xs)) xs ≡ take n xs
  take_min = cut (λ (k : ℕ). take k xs) n (length xs) (λ h. take_all (length xs) xs (omega arith) ∙ sym (take_all n xs (omega arith)))

-- a part whose start and length are cut to what the list has is the part itself
pub cut_part : {A : Type 0} (xs : List A) (place len start size : ℕ) → start ≡ min place (length xs) → size ≡ min len (length xs - start) → take (start + size - start) (drop start xs) ≡ take len (drop place xs)
cut_part xs place len start size s e =
    let d : drop start xs ≡ drop place xs = ap (λ (k : ℕ). drop k xs) s ∙ drop_min place xs in
    let n : start + size - start ≡ min len (length (drop start xs)) = omega (arith, length-drop start xs) in
    ap (λ (k : ℕ). take k (drop start xs)) n ∙ take_min len (drop start xs) ∙ ap (take len) d

-- how long a part is that the text has, and its bytes
pub part_length : (text : Bytes) (p n : ℕ) → p + n ≤ length text → length (part text p n) ≡ n
part_length text p n h = length-take-le n (drop p text) (rw length-drop (omega arith))

pub part_at : (text : Bytes) (p n k d : ℕ) → k < n → get_or (part text p n) k d ≡ get_or text (p + k) d
part_at text p n k d h = get_or-take n (drop p text) k d h ∙ get_or-drop p text k d

-- a list is within one that it begins
pub front_within : {A : Type 0} (xs ys : List A) {n : ℕ} → length xs ≡ n → n ≤ length (xs ++ ys)
front_within xs ys e = omega (arith, length-append xs ys)

-- what the code's `&xs[n..]` holds
pub rest_of : {A : Type 0} (n : ℕ) (xs : List A) → take (length xs - n) (drop n xs) ≡ drop n xs
rest_of n xs = take_all (length xs - n) (drop n xs) (omega (arith, length-drop n xs))

-- an entry behind a list is set in what stands there
pub set_append_add : {A : Type 0} (xs ys : List A) (i : ℕ) (v : A) → set (xs ++ ys) (length xs + i) v ≡ xs ++ set ys i v
set_append_add [] ys i v = ap (λ (k : ℕ). set ys k v) (zero-add i)
set_append_add {A} (x ∷ xs) ys i v = ap (λ (k : ℕ). set (x ∷ (xs ++ ys)) k v) (suc-add (length xs) i) ∙ ap (λ (zs : List A). x ∷ zs) (set_append_add xs ys i v)
