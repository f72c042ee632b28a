-- A round over a table turns its runs of a width into runs of twice that width.
use mathlib.Core.Bool.{Bool}
use mathlib.Core.List.{List, [], ◌∷◌, ◌++◌, append-nil}
use mathlib.Core.Logic.{◌⊎◌, inl, inr}
use mathlib.Core.Path.{◌≡◌, ap, sym, ◌∙◌, subst}
use Prim.Native.Nat.{ℕ, suc, ◌+◌, ◌-◌, ◌*◌, ◌<◌, ◌≤◌, min}
use native.Mathlib.Nat.{add-mul, mul-add, mul-one, one-mul, zero-mul, mul-le-mul_right}
use native.Mathlib.Omega.{arith}
use lib.ListN.{length, take, drop, replicate, length-append, length-take, length-drop, length-replicate, replicate-append-replicate, drop_of_length-le}
use lib.Seq.{drop-cons, drop_at, length-take-le, take-add, take_all, take-append-le, take_at, take-take}
use Rattle.laws.proofs.ListLaws.{drop_min, take_min}
use Rattle.laws.proofs.NatLaws.{le_or_lt}
use Rattle.laws.specs.Bytes.{part}
use Rattle.name_order.proofs.MergeLaws.{Strict, length_merge, merge_run, run_empty, run_one}
use Rattle.scene.specs.Record.{filled}
use Rattle.name_order.proofs.SortLaws.{run_sorted, sorted_length}
use Rattle.name_order.specs.Merge.{Numbered, Run, Runs, merge}
use Rattle.name_order.specs.Sort.{sorted}

-- ---- parts of a table

-- how long a part is
part_size : (xs : List ℕ) (p n : ℕ) → length (part xs p n) ≡ min n (length xs - p)
part_size xs p n = length-take n (drop p xs) ∙ ap (min n) (length-drop p xs)

-- a part past the end
part_none : (xs : List ℕ) (p n : ℕ) → length xs ≤ p → part xs p n ≡ []
part_none xs p n h = let e : length (drop p xs) ≤ n = omega (arith, length-drop p xs) in take_all n (drop p xs) e ∙ drop_of_length-le xs {i = p} h

-- a part of what stands before a place
part_before : (xs ys : List ℕ) (p n m : ℕ) → p + n ≤ m → m ≤ length xs → part (take m xs ++ ys) p n ≡ part xs p n
part_before xs ys p n m h k = sym (within (take m xs ++ ys) (omega (arith, length-append (take m xs) ys, length-take-le m xs k))) ∙ ap (drop p) (take-append-le (p + n) (take m xs) ys (omega (arith, length-take-le m xs k)) ∙ take-take (p + n) m xs h) ∙ within xs (omega arith)
  where
    within : (zs : List ℕ) → p ≤ length zs → drop p (take (p + n) zs) ≡ part zs p n
    within zs l = ap (drop p) (take-add p n zs) ∙ drop_at (take p zs) (take n (drop p zs)) p (length-take-le p zs l)

-- the code's two slices
pub left_part : (xs : List ℕ) (at w middle : ℕ) → at ≤ length xs → middle ≡ min (at + w) (length xs) → take (middle - at) (drop at xs) ≡ part xs at w
left_part xs at w middle h m =
    let e : middle - at ≡ min w (length (drop at xs)) = omega (arith, length-drop at xs) in
    ap (λ (k : ℕ). take k (drop at xs)) e ∙ take_min w (drop at xs)

pub right_part : (xs : List ℕ) (at w middle end : ℕ) → middle ≡ min (at + w) (length xs) → end ≡ min (middle + w) (length xs) → take (end - middle) (drop middle xs) ≡ part xs (at + w) w
right_part xs at w middle end m q =
    let e : end - middle ≡ min w (length (drop middle xs)) = omega (arith, length-drop middle xs) in
    ap (λ (k : ℕ). take k (drop middle xs)) e ∙ take_min w (drop middle xs) ∙ ap (take w) (ap (λ (k : ℕ). drop k xs) m ∙ drop_min (at + w) xs)

-- the zeros behind the first m
zeros_rest : (n m : ℕ) → m ≤ n → drop {A = ℕ} m (replicate n 0) ≡ replicate (n - m) 0
zeros_rest n m h = let q : m + (n - m) ≡ n = omega arith in ap (λ (k : ℕ). drop {A = ℕ} m (replicate k 0)) (sym q) ∙ ap (drop m) (sym (replicate-append-replicate m (n - m) 0)) ∙ drop_at (replicate m 0) (replicate (n - m) 0) m (length-replicate m 0)

-- ---- products

next_product : (k p w : ℕ) → k < p → k * w + w ≤ p * w
next_product k p w h = omega (arith, mul-le-mul_right w h, add-mul k 1 w, one-mul w)

-- what is left behind two runs
pub nearer : (n at w : ℕ) → at < n → 0 < w → n - (at + (w + w)) < n - at
nearer n at w h k = omega arith

-- how long two runs at a place are, by where the code has their end
end_size : (at w n middle end : ℕ) → middle ≡ min (at + w) n → end ≡ min (middle + w) n → end - at ≡ min (w + w) (n - at)
end_size at w n middle end m q = let e : end ≡ min (at + (w + w)) n = omega arith in cut e
  where
    cut : end ≡ min (at + (w + w)) n → end - at ≡ min (w + w) (n - at)
    cut e = omega (arith, e)

module _ (less : ℕ → ℕ → Bool) where
  pair_size : (from : List ℕ) (at w : ℕ) → length (merge less (part from at w) (part from (at + w) w)) ≡ min (w + w) (length from - at)
  pair_size from at w = omega (arith, length_merge less (part from at w) (part from (at + w) w), part_size from at w, part_size from (at + w) w)

  -- a table with the run of a width at a place of another merged with the run behind it, at the same place
  unfoldable pub merged : (from to : List ℕ) → (at w : ℕ) → List ℕ
  merged from to at w = let new = merge less (part from at w) (part from (at + w) w) in take at to ++ (new ++ drop (length new) (drop at to))

  -- so the code leaves it
  pub merged_slices : (from to : List ℕ) (at w middle end : ℕ) → at ≤ length from → middle ≡ min (at + w) (length from) → end ≡ min (middle + w) (length from) → (new : List ℕ) → new ≡ merge less (take (middle - at) (drop at from)) (take (end - middle) (drop middle from)) → take at to ++ (new ++ drop (end - at) (drop at to)) ≡ merged from to at w
  unfolding merged
  merged_slices from to at w middle end h m q new e =
      let f : new ≡ merge less (part from at w) (part from (at + w) w) = e ∙ (λ k. merge less (left_part from at w middle h m k) (right_part from at w middle end m q k)) in
      let n : end - at ≡ length (merge less (part from at w) (part from (at + w) w)) = end_size at w (length from) middle end m q ∙ sym (pair_size from at w) in
      λ k. take at to ++ (f k ++ drop (n k) (drop at to))

  merged_length : (from to : List ℕ) (at w : ℕ) → at ≤ length to → length to ≡ length from → length (merged from to at w) ≡ length to
  unfolding merged
  merged_length from to at w h e =
      let new = merge less (part from at w) (part from (at + w) w) in
      let rest = drop (length new) (drop at to) in
      omega (arith, length-append (take at to) (new ++ rest), length-append new rest, length-take-le at to h, length-drop (length new) (drop at to), length-drop at to, pair_size from at w)

  -- so many pairs of runs are merged
  pub record Paired (from to : List ℕ) (w at : ℕ) : Type 0 where
    pub pairs : ℕ
    pub place : at ≡ pairs * (w + w)
    pub size : length to ≡ length from
    pub done : (k : ℕ) → k < pairs → Run less (k * (w + w)) (part to (k * (w + w)) (w + w))

  pub paired_none : (from to : List ℕ) (w : ℕ) → length to ≡ length from → Paired from to w 0
  paired_none from to w e = record { pairs = 0; place = sym (zero-mul (w + w)); size = e; done = λ k h. absurd (omega arith) }

  -- the part where a pair was put
  merged_part : (from to : List ℕ) (w at : ℕ) → at ≤ length to → length to ≡ length from → part (merged from to at w) at (w + w) ≡ merge less (part from at w) (part from (at + w) w)
  unfolding merged
  merged_part from to w at h e = ap (take (w + w)) (drop_at (take at to) (new ++ rest) at (length-take-le at to h)) ∙ go (le_or_lt (w + w) (length new))
    where
      new : List ℕ
      new = merge less (part from at w) (part from (at + w) w)

      rest : List ℕ
      rest = drop (length new) (drop at to)

      many : length new ≡ min (w + w) (length from - at)
      many = pair_size from at w

      go : (w + w ≤ length new) ⊎ (length new < w + w) → take (w + w) (new ++ rest) ≡ new
      go (inl l) = take_at new rest (w + w) (omega (arith, many))
      go (inr l) =
          let none : rest ≡ [] = drop_of_length-le (drop at to) {i = length new} (omega (arith, many, length-drop at to)) in
          ap (λ (zs : List ℕ). take (w + w) (new ++ zs)) none ∙ ap (take (w + w)) (append-nil new) ∙ take_all (w + w) new (omega arith)

  module _ (s : Strict less) where
    -- two runs side by side, merged
    pair_run : (from : List ℕ) (w p : ℕ) → Runs less w from → Run less (p * (w + w)) (merge less (part from (p * (w + w)) w) (part from (p * (w + w) + w) w))
    pair_run from w p r = merge_run less s at (part from at w) (part from (at + w) w) (subst (λ (k : ℕ). Run less k (part from k w)) left (r (p + p))) (go (le_or_lt (at + w) (length from)))
      where
        at : ℕ
        at = p * (w + w)

        left : (p + p) * w ≡ at
        left = add-mul p p w ∙ sym (mul-add p w w)

        right : (p + p + 1) * w ≡ at + w
        right = omega (arith, add-mul (p + p) 1 w, one-mul w, left)

        go : (at + w ≤ length from) ⊎ (length from < at + w) → Run less (at + length (part from at w)) (part from (at + w) w)
        go (inl h) =
            let e : at + w ≡ at + length (part from at w) = omega (arith, part_size from at w) in
            subst (λ (k : ℕ). Run less k (part from (at + w) w)) e (subst (λ (k : ℕ). Run less k (part from k w)) right (r (p + p + 1)))
        go (inr h) = subst (Run less (at + length (part from at w))) (sym (part_none from (at + w) w (omega arith))) (run_empty less (at + length (part from at w)))

    pub paired_more : (from to : List ℕ) (w at : ℕ) → Runs less w from → Paired from to w at → at < length from → (new : List ℕ) → new ≡ merged from to at w → Paired from new w (at + (w + w))
    unfolding merged
    paired_more from to w at r m h new e = record { pairs = p + 1; place = place; size = ap length e ∙ merged_length from to at w within m.size ∙ m.size; done = λ k l. go k (le_or_lt p k) l }
      where
        p : ℕ
        p = m.pairs

        place : at + (w + w) ≡ (p + 1) * (w + w)
        place = omega (arith, m.place, add-mul p 1 (w + w), one-mul (w + w))

        within : at ≤ length to
        within = omega (arith, m.size)

        there : Run less (p * (w + w)) (part new (p * (w + w)) (w + w))
        there = subst (Run less (p * (w + w))) (sym (ap (λ (zs : List ℕ). part zs (p * (w + w)) (w + w)) (e ∙ ap (λ (k : ℕ). merged from to k w) m.place) ∙ merged_part from to w (p * (w + w)) (omega (arith, within, m.place)) m.size)) (pair_run from w p r)

        before : (k : ℕ) → k < p → part new (k * (w + w)) (w + w) ≡ part to (k * (w + w)) (w + w)
        before k l = ap (λ (zs : List ℕ). part zs (k * (w + w)) (w + w)) e ∙ part_before to _ (k * (w + w)) (w + w) at (omega (arith, m.place, next_product k p (w + w) l)) within

        go : (k : ℕ) → (p ≤ k) ⊎ (k < p) → k < p + 1 → Run less (k * (w + w)) (part new (k * (w + w)) (w + w))
        go k (inl l) t = let q : p ≡ k = omega arith in subst (λ (k : ℕ). Run less (k * (w + w)) (part new (k * (w + w)) (w + w))) q there
        go k (inr l) t = subst (Run less (k * (w + w))) (sym (before k l)) (m.done k l)

  pub paired_all : (from to : List ℕ) (w at : ℕ) → Paired from to w at → length from ≤ at → Runs less (w + w) to
  paired_all from to w at m h k = go (le_or_lt m.pairs k)
    where
      go : (m.pairs ≤ k) ⊎ (k < m.pairs) → Run less (k * (w + w)) (part to (k * (w + w)) (w + w))
      go (inl l) = subst (Run less (k * (w + w))) (sym (part_none to (k * (w + w)) (w + w) (omega (arith, m.place, m.size, mul-le-mul_right (w + w) l)))) (run_empty less (k * (w + w)))
      go (inr l) = m.done k l

  -- ---- the first runs and the last

  pub numbered_runs : (o : List ℕ) → Numbered o → Runs less 1 o
  numbered_runs o h k = rw (mul-one k) (go (le_or_lt (length o) k))
    where
      go : (length o ≤ k) ⊎ (k < length o) → Run less k (part o k 1)
      go (inl l) = rw (part_none o k 1 l) (run_empty less k)
      go (inr l) = let e : part o k 1 ≡ suc k ∷ [] = ap (take 1) (drop-cons o k 0 l) ∙ ap {B = List ℕ} (λ (n : ℕ). n ∷ []) (h k l ∙ omega arith) in rw e (run_one less k)

  pub runs_sorted : Strict less → (o : List ℕ) (w : ℕ) → length o ≤ w → Runs less w o → o ≡ sorted less (length o)
  runs_sorted s o w h r = run_sorted less s o (subst (Run less 0) (take_all w o h) (subst (λ (k : ℕ). Run less k (part o k w)) (zero-mul w) (r 0)))

  -- the sorted numbers at the front of zeros
  pub sorted_filled : (n m : ℕ) (zeros new : List ℕ) → m ≤ n → zeros ≡ replicate n 0 → new ≡ sorted less (length (take m zeros)) → new ++ drop m zeros ≡ filled 0 n (sorted less m)
  sorted_filled n m zeros new h z e = (λ k. (e ∙ ap (sorted less) size) k ++ (ap (drop m) z ∙ zeros_rest n m h) k) ∙ ap (λ (k : ℕ). sorted less m ++ replicate (n - k) 0) (sym (sorted_length less m))
    where
      size : length (take m zeros) ≡ m
      size = length-take-le m zeros (omega (arith, ap length z ∙ length-replicate n 0))
