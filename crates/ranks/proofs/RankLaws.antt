-- The ranks counted along the sorted order are the keys' nths.
use mathlib.Core.Bool.{Bool, true, false, cond, ◌&&◌, ◌||◌, false≢true}
use mathlib.Core.List.{List, [], ◌∷◌, ◌++◌}
use mathlib.Core.Logic.{◌⊎◌, inl, inr}
use mathlib.Core.Path.{◌≡◌, refl, ap, sym, ◌∙◌, subst}
use Prim.Native.Nat.{ℕ, zero, suc, ◌+◌, ◌-◌, ◌/◌, ◌<◌, ◌≤◌}
use native.Mathlib.Omega.{arith}
use borrow.Author.Tests.{eqb-true, eqb-false, le-leb, lt-ltb, le-ltb, ne_eqb}
use lib.Dec.{eqb, ltb}
use lib.ListN.{length, take, replicate, length-set, length-replicate}
use lib.Seq.{get_or-set_same, get_or-set_other, take-append-add}
use Rattle.keys.proofs.OrderLaws.{lower_irreflexive, lower_one, same_sym}
use Rattle.keys.proofs.ScanLaws.{times_none, times_more, key_count, within_low}
use Rattle.keys.specs.Key.{lower, key_of, times}
use Rattle.keys.specs.Properties.{OneOf, first, second, third}
use Rattle.keys.specs.Rows.{rows_in, scene_rows}
use Rattle.laws.proofs.BytesLaws.{same_eq, same_refl}
use Rattle.laws.proofs.NatLaws.{le_or_lt}
use Rattle.laws.specs.Bytes.{Bytes, same}
use Rattle.scene.specs.Record.{filled, name_in, width}
use Rattle.name_order.proofs.SortLaws.{before_has, before_lacks, earlier_strict, sorted_law, sorted_length}
use Rattle.ranks.specs.Rank.{rank_behind, entry_of, with_entry, ranks_from, ranks_of}
use Rattle.name_order.specs.Sort.{Before, Rising, earlier, has, insert, room, sorted}

-- ---- entries

pub entry_put : (t : List ℕ) (x v : ℕ) → 0 < x → x ≤ length t → entry_of (with_entry t x v) x ≡ v
entry_put t zero v h k = absurd (omega arith)
entry_put t (suc n) v h k = get_or-set_same t n v 0 k

pub entry_kept : (t : List ℕ) (x v y : ℕ) → (y ≡ x → ⊥) → entry_of (with_entry t x v) y ≡ entry_of t y
entry_kept t x v zero h = go x
  where
    go : (x : ℕ) → entry_of (with_entry t x v) 0 ≡ 0
    go zero = refl
    go (suc n) = refl
entry_kept t zero v (suc m) h = refl
entry_kept t (suc n) v (suc m) h = get_or-set_other t n m v 0 (λ e. h (ap suc e))

pub entry_length : (t : List ℕ) (x v : ℕ) → length (with_entry t x v) ≡ length t
entry_length t zero v = refl
entry_length t (suc n) v = length-set t n v

-- ---- how many of a list pass a test

unfoldable counts : (ℕ → Bool) → List ℕ → ℕ
counts q [] = 0
counts q (x ∷ xs) = cond (q x) 1 0 + counts q xs

-- how many of the numbers from 1 to n do
unfoldable total : (ℕ → Bool) → ℕ → ℕ
total q zero = 0
total q (suc n) = cond (q (suc n)) 1 0 + total q n

module _ (less : ℕ → ℕ → Bool) (q : ℕ → Bool) where
  counts_insert : (x : ℕ) (ys : List ℕ) → counts q (insert less x ys) ≡ counts q (x ∷ ys)
  unfolding counts insert
  counts_insert x [] = refl
  counts_insert x (y ∷ ys) = go (less x y) (counts_insert x ys)
    where
      go : (b : Bool) → counts q (insert less x ys) ≡ cond (q x) 1 0 + counts q ys → counts q (cond b (x ∷ y ∷ ys) (y ∷ insert less x ys)) ≡ cond (q x) 1 0 + (cond (q y) 1 0 + counts q ys)
      go true h = refl
      go false h = omega (arith, h)

  counts_sorted : (n : ℕ) → counts q (sorted less n) ≡ total q n
  unfolding counts sorted total
  counts_sorted zero = refl
  counts_sorted (suc n) = counts_insert (suc n) (sorted less n) ∙ ap (λ (k : ℕ). cond (q (suc n)) 1 0 + k) (counts_sorted n)

module _ (text : Bytes) (records : List ℕ) where
  -- ---- names of one kind

  same_neither : (a b : ℕ) → same (name_in text records a) (name_in text records b) ≡ true → earlier text records a b ≡ false
  unfolding earlier
  same_neither a b e = subst (λ (w : Bytes). lower (name_in text records a) w ≡ false) (same_eq (name_in text records a) (name_in text records b) e) (lower_irreflexive (name_in text records a))

  neither_same : (a b : ℕ) → earlier text records a b ≡ false → earlier text records b a ≡ false → same (name_in text records a) (name_in text records b) ≡ true
  unfolding earlier
  neither_same a b p q = go (lower_one (name_in text records a) (name_in text records b)) p q
    where
      go : {x y z : Bool} → OneOf x y z → x ≡ false → z ≡ false → y ≡ true
      go first e f = sym e
      go second e f = refl
      go third e f = sym f

  -- whether y is lower than v and has its name
  unfoldable below : (v y : ℕ) → Bool
  below v y = same (name_in text records v) (name_in text records y) && ltb y v

  -- none that v comes before
  counts_none : (v : ℕ) (xs : List ℕ) → Before (earlier text records) v xs → counts (below v) xs ≡ 0
  unfolding counts below
  counts_none v [] h = refl
  counts_none v (y ∷ ys) h = go (same (name_in text records v) (name_in text records y)) refl (counts_none v ys h.2)
    where
      go : (b : Bool) → same (name_in text records v) (name_in text records y) ≡ b → counts (below v) ys ≡ 0 → cond (b && ltb y v) 1 0 + counts (below v) ys ≡ 0
      go true e k = rw (le-ltb y v (omega (arith, h.1 (same_neither v y e)))) (omega (arith, k))
      go false e k = omega (arith, k)

  -- one that comes before v, where it has v's name
  below_same : (x v : ℕ) (xs : List ℕ) → Before (earlier text records) x xs → has v xs ≡ true → below v x ≡ same (name_in text records x) (name_in text records v)
  unfolding below
  below_same x v xs h e = go (same (name_in text records v) (name_in text records x)) refl ∙ same_sym (name_in text records v) (name_in text records x)
    where
      go : (b : Bool) → same (name_in text records v) (name_in text records x) ≡ b → (b && ltb x v) ≡ b
      go true q = lt-ltb x v ((before_has (earlier text records) x v xs h e).1 (same_neither x v (same_sym (name_in text records x) (name_in text records v) ∙ q)))
      go false q = refl

  -- ---- ranks along a rising list

  ranks_kept : (v : ℕ) (xs : List ℕ) (p k : ℕ) (t : List ℕ) → has v xs ≡ false → entry_of (ranks_from text records p k xs t) v ≡ entry_of t v
  unfolding has ranks_from
  ranks_kept v [] p k t e = refl
  ranks_kept v (x ∷ xs) p k t e = go (eqb v x) refl e (ranks_kept v xs x (rank_behind text records p k x) (with_entry t x (rank_behind text records p k x)))
    where
      go : (b : Bool) → eqb v x ≡ b → (b || has v xs) ≡ false → (has v xs ≡ false → entry_of (ranks_from text records x (rank_behind text records p k x) xs (with_entry t x (rank_behind text records p k x))) v ≡ entry_of (with_entry t x (rank_behind text records p k x)) v) → entry_of (ranks_from text records x (rank_behind text records p k x) xs (with_entry t x (rank_behind text records p k x))) v ≡ entry_of t v
      go true q f ih = absurd (false≢true (sym f))
      go false q f ih = ih f ∙ entry_kept t x (rank_behind text records p k x) v (eqb-false v x q)

  ranks_append : (v : ℕ) (xs ys : List ℕ) (p k : ℕ) (t : List ℕ) → has v ys ≡ false → entry_of (ranks_from text records p k (xs ++ ys) t) v ≡ entry_of (ranks_from text records p k xs t) v
  unfolding ranks_from
  ranks_append v [] ys p k t e = ranks_kept v ys p k t e
  ranks_append v (x ∷ xs) ys p k t e = ranks_append v xs ys x (rank_behind text records p k x) (with_entry t x (rank_behind text records p k x)) e

  -- the first of a list
  rank_first : (v : ℕ) (xs : List ℕ) (p k : ℕ) (t : List ℕ) → Before (earlier text records) v xs → 0 < v → v ≤ length t → entry_of (ranks_from text records p k (v ∷ xs) t) v ≡ suc (counts (below v) (v ∷ xs) + cond (same (name_in text records p) (name_in text records v)) k 0)
  unfolding ranks_from counts below rank_behind
  rank_first v xs p k t h z l =
      let n = rank_behind text records p k v in
      ranks_kept v xs v n (with_entry t v n) (before_lacks (earlier text records) v xs h) ∙ entry_put t v n z l ∙ rw (same_refl (name_in text records v), le-ltb v v (omega arith), counts_none v xs h) (go (same (name_in text records p) (name_in text records v)))
    where
      go : (b : Bool) → cond b (suc k) 1 ≡ suc (0 + 0 + cond b k 0)
      go true = omega arith
      go false = refl

  -- another one: the count goes on from the first to the next, since records of one name stand side by side
  rank_on : (v x : ℕ) (xs : List ℕ) (p k : ℕ) → (k ≡ 0) ⊎ Before (earlier text records) p (x ∷ xs) → Before (earlier text records) x xs → has v xs ≡ true → cond (same (name_in text records x) (name_in text records v)) (rank_behind text records p k x) 0 ≡ cond (below v x) 1 0 + cond (same (name_in text records p) (name_in text records v)) k 0
  unfolding rank_behind earlier
  rank_on v x xs p k c h e = rw (below_same x v xs h e) (go (same (name_in text records x) (name_in text records v)) refl)
    where
      on : (b : Bool) → cond b (suc k) 1 ≡ 1 + cond b k 0
      on true = omega arith
      on false = refl

      off : (k ≡ 0) ⊎ Before (earlier text records) p (x ∷ xs) → same (name_in text records x) (name_in text records v) ≡ false → (b : Bool) → same (name_in text records p) (name_in text records v) ≡ b → 0 ≡ cond b k 0
      off c q false f = refl
      off (inl z) q true f = sym z
      off (inr g) q true f =
          let w : name_in text records p ≡ name_in text records v = same_eq (name_in text records p) (name_in text records v) f in
          let l : lower (name_in text records p) (name_in text records x) ≡ false = ap (λ (n : Bytes). lower n (name_in text records x)) w ∙ (before_has (earlier text records) x v xs h e).0 in
          let s : same (name_in text records x) (name_in text records p) ≡ true = neither_same x p g.0 l in
          absurd (false≢true (sym q ∙ ap (same (name_in text records x)) (sym w) ∙ s))

      go : (b : Bool) → same (name_in text records x) (name_in text records v) ≡ b → cond b (cond (same (name_in text records p) (name_in text records x)) (suc k) 1) 0 ≡ cond b 1 0 + cond (same (name_in text records p) (name_in text records v)) k 0
      go true q = ap (λ (n : Bytes). cond (same (name_in text records p) n) (suc k) 1) (same_eq (name_in text records x) (name_in text records v) q) ∙ on (same (name_in text records p) (name_in text records v))
      go false q = off c q (same (name_in text records p) (name_in text records v)) refl ∙ omega arith

  rank_of : (v : ℕ) (xs : List ℕ) (p k : ℕ) (t : List ℕ) → (k ≡ 0) ⊎ Before (earlier text records) p xs → Rising (earlier text records) xs → has v xs ≡ true → 0 < v → v ≤ length t → entry_of (ranks_from text records p k xs t) v ≡ suc (counts (below v) xs + cond (same (name_in text records p) (name_in text records v)) k 0)
  unfolding has counts ranks_from
  rank_of v [] p k t c r e z l = absurd (false≢true e)
  rank_of v (x ∷ xs) p k t c r e z l =
      go (eqb v x) refl e (rank_of v xs x (rank_behind text records p k x) (with_entry t x (rank_behind text records p k x)) (inr r.0) r.1)
    where
      goal : ℕ → Type 0
      goal y = entry_of (ranks_from text records p k (y ∷ xs) t) v ≡ suc (counts (below v) (y ∷ xs) + cond (same (name_in text records p) (name_in text records v)) k 0)

      go : (b : Bool) → eqb v x ≡ b → (b || has v xs) ≡ true → (has v xs ≡ true → 0 < v → v ≤ length (with_entry t x (rank_behind text records p k x)) → entry_of (ranks_from text records x (rank_behind text records p k x) xs (with_entry t x (rank_behind text records p k x))) v ≡ suc (counts (below v) xs + cond (same (name_in text records x) (name_in text records v)) (rank_behind text records p k x) 0)) → goal x
      go true q f ih = let y : v ≡ x = eqb-true v x q in subst goal y (rank_first v xs p k t (subst (λ (n : ℕ). Before (earlier text records) n xs) (sym y) r.0) z l)
      go false q f ih = ih f z (omega (arith, entry_length t x (rank_behind text records p k x))) ∙ ap suc (omega (arith, rank_on v x xs p k c r.0 f))

  -- ---- the count of those below a number is the key's

  below_low : (v y : ℕ) → y < v → below v y ≡ same (name_in text records v) (name_in text records y)
  unfolding below
  below_low v y h = rw (lt-ltb y v h) (go (same (name_in text records v) (name_in text records y)))
    where
      go : (b : Bool) → (b && true) ≡ b
      go true = refl
      go false = refl

  below_high : (v y : ℕ) → v ≤ y → below v y ≡ false
  unfolding below
  below_high v y h = rw (le-ltb y v h) (go (same (name_in text records v) (name_in text records y)))
    where
      go : (b : Bool) → (b && false) ≡ false
      go true = refl
      go false = refl

  total_low : (v n : ℕ) → n < v → total (below v) n ≡ times (name_in text records v) (rows_in text records [] n)
  unfolding total
  total_low v zero h = times_none text records (name_in text records v)
  total_low v (suc n) h =
      let e : n + 1 ≡ suc n = omega arith in
      let q : ◌≡◌ {A = ℕ} (cond (below v (suc n)) 1 0) (cond (same (name_in text records v) (name_in text records (n + 1))) 1 0) = ap (λ (b : Bool). cond {A = ℕ} b 1 0) (below_low v (suc n) h ∙ ap (λ (k : ℕ). same (name_in text records v) (name_in text records k)) (sym e)) in
      omega (arith, times_more text records (name_in text records v) n (total (below v) n) (cond (below v (suc n)) 1 0) (total_low v n (omega arith)) q) ∙ ap (λ (k : ℕ). times (name_in text records v) (rows_in text records [] k)) e

  total_high : (u n : ℕ) → u ≤ n → total (below (suc u)) n ≡ total (below (suc u)) u
  unfolding total
  total_high u zero h = let e : 0 ≡ u = omega arith in ap (total (below (suc u))) e
  total_high u (suc n) h = go (le_or_lt u n) (total_high u n)
    where
      go : (u ≤ n) ⊎ (n < u) → (u ≤ n → total (below (suc u)) n ≡ total (below (suc u)) u) → cond (below (suc u) (suc n)) 1 0 + total (below (suc u)) n ≡ total (below (suc u)) u
      go (inl l) ih = rw (below_high (suc u) (suc n) (omega arith)) (omega (arith, ih l))
      go (inr l) ih = let e : suc n ≡ u = omega arith in ap (total (below (suc u))) e

  rank_sorted : (m u : ℕ) (t : List ℕ) → suc u ≤ m → suc u ≤ length t → entry_of (ranks_from text records 0 0 (sorted (earlier text records) m) t) (suc u) ≡ times (name_in text records (suc u)) (rows_in text records [] u) + 1
  rank_sorted m u t h l =
      let less = earlier text records in
      let law = sorted_law less (earlier_strict text records) m in
      let there : has (suc u) (sorted less m) ≡ true = law.all (suc u) ∙ rw (lt-ltb 0 (suc u) (omega arith), le-leb (suc u) m h) in
      rank_of (suc u) (sorted less m) 0 0 t (inl refl) law.rising there (omega arith) l ∙ omega (arith, none (same (name_in text records 0) (name_in text records (suc u))), counts_sorted less (below (suc u)) m, total_high u m (omega arith), total_low (suc u) u (omega arith))
    where
      none : (b : Bool) → cond {A = ℕ} b 0 0 ≡ 0
      none true = refl
      none false = refl

  -- ---- an order as the sort leaves it

  zeros_lack : (v : ℕ) → 0 < v → (n r : ℕ) → has v (take n (replicate r 0)) ≡ false
  unfolding has
  zeros_lack v h zero r = refl
  zeros_lack v h (suc n) zero = refl
  zeros_lack v h (suc n) (suc r) = rw (ne_eqb v 0 (λ e. omega arith)) (zeros_lack v h n r)

  -- the rank of each record is which definition of its name it is
  pub ranks_nth : (m lent size : ℕ) (order : List ℕ) → order ≡ filled 0 lent (sorted (earlier text records) m) → m ≤ 1024 → m ≤ size → m ≤ length records / width → (n : ℕ) → 0 < n → n ≤ m → entry_of (ranks_of text records order size) n ≡ (key_of (scene_rows text records []) n).nth
  ranks_nth m lent size order e few room whole zero z h = absurd (omega arith)
  ranks_nth m lent size order e few room whole (suc u) z h =
      ap (λ (xs : List ℕ). entry_of (ranks_from text records 0 0 xs (replicate size 0)) (suc u)) front
      ∙ ranks_append (suc u) o zeros 0 0 (replicate size 0) (zeros_lack (suc u) z (1024 - m) (lent - length o))
      ∙ rank_sorted m u (replicate size 0) h (omega (arith, length-replicate {A = ℕ} size 0))
      ∙ key_count text records (suc u) (suc u) (within_low (suc u) (length records / width) (omega arith)) _ (name_in text records (suc u)) (λ q. omega arith) refl (ap (λ (k : ℕ). times (name_in text records (suc u)) (rows_in text records [] k)) less_one)
    where
      o : List ℕ
      o = sorted (earlier text records) m

      zeros : List ℕ
      zeros = take (1024 - m) (replicate (lent - length o) 0)

      less_one : u ≡ suc u - 1
      less_one = omega arith

      all : 1024 ≡ length o + (1024 - m)
      all = omega (arith, sorted_length (earlier text records) m)

      front : take 1024 order ≡ o ++ zeros
      front = ap (take 1024) e ∙ ap (λ (k : ℕ). take k (o ++ replicate (lent - length o) 0)) all ∙ take-append-add o (replicate (lent - length o) 0) (1024 - m)

  -- with the order that the code leaves
  pub order_nth : (lent scratch size : ℕ) (order : List ℕ) → order ≡ filled 0 lent (sorted (earlier text records) (room (length records) lent scratch)) → (n : ℕ) → 0 < n → n ≤ room (length records) lent scratch → room (length records) lent scratch ≤ size → entry_of (ranks_of text records order size) n ≡ (key_of (scene_rows text records []) n).nth
  order_nth lent scratch size order e n z h k = ranks_nth (room (length records) lent scratch) lent size order e (omega arith) k (omega arith) n z h
