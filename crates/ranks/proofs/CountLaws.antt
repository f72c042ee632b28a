-- Counting along an order, entry by entry.
use mathlib.Core.Bool.{Bool, true, false, cond}
use mathlib.Core.List.{List, ◌∷◌, ◌++◌}
use mathlib.Core.Path.{◌≡◌, refl, ap, sym, ◌∙◌}
use Prim.Native.Nat.{ℕ, zero, suc, ◌+◌, ◌-◌, ◌/◌, ◌<◌, ◌≤◌, min}
use native.Mathlib.Numerals.{add-one}
use native.Mathlib.Omega.{arith}
use lib.ListN.{length, get_or, set, take, drop, replicate, length-take, drop_of_length-le}
use lib.Seq.{drop-cons, get_or-take, set_out}
use Rattle.laws.specs.Bytes.{Bytes, same}
use Rattle.scene.specs.Record.{filled, name_in}
use Rattle.name_order.specs.Sort.{earlier, room, sorted}
use Rattle.ranks.proofs.RankLaws.{entry_length}
use Rattle.ranks.specs.Rank.{rank_behind, with_entry, ranks_from, ranks_of, order_table}

-- ---- an entry put

pub put_out : (t : List ℕ) (n v : ℕ) → length t < n → t ≡ with_entry t n v
put_out t zero v h = absurd (omega arith)
put_out t (suc n) v h = sym (set_out t n v (omega arith))

pub put_in : (t : List ℕ) (n v : ℕ) → (n ≡ 0 → ⊥) → set t (n - 1) v ≡ with_entry t n v
put_in t zero v h = absurd (h refl)
put_in t (suc n) v h = let e : suc n - 1 ≡ n = omega arith in ap (λ (k : ℕ). set t k v) e

module _ (text : Bytes) (records : List ℕ) where
  -- ---- a rank

  module _ (p k x : ℕ) (r : Bool) (v w : Bytes) (q : r ≡ same v w) (f : v ≡ name_in text records p) (g : w ≡ name_in text records x) where
    test : r ≡ same (name_in text records p) (name_in text records x)
    test = q ∙ (λ i. same (f i) (g i))

    pub rank_same : r ≡ true → k + 1 ≡ rank_behind text records p k x
    unfolding rank_behind
    rank_same e = rw (← test, e) (omega arith)

    pub rank_apart : r ≡ false → 1 ≡ rank_behind text records p k x
    unfolding rank_behind
    rank_apart e = rw (← test, e)

  rank_most : (p k x : ℕ) → rank_behind text records p k x ≤ k + 1
  unfolding rank_behind
  rank_most p k x = go (same (name_in text records p) (name_in text records x))
    where
      go : (b : Bool) → cond b (suc k) 1 ≤ k + 1
      go true = omega arith
      go false = omega arith

  -- ---- the first i are counted

  pub record Ranking (order : List ℕ) (size : ℕ) (t : List ℕ) (last nth i : ℕ) : Type 0 where
    pub most : nth ≤ i
    pub length≡ : length t ≡ size
    pub done : ranks_from text records last nth (drop i (take 1024 order)) t ≡ ranks_of text records order size

  pub ranking_none : (order : List ℕ) (size : ℕ) (t : List ℕ) → t ≡ replicate size 0 → length t ≡ size → Ranking order size t 0 0 0
  ranking_none order size t e l = record { most = omega arith; length≡ = l; done = ap (ranks_from text records 0 0 (take 1024 order)) e }

  module _ (order : List ℕ) (size : ℕ) (t : List ℕ) (last nth i : ℕ) (m : Ranking order size t last nth i) where
    pub ranking_more : i < min 1024 (length order) → (x k : ℕ) (new : List ℕ) → x ≡ get_or order i 0 → k ≡ rank_behind text records last nth x → new ≡ with_entry t x k → Ranking order size new x k (i + 1)
    unfolding ranks_from
    ranking_more h x k new e f g = record { most = omega (arith, m.most, f, rank_most last nth x); length≡ = ap length g ∙ entry_length t x k ∙ m.length≡; done = turn ∙ rest ∙ m.done }
      where
        later : List ℕ
        later = drop (suc i) (take 1024 order)

        next : x ∷ later ≡ drop i (take 1024 order)
        next = (λ j. (e ∙ sym (get_or-take 1024 order i 0 (omega arith))) j ∷ later) ∙ sym (drop-cons (take 1024 order) i 0 (omega (arith, length-take 1024 order)))

        turn : ranks_from text records x k (drop (i + 1) (take 1024 order)) new ≡ ranks_from text records last nth (x ∷ later) t
        turn = (λ j. ranks_from text records x k (drop (add-one i j) (take 1024 order)) (g j)) ∙ (λ j. ranks_from text records x (f j) later (with_entry t x (f j)))

        rest : ranks_from text records last nth (x ∷ later) t ≡ ranks_from text records last nth (drop i (take 1024 order)) t
        rest = ap (λ (xs : List ℕ). ranks_from text records last nth xs t) next

    pub ranking_all : i ≡ min 1024 (length order) → t ≡ ranks_of text records order size
    unfolding ranks_from
    ranking_all e = ap (λ (xs : List ℕ). ranks_from text records last nth xs t) (sym (drop_of_length-le (take 1024 order) {i = i} (omega (arith, length-take 1024 order)))) ∙ m.done

-- ---- an order in the front half of a table, and the ranks in the rest of it

module _ (text : Bytes) (records : List ℕ) where
  pub table_ordered : (size scratch front back : ℕ) (order nths : List ℕ) → front ≡ size / 2 → back ≡ size - size / 2
      → order ≡ filled 0 front (sorted (earlier text records) (room (length records) front scratch)) → nths ≡ ranks_of text records order back → order ++ nths ≡ order_table text records size scratch
  unfolding order_table
  table_ordered size scratch front back order nths f b e n =
      let o = e ∙ ap (λ (m : ℕ). filled 0 m (sorted (earlier text records) (room (length records) m scratch))) f in
      let r : nths ≡ ranks_of text records (filled 0 (size / 2) (sorted (earlier text records) (room (length records) (size / 2) scratch))) (size - size / 2) = n ∙ (λ i. ranks_of text records (o i) (b i)) in
      λ i. o i ++ r i
