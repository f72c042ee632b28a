-- "which definition of that name it is, counting from 1", counted along an order in which records of one name stand side by side.
use Rattle.std.specs.Prelude.{cond, List, [], ◌∷◌, ◌++◌, ℕ, zero, suc, ◌-◌, ◌/◌, length, set, get_or, replicate, take}
use Rattle.laws.specs.Bytes.{Bytes, same}
use Rattle.scene.specs.Record.{filled, name_in}
use Rattle.name_order.specs.Sort.{earlier, room, sorted}

-- record x's rank behind record p, which is the kth of its name
unfoldable pub rank_behind : Bytes → (records : List ℕ) → (p k x : ℕ) → ℕ
rank_behind text records p k x = cond (same (name_in text records p) (name_in text records x)) (suc k) 1

-- the entry of record x, from 1, and a table with another one there; none for 0 and for numbers past its end
abbrev pub entry_of : List ℕ → (x : ℕ) → ℕ
entry_of t zero = 0
entry_of t (suc n) = get_or t n 0

abbrev pub with_entry : List ℕ → (x value : ℕ) → List ℕ
with_entry t zero v = t
with_entry t (suc n) v = set t n v

-- the ranks of an order's records, put into a table one by one
unfoldable pub ranks_from : Bytes → (records : List ℕ) → (p k : ℕ) → (order table : List ℕ) → List ℕ
ranks_from text records p k [] t = t
ranks_from text records p k (x ∷ xs) t = let n = rank_behind text records p k x in ranks_from text records x n xs (with_entry t x n)

-- a table of so many entries: the ranks of the first 1,024 in the order, whatever it holds, and 0 where no record of it has an entry
abbrev pub ranks_of : Bytes → (records order : List ℕ) → (size : ℕ) → List ℕ
ranks_of text records order size = ranks_from text records 0 0 (take 1024 order) (replicate size 0)

-- a table whose first half is an order, and the ranks of its records in the rest of so many entries
abbrev pub with_ranks : Bytes → (records order : List ℕ) → (size : ℕ) → List ℕ
with_ranks text records order size = order ++ ranks_of text records order size

-- a table of so many entries: the order of the records in its first half, as far as there is room, and their ranks in the rest
unfoldable pub order_table : Bytes → (records : List ℕ) → (size scratch : ℕ) → List ℕ
order_table text records size scratch = with_ranks text records (filled 0 (size / 2) (sorted (earlier text records) (room (length records) (size / 2) scratch))) (size - size / 2)
