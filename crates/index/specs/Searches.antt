-- The search of the code, by the index where one is lent, over the text and the tables; and primitives that are alike.
use Rattle.std.specs.Prelude.{◌&&◌, cond, List, ◌≡◌, ℕ, zero, suc, ◌/◌, ◌≤◌, ◌<◌, min, leb, length, drop}
use Rattle.laws.specs.Bytes.{Bytes, same}
use Rattle.lookup.specs.Lookup.{latest_in}
use Rattle.scene.specs.Record.{name_in, width}
use Rattle.index.specs.Index.{Primitives, hash, hash_from, searched}
use Rattle.index.specs.declared.Found.{Found}

-- the plain search: its number, no entry looked at, and the entry behind the last
abbrev pub found_plain : Bytes → List ℕ → List ℕ → ℕ → Bytes → Found
found_plain text table x n w = record { entry = length x; number = latest_in text table w (min n (length table / width)); looked = 0 }

-- a search among the first n records, x the lent index
unfoldable pub sought : Bytes → List ℕ → List ℕ → ℕ → Bytes → Found
sought text table x n w = cond (leb 2048 (length x)) (searched x (name_in text table) w) (found_plain text table x n w)

-- the first n are named and entered alike
pub record Alike (p p' : Primitives) (n : ℕ) : Type 0 where
  pub name : (k : ℕ) → 1 ≤ k → k ≤ n → p.name k ≡ p'.name k
  pub gives : (k : ℕ) → 1 ≤ k → k ≤ n → p.gives k ≡ p'.gives k

-- the plain search over primitives by number: the latest of the first n non-surfaces that has that name, 0 for none
unfoldable pub latest_of : Primitives → Bytes → ℕ → ℕ
latest_of p w zero = 0
latest_of p w (suc n) = cond (p.gives (suc n) && same w (p.name (suc n))) (suc n) (latest_of p w n)

-- the hash of a name is h with the bytes from place i on
pub record Hashed (w : Bytes) (h i : ℕ) : Type 0 where
  pub small : h < 2048
  pub rest : hash_from h (drop i w) ≡ hash w
