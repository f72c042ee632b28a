-- The hashed index of names, over primitives by number: what each is named, and whether it is entered.
use Rattle.std.specs.Prelude.{Bool, cond, ◌||◌, List, [], ◌∷◌, ℕ, zero, suc, ◌+◌, ◌*◌, ◌%◌, eqb, get_or, set, replicate}
use Rattle.laws.specs.Bytes.{Bytes, same}
use Rattle.index.specs.declared.Found.{Found}

-- "whose first 2,048 entries are used"
abbrev pub size : ℕ
size = 2048

-- "A name's hash starts at 0 and with each byte becomes 31 times itself plus the byte, modulo 2,048"
unfoldable pub hash_from : ℕ → Bytes → ℕ
hash_from h [] = h
hash_from h (b ∷ w) = hash_from ((31 * h + b) % 2048) w

abbrev pub hash : Bytes → ℕ
hash w = hash_from 0 w

-- "From that entry on, going round": the entry after k others
abbrev pub place : Bytes → ℕ → ℕ
place w k = (hash w + k) % 2048

-- an entry "is 0 or holds the number of a primitive of that name"
unfoldable pub stops : (ℕ → Bytes) → Bytes → ℕ → Bool
stops name w v = eqb v 0 || same w (name v)

-- the first from k on that passes, n later ones at most
unfoldable pub seek : (ℕ → Bool) → (n k : ℕ) → ℕ
seek test zero k = k
seek test (suc n) k = cond (test k) k (seek test n (suc k))

-- "entries are looked at until one" stops the search: how many are passed. Where none of the 2,048 stops it, the last is taken
unfoldable pub passed : List ℕ → (ℕ → Bytes) → Bytes → ℕ
passed x name w = seek (λ k. stops name w (get_or x (place w k) 0)) 2047 0

-- where a search ends, the number it finds there, 0 for none, and "the entries looked at, the last of each search included"
abbrev pub entry_of : List ℕ → (ℕ → Bytes) → Bytes → ℕ
entry_of x name w = place w (passed x name w)

abbrev pub number_of : List ℕ → (ℕ → Bytes) → Bytes → ℕ
number_of x name w = get_or x (entry_of x name w) 0

abbrev pub looked_at : List ℕ → (ℕ → Bytes) → Bytes → ℕ
looked_at x name w = suc (passed x name w)

abbrev pub searched : List ℕ → (ℕ → Bytes) → Bytes → Found
searched x name w = record { entry = entry_of x name w; number = number_of x name w; looked = looked_at x name w }

-- primitives by number, from 1: their names, and which are no surfaces
pub record Primitives : Type 0 where
  pub name : ℕ → Bytes
  pub gives : ℕ → Bool

-- "entering a non-surface writes its number there"
abbrev pub entered : List ℕ → (ℕ → Bytes) → Bytes → ℕ → List ℕ
entered x name w n = set x (entry_of x name w) n

-- the index, "zeroed first", when the first n are entered
unfoldable pub index_by : Primitives → ℕ → List ℕ
index_by p zero = replicate 2048 0
index_by p (suc n) = let x = index_by p n in cond (p.gives (suc n)) (entered x p.name (p.name (suc n)) (suc n)) x
