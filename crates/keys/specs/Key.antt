-- "The key of a primitive is its name and which definition of that name it is, counting from 1."
use Rattle.std.specs.Prelude.{Bool, true, false, cond, ◌&&◌, ◌||◌, List, [], ◌∷◌, ℕ, suc, eqb, ltb, length}
use Rattle.laws.specs.Bytes.{Bytes, same}
use Rattle.scene.specs.Told.{Told}

pub record Key : Type 0 where
  pub name : Bytes
  pub nth : ℕ

-- the key of the nth of a name
abbrev pub nth_of : Bytes → (nth : ℕ) → Key
nth_of w n = record { name = w; nth = n }

-- how many primitives have a name
unfoldable pub times : Bytes → List Told → ℕ
times w [] = 0
times w (t ∷ d) = cond (same w t.name) (suc (times w d)) (times w d)

-- the key of t, over those above it
abbrev pub key_over : Told → List Told → Key
key_over t d = nth_of t.name (suc (times t.name d))

-- the primitives from number n on, none where no primitive has that number, as 0
unfoldable pub from : ℕ → List Told → List Told
from n [] = []
from n (t ∷ d) = cond (eqb n (suc (length d))) (t ∷ d) (from n d)

-- the key of number n; one that no primitive has where there is none
abbrev pub key_at : List Told → Key
key_at [] = nth_of [] 0
key_at (t ∷ d) = key_over t d

abbrev pub key_of : List Told → ℕ → Key
key_of all n = key_at (from n all)

abbrev pub same_key : Key → Key → Bool
same_key a b = eqb a.nth b.nth && same a.name b.name

-- the primitives from the one with a key on, none where none has it
unfoldable pub found : Key → List Told → List Told
found k [] = []
found k (t ∷ d) = cond (same_key k (key_over t d)) (t ∷ d) (found k d)

-- whether one has it
abbrev pub is_found : List Told → Bool
is_found [] = false
is_found (t ∷ d) = true

-- "names by bytes": the first byte that differs decides, and a prefix comes first
unfoldable pub lower : Bytes → Bytes → Bool
lower [] [] = false
lower [] (y ∷ ys) = true
lower (x ∷ xs) [] = false
lower (x ∷ xs) (y ∷ ys) = ltb x y || eqb x y && lower xs ys

-- "in key order, names by bytes, then nth"
unfoldable pub before : Key → Key → Bool
before a b = lower a.name b.name || same a.name b.name && ltb a.nth b.nth

-- a key into its place among keys in order, once
unfoldable pub insert : Key → List Key → List Key
insert k [] = k ∷ []
insert k (x ∷ xs) = let deeper = x ∷ insert k xs in cond (before k x) (k ∷ x ∷ xs) (cond (same_key k x) (x ∷ xs) deeper)

unfoldable pub insert_all : List Told → List Key → List Key
insert_all [] ks = ks
insert_all (t ∷ d) ks = insert (key_over t d) (insert_all d ks)

-- the keys in either scene, in order
abbrev pub keys_of : (left right : List Told) → List Key
keys_of l r = insert_all l (insert_all r [])
