-- The numbers of a scene's records in the order of their names.
use Rattle.std.specs.Prelude.{Bool, false, cond, ◌&&◌, ◌||◌, List, [], ◌∷◌, ◌≡◌, ℕ, zero, suc, ◌/◌, ◌<◌, min, eqb, ltb, leb, length}
use Rattle.keys.specs.Key.{lower}
use Rattle.laws.specs.Bytes.{Bytes}
use Rattle.scene.specs.Record.{name_in, width}

-- whether record i's name comes before record j's, "names by bytes"
unfoldable pub earlier : Bytes → (records : List ℕ) → (i j : ℕ) → Bool
earlier text records i j = lower (name_in text records i) (name_in text records j)

-- how many records are put in order: those that the lengths lent have room for, up to 1,024
abbrev pub room : (numbers order scratch : ℕ) → ℕ
room numbers order scratch = min (min 1024 (numbers / width)) (min order scratch)

module _ (less : ℕ → ℕ → Bool) where
  -- ---- the order, worked out

  -- x behind all that it is not less than
  unfoldable pub insert : ℕ → List ℕ → List ℕ
  insert x [] = x ∷ []
  insert x (y ∷ ys) = let deeper = y ∷ insert x ys in cond (less x y) (x ∷ y ∷ ys) deeper

  -- the numbers from 1 to n, each put in behind those before it
  unfoldable pub sorted : ℕ → List ℕ
  sorted zero = []
  sorted (suc k) = insert (suc k) (sorted k)

  -- ---- what a list in order is

  -- x comes before each of these: none is less, and where it is not less either it is the lower number
  abbrev pub Before : ℕ → List ℕ → Type 0
  Before x [] = Unit {0}
  Before x (y ∷ ys) = (less y x ≡ false) × (less x y ≡ false → x < y) × Before x ys

  abbrev pub Rising : List ℕ → Type 0
  Rising [] = Unit {0}
  Rising (x ∷ xs) = Before x xs × Rising xs

-- whether a number stands in a list
unfoldable pub has : ℕ → List ℕ → Bool
has v [] = false
has v (x ∷ xs) = eqb v x || has v xs

-- a list of the numbers from 1 to n and no other, each once, in the order of their names and, where names are the same, of the numbers
pub record Sorted (less : ℕ → ℕ → Bool) (n : ℕ) (o : List ℕ) : Type 0 where
  pub count : length o ≡ n
  pub all : (v : ℕ) → has v o ≡ (ltb 0 v && leb v n)
  pub rising : Rising less o
