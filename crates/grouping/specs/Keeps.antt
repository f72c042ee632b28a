-- What an order of numbers that keeps the held ones in order is, and what the choice of the next number is.
use Rattle.std.specs.Prelude.{Bool, true, false, List, [], ◌∷◌, ◌⊎◌, ◌≡◌, ℕ, ◌<◌, ◌≤◌}
use Rattle.grouping.specs.Grouped.{free, rank}

-- c comes before each of these: those of them that are lower are not held with it
abbrev pub Ahead : (held : ℕ → ℕ → Bool) → ℕ → List ℕ → Type 0
Ahead held c [] = Unit {0}
Ahead held c (k ∷ ks) = (k < c → held k c ≡ false) × Ahead held c ks

abbrev pub Keeps : (held : ℕ → ℕ → Bool) → List ℕ → Type 0
Keeps held [] = Unit {0}
Keeps held (c ∷ ks) = Ahead held c ks × Keeps held ks

-- k is one of these
abbrev pub In : ℕ → List ℕ → Type 0
In k [] = ⊥
In k (i ∷ is) = (k ≡ i) ⊎ In k is

-- numbers above b in rising order
abbrev pub Rising : ℕ → List ℕ → Type 0
Rising b [] = Unit {0}
Rising b (k ∷ ks) = (b < k) × Rising k ks

-- what each choice is: of those left that may come next, none has a lesser rank, and of its rank none has a lower number
pub record Least (held : ℕ → ℕ → Bool) (type : ℕ → ℕ) (last : ℕ) (left : List ℕ) (c : ℕ) : Type 0 where
  pub among : In c left
  pub comes : free held left c ≡ true
  pub least : (k : ℕ) → In k left → free held left k ≡ true → rank last (type c) ≤ rank last (type k)
  pub lowest : (k : ℕ) → In k left → free held left k ≡ true → rank last (type c) ≡ rank last (type k) → c ≤ k
