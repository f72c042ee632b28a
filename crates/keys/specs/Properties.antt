-- What the laws say of the keys: their order, and which stand in a list.
use Rattle.std.specs.Prelude.{Bool, true, false, ◌||◌, List, [], ◌∷◌, ◌≡◌}
use Rattle.keys.specs.Key.{Key, same_key, before}

-- exactly one of three tests holds
pub data OneOf : (a b c : Bool) → Type 0 where
  first : OneOf true false false
  second : OneOf false true false
  third : OneOf false false true

-- a key comes before the first of a list
abbrev pub Ahead : Key → List Key → Type 0
Ahead k [] = Unit {0}
Ahead k (x ∷ xs) = before k x ≡ true

-- each key comes before the next one
abbrev pub Increasing : List Key → Type 0
Increasing [] = Unit {0}
Increasing (x ∷ xs) = Ahead x xs × Increasing xs

-- a key stands in a list
unfoldable pub stands_in : Key → List Key → Bool
stands_in k [] = false
stands_in k (x ∷ xs) = same_key k x || stands_in k xs
