-- The keys that come after a key, and the key to start from.
use Rattle.std.specs.Prelude.{cond, List, [], ◌∷◌}
use Rattle.keys.specs.Key.{Key, key_at, before}

-- those of a list that come after a key
unfoldable pub after : Key → List Key → List Key
after k [] = []
after k (x ∷ xs) = let rest = after k xs in cond (before k x) (x ∷ rest) rest

-- the key that no primitive has, which comes before every other
abbrev pub start : Key
start = key_at []
