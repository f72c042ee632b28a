-- A list in another order.
use Rattle.std.specs.Prelude.{List, [], ◌∷◌, ◌++◌, ◌≡◌}

module _ {A : Type 0} where
  -- the first of the new order stands somewhere in the old one, and so for the rest
  abbrev pub Shuffle : (old new : List A) → Type 0
  Shuffle old [] = old ≡ []
  Shuffle old (c ∷ new) = (xs : List A) × (ys : List A) × (old ≡ xs ++ c ∷ ys) × Shuffle (xs ++ ys) new
