-- "For each key in either scene the tool says only left, only right, changed or same".
use Rattle.std.specs.Prelude.{cond, List, [], ◌∷◌}
use Rattle.content.specs.Content.{content_of, same_content}
use Rattle.keys.specs.Key.{Key, found, keys_of}
use Rattle.scene.specs.Told.{Told}

pub data State : Type 0 where
  absent left right changed alike : State

-- by where the key is found in each scene
abbrev pub state_at : (l r : List Told) → (in_left in_right : List Told) → State
state_at l r [] [] = absent
state_at l r (t ∷ d) [] = left
state_at l r [] (u ∷ e) = right
state_at l r (t ∷ d) (u ∷ e) = cond (same_content (content_of l t) (content_of r u)) alike changed

abbrev pub state_of : (l r : List Told) → Key → State
state_of l r k = state_at l r (found k l) (found k r)

pub record Line : Type 0 where
  pub key : Key
  pub state : State

-- "same keys print nothing"
abbrev pub line : State → Key → List Line → List Line
line absent k rest = rest
line alike k rest = rest
line left k rest = record { key = k; state = left } ∷ rest
line right k rest = record { key = k; state = right } ∷ rest
line changed k rest = record { key = k; state = changed } ∷ rest

unfoldable pub lines_for : (l r : List Told) → List Key → List Line
lines_for l r [] = []
lines_for l r (k ∷ ks) = line (state_of l r k) k (lines_for l r ks)

-- "Lines go out one by one in key order"
unfoldable pub compared : (l r : List Told) → List Line
compared l r = lines_for l r (keys_of l r)

-- the sides exchanged
abbrev pub turned : State → State
turned absent = absent
turned left = right
turned right = left
turned changed = changed
turned alike = alike

abbrev pub turned_line : Line → Line
turned_line x = record { key = x.key; state = turned x.state }
