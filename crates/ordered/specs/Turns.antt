-- One turn of the comparison: what the first of two orders come to.
use Rattle.std.specs.Prelude.{Bool, cond, List, [], ◌∷◌, ℕ}
use Rattle.content.specs.Content.{same_content}
use Rattle.keys.specs.Key.{Key, before}
use Rattle.ordered.specs.Lines.{Scene, key_by, content_by}
use Rattle.ordered.specs.Turn.{Turn}
use Rattle.ordered.specs.Turn as turn
use Rattle.std.specs.declared.cmp.Ordering.{Ordering}
use Rattle.std.specs.declared.cmp.Ordering.TheVariants as goes

-- which of two keys goes first: the less one
unfoldable pub order_of : (left right : Key) → Ordering
order_of a b = cond (before a b) goes.Less (cond (before b a) goes.Greater goes.Equal)

module _ (l r : Scene) where
  -- by which goes first, and by whether their content is the same
  abbrev pub turn_by : (m n : ℕ) → Ordering → (same : Bool) → Turn
  turn_by m n goes.Less s = turn.Left m (key_by l m).nth
  turn_by m n goes.Greater s = turn.Right n (key_by r n).nth
  turn_by m n goes.Equal s = cond s turn.Same (turn.Changed m (key_by l m).nth)

  -- of two numbers
  abbrev pub turn_of : (m n : ℕ) → Turn
  turn_of m n = turn_by m n (order_of (key_by l m) (key_by r n)) (same_content (content_by l m) (content_by r n))

  -- of two orders
  abbrev pub turn_at : (o p : List ℕ) → Turn
  turn_at [] [] = turn.End
  turn_at (m ∷ o) [] = turn.Left m (key_by l m).nth
  turn_at [] (n ∷ p) = turn.Right n (key_by r n).nth
  turn_at (m ∷ o) (n ∷ p) = turn_of m n
