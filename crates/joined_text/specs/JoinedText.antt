-- The tidy text of two hands' records in an order of their numbers.
use Rattle.std.specs.Prelude.{List, [], ◌∷◌, ◌++◌, ℕ, ◌/◌, length}
use Rattle.arranging.specs.Both.{either}
use Rattle.laws.specs.Bytes.{Bytes}
use Rattle.record_text.specs.RecordText.{record_text}
use Rattle.scene.specs.Record.{width}

module _ (left : Bytes) (L : List ℕ) (right : Bytes) (R : List ℕ) where
  unfoldable pub number_text : (n : ℕ) → Bytes
  number_text n = either (length R / width) (record_text right R) (record_text left L) n

  -- the first comes first
  unfoldable pub order_text : (order : List ℕ) → Bytes
  order_text [] = []
  order_text (n ∷ order) = number_text n ++ order_text order
