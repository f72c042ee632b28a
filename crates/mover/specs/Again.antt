-- The moving call on a text and its accepted tables, beside a reading of the moved text at the same sizes.
use Rattle.std.specs.Prelude.{List, ◌⊎◌, ◌≡◌, ℕ}
use Rattle.laws.specs.Bytes.{Bytes}
use Rattle.mover.specs.Answer.{moved_by}
use Rattle.moving.specs.Moved.{moved}
use Rattle.moving.specs.declared.Direction.{Direction}
use Rattle.scene.specs.Reading as reading
use Rattle.scene.specs.Reading.{Entry, Reading, accepted, statements}
use Rattle.scene.specs.Record.{real_image, record_image, settings_for}
use Rattle.scene.specs.declared.Mode.{Mode}
use Rattle.sides.specs.Read.{read}
use Rattle.tidying.specs.Tidy.{tidy}
use Rattle.writer.specs.Answer.{Outcome, fitted, refused}

-- a call in a mode on a text and on the tables that reading it leaves in so many numbers and reals
abbrev pub moved_from : Mode → Direction → Bytes → (numbers reals room : ℕ) → Outcome
moved_from mode m text n k room =
    let x = read (settings_for mode n k) text in
    moved_by mode m text (record_image text n x) (real_image k x) room

-- the moved text of es, read at those sizes
abbrev pub read_moved : Mode → Direction → (numbers reals : ℕ) → List Entry → Reading
read_moved mode m n k es = read (settings_for mode n k) (tidy (moved m (statements es)))

-- "what a reading of the moved scene at the same sizes would give, 1 or 13, at place 0; then 23"
pub record MovesAsRead (mode : Mode) (m : Direction) (text : Bytes) (n k room : ℕ) (es : List Entry) : Type 0 where
  pub accepts : (fs : List Entry) → read_moved mode m n k es ≡ accepted fs → moved_from mode m text n k room ≡ fitted room (tidy (moved m (statements es)))
  pub refuses : (c p : ℕ) → read_moved mode m n k es ≡ reading.refused c p → moved_from mode m text n k room ≡ refused c 0
  pub reasons : (c p : ℕ) → read_moved mode m n k es ≡ reading.refused c p → (c ≡ 1) ⊎ (c ≡ 13)

abbrev pub MovesAsReadLaw : Type 0
MovesAsReadLaw = (mode : Mode) (m : Direction) (text : Bytes) (n k room : ℕ) (es : List Entry) → read (settings_for mode n k) text ≡ accepted es → MovesAsRead mode m text n k room es
