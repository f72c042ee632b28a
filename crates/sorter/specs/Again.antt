-- The sorting call on a text and its accepted tables.
use Rattle.std.specs.Prelude.{List, ◌⊎◌, ◌≡◌, ℕ}
use Rattle.laws.specs.Bytes.{Bytes}
use Rattle.scene.specs.Reading.{Entry, accepted}
use Rattle.scene.specs.Record.{real_image, record_image, settings_for}
use Rattle.scene.specs.declared.Mode.{Mode}
use Rattle.sides.specs.Read.{read}
use Rattle.sorter.specs.Answer.{sorted_by}
use Rattle.sorting.specs.Sorted.{sorted_text}
use Rattle.sorting.specs.Sorts.{Cuttable, SortedScene}
use Rattle.writer.specs.Answer.{Outcome, fitted, refused}

-- a call in a mode on a text and on the tables that reading it leaves in so many numbers and reals
abbrev pub sorted_from : Mode → Bytes → (numbers reals room : ℕ) → Outcome
sorted_from mode text n k room =
    let x = read (settings_for mode n k) text in
    sorted_by mode text (record_image text n x) (real_image k x) room

-- every text that can be cut is sorted, or refused by 23 where the output is too small for it; every other one is refused by 33 or 34
pub record SortsOwn (mode : Mode) (text : Bytes) (n k room : ℕ) (es : List Entry) : Type 0 where
  pub sorts : Cuttable text es → sorted_from mode text n k room ≡ fitted room (sorted_text text es)
  pub scene : Cuttable text es → SortedScene (settings_for mode n k) text es
  pub refuses : (Cuttable text es → ⊥) → (p : ℕ) × ((sorted_from mode text n k room ≡ refused 33 p) ⊎ (sorted_from mode text n k room ≡ refused 34 p))

abbrev pub SortsOwnLaw : Type 0
SortsOwnLaw = (mode : Mode) (text : Bytes) (n k room : ℕ) (es : List Entry) → read (settings_for mode n k) text ≡ accepted es → SortsOwn mode text n k room es
