-- A record is entered behind the others, and the latest earlier one of its name is told its number.
use Rattle.std.specs.Prelude.{cond, List, [], ◌∷◌, ℕ, zero, suc, ◌+◌, ◌*◌, ◌/◌, leb, length, set}
use Rattle.std.proofs.lemmas.List.Edits.{sets}
use Rattle.laws.specs.Bytes.{Bytes, part}
use Rattle.line_numbers.specs.Lines.{line_from}
use Rattle.index.specs.Searches.{sought}
use Rattle.index.specs.declared.Found.{Found}
use Rattle.statement.specs.States.{between, clipped}
use Rattle.statement.specs.declared.State.{State}
use Rattle.statement.specs.declared.Draft.{Draft}
use Rattle.scene.specs.Record.{width, Record, next_field}
use Rattle.scene.specs.Types.{is_surface}

-- a draft as a record, with no next of its name yet
abbrev pub record_from : Draft → Record
record_from d = record { type = d.kind; modifier = d.modifier; target = d.target; name = d.name; name_length = d.size; string = d.string; strings = d.strings; real = d.real; reals = d.reals; next = 0 }

-- the numbers of a draft as they are stored, 0 for no next of its name yet, and the line of its name
abbrev pub row_of : Draft → (line : ℕ) → List ℕ
row_of d line =
    d.kind ∷ d.modifier ∷ d.target ∷ d.name ∷ d.size ∷ d.string ∷ d.strings ∷ d.real ∷ d.reals ∷ 0 ∷ line ∷ []

-- "number of the next primitive of the same name": the record of a number is told it; 0, or one past the table's last, is no record
abbrev pub told_in : List ℕ → ℕ → ℕ → List ℕ
told_in table zero number = table
told_in table (suc k) number = cond (leb (suc k) (length table / width)) (set table (k * width + next_field) number) table

-- the search for the record that gets the draft as its next, the latest of the first n of its name; "0 for surfaces", for which no
-- entry of the index x is looked at
unfoldable pub earlier_in : Bytes → List ℕ → List ℕ → ℕ → Draft → Found
earlier_in text table x n d = cond (is_surface d.kind) (record { entry = length x; number = 0; looked = 0 }) (sought text table x n (part text d.name d.size))

-- that record is told of record n + 1, which the draft becomes, with its line; nothing is entered where there is no room
unfoldable pub entered_at : Bytes → List ℕ → List ℕ → ℕ → Draft → (line : ℕ) → List ℕ
entered_at text table x n d line =
    cond (leb (length table / width) n) table (sets (told_in table (earlier_in text table x n d).number (clipped (n + 1))) (n * width) (row_of d line))

-- the line being that of its name, counted on from the name before
abbrev pub entered_in : Bytes → List ℕ → List ℕ → ℕ → Draft → List ℕ
entered_in text table x n d = entered_at text table x n d (clipped (line_from text table n d.name))

-- its number is written where the search ended
unfoldable pub indexed_in : Bytes → List ℕ → List ℕ → ℕ → Draft → List ℕ
indexed_in text table x n d = cond (leb (length table / width) n) x (set x (earlier_in text table x n d).entry (clipped (n + 1)))

-- how many entries were looked at for it
unfoldable pub looked_in : Bytes → List ℕ → List ℕ → ℕ → Draft → ℕ
looked_in text table x n d = cond (leb (length table / width) n) 0 (earlier_in text table x n d).looked

-- and they are counted
unfoldable pub behind_in : Bytes → List ℕ → List ℕ → State → State
behind_in text table x t =
    cond (leb (length table / width) t.count) (between t.at t.count t.used t.looked) (between t.at (t.count + 1) t.used (clipped (t.looked + (earlier_in text table x t.count t.draft).looked)))
