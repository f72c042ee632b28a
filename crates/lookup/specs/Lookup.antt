-- The backward search for a name, over the text and the table.
use Rattle.std.specs.Prelude.{Bool, not, ◌&&◌, cond, List, ℕ, zero, suc, ◌+◌, eqb, leb, length}
use Rattle.laws.specs.Bytes.{Bytes, same}
use Rattle.scene.specs.Record.{name_in, record_in}
use Rattle.scene.specs.Types.{is_surface}

-- whether record n has the name w, inside the text, as many bytes, and the same, and may be looked up: "the latest earlier
-- non-surface of that name"
unfoldable pub has_name : Bytes → List ℕ → ℕ → Bytes → Bool
has_name text table n w =
    let r = record_in table n in
    leb (r.name + r.name_length) (length text) && eqb r.name_length (length w) && same w (name_in text table n) && not (is_surface r.type)

-- the number of the latest of the first n records that has the name w; 0 for none
unfoldable pub latest_in : Bytes → List ℕ → Bytes → ℕ → ℕ
latest_in text table w zero = 0
latest_in text table w (suc n) = cond (has_name text table (suc n) w) (suc n) (latest_in text table w n)
