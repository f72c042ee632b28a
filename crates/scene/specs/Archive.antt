-- The new reading and the archive one of the same text.
use Rattle.std.specs.Prelude.{◌⊎◌, List, ◌≡◌, ℕ}
use Rattle.laws.specs.Bytes.{Bytes}
use Rattle.scene.specs.Reading.{Entry, refused, accepted, read_statements}
use Rattle.scene.specs.declared.Mode.{Mode}
use Rattle.scene.specs.declared.Mode.TheVariants.{New, Archive}
use Rattle.scene.specs.declared.Settings.{Settings}

-- the same room, read in a mode
abbrev pub in_mode : Mode → Settings → Settings
in_mode mode r = record { mode = mode; records = r.records; reals = r.reals }

-- "Every text accepted by the new reading has the same table in the archive one": the same entries, of which answer and tables
-- are made
abbrev pub ArchiveLaw : Type 0
ArchiveLaw = (r : Settings) (text : Bytes) (es : List Entry) → read_statements (in_mode New r) text ≡ accepted es → read_statements (in_mode Archive r) text ≡ accepted es

-- "28 [..], new reading only": a text that the new reading does not refuse with 28 reads the same in both modes, refusals too
abbrev pub OnlyRetiredDiffer : Type 0
OnlyRetiredDiffer = (r : Settings) (text : Bytes) → (read_statements (in_mode New r) text ≡ read_statements (in_mode Archive r) text) ⊎ ((p : ℕ) × (read_statements (in_mode New r) text ≡ refused 28 p))
