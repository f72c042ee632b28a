-- The states between words, and what a byte opens there.
use Rattle.std.specs.Prelude.{Bool, true, false, cond, ℕ, ◌+◌, min, eqb}
use Rattle.laws.specs.Bytes.{byte}
use Rattle.statement.specs.declared.Draft.{Draft}
use Rattle.statement.specs.declared.Opening.{Opening}
use Rattle.statement.specs.declared.Phase.{Phase}
use Rattle.statement.specs.declared.State.{State}
use Rattle.statement.specs.declared.Opening.TheVariants as opening
use Rattle.statement.specs.declared.Phase.TheVariants as is

-- a draft with nothing in it but the link to its modifier
abbrev pub opened : ℕ → Draft
opened l = record { kind = 0; modifier = l; target = 0; name = 0; size = 0; string = 0; strings = 0; real = 0; reals = 0 }

-- a state with its place moved
abbrev pub moved_to : State → ℕ → State
moved_to s n = record { at = n; count = s.count; used = s.used; left = s.left; looked = s.looked; phase = s.phase; draft = s.draft }

-- a number as a record can hold it: those past the largest count as the largest
abbrev pub clipped : ℕ → ℕ
clipped n = min n 4294967295

-- a state with so many more entries looked at
abbrev pub counted_in : State → ℕ → State
counted_in s k = record { at = s.at; count = s.count; used = s.used; left = s.left; looked = clipped (s.looked + k); phase = s.phase; draft = s.draft }

-- between two statements
abbrev pub between : ℕ → ℕ → ℕ → ℕ → State
between n c u k = record { at = n; count = c; used = u; left = 0; looked = k; phase = is.Idle; draft = opened 0 }

-- whether no statement is open
unfoldable pub is_idle : Phase → Bool
is_idle is.Idle = true
is_idle is.Kind = false
is_idle is.Name = false
is_idle is.StringCount = false
is_idle is.FirstString = false
is_idle is.LaterString = false
is_idle is.IntegerCount = false
is_idle is.RealCount = false
is_idle is.Real = false
is_idle is.AliasName = false
is_idle is.Target = false

-- what a byte opens that is no blank: "Where a statement may begin, `#` opens a comment [..] and `!` opens a command"; "Inside a
-- primitive or alias both are ordinary bytes"
abbrev pub opening_of : Phase → ℕ → Opening
opening_of ph b = cond (is_idle ph) (cond (eqb b (byte "#")) opening.Comment (cond (eqb b (byte "!")) opening.Command opening.Word)) opening.Word
