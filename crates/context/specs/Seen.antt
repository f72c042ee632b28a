-- What a step sees of the tables: the record looked up, and the two reals before.
use Rattle.std.specs.Prelude.{Bool, true, false, not, cond, List, ℕ, zero, suc, ◌-◌, leb, Float, length, get_or}
use Rattle.laws.specs.Bytes.{Bytes, same}
use Rattle.statement.specs.States.{clipped, opened}
use Rattle.index.specs.Searches.{sought}
use Rattle.statement.specs.declared.Draft.{Draft}
use Rattle.statement.specs.declared.Phase.{Phase}
use Rattle.statement.specs.declared.Seen.{Seen}
use Rattle.statement.specs.declared.State.{State}
use Rattle.scene.specs.HouseRules.{zero_real}
use Rattle.scene.specs.Record.{Record, record_in}
use Rattle.scene.specs.Statement.{void}
use Rattle.statement.specs.declared.Phase.TheVariants as is

-- only a modifier other than `void` and an alias target are looked up
unfoldable pub is_looked_up : Phase → Bytes → Bool
is_looked_up is.Idle w = not (same w void)
is_looked_up is.Kind w = false
is_looked_up is.Name w = false
is_looked_up is.StringCount w = false
is_looked_up is.FirstString w = false
is_looked_up is.LaterString w = false
is_looked_up is.IntegerCount w = false
is_looked_up is.RealCount w = false
is_looked_up is.Real w = false
is_looked_up is.AliasName w = false
is_looked_up is.Target w = true

-- what the search for a word comes to, x if it is looked up
abbrev pub looked_for : Phase → Bytes → ℕ → ℕ
looked_for ph w x = cond (is_looked_up ph w) x 0

-- "An alias takes type, strings and reals from its target": those of a record
abbrev pub draft_of : Record → Draft
draft_of r = record { kind = r.type; modifier = 0; target = 0; name = 0; size = 0; string = r.string; strings = r.strings; real = r.real; reals = r.reals }

-- and those of the record of a number, of which 0 is none
abbrev pub draft_in : List ℕ → ℕ → Draft
draft_in table zero = opened 0
draft_in table (suc j) = draft_of (record_in table (suc j))

-- the real that stands j before the u-th
unfoldable pub back : List Float → ℕ → ℕ → Float
back reals u j = cond (leb j u) (get_or reals (u - j) zero_real) zero_real

-- that real where the word is one: no other step looks at the reals before
unfoldable pub real_before : Phase → List Float → ℕ → ℕ → Float
real_before is.Idle reals u j = zero_real
real_before is.Kind reals u j = zero_real
real_before is.Name reals u j = zero_real
real_before is.StringCount reals u j = zero_real
real_before is.FirstString reals u j = zero_real
real_before is.LaterString reals u j = zero_real
real_before is.IntegerCount reals u j = zero_real
real_before is.RealCount reals u j = zero_real
real_before is.Real reals u j = back reals u j
real_before is.AliasName reals u j = zero_real
real_before is.Target reals u j = zero_real

-- a word's place and length, u reals stored, the record and the reals that a step may look at, and the k entries looked at for it
abbrev pub seen_by : List ℕ → List Float → Phase → (place len u found k : ℕ) → Seen
seen_by table reals ph place len u found k = record { place = place; name = clipped place; size = clipped len; used = clipped u; found = clipped found; looked = k; source = draft_in table found; previous = real_before ph reals u 1; first = real_before ph reals u 2 }

-- the same from the state, with the look-up of the word done
abbrev pub seen_in : Bytes → List ℕ → List Float → (index : List ℕ) → State → (place : ℕ) → (word : Bytes) → Seen
seen_in text table reals x s place w =
    let f = sought text table x s.count w in
    seen_by table reals s.phase place (length w) s.used (looked_for s.phase w f.number) (looked_for s.phase w f.looked)
