-- The steps of the words that begin a statement and of an alias's target, over the code's own values.
use Rattle.std.specs.Prelude.{cond, ℕ, zero, suc, ltb}
use Rattle.laws.specs.Bytes.{Bytes, same, bytes}
use Rattle.scene.specs.Statement.{void}
use Rattle.scene.specs.Types.{is_retired, type_number}
use Rattle.scene.specs.declared.Mode.{Mode}
use Rattle.statement.specs.States.{opened}
use Rattle.statement.specs.declared.Draft.{Draft}
use Rattle.statement.specs.declared.Phase.{Phase}
use Rattle.statement.specs.declared.Seen.{Seen}
use Rattle.statement.specs.declared.State.{State}
use Rattle.statement.specs.Step.{Step}
use Rattle.statement.specs.declared.Phase.TheVariants as is
use Rattle.statement.specs.Step as to

-- the statement goes on: the next phase, how many words of its kind come after it, and the draft
abbrev pub going_to : State → Phase → ℕ → Draft → Step
going_to s ph l d = to.Going (record { at = s.at; count = s.count; used = s.used; left = l; looked = s.looked; phase = ph; draft = d })

-- ---- drafts with a part of them set

-- the type
abbrev pub with_kind : Draft → ℕ → Draft
with_kind d k = record { kind = k; modifier = d.modifier; target = d.target; name = d.name; size = d.size; string = d.string; strings = d.strings; real = d.real; reals = d.reals }

-- the name's place and length
abbrev pub with_name : Draft → ℕ → ℕ → Draft
with_name d p n = record { kind = d.kind; modifier = d.modifier; target = d.target; name = p; size = n; string = d.string; strings = d.strings; real = d.real; reals = d.reals }

-- "An alias takes type, strings and reals from its target and keeps its own modifier"
abbrev pub with_target : Draft → Seen → Draft
with_target d v = record { kind = v.source.kind; modifier = d.modifier; target = v.found; name = d.name; size = d.size; string = v.source.string; strings = v.source.strings; real = v.source.real; reals = v.source.reals }

-- ---- a step for each word

-- "7 modifier not defined above"
abbrev pub link_to : State → ℕ → ℕ → Step
link_to s p zero = to.Refused 7 p
link_to s p (suc j) = going_to s is.Kind 0 (opened (suc j))

-- "6 no room for a record" comes first; "A modifier `void` gives link 0"
unfoldable pub modifier_step : Bytes → ℕ → State → Seen → Step
modifier_step w room s v = cond (ltb s.count room) (cond (same w void) (going_to s is.Kind 0 (opened 0)) (link_to s v.place v.found)) (to.Refused 6 v.place)

-- "8 unknown type"; "28 at the type word [..], new reading only"
abbrev pub typed_as : Mode → State → ℕ → ℕ → Step
typed_as m s p zero = to.Refused 8 p
typed_as m s p (suc t) = cond (is_retired m (suc t)) (to.Refused 28 p) (going_to s is.Name 0 (with_kind s.draft (suc t)))

-- "An alias is modifier, `alias`, name, target": the word in a type's stead
unfoldable pub kind_step : Bytes → Mode → State → Seen → Step
kind_step w m s v = cond (same w (bytes "alias")) (going_to s is.AliasName 0 s.draft) (typed_as m s v.place (type_number w))

-- "9 name is `void`". A name of a primitive or of an alias: the phase after it differs
unfoldable pub name_step : Phase → Bytes → State → Seen → Step
name_step next w s v = cond (same w void) (to.Refused 9 v.place) (going_to s next 0 (with_name s.draft v.name v.size))

-- "10 alias target not defined above"
abbrev pub target_at : State → Seen → ℕ → Step
target_at s v zero = to.Refused 10 v.place
target_at s v (suc j) = to.Complete (record { at = s.at; count = s.count; used = s.used; left = s.left; looked = s.looked; phase = s.phase; draft = with_target s.draft v })

-- an alias target's word
unfoldable pub target_step : State → Seen → Step
target_step s v = target_at s v v.found
