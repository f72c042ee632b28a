-- What a count, a string or a real comes to, over the code's own values.
use Rattle.std.specs.Prelude.{cond, ℕ, zero, suc, ◌+◌, ◌-◌, leb, ltb, Float}
use Rattle.std.proofs.Math.Option.{Option, none, some}
use Rattle.laws.specs.Bytes.{Bytes}
use Rattle.numeral.specs.Count.{count_of}
use Rattle.numeral.specs.Numeral.{numeral_of, value, refusal, Answer as Numeral}
use Rattle.scene.specs.HouseRules.{house_rules, breach_at}
use Rattle.scene.specs.Types.{strings_allowed, reals_allowed}
use Rattle.statement.specs.Heads.{going_to}
use Rattle.statement.specs.declared.Draft.{Draft}
use Rattle.statement.specs.declared.Seen.{Seen}
use Rattle.statement.specs.declared.State.{State}
use Rattle.statement.specs.Step.{Step}
use Rattle.statement.specs.declared.Phase.TheVariants as is
use Rattle.statement.specs.Step as to

-- ---- drafts with a part of them set

-- how many strings
abbrev pub with_strings : Draft → ℕ → Draft
with_strings d n = record { kind = d.kind; modifier = d.modifier; target = d.target; name = d.name; size = d.size; string = d.string; strings = n; real = d.real; reals = d.reals }

-- the first string's place
abbrev pub with_string : Draft → ℕ → Draft
with_string d p = record { kind = d.kind; modifier = d.modifier; target = d.target; name = d.name; size = d.size; string = p; strings = d.strings; real = d.real; reals = d.reals }

-- the first real's index, and how many reals
abbrev pub with_reals : Draft → ℕ → ℕ → Draft
with_reals d u n = record { kind = d.kind; modifier = d.modifier; target = d.target; name = d.name; size = d.size; string = d.string; strings = d.strings; real = u; reals = n }

-- ---- a step for each kind of word

-- after a string count come the strings, or the integer count where there are none
abbrev pub strings_to : State → ℕ → Step
strings_to s zero = going_to s is.IntegerCount 0 (with_strings s.draft 0)
strings_to s (suc k) = going_to s is.FirstString k (with_strings s.draft (suc k))

-- "12 count badly formed or not allowed"
abbrev pub string_counted : State → ℕ → Option ℕ → Step
string_counted s p none = to.Refused 12 p
string_counted s p (some k) = cond (strings_allowed s.draft.kind k) (strings_to s k) (to.Refused 12 p)

-- the string count's word
unfoldable pub string_count_step : Bytes → State → Seen → Step
string_count_step w s v = string_counted s v.place (count_of w)

-- after a string comes the next one, or the integer count after the last
abbrev pub string_left : State → Draft → ℕ → Step
string_left s d zero = going_to s is.IntegerCount 0 d
string_left s d (suc k) = going_to s is.LaterString k d

-- a string's word, which may be any
unfoldable pub string_step : State → Draft → Step
string_step s d = string_left s d s.left

-- "the integer count has the value 0"
abbrev pub integer_counted : State → ℕ → Option ℕ → Step
integer_counted s p none = to.Refused 12 p
integer_counted s p (some zero) = going_to s is.RealCount 0 s.draft
integer_counted s p (some (suc k)) = to.Refused 12 p

-- the integer count's word
unfoldable pub integer_count_step : Bytes → State → Seen → Step
integer_count_step w s v = integer_counted s v.place (count_of w)

-- after a real count come the reals, or the statement ends where there are none
abbrev pub reals_to : State → ℕ → ℕ → Step
reals_to s u zero = to.Complete s
reals_to s u (suc k) = going_to s is.Real k (with_reals s.draft u (suc k))

-- 12 as for strings, then "13 no room for the reals"
abbrev pub real_counted : ℕ → State → Seen → Option ℕ → Step
real_counted room s v none = to.Refused 12 v.place
real_counted room s v (some k) = cond (reals_allowed s.draft.kind k) (cond (leb (s.used + k) room) (reals_to s v.used k) (to.Refused 13 v.place)) (to.Refused 12 v.place)

-- the real count's word
unfoldable pub real_count_step : Bytes → ℕ → State → Seen → Step
real_count_step w room s v = real_counted room s v (count_of w)

-- so many reals are stored, and so many are left after the next
abbrev pub stored_in : State → (used left : ℕ) → State
stored_in s u l = record { at = s.at; count = s.count; used = u; left = l; looked = s.looked; phase = s.phase; draft = s.draft }

-- after a real comes the next one, or the statement ends with the last
abbrev pub real_left : State → Float → ℕ → Step
real_left s x zero = to.Last (stored_in s (s.used + 1) 0) x
real_left s x (suc k) = to.Real (stored_in s (s.used + 1) k) x

-- the numeral's own reason, then "16 breaks a house rule". The room was tested at the count, so that 13 comes from no state of a
-- reading
abbrev pub real_read : ℕ → State → Seen → Numeral → Step
real_read room s v (refusal n) = to.Refused n v.place
real_read room s v (value x) =
    cond (breach_at house_rules s.draft.kind (s.draft.reals - s.left) x v.previous v.first) (to.Refused 16 v.place)
    (cond (ltb s.used room) (real_left s x s.left) (to.Refused 13 v.place))

-- a real's word
unfoldable pub real_step : Bytes → ℕ → State → Seen → Step
real_step w room s v = real_read room s v (numeral_of w)
