-- The step of what stands next in a text, over the code's own values.
use Rattle.std.specs.Prelude.{cond, List, ◌≡◌, ℕ, ◌+◌, ◌≤◌, eqb, Float, get_or, length}
use Rattle.arguments.specs.Steps.{integer_count_step, real_count_step, real_step, string_count_step, string_step, with_string}
use Rattle.laws.specs.Bytes.{Bytes, part}
use Rattle.laws.specs.Runs.{past}
use Rattle.lexer.specs.Class.{is_in_line}
use Rattle.lexer.specs.Word.{Checked, word_at, word_fault}
use Rattle.lexer.specs.declared.Word.{Word}
use Rattle.context.specs.Seen.{seen_in}
use Rattle.scene.specs.declared.Settings.{Settings}
use Rattle.statement.specs.Heads.{kind_step, modifier_step, name_step, target_step}
use Rattle.statement.specs.States.{counted_in, is_idle, moved_to, opening_of}
use Rattle.statement.specs.declared.Opening.{Opening}
use Rattle.statement.specs.declared.Phase.{Phase}
use Rattle.statement.specs.declared.Seen.{Seen}
use Rattle.statement.specs.declared.State.{State}
use Rattle.statement.specs.Step.{Step}
use Rattle.statement.specs.declared.Opening.TheVariants as opening
use Rattle.statement.specs.declared.Phase.TheVariants as is
use Rattle.statement.specs.Step as to

-- what the text's end comes to: "5 text ends inside a statement", at the text's length
abbrev pub end_of : Phase → (len : ℕ) → Step
end_of ph n = cond (is_idle ph) to.Ended (to.Refused 5 n)

-- the step of each phase
abbrev pub step_of : Phase → Bytes → Settings → State → Seen → Step
step_of is.Idle w room s v = modifier_step w room.records s v
step_of is.Kind w room s v = kind_step w room.mode s v
step_of is.Name w room s v = name_step is.StringCount w s v
step_of is.StringCount w room s v = string_count_step w s v
step_of is.FirstString w room s v = string_step s (with_string s.draft v.name)
step_of is.LaterString w room s v = string_step s s.draft
step_of is.IntegerCount w room s v = integer_count_step w s v
step_of is.RealCount w room s v = real_count_step w room.reals s v
step_of is.Real w room s v = real_step w room.reals s v
step_of is.AliasName w room s v = name_step is.Target w s v
step_of is.Target w room s v = target_step s v

-- a word as it is checked: it stands in the text, and its fault is told
pub record Scanned (text : Bytes) (c : Checked) : Type 0 where
  pub within : c.place + c.len ≤ length text
  pub fault : c.fault ≡ word_fault (part text c.place c.len)

abbrev pub word_of : Checked → Word
word_of c = record { place = c.place; len = c.len }

-- the step of the word w, taken from the place behind it with what is seen of the tables, the entries looked at counted; a bad word's
-- fault is the reason
unfoldable pub word_step : Bytes → List ℕ → List Float → (index : List ℕ) → Settings → State → Word → Step
word_step text table reals x room s w =
    let b = part text w.place w.len in
    let t = moved_to s (w.place + w.len + 1) in
    let v = seen_in text table reals x t w.place b in
    cond (eqb (word_fault b) 0) (step_of s.phase b room (counted_in t v.looked) v) (to.Refused (word_fault b) w.place)

-- the step of what the first byte of w opens: a comment is passed over to its line's end, "4 command"
abbrev pub opened_step : Opening → Bytes → List ℕ → List Float → (index : List ℕ) → Settings → State → Word → Step
opened_step opening.Comment text table reals x room s w = to.Going (moved_to s (past is_in_line text w.place + 1))
opened_step opening.Command text table reals x room s w = to.Refused 4 w.place
opened_step opening.Word text table reals x room s w = word_step text table reals x room s w

-- the step where w stands next: a word of no bytes is the text's end
abbrev pub standing : Bytes → List ℕ → List Float → (index : List ℕ) → Settings → State → Word → Step
standing text table reals x room s w = cond (eqb w.len 0) (end_of s.phase (length text)) (opened_step (opening_of s.phase (get_or text w.place 0)) text table reals x room s w)

-- the step of what stands next in the text
unfoldable pub next_step : Bytes → List ℕ → List Float → (index : List ℕ) → Settings → State → Step
next_step text table reals x room s = standing text table reals x room s (word_at text s.at)
