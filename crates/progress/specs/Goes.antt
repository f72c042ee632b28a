-- A step of the code beside what the definition makes of the same word.
use Rattle.std.specs.Prelude.{List, [], ◌∷◌, ◌++◌, ◌≡◌, ℕ, suc, ◌+◌, Float, length}
use Rattle.progress.specs.Image.{image, open_reals}
use Rattle.progress.specs.Invariant.{AtWord}
use Rattle.laws.specs.Bytes.{Bytes, part}
use Rattle.index.specs.Lent.{count_open, count_whole, tally}
use Rattle.linker.specs.Entered.{record_from}
use Rattle.scene.specs.Links.{reals_used, reals_in}
use Rattle.scene.specs.Phase.{word, Phase, idle}
use Rattle.scene.specs.Reading.{statements, settle, Entry, Places, test, stopped, gap, going_at, at_end}
use Rattle.scene.specs.Record.{record_of}
use Rattle.scene.specs.declared.Settings.{Settings}
use Rattle.statement.specs.declared.State.{State}
use Rattle.statement.specs.Step.{Step}
use Rattle.statement.specs.Step as step
use Rattle.scene.specs.Reading as reading

-- the statement goes on, with the reals xs more
pub record On (size n : ℕ) (es : List Entry) (ph : Phase) (to : reading.State) (s : State) (xs : List Float) : Type 0 where
  pub phase : Phase
  pub places : Places
  pub goes : to ≡ going_at n gap phase places es
  pub is : s ≡ image size n (statements es) phase places
  pub reals : open_reals phase ≡ open_reals ph ++ xs

-- the statement is complete
pub record Done (size n : ℕ) (es : List Entry) (ph : Phase) (to : reading.State) (s : State) (xs : List Float) : Type 0 where
  pub places : Places
  pub entry : Entry
  pub goes : to ≡ going_at n gap idle places (entry ∷ es)
  pub place : s.at ≡ n
  pub count : s.count ≡ length (statements es)
  pub used : s.used ≡ reals_used (statements es) + length (reals_in entry.statement.body)
  pub looked : s.looked ≡ count_whole size (count_open size (tally size (statements es)) entry.statement.modifier (statements es)) entry.statement.body (statements es)
  pub own : record_from s.draft ≡ record_of [] entry es
  pub reals : reals_in entry.statement.body ≡ open_reals ph ++ xs

-- a step, beside the definition's state `to` after the same word
abbrev pub Goes : (size n : ℕ) → List Entry → Phase → reading.State → Step → Type 0
Goes size n es ph to (step.Going s) = On size n es ph to s []
Goes size n es ph to (step.Real s x) = On size n es ph to s (x ∷ [])
Goes size n es ph to (step.Last s x) = Done size n es ph to s (x ∷ [])
Goes size n es ph to (step.Complete s) = Done size n es ph to s []
Goes size n es ph to (step.Refused c p) = to ≡ stopped c p
Goes size n es ph to step.Ended = ⊥

-- the definition's state after a word w that stands from p on
abbrev pub word_ended : Settings → ℕ → Bytes → Phase → Places → List Entry → reading.State
word_ended r p w ph k es = settle (at_end p w ph k es) (word r ph w) (test r (statements es) ph w)

-- a word's step, before it is done to the tables
pub record Stepped (text : Bytes) (table : List ℕ) (reals : List Float) (index : List ℕ) (room : Settings) (s : State) (len : ℕ) (step : Step) : Type 0 where
  pub stands : AtWord text table reals index room s len
  pub goes : Goes (length index) (suc (s.at + len)) stands.inv.above stands.inv.phase (word_ended room s.at (part text s.at len) stands.inv.phase stands.inv.places stands.inv.above) step
