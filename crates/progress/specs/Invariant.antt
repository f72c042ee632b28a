-- What holds between two words: the definition's state after the bytes read, and the code's values as its image.
use Rattle.std.specs.Prelude.{false, List, ◌++◌, ◌≡◌, ℕ, ◌≤◌, ◌<◌, Float, length, get_or, set, drop}
use Rattle.progress.specs.Image.{image, open_reals}
use Rattle.laws.specs.Bytes.{Bytes}
use Rattle.laws.specs.Runs.{run as longest}
use Rattle.lexer.specs.Class.{is_other, is_blank}
use Rattle.index.specs.Lent.{lent, tally}
use Rattle.linker.specs.Entered.{behind_in, entered_in, indexed_in}
use Rattle.scene.specs.HouseRules.{zero_real}
use Rattle.scene.specs.Phase as scene
use Rattle.scene.specs.Reading.{run, statements, newline, Reading, refused, Entry, accepted, Places, initial, finish, gap, going_at}
use Rattle.scene.specs.Record.{records, filled, flat, real_table, settings_for}
use Rattle.scene.specs.declared.Settings.{Settings}
use Rattle.statement.specs.States.{opening_of}
use Rattle.statement.specs.declared.State.{State}
use Rattle.statement.specs.Step.{Step}
use Rattle.statement.specs.declared.Opening.TheVariants as opening
use Rattle.statement.specs.Step as step

-- done has been read and rest is left
pub record Inv (text : Bytes) (table : List ℕ) (reals : List Float) (index : List ℕ) (room : Settings) (s : State) : Type 0 where
  pub done : Bytes
  pub rest : Bytes
  pub phase : scene.Phase
  pub places : Places
  pub above : List Entry
  pub whole : text ++ newline ≡ done ++ rest
  pub reach : run room initial done ≡ going_at (length done) gap phase places above
  pub is : s ≡ image (length index) (length done) (statements above) phase places
  pub stored : table ≡ filled 0 (length table) (flat text (records above))
  pub held : index ≡ lent (length index) (statements above)
  pub doubles : reals ≡ filled zero_real (length reals) (real_table above ++ open_reals phase)
  pub settings : room ≡ settings_for room.mode (length table) (length reals)
  pub short : length text ≤ 65536

-- a word of so many bytes stands at the state's place
pub record AtWord (text : Bytes) (table : List ℕ) (reals : List Float) (index : List ℕ) (room : Settings) (s : State) (len : ℕ) : Type 0 where
  pub inv : Inv text table reals index room s
  pub here : s.at < length text
  pub other : is_blank (get_or text s.at 0) ≡ false
  pub opens : opening_of s.phase (get_or text s.at 0) ≡ opening.Word
  pub size : len ≡ longest is_other (drop s.at text)

-- how reading ends
abbrev pub result : Bytes → Settings → Reading
result text room = finish (length text) (run room initial (text ++ newline))

-- reading ends with n primitives, k reals and l entries looked at, and the tables hold what was read
pub record Accepts (text : Bytes) (table : List ℕ) (reals : List Float) (index : List ℕ) (room : Settings) (n k l : ℕ) : Type 0 where
  pub entries : List Entry
  pub few : length (statements entries) ≤ 1024
  pub accepts : result text room ≡ accepted entries
  pub count : n ≡ length entries
  pub used : k ≡ length (real_table entries)
  pub looked : l ≡ tally (length index) (statements entries)
  pub stored : table ≡ filled 0 (length table) (flat text (records entries))
  pub held : index ≡ lent (length index) (statements entries)
  pub doubles : reals ≡ filled zero_real (length reals) (real_table entries)

-- the tables once the statement of t is entered, and the state then
pub record Entered (text : Bytes) (table index : List ℕ) (t : State) (table' index' : List ℕ) (t' : State) : Type 0 where
  pub state : t' ≡ behind_in text table index t
  pub stored : table' ≡ entered_in text table index t.count t.draft
  pub held : index' ≡ indexed_in text table index t.count t.draft
  pub sized : length table' ≡ length table
  pub spread : length index' ≡ length index

-- a step taken from state s: once it is done to the tables, reading has got on, or it ends
abbrev pub Ready : Bytes → List ℕ → List Float → (index : List ℕ) → Settings → State → Step → Type 0
Ready text table reals index room s (step.Going t) = Inv text table reals index room t × (s.at < t.at)
Ready text table reals index room s (step.Real t x) =
    (s.used < length reals) × ((D : List Float) → D ≡ set reals s.used x → Inv text table D index room t × (s.at < t.at))
Ready text table reals index room s (step.Last t x) =
    (s.used < length reals)
    × ((T : List ℕ) (D : List Float) (X : List ℕ) (t' : State) → D ≡ set reals s.used x → Entered text table index t T X t' → Inv text T D X room t' × (s.at < t'.at))
Ready text table reals index room s (step.Complete t) =
    (T X : List ℕ) (t' : State) → Entered text table index t T X t' → Inv text T reals X room t' × (s.at < t'.at)
Ready text table reals index room s (step.Refused n p) = result text room ≡ refused n p
Ready text table reals index room s step.Ended = Accepts text table reals index room s.count s.used s.looked
