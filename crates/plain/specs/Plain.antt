-- What is said of a statement that is read whole: where its words lead, over what holds between two words.
use Rattle.std.specs.Prelude.{cond, false, List, ◌≡◌, ℕ, zero, suc, ◌+◌, ◌≤◌, ◌<◌, Float, length}
use Rattle.context.specs.Seen.{looked_for}
use Rattle.index.specs.Searches.{sought}
use Rattle.laws.specs.Bytes.{Bytes, same}
use Rattle.lexer.specs.Word.{word_bytes}
use Rattle.plain.specs.declared.Between.{Between}
use Rattle.plain.specs.declared.Filled.{Filled}
use Rattle.plain.specs.declared.Head.{Head}
use Rattle.plain.specs.declared.Link.{Link}
use Rattle.plain.specs.declared.Opened.{Opened}
use Rattle.progress.specs.Invariant.{Entered, Inv}
use Rattle.scene.specs.Record.{line_at}
use Rattle.scene.specs.Statement.{void}
use Rattle.scene.specs.declared.Settings.{Settings}
use Rattle.statement.specs.Heads.{going_to, link_to, with_kind}
use Rattle.statement.specs.States.{between, clipped, opened}
use Rattle.statement.specs.declared.Draft.{Draft}
use Rattle.statement.specs.declared.Phase.{Phase}
use Rattle.statement.specs.declared.State.{State}
use Rattle.statement.specs.declared.Phase.TheVariants as is
use Rattle.word_scan.specs.Passing.{Passes, PassesCount, PassesWord}
use Rattle.word_scan.specs.declared.Passed.{Passed}
use Rattle.word_scan.specs.declared.Valued.{Valued}

-- a state by its parts
abbrev pub state_at : (count used at left looked : ℕ) → Phase → Draft → State
state_at c u n l k ph d = record { at = n; count = c; used = u; left = l; looked = k; phase = ph; draft = d }

-- the state between two statements
abbrev pub idle_at : Between → State
idle_at b = between b.at b.count b.used b.looked

-- a name: a good word other than `void`
pub record Names (text : Bytes) (at : ℕ) (r : Passed) : Type 0 where
  pub word : PassesWord text at r
  pub other : same (word_bytes text at) void ≡ false

-- where the modifier w leads, and the entries looked at for it
pub record Links (text : Bytes) (table index : List ℕ) (count : ℕ) (w : Bytes) (r : Link) : Type 0 where
  pub looked_is : r.looked ≡ looked_for is.Idle w (sought text table index count w).looked
  pub leads : (s : State) (p : ℕ) → cond (same w void) (going_to s is.Kind 0 (opened 0)) (link_to s p (clipped (looked_for is.Idle w (sought text table index count w).number))) ≡ going_to s is.Kind 0 (opened r.number)

-- what holds where n reals of the open statement are left, t being the state with none left
abbrev pub Left : Bytes → List ℕ → List Float → (index : List ℕ) → Settings → (n : ℕ) → State → Type 0
Left text table reals index room zero t = (T X : List ℕ) (t' : State) → Entered text table index t T X t' → Inv text T reals X room t'
Left text table reals index room (suc k) t = Inv text table reals index room (state_at t.count t.used t.at k t.looked is.Real t.draft)

-- words of a statement lead from the state s, with its line, to the state s' with its own
pub record Leads (text : Bytes) (table index : List ℕ) (room : Settings) (s : State) (line : ℕ) (s' : State) (line' : ℕ) : Type 0 where
  pub leads : (reals : List Float) → Inv text table reals index room s → Inv text table reals index room s'
  pub further : s.at < s'.at
  pub line_on : line' + line_at text s.at ≡ line + line_at text s'.at

-- a modifier
abbrev pub Opens : Bytes → (table index : List ℕ) → Settings → Between → Opened → Type 0
Opens text table index room b r = Leads text table index room (idle_at b) b.line (state_at b.count b.used r.at 0 r.looked is.Kind (opened r.link)) r.line

-- the counts of a primitive with no strings
pub record Counting (text : Bytes) (at : ℕ) (r : Valued ℕ) : Type 0 where
  pub strings : Valued ℕ
  pub integers : Valued ℕ
  pub reals : Valued ℕ
  pub strings_are : PassesCount text at strings
  pub no_strings : strings.value ≡ 0
  pub integers_are : PassesCount text strings.next integers
  pub no_integers : integers.value ≡ 0
  pub reals_are : PassesCount text integers.next reals
  pub so_many : r.value ≡ reals.value
  pub behind : r.next ≡ reals.next
  pub lines_on : line_at text at + r.lines ≡ line_at text r.next

-- the states behind the word `alias` and behind a type
abbrev pub alias_at : Between → (link : ℕ) → State
alias_at b l = state_at b.count b.used b.at 0 b.looked is.AliasName (opened l)

abbrev pub primitive_at : Between → (link kind : ℕ) → State
primitive_at b l t = state_at b.count b.used b.at 0 b.looked is.Name (with_kind (opened l) t)

-- the words of a statement from the state s on, up to its reals; its line goes on from that of s, and its name stands behind s
pub record Begins (text : Bytes) (table index : List ℕ) (room : Settings) (s : State) (line : ℕ) (r : Head) : Type 0 where
  pub leads : (reals : List Float) → Inv text table reals index room s → Left text table reals index room r.reals (state_at s.count s.used r.at 0 r.looked is.Real r.draft)
  pub further : s.at < r.at
  pub line_on : r.line + line_at text s.at ≡ line + line_at text r.at
  pub place : ℕ
  pub place_behind : s.at ≤ place
  pub place_within : place ≤ length text
  pub place_is : r.draft.name ≡ clipped place
  pub named_on : r.named + line_at text s.at ≡ line + line_at text place

-- one real stored where it is plain and breaks no rule, m being left behind it: D is what the table of reals then holds
pub record Stores (text : Bytes) (reals : List Float) (room : ℕ) (d : Draft) (m used at : ℕ) (r : Valued Float) (D : List Float) : Type 0 where
  pub leads : (table index : List ℕ) (settings : Settings) (count looked : ℕ) → settings.reals ≡ room
      → Left text table reals index settings (suc m) (state_at count used at 0 looked is.Real d) → Left text table D index settings m (state_at count (used + 1) r.next 0 looked is.Real d)
  pub passes : Passes text at r.next r.lines
  pub fits : used < length reals

-- the reals of a statement with the draft d stored as far as they are plain, from f on
pub record Fills (text : Bytes) (reals : List Float) (room : Settings) (d : Draft) (f : Filled) (r : Filled) (D : List Float) : Type 0 where
  pub leads : (table index : List ℕ) (count looked : ℕ) → Left text table reals index room f.left (state_at count f.used f.at 0 looked is.Real d) → Left text table D index room r.left (state_at count r.used r.at 0 looked is.Real d)
  pub further : f.at ≤ r.at
  pub line_on : r.line + line_at text f.at ≡ f.line + line_at text r.at

-- before the first of them
abbrev pub unfilled : Head → (used : ℕ) → Filled
unfilled h used = record { left = h.reals; at = h.at; line = h.line; used = used }

-- what holds of the tables between two statements, and the line there
pub record Stands (text : Bytes) (table : List ℕ) (reals : List Float) (index : List ℕ) (room : Settings) (b : Between) : Type 0 where
  pub inv : Inv text table reals index room (idle_at b)
  pub line_is : b.line ≡ line_at text b.at
