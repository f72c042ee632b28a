-- Demand 2 a second time: "exactly the well-formed scenes are accepted" by the grammar, and each refusal by the reasons that hold.
use Rattle.std.specs.Prelude.{List, ◌↔◌, ◌⊎◌, ◌≡◌, ℕ, ◌≤◌, length}
use Rattle.grammar.specs.Grammar.{SpellsText}
use Rattle.grammar.specs.Refusal.{First, Holds, Looped, Unknown}
use Rattle.grammar.specs.Sound.{Mixes, Sound}
use Rattle.laws.specs.Bytes.{Bytes}
use Rattle.scene.specs.Reading.{Entry, accepted, read_statements, refused, statements}
use Rattle.scene.specs.Statement.{Statement}
use Rattle.scene.specs.declared.Settings.{Settings}
use Rattle.sides.specs.Read.{read}

-- ---- what is accepted

pub record WellFormed (r : Settings) (text : Bytes) (d : List Statement) : Type 0 where
  pub short : length text ≤ 65536
  pub spells : SpellsText r.mode d text
  pub sound : Sound r d
  pub mixes : Mixes d

-- a text is accepted with these statements
abbrev pub Accepts : Settings → Bytes → List Statement → Type 0
Accepts r text d = (es : List Entry) × (read r text ≡ accepted es) × (statements es ≡ d)

-- exactly where it is well-formed
abbrev pub GrammarLaw : Type 0
GrammarLaw = (r : Settings) (text : Bytes) (d : List Statement) → Accepts r text d ↔ WellFormed r text d

-- no text spells two lists
abbrev pub OnceLaw : Type 0
OnceLaw = (r : Settings) (text : Bytes) (d e : List Statement) → SpellsText r.mode d text → SpellsText r.mode e text → d ≡ e

-- ---- what is refused

-- the reading before mixtures refuses for the first reason that holds
abbrev pub RefusalLaw : Type 0
RefusalLaw = (r : Settings) (text : Bytes) (n place : ℕ) → (read_statements r text ≡ refused n place) ↔ First r text n place

-- and accepts only where none holds
abbrev pub NoReasonLaw : Type 0
NoReasonLaw = (r : Settings) (text : Bytes) (es : List Entry) → read_statements r text ≡ accepted es → (n place : ℕ) → Holds r text n place → ⊥

-- then the mixtures may refuse it
abbrev pub MixtureReason : Bytes → List Entry → (reason place : ℕ) → Type 0
MixtureReason text es n place = ((n ≡ 25) × Unknown text es place) ⊎ ((n ≡ 26) × Looped es place)

-- why a text is refused
abbrev pub Refuses : Settings → Bytes → (reason place : ℕ) → Type 0
Refuses r text n place = First r text n place ⊎ ((es : List Entry) × (read_statements r text ≡ accepted es) × MixtureReason text es n place)

abbrev pub ReadRefusalLaw : Type 0
ReadRefusalLaw = (r : Settings) (text : Bytes) (n place : ℕ) → (read r text ≡ refused n place) ↔ Refuses r text n place
