-- What a call of the reader answers, by the grammar of texts and the reasons that hold in them.
use Rattle.std.specs.Prelude.{List, ◌↔◌, ◌≡◌, ℕ, Float, length}
use Rattle.grammar.specs.Laws.{Refuses, WellFormed}
use Rattle.laws.specs.Bytes.{Bytes}
use Rattle.reader.specs.Answer.{Accepted, Answer, Reads, Refused}
use Rattle.scene.specs.Record.{reals, settings_for}
use Rattle.scene.specs.Statement.{Statement}
use Rattle.scene.specs.declared.Mode.{Mode}
use Rattle.scene.specs.declared.Settings.{Settings}

-- it accepts exactly the well-formed texts, with the counts of their statements and reals, and refuses a text exactly for its reason
pub record Answers (s : Settings) (text : Bytes) (r : Answer) : Type 0 where
  pub accepts : (n k : ℕ) → r ≡ Accepted n k → (d : List Statement) × WellFormed s text d × (n ≡ length d) × (k ≡ length (reals d))
  pub accepted : (d : List Statement) → WellFormed s text d → r ≡ Accepted (length d) (length (reals d))
  pub refuses : (n place : ℕ) → (r ≡ Refused n place) ↔ Refuses s text n place

-- in either mode, at the sizes of the lent tables
abbrev pub ReaderGrammar : Type 0
ReaderGrammar =
    (mode : Mode) (text : Bytes) (lent : List ℕ) (doubles : List Float) (r : Answer) (lent' : List ℕ) (doubles' : List Float)
    → Reads mode text lent doubles r lent' doubles' → Answers (settings_for mode (length lent) (length doubles)) text r
