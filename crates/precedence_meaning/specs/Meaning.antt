-- What the call answers on the table of an accepted text, by its statements. "Did the order of two entries matter?"
use Rattle.std.specs.Prelude.{true, List, [], ◌∷◌, ◌++◌, ◌⊎◌, ◌≡◌, ℕ, ◌≤◌, ◌<◌, length}
use Rattle.std.proofs.Math.Option.{some}
use Rattle.holding.specs.Shortest.{first_link}
use Rattle.laws.specs.Bytes.{Bytes}
use Rattle.precedence.specs.Answer.{order_of}
use Rattle.precedence.specs.Order.{Free, Held}
use Rattle.rearrangement.specs.Held.{bound_in}
use Rattle.scene.specs.Block.{given, referred, stands}
use Rattle.scene.specs.Properties.{Named, numbered}
use Rattle.scene.specs.Reading.{Entry, accepted, statements}
use Rattle.scene.specs.Record.{record_image}
use Rattle.scene.specs.Statement.{Statement}
use Rattle.scene.specs.declared.Settings.{Settings}
use Rattle.sides.specs.Read.{read}

-- statement number b "gives a name that the other", number o, "gives or refers to"
pub record GivesTo (d : List Statement) (b o : ℕ) : Type 0 where
  pub name : Bytes
  pub from : Named d b name
  pub other : Statement
  pub there : numbered d o ≡ some other
  pub used : stands name (given (other ∷ []) ++ referred (other ∷ [])) ≡ true

-- "the name that binds" n and k is that of b, one of the two
abbrev pub Binds : List Statement → (n k b : ℕ) → Type 0
Binds d n k b = ((b ≡ n) × GivesTo d n k) ⊎ ((b ≡ k) × GivesTo d k n)

-- n stands above m. By the statements, their order is free exactly where `first_link` of those that are bound is 0; else it is held, by the
-- entry that `first_link` gives and one whose name binds n and that entry
pub record Means (text : Bytes) (T : List ℕ) (es : List Entry) (n m : ℕ) : Type 0 where
  pub free : first_link (bound_in (statements es)) n m ≡ 0 → order_of text T (length es) n m ≡ Free
  pub held : 0 < first_link (bound_in (statements es)) n m → (b : ℕ) × (order_of text T (length es) n m ≡ Held (first_link (bound_in (statements es)) n m) b) × Binds (statements es) n (first_link (bound_in (statements es)) n m) b

-- the answer is the same, whichever of the two is named first
abbrev pub TurnedLaw : Type 0
TurnedLaw = (r : Settings) (text : Bytes) (es : List Entry) (k : ℕ) (T : List ℕ) → read r text ≡ accepted es → r.records ≤ 1024 → T ≡ record_image text k (accepted es)
    → (n m : ℕ) → 0 < n → n ≤ length es → 0 < m → m ≤ length es → (n ≡ m → ⊥)
    → order_of text T (length es) m n ≡ order_of text T (length es) n m

-- for every accepted text within document 01's room, its table in any room, and two of its entries, n above m
abbrev pub MeaningLaw : Type 0
MeaningLaw = (r : Settings) (text : Bytes) (es : List Entry) (k : ℕ) (T : List ℕ) → read r text ≡ accepted es → r.records ≤ 1024 → T ≡ record_image text k (accepted es)
    → (n m : ℕ) → 0 < n → n < m → m ≤ length es → Means text T es n m
