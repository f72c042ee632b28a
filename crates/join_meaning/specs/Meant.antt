-- When numbers say what the statements of both hands say, and then the order by numbers is the order of statements.
use Rattle.std.specs.Prelude.{true, false, not, cond, List, [], ◌⊎◌, ◌≡◌, ℕ, ◌<◌, eqb, length}
use Rattle.std.proofs.Math.Option.{some}
use Rattle.arranging.specs.Order.{Both, order_from}
use Rattle.join_meaning.specs.Kept.{in_turn_of, waiting}
use Rattle.joining.specs.Arranged.{arranged}
use Rattle.joining.specs.Definition.{names_once}
use Rattle.laws.specs.Bytes.{Bytes, same}
use Rattle.scene.specs.Links.{gives}
use Rattle.scene.specs.Properties.{numbered}
use Rattle.scene.specs.Statement.{Body, Statement, alias, primitive, void}
use Rattle.scene.specs.Types.{is_surface}
use Rattle.table.specs.Number.{number_in}

module _ (both : List Statement) (v : Both) (marks : List ℕ) where
  abbrev pub is_taken : ℕ → Type 0
  is_taken n = number_in marks n ≡ 1

  -- of number n and the one of the same name in the other hand, the one that is taken
  abbrev pub taken_of : ℕ → ℕ
  taken_of n = cond (eqb (number_in marks (v.other n)) 0) n (v.other n)

  -- number n is that of a word: what is taken of its name is what is taken of the word
  pub record Leads (w : Bytes) (n : ℕ) : Type 0 where
    pub linked : 0 < n
    pub each : (m : ℕ) (t : Statement) → numbered both m ≡ some t → is_taken m → t.name ≡ w → taken_of n ≡ m
    pub own : (t : Statement) → numbered both (taken_of n) ≡ some t → t.name ≡ w

  pub record LinkedBy (m : Bytes) (n : ℕ) : Type 0 where
    pub free : same m void ≡ true → n ≡ 0
    pub bound : same m void ≡ false → Leads m n

  abbrev pub TargetBy : Body → (n : ℕ) → Type 0
  TargetBy (primitive t ss rs) n = n ≡ 0
  TargetBy (alias x) n = Leads x n

  pub record Meant : Type 0 where
    pub size : length marks ≡ length both
    pub low : (n : ℕ) → (number_in marks n ≡ 0) ⊎ is_taken n
    pub names : (n : ℕ) (s : Statement) → numbered both n ≡ some s → v.name n ≡ s.name
    pub types : (n : ℕ) (s : Statement) → numbered both n ≡ some s → is_surface (v.type n) ≡ not (gives s)
    pub modifiers : (n : ℕ) (s : Statement) → numbered both n ≡ some s → LinkedBy s.modifier (v.link 1 n)
    pub targets : (n : ℕ) (s : Statement) → numbered both n ≡ some s → TargetBy s.body (v.link 2 n)
    pub once : names_once (waiting marks both) ≡ true

abbrev pub OrderLaw : Type 0
OrderLaw = (both : List Statement) (v : Both) (marks : List ℕ) → Meant both v marks → in_turn_of both (order_from v (length (waiting marks both)) marks []) ≡ arranged (waiting marks both)
