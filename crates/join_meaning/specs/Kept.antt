-- Statements by their numbers. Lists of statements stand latest first.
use Rattle.std.specs.Prelude.{Bool, cond, List, [], ◌∷◌, ◌++◌, ℕ, suc, eqb, length}
use Rattle.std.proofs.Math.Option.{Option, none, some}
use Rattle.scene.specs.Properties.{numbered}
use Rattle.scene.specs.Statement.{Statement}
use Rattle.table.specs.Number.{number_in}

-- those whose number passes
unfoldable pub kept_by : (ℕ → Bool) → List Statement → List Statement
kept_by test [] = []
kept_by test (s ∷ d) = cond (test (suc (length d))) (s ∷ kept_by test d) (kept_by test d)

-- those that are marked as waiting
abbrev pub waiting : (marks : List ℕ) → List Statement → List Statement
waiting marks d = kept_by (λ n. eqb (number_in marks n) 1) d

-- the statements of an order of numbers, whose first comes first
abbrev pub one_of : Option Statement → List Statement
one_of none = []
one_of (some s) = s ∷ []

unfoldable pub in_turn : List Statement → (order : List ℕ) → List Statement
in_turn d [] = []
in_turn d (n ∷ order) = in_turn d order ++ one_of (numbered d n)

abbrev pub in_turn_of : List Statement → Option (List ℕ) → Option (List Statement)
in_turn_of d none = none
in_turn_of d (some order) = some (in_turn d order)
