-- When matches say what the statements of three scenes say, and then what is marked by numbers is what is picked of statements.
use Rattle.std.specs.Prelude.{true, false, cond, List, ◌++◌, ◌≡◌, ℕ, length}
use Rattle.std.proofs.Math.Option.{none, some}
use Rattle.joining.specs.Definition.{named, names_once, same_definition}
use Rattle.joining.specs.Pick.{picked}
use Rattle.join_meaning.specs.Kept.{waiting}
use Rattle.match_meaning.specs.Numbered.{number_named}
use Rattle.matching.specs.Matching.{match_with}
use Rattle.picking.specs.Picking.{clash_to, mark_at, taken_to}
use Rattle.scene.specs.Properties.{numbered}
use Rattle.scene.specs.Statement.{Statement}
use Rattle.tabled.specs.Tabled.{tabled}
use Rattle.table.specs.Number.{number_in}

-- these are the matches of the statements of one scene in another
pub record MatchedIn (here there : List Statement) (matches : List ℕ) : Type 0 where
  pub size : length matches ≡ length here
  pub each : (n : ℕ) (s : Statement) → numbered here n ≡ some s → number_in matches n ≡ match_with (same_definition (some s) (named s.name there)) (number_named s.name there)

module _ (base left right : List Statement) (left_right left_base right_left right_base : List ℕ) where
  abbrev pub mark : ℕ → ℕ
  mark = mark_at left_right left_base right_left right_base

  abbrev pub count : ℕ
  count = length (left ++ right)

  pub record Marked : Type 0 where
    pub clashes : picked base left right ≡ cond (clash_to mark count) none (some (waiting (tabled mark count) (left ++ right)))
    pub counted : clash_to mark count ≡ false → taken_to mark count ≡ length (waiting (tabled mark count) (left ++ right))

  abbrev pub MarkLaw : Type 0
  MarkLaw =
      names_once left ≡ true → names_once right ≡ true
      → MatchedIn left right left_right → MatchedIn left base left_base → MatchedIn right left right_left → MatchedIn right base right_base
      → Marked
