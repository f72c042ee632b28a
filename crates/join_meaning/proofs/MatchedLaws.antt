-- The matches of two accepted texts' records are those of their statements.
use mathlib.Core.Bool.{Bool, true}
use mathlib.Core.List.{List}
use mathlib.Core.Option.{Option, none, some}
use mathlib.Core.Path.{◌≡◌, ap, ◌∙◌}
use Prim.Native.Nat.{ℕ, ◌*◌, ◌/◌, ◌≤◌}
use native.Mathlib.Omega.{arith}
use lib.Dec.{eqb}
use lib.Ieee.{Float}
use lib.ListN.{length}
use Rattle.joining.specs.Definition.{named, same_definition}
use Rattle.laws.specs.Bytes.{Bytes}
use Rattle.scene.proofs.NumberedLaws.{numbered_range}
use Rattle.scene.proofs.TellsLaws.{statements_length}
use Rattle.scene.specs.Properties.{numbered}
use Rattle.scene.specs.Reading.{Entry, accepted, read_statements, statements}
use Rattle.scene.specs.Record.{name_in, real_image, width}
use Rattle.scene.specs.Statement.{Statement}
use Rattle.scene.specs.declared.Settings.{Settings}
use Rattle.tabled.proofs.TabledLaws.{tabled_at, tabled_length}
use Rattle.tabled.specs.Tabled.{tabled}
use Rattle.tied.proofs.TiedLaws.{name_of_lem}
use Rattle.join_meaning.proofs.NumberedLaws.{number_none}
use Rattle.join_meaning.specs.Matched.{MatchedIn}
use Rattle.join_meaning.specs.Rows.{used_rows}
use Rattle.match_meaning.proofs.MeaningLaws.{same_meaning}
use Rattle.match_meaning.proofs.NumberLaws.{number_meaning, numbered_named, table_length}
use Rattle.match_meaning.specs.Numbered.{number_named}
use Rattle.matching.specs.Matching.{match_of, match_with, same_row}
use Rattle.name_index.specs.Names.{number_of_name}

-- a record for each statement
pub rows_count : (r : Settings) (text : Bytes) (es : List Entry) → read_statements r text ≡ accepted es → length (used_rows text es) / width ≡ length (statements es)
rows_count r text es reads = omega (arith, table_length r text es reads, statements_length es)

-- there is no match of none, whatever is equal
no_match : (a b : Bool) (n : ℕ) → eqb n 0 ≡ true → match_with a n ≡ match_with b n
unfolding match_with
no_match a b n e = rw e

module _ (r : Settings) (few : r.records ≤ 1024) (a : Bytes) (es : List Entry) (p : read_statements r a ≡ accepted es) (j : ℕ) (b : Bytes) (fs : List Entry) (q : read_statements r b ≡ accepted fs) (k : ℕ) where
  abbrev A : List ℕ
  A = used_rows a es

  abbrev B : List ℕ
  B = used_rows b fs

  abbrev x : List Float
  x = real_image j (accepted es)

  abbrev y : List Float
  y = real_image k (accepted fs)

  abbrev there : List Statement
  there = statements fs

  module _ (n : ℕ) (s : Statement) (says : numbered (statements es) n ≡ some s) where
    -- where the name stands there, the records are the same as the statements are
    match_meaning : match_with (same_row a A x n b B y (number_named s.name there)) (number_named s.name there) ≡ match_with (same_definition (some s) (named s.name there)) (number_named s.name there)
    unfolding same_definition
    match_meaning = go (named s.name there) (numbered_named s.name there) (number_none s.name there)
      where
        number : ℕ
        number = number_named s.name there

        go : (z : Option Statement) → numbered there number ≡ z → eqb number 0 ≡ same_definition none z → match_with (same_row a A x n b B y number) number ≡ match_with (same_definition (some s) z) number
        go none u e = no_match (same_row a A x n b B y number) (same_definition (some s) none) number e
        go (some t) u e = ap (λ (z : Bool). match_with z number) (same_meaning r a es (length es * width) j p n s says r b fs (length fs * width) k q number t u)

    match_of_lem : match_of a A x b B y n ≡ match_with (same_definition (some s) (named s.name there)) (number_named s.name there)
    unfolding match_of
    match_of_lem =
        let e : number_of_name b B (name_in a A n) ≡ number_named s.name there = ap (number_of_name b B) (name_of_lem r a es (length es * width) p n s says) ∙ number_meaning r b fs q few s.name in
        ap (λ (m : ℕ). match_with (same_row a A x n b B y m) m) e ∙ match_meaning

  pub rows_matched : MatchedIn (statements es) there (tabled (match_of a A x b B y) (length A / width))
  rows_matched = record {
    size = tabled_length (match_of a A x b B y) (length A / width) ∙ rows_count r a es p;
    each = λ n s says. let z = numbered_range (statements es) n s says in tabled_at (match_of a A x b B y) n (length A / width) z.0 (omega (arith, z.1, rows_count r a es p)) ∙ match_of_lem n s says;
  }
