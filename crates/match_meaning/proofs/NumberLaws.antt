-- Where a name stands in the table of an accepted text is where it stands among the statements, and so for names that stand once.
use mathlib.Core.Bool.{Bool, true, false, not, ◌&&◌, cond}
use mathlib.Core.List.{List, [], ◌∷◌, ◌++◌}
use mathlib.Core.Option.{some}
use mathlib.Core.Path.{◌≡◌, refl, ap, sym, ◌∙◌}
use Prim.Native.Nat.{ℕ, suc, ◌*◌, ◌≤◌}
use native.Mathlib.Omega.{arith}
use borrow.Author.Tests.{eq-eqb, ne_eqb}
use lib.Dec.{eqb, eqb-suc-zero}
use lib.ListN.{length}
use Rattle.index.specs.Searches.{latest_of}
use Rattle.joining.specs.Definition.{named, names_once, stands}
use Rattle.laws.proofs.BoolLaws.{cond_elim}
use Rattle.laws.specs.Bytes.{Bytes, same}
use Rattle.match_meaning.proofs.OnceLaws.{once_to_lem, once_to}
use Rattle.match_meaning.specs.Numbered.{number_named}
use Rattle.name_index.specs.Names.{count_in, names_once_in, number_of_name, rows}
use Rattle.record_text.proofs.RowLaws.{name_of_lem, next}
use Rattle.scene.proofs.AcceptLaws.{accept_forth}
use Rattle.scene.proofs.FlatLaws.{flat_length}
use Rattle.scene.proofs.ImageLaws.{filled_length}
use Rattle.scene.proofs.RoomLaws.{fit_forth}
use Rattle.scene.proofs.TellsLaws.{records_length, statements_length}
use Rattle.scene.specs.Properties.{numbered}
use Rattle.scene.specs.Reading.{Entry, accepted, read_statements, statements}
use Rattle.scene.specs.Record.{flat, name_in, record_image, records, width}
use Rattle.scene.specs.Statement.{Statement}
use Rattle.scene.specs.declared.Settings.{Settings}

-- ---- among statements

module _ (w : Bytes) where
  pub number_low : (d : List Statement) → number_named w d ≤ length d
  unfolding number_named
  number_low [] = omega arith
  number_low (s ∷ d) = cond_elim (λ (n : ℕ). n ≤ suc (length d)) (same w s.name) (omega arith) (omega (arith, number_low d))

  -- the statement of the number is the one of the name; number 0 has none
  pub numbered_named : (d : List Statement) → numbered d (number_named w d) ≡ named w d
  unfolding numbered number_named named
  numbered_named [] = refl
  numbered_named (s ∷ d) = go (same w s.name) (numbered_named d)
    where
      go : (b : Bool) → numbered d (number_named w d) ≡ named w d → numbered (s ∷ d) (cond b (suc (length d)) (number_named w d)) ≡ cond b (some s) (named w d)
      go true ih = rw (eq-eqb (suc (length d)) (suc (length d)) refl)
      go false ih = rw (ne_eqb (number_named w d) (suc (length d)) (λ e. omega (arith, number_low d))) ih

  number_none : (d : List Statement) → eqb (number_named w d) 0 ≡ not (stands (named w d))
  unfolding number_named named
  number_none [] = refl
  number_none (s ∷ d) = go (same w s.name) (number_none d)
    where
      go : (b : Bool) → eqb (number_named w d) 0 ≡ not (stands (named w d)) → eqb (cond b (suc (length d)) (number_named w d)) 0 ≡ not (stands (cond b (some s) (named w d)))
      go true ih = eqb-suc-zero (length d)
      go false ih = ih

-- ---- the earliest records and the earliest statements

module _ (r : Settings) (text : Bytes) (es : List Entry) (k : ℕ) (reads : read_statements r text ≡ accepted es) where
  abbrev image : List ℕ
  image = record_image text k (accepted es)

  latest_is : (w : Bytes) (l x : List Entry) → es ≡ l ++ x → latest_of (rows text image) w (length x) ≡ number_named w (statements x)
  unfolding latest_of number_named statements
  latest_is w l [] q = refl
  latest_is w l (e ∷ x) q = λ i. cond (same w (name_of_lem r text es k reads l e x q i)) (suc (sym (statements_length x) i)) (latest_is w (l ++ e ∷ []) x (next r text es k reads l e x q) i)

  once_is : (l x : List Entry) → es ≡ l ++ x → once_to text image (length x) ≡ names_once (statements x)
  unfolding once_to names_once statements
  once_is l [] q = refl
  once_is l (e ∷ x) q = λ i. new i && once_is (l ++ e ∷ []) x (next r text es k reads l e x q) i
    where
      new : eqb (latest_of (rows text image) (name_in text image (suc (length x))) (length x)) 0 ≡ not (stands (named e.statement.name (statements x)))
      new =
          (λ i. eqb (latest_of (rows text image) (name_of_lem r text es k reads l e x q i) (length x)) 0)
          ∙ ap (λ (n : ℕ). eqb n 0) (latest_is e.statement.name (l ++ e ∷ []) x (next r text es k reads l e x q))
          ∙ number_none e.statement.name (statements x)

-- ---- the table of all records, and no more

module _ (r : Settings) (text : Bytes) (es : List Entry) (reads : read_statements r text ≡ accepted es) where
  abbrev table : List ℕ
  table = record_image text (length es * width) (accepted es)

  pub table_length : length table ≡ length es * width
  unfolding record_image records
  table_length = sym (filled_length 0 (length es * width) (flat text (records es)) (omega (arith, flat_length text (records es), records_length [] es)))

  module _ (room : r.records ≤ 1024) where
    pub entries_few : length es ≤ 1024
    entries_few = omega (arith, (fit_forth r (statements es) (accept_forth r text es reads).2).1, statements_length es)

    pub count_is : count_in table ≡ length es
    count_is = omega (arith, table_length, entries_few)

    pub number_meaning : (w : Bytes) → number_of_name text table w ≡ number_named w (statements es)
    unfolding number_of_name
    number_meaning w = ap (latest_of (rows text table) w) count_is ∙ latest_is r text es (length es * width) reads w [] es refl

    pub once_meaning : names_once_in text table ≡ names_once (statements es)
    once_meaning = once_to_lem text table ∙ ap (once_to text table) count_is ∙ once_is r text es (length es * width) reads [] es refl
