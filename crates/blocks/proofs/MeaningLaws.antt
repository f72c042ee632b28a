-- On the table of an accepted text the code's ends and its verdict are those of the statements.
use mathlib.Core.Bool.{Bool, true, false, cond}
use mathlib.Core.List.{List, [], ◌∷◌, ◌++◌, append_assoc}
use mathlib.Core.Option.{none, some}
use mathlib.Core.Path.{◌≡◌, refl, ap, sym, ◌∙◌}
use Prim.Native.Nat.{ℕ, suc, ◌+◌}
use native.Mathlib.Omega.{arith}
use borrow.Author.Tests.{ne_eqb}
use lib.Dec.{eqb, ltb}
use lib.ListN.{length}
use Rattle.laws.specs.Bytes.{Bytes}
use Rattle.lexer.specs.Word.{behind_words}
use Rattle.rearrangement.proofs.BlockLaws.{lines_end_lem}
use Rattle.rearrangement.proofs.LayoutLaws.{Laid, Stands, end_of, laid, tail_words}
use Rattle.rearrangement.specs.Blocks.{behind_line, block_end, block_ends, crowded, lines_end, or_else, uncrowded, unended, verdict}
use Rattle.rearrangement.specs.Layout.{first_word}
use Rattle.scene.proofs.ImageLaws.{record_is}
use Rattle.scene.proofs.PropertyLaws.{accepted_linked}
use Rattle.scene.proofs.SwapLaws.{Linked, BodyLink}
use Rattle.scene.proofs.TellsLaws.{numbers_length}
use Rattle.scene.specs.Links.{found, head, latest, own_body, reals_in, strings_in, target_link}
use Rattle.scene.specs.Reading.{Entry, accepted, read_statements, statements, target_test}
use Rattle.scene.specs.Record.{Record, record_image, record_of}
use Rattle.scene.specs.Statement.{Body, Statement, alias, primitive}
use Rattle.scene.specs.declared.Settings.{Settings}
use Rattle.blocks.specs.Code.{block_end_in, crowded_in, end_in, ends_to, tail_in, verdict_in}

-- ---- the words of a record

abbrev words_of : Record → ℕ
words_of q = cond (eqb q.target 0) (4 + q.strings + q.reals) 2

-- a target that passed its test has a number
target_some : (d : List Statement) → target_test (head d) ≡ 0 → length d ≡ 0 → ⊥
target_some [] h e = absurd (omega arith)
target_some (s ∷ d) h e = absurd (omega arith)

body_words : (d : List Statement) (b : Body) → BodyLink d b → cond (eqb (target_link b d) 0) (4 + length (strings_in (own_body b d)) + length (reals_in (own_body b d))) 2 ≡ tail_words b
body_words d (primitive t ss rs) h = ap (λ (n : ℕ). 4 + length ss + n) (numbers_length rs)
body_words d (alias y) h = rw (ne_eqb (latest y d) 0 (target_some (found y d) h))

-- ---- a table whose records say where the statements of those numbers end

module _ (text : Bytes) (T : List ℕ) where
  abbrev Ends : List Entry → Type 0
  Ends [] = Unit {0}
  Ends (e ∷ x) = (end_in text T (suc (length x)) ≡ e.end) × Ends x

  end_is : (x : List Entry) → Ends x → end_in text T (length x) ≡ end_of x
  unfolding end_in
  end_is [] h = refl
  end_is (e ∷ x) h = h.0

  block_end_is : (x : List Entry) → Ends x → block_end_in text T (length x) ≡ block_end text x
  block_end_is [] h = refl
  block_end_is (e ∷ x) h = ap (behind_line text) h.0

  ends_are : (x : List Entry) → Ends x → ends_to text T (length x) ≡ block_ends text x
  unfolding ends_to block_ends
  ends_are [] h = refl
  ends_are (e ∷ x) h = λ i. ends_are x h.1 i ++ behind_line text (h.0 i) ∷ []

  crowded_is : (x : List Entry) → Laid text x → Ends x → crowded_in text T (length x) ≡ crowded text x
  unfolding crowded_in crowded
  crowded_is [] a h = refl
  crowded_is (e ∷ x) a h =
      let start : first_word text (end_in text T (length x)) ≡ e.places.start = ap (first_word text) (end_is x h.1) ∙ a.0.starts in
      λ i. or_else (crowded_is x a.1 h.1 i) (cond (ltb (start i) (block_end_is x h.1 i)) (some (start i)) none)

-- ---- the table of an accepted text is one

module _ (text : Bytes) (es : List Entry) (k : ℕ) where
  entry_ends : (l : List Entry) (e : Entry) (x : List Entry) → es ≡ l ++ e ∷ x → Stands text e x → BodyLink (statements x) e.statement.body → end_in text (record_image text k (accepted es)) (suc (length x)) ≡ e.end
  unfolding end_in tail_in record_image record_of
  entry_ends l e x q s h =
      ap (λ (c : Record). behind_words text c.name (words_of c)) (record_is text es k l e x q)
      ∙ ap (behind_words text e.places.name) (body_words (statements x) e.statement.body h)
      ∙ s.ends

  entries_end : (l x : List Entry) → es ≡ l ++ x → Laid text x → Linked (statements x) → Ends text (record_image text k (accepted es)) x
  unfolding statements
  entries_end l [] q a d = tt
  entries_end l (e ∷ x) q a d = (entry_ends l e x q a.0 d.0.body, entries_end (l ++ e ∷ []) x (q ∙ sym (append_assoc l (e ∷ []) x)) a.1 d.1)

table_ends : (r : Settings) (text : Bytes) (es : List Entry) (k : ℕ) → read_statements r text ≡ accepted es → Laid text es → Ends text (record_image text k (accepted es)) es
table_ends r text es k e a = entries_end text es k [] es refl a (accepted_linked r text es e)

pub ends_meant : (r : Settings) (text : Bytes) (es : List Entry) (k : ℕ) → read_statements r text ≡ accepted es → lines_end text ≡ true → ends_to text (record_image text k (accepted es)) (length es) ≡ block_ends text es
ends_meant r text es k e h = ends_are text (record_image text k (accepted es)) es (table_ends r text es k e (laid r text es e (lines_end_lem text h)))

pub verdict_meant : (r : Settings) (text : Bytes) (es : List Entry) (k : ℕ) → read_statements r text ≡ accepted es → verdict_in text (record_image text k (accepted es)) (length es) ≡ verdict text es
unfolding verdict_in verdict
verdict_meant r text es k e = go (lines_end text) refl
  where
    table : List ℕ
    table = record_image text k (accepted es)

    go : (b : Bool) → lines_end text ≡ b → cond b (uncrowded (crowded_in text table (length es))) (unended text) ≡ cond b (uncrowded (crowded text es)) (unended text)
    go true h = let a = laid r text es e (lines_end_lem text h) in ap uncrowded (crowded_is text table es a (table_ends r text es k e a))
    go false h = refl
