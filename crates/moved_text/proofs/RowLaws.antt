-- What is put of an accepted text and its table is the tidy text of its statements moved.
use mathlib.Core.List.{List, [], ◌∷◌, ◌++◌, append_assoc}
use mathlib.Core.Path.{◌≡◌, refl, ap, sym, ◌∙◌, subst}
use Prim.Native.Nat.{ℕ, suc}
use native.Mathlib.Omega.{arith}
use lib.ListN.{length, length-append, take}
use Rattle.buffer.specs.Decimal.{decimal, digits}
use Rattle.laws.specs.Bytes.{Bytes, bytes}
use Rattle.lines.proofs.LineLaws.{spaced_more, words_length}
use Rattle.moving.specs.Moved.{index, moved, moved_body, moved_statement}
use Rattle.moving.specs.declared.Direction.{Direction}
use Rattle.record_text.proofs.RowLaws.{BodyRow, PrimitiveRow, body_row, modifier_word_lem, name_of_lem, next, record_at, record_text_lem}
use Rattle.record_text.specs.RecordText.{link_word, modifier_word, record_text}
use Rattle.scene.proofs.SpellingLaws.{numerals_length}
use Rattle.scene.proofs.TellsLaws.{split_statements}
use Rattle.scene.specs.Reading.{Entry, accepted, newline, read_statements, statements}
use Rattle.scene.specs.Record.{Record, name_in, record_image, record_in}
use Rattle.scene.specs.Statement.{Body, Literal, Statement, numeral_words, primitive}
use Rattle.scene.specs.Told.{words_from}
use Rattle.scene.specs.Types.{kind_of, type_name}
use Rattle.scene.specs.declared.Mode.{Mode}
use Rattle.scene.specs.declared.Settings.{Settings}
use Rattle.tidying.proofs.ReadBackLaws.{accepted_proper}
use Rattle.tidying.specs.Proper.{AllProper, Proper, ProperBody}
use Rattle.tidying.specs.Tidy.{body_text, counted, line, spaced, statement_text, tidy}
use Rattle.moved_text.proofs.GlassLaws.{body_changed, front_words, place, words_are}
use Rattle.moved_text.specs.MovedText.{MovedRowsLaw, glass_text, moved_row, moved_rows, row_by}
use Rattle.moved_text.specs.declared.Change.{Change}

-- ---- the line of reals

words_snoc : (rs : List Literal) (l : Literal) → numeral_words (rs ++ l ∷ []) ≡ numeral_words rs ++ l.word ∷ []
words_snoc [] l = refl
words_snoc (r ∷ rs) l = ap (λ (ws : List Bytes). r.word ∷ ws) (words_snoc rs l)

four_words : (ws : List Bytes) → length ws ≡ 3 → bytes "4" ++ spaced ws ++ bytes " 1.52\n" ≡ counted (ws ++ bytes "1.52" ∷ [])
unfolding decimal digits
four_words ws e =
    let n : length (ws ++ bytes "1.52" ∷ []) ≡ 4 = omega (arith, length-append ws (bytes "1.52" ∷ [])) in
    sym (append_assoc (bytes "4" ++ spaced ws) (bytes " 1.52") newline)
    ∙ ap (λ (x : Bytes). x ++ newline) (spaced_more (bytes "4") ws (bytes "1.52"))
    ∙ ap (λ (k : ℕ). line (decimal k) (ws ++ bytes "1.52" ∷ [])) (sym n)

three_words : (ws : List Bytes) → length ws ≡ 3 → bytes "3" ++ spaced ws ++ bytes "\n" ≡ counted ws
unfolding decimal digits
three_words ws e = ap (λ (k : ℕ). line (decimal k) ws) (sym e)

-- ---- a record, from what text and table say of it

grouped : (m s n z c w e : Bytes) → m ++ (s ++ (n ++ (z ++ z) ++ (c ++ (w ++ e)))) ≡ m ++ s ++ n ++ z ++ z ++ (c ++ w ++ e)
grouped m s n z c w e = simp append_assoc

module _ (text : Bytes) (T : List ℕ) (k : ℕ) {m n : Bytes} (a : modifier_word text T k ≡ m) (d : name_in text T k ≡ n) where
  glass_text_lem : (count end : Bytes) (ws reals : List Bytes) → words_from text (place text T k) 3 ≡ ws → count ++ spaced ws ++ end ≡ counted reals → glass_text text T k count end ≡ line m (type_name 23 ∷ n ∷ []) ++ counted [] ++ counted [] ++ counted reals
  unfolding glass_text spaced decimal type_name kind_of
  glass_text_lem count end ws reals w e =
      (λ i. a i ++ (spaced (bytes "glass" ∷ d i ∷ []) ++ (bytes "\n0\n0\n" ++ (count ++ (spaced (w i) ++ end)))))
      ∙ grouped m (spaced (bytes "glass" ∷ n ∷ [])) newline (bytes "0\n") count (spaced ws) end
      ∙ ap (λ (x : Bytes). line m (bytes "glass" ∷ n ∷ []) ++ bytes "0\n" ++ bytes "0\n" ++ x) e

  module _ (rs : List Literal) (row : PrimitiveRow text T (record_in T k) 23 [] rs) where
    added_row : length rs ≡ 3 → glass_text text T k (bytes "4") (bytes " 1.52\n") ≡ body_text m n (primitive 23 [] (rs ++ index ∷ []))
    added_row e =
        let ws = numeral_words rs in
        glass_text_lem (bytes "4") (bytes " 1.52\n") ws (numeral_words (rs ++ index ∷ [])) (ap (words_from text (place text T k)) (sym e) ∙ words_are text T k rs row) (four_words ws (numerals_length rs ∙ e) ∙ ap counted (sym (words_snoc rs index)))

    dropped_row : length rs ≡ 4 → glass_text text T k (bytes "3") (bytes "\n") ≡ body_text m n (primitive 23 [] (take 3 rs))
    dropped_row e =
        let ws = numeral_words (take 3 rs) in
        let w = front_words text (place text T k) 3 rs (omega arith) (words_are text T k rs row) in
        glass_text_lem (bytes "3") (bytes "\n") ws ws w (three_words ws (ap length (sym w) ∙ words_length text (place text T k) 3))

  moved_row_lem : (v : Direction) (mode : Mode) (b : Body) → BodyRow text T (record_in T k) b → ProperBody mode b → record_text text T k ≡ body_text m n b → moved_row v text T k ≡ body_text m n (moved_body v b)
  moved_row_lem v mode b row proper h = body_changed text T k (λ (c : Change) (x : Body). row_by c text T k ≡ body_text m n x) v mode b row proper h added_row dropped_row

-- ---- the records of an accepted text

proper_at : (mode : Mode) (x : List Statement) (s : Statement) (d : List Statement) → AllProper mode (x ++ s ∷ d) → Proper mode s
proper_at mode [] s d h = h.0
proper_at mode (y ∷ x) s d h = proper_at mode x s d h.1

module _ (r : Settings) (text : Bytes) (es : List Entry) (n : ℕ) (reads : read_statements r text ≡ accepted es) where
  abbrev table : List ℕ
  table = record_image text n (accepted es)

  module _ (l : List Entry) (e : Entry) (x : List Entry) (q : es ≡ l ++ e ∷ x) where
    pub proper_body : ProperBody r.mode e.statement.body
    proper_body = (proper_at r.mode (statements l) e.statement (statements x) (subst (AllProper r.mode) (split_statements es l e x q) (accepted_proper r text es reads))).body

    pub row_at : BodyRow text table (record_in table (suc (length x))) e.statement.body
    row_at = subst (λ (k : Record). BodyRow text table k e.statement.body) (sym (record_at r text es n reads l e x q)) (body_row r text es n reads l e x q e.statement.body refl)

    row_moved : (m : Direction) → moved_row m text table (suc (length x)) ≡ statement_text (moved_statement m e.statement)
    row_moved m =
        let modifier_is = ap (λ (k : Record). link_word text table k.modifier) (record_at r text es n reads l e x q) ∙ modifier_word_lem r text es n reads l e x q in
        moved_row_lem text table (suc (length x)) modifier_is (name_of_lem r text es n reads l e x q) m r.mode e.statement.body row_at proper_body (record_text_lem r text es n reads l e x q)

  -- the earliest records, and the earliest statements
  texts : (m : Direction) (l x : List Entry) → es ≡ l ++ x → moved_rows m text table (length x) ≡ tidy (moved m (statements x))
  unfolding moved_rows tidy statements
  texts m l [] q = refl
  texts m l (e ∷ x) q = λ i. texts m (l ++ e ∷ []) x (next r text es n reads l e x q) i ++ row_moved l e x q m i

pub moved_rows_lem : MovedRowsLaw
moved_rows_lem m r text es k reads = texts r text es k reads m [] es refl
