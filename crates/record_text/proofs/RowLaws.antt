-- What is written from an accepted text and its table is the tidy text of its statements.
use mathlib.Core.Bool.{Bool, true, false, cond}
use mathlib.Core.List.{List, [], ◌∷◌, ◌++◌, append_assoc}
use mathlib.Core.Option.{some}
use mathlib.Core.Path.{◌≡◌, refl, ap, sym, ◌∙◌, subst}
use Prim.Native.Nat.{ℕ, suc, ◌+◌}
use native.Mathlib.Numerals.{add-one}
use native.Mathlib.Omega.{arith}
use borrow.Author.Tests.{eq-eqb, ne_eqb}
use lib.Dec.{eqb, eqb-suc-zero}
use lib.ListN.{length, length-append}
use Rattle.laws.proofs.BytesLaws.{same_eq}
use Rattle.laws.specs.Bytes.{Bytes, bytes, same}
use Rattle.lexer.specs.Word.{behind_words, word_bytes, word_end}
use Rattle.lines.specs.Arguments.{string_words, real_words}
use Rattle.scene.proofs.ImageLaws.{record_is, name_is}
use Rattle.scene.proofs.KeptLaws.{Each, each_tail}
use Rattle.scene.proofs.PlaceLaws.{spelt_words}
use Rattle.scene.proofs.PropertyLaws.{accepted_linked, modifier_defined, target_defined}
use Rattle.scene.proofs.SpellingLaws.{numerals_length, head_words, PrimitiveRead, BodyRead, bodies_read}
use Rattle.scene.proofs.SwapLaws.{hits_true, Linked, LinkedOne, linked_split, BodyLink}
use Rattle.scene.proofs.TellsLaws.{numbers_length, statements_length, split_statements, read_read}
use Rattle.scene.specs.Links.{hits, found, head, definition, latest, target_link, own_body, type_in, strings_in, reals_in}
use Rattle.scene.specs.Reading.{Entry, statements, newline, modifier_test, accepted, read_statements}
use Rattle.scene.specs.Record.{Record, name_in, record_of, record_in, record_image}
use Rattle.scene.specs.declared.Settings.{Settings}
use Rattle.scene.specs.Statement.{Literal, numbers, numeral_words, Body, primitive, alias, Statement, void}
use Rattle.scene.specs.Told.{words_from}
use Rattle.scene.specs.Types.{type_name}
use Rattle.record_text.specs.RecordText.{link_word, modifier_word, primitive_text, alias_text, record_text, record_texts}
use Rattle.tidying.specs.Tidy.{line, counted, body_text, statement_text, tidy}

-- ---- words of a text in two pieces

words_front : (text : Bytes) (k : ℕ) (x y : List Bytes) → words_from text k (length (x ++ y)) ≡ x ++ y → words_from text k (length x) ≡ x
unfolding words_from
words_front text k [] y h = refl
words_front text k (w ∷ x) y h =
    let a : word_bytes text k ≡ w = cc in
    let b : words_from text (word_end text k) (length (x ++ y)) ≡ x ++ y = cc in
    λ i. a i ∷ words_front text (word_end text k) x y b i

words_behind : (text : Bytes) (k : ℕ) (x y : List Bytes) → words_from text k (length (x ++ y)) ≡ x ++ y → words_from text (behind_words text k (length x)) (length y) ≡ y
unfolding words_from behind_words
words_behind text k [] y h = h
words_behind text k (w ∷ x) y h =
    let b : words_from text (word_end text k) (length (x ++ y)) ≡ x ++ y = cc in
    words_behind text (word_end text k) x y b

-- ---- a record's text, from what text and table say of it

module _ (text : Bytes) (table : List ℕ) where
  -- a record is a primitive or an alias
  module _ (n : ℕ) where
    pub as_primitive : (record_in table n).target ≡ 0 → primitive_text text table n ≡ record_text text table n
    as_primitive e = sym (ap (λ (b : Bool). cond b (primitive_text text table n) (alias_text text table n)) (eq-eqb (record_in table n).target 0 e))

    pub as_alias : ((record_in table n).target ≡ 0 → ⊥) → alias_text text table n ≡ record_text text table n
    as_alias e = sym (ap (λ (b : Bool). cond b (primitive_text text table n) (alias_text text table n)) (ne_eqb (record_in table n).target 0 e))

    -- one record more
    pub one_record : record_texts text table n ++ record_text text table (n + 1) ≡ record_texts text table (n + 1)
    unfolding record_texts
    one_record = rw add-one

  -- what they must say for a statement's body, and then the text is the statement's
  pub record PrimitiveRow (q : Record) (t : ℕ) (ss : List Bytes) (rs : List Literal) : Type 0 where
    pub target : q.target ≡ 0
    pub type : q.type ≡ t
    pub strings : string_words text q.name q.strings ≡ ss
    pub reals : real_words text q.name q.strings q.reals ≡ numeral_words rs

  pub record AliasRow (q : Record) (x : Bytes) : Type 0 where
    pub target : eqb q.target 0 ≡ false
    pub name : name_in text table q.target ≡ x

  abbrev pub BodyRow : Record → Body → Type 0
  BodyRow q (primitive t ss rs) = PrimitiveRow q t ss rs
  BodyRow q (alias x) = AliasRow q x

  row_text : (k : ℕ) (m n : Bytes) (b : Body) → modifier_word text table k ≡ m → name_in text table k ≡ n → BodyRow (record_in table k) b → record_text text table k ≡ body_text m n b
  row_text k m n (primitive t ss rs) a d h =
      let first = line m (type_name t ∷ n ∷ []) in
      let reals = counted (numeral_words rs) in
      (λ i. cond (eqb (h.target i) 0) (line (a i) (type_name (h.type i) ∷ d i ∷ []) ++ (counted (h.strings i) ++ counted [] ++ counted (h.reals i))) (alias_text text table k))
      ∙ sym (append_assoc (first ++ counted ss) (counted []) reals ∙ append_assoc first (counted ss) (counted [] ++ reals) ∙ ap (λ (x : Bytes). first ++ x) (sym (append_assoc (counted ss) (counted []) reals)))
  row_text k m n (alias x) a d h = λ i. cond (h.target i) (primitive_text text table k) (line (a i) (bytes "alias" ∷ d i ∷ h.name i ∷ []))

-- ---- the records of an accepted text

module _ (r : Settings) (text : Bytes) (es : List Entry) (n : ℕ) (reads : read_statements r text ≡ accepted es) where
  abbrev table : List ℕ
  table = record_image text n (accepted es)

  -- the same entries, split one further on
  pub next : (l : List Entry) (e : Entry) (x : List Entry) → es ≡ l ++ e ∷ x → es ≡ l ++ e ∷ [] ++ x
  next l e x q = q ∙ sym (append_assoc l (e ∷ []) x)

  pub record_at : (l : List Entry) (e : Entry) (x : List Entry) → es ≡ l ++ e ∷ x → record_in table (suc (length x)) ≡ record_of l e x
  unfolding record_image
  record_at l e x q = record_is text es n l e x q

  pub name_of_lem : (l : List Entry) (e : Entry) (x : List Entry) → es ≡ l ++ e ∷ x → name_in text table (suc (length x)) ≡ e.statement.name
  unfolding record_image
  name_of_lem l e x q = name_is text es n l e x q (read_read r text es reads)

  -- a number that leads to a record of a given name
  abbrev Leads : Bytes → ℕ → Type 0
  Leads w k = (eqb k 0 ≡ false) × (name_in text table k ≡ w)

  leads : (l x : List Entry) → es ≡ l ++ x → (w : Bytes) (t : Statement) → definition w (statements x) ≡ some t → Leads w (latest w (statements x))
  unfolding statements found
  leads l [] q w t d = let z : ◌≡◌ {A = ℕ} 0 1 = cc in absurd (omega arith)
  leads l (e ∷ x) q w t d = go (hits w e.statement) refl d (leads (l ++ e ∷ []) x (next l e x q) w t)
    where
      go : (b : Bool) → hits w e.statement ≡ b → head (cond b (e.statement ∷ statements x) (found w (statements x))) ≡ some t → (head (found w (statements x)) ≡ some t → Leads w (length (found w (statements x)))) → Leads w (length (cond b (e.statement ∷ statements x) (found w (statements x))))
      go true h d ih = (eqb-suc-zero (length (statements x)), ap (λ (k : ℕ). name_in text table (suc k)) (statements_length x) ∙ name_of_lem l e x q ∙ sym (hits_true w e.statement h).1)
      go false h d ih = ih d

  module _ (l : List Entry) (e : Entry) (x : List Entry) (q : es ≡ l ++ e ∷ x) where
    linked : LinkedOne (statements x) e.statement
    linked = (linked_split (statements l) (e.statement ∷ statements x) (subst Linked (split_statements es l e x q) (accepted_linked r text es reads))).1.0

    -- `void` for link 0, and else the name of the record that the link leads to
    pub modifier_word_lem : link_word text table (record_of l e x).modifier ≡ e.statement.modifier
    unfolding record_of
    modifier_word_lem = go (same m void) refl linked.modifier
      where
        m : Bytes
        m = e.statement.modifier

        go : (b : Bool) → same m void ≡ b → cond b 0 (modifier_test (definition m (statements x))) ≡ 0 → link_word text table (cond b 0 (latest m (statements x))) ≡ m
        go true v h = sym (same_eq m void v)
        go false v h =
            let d = modifier_defined (definition m (statements x)) h in
            let k = leads (l ++ e ∷ []) x (next l e x q) m d.0 d.1 in
            ap (λ (b : Bool). cond b void (name_in text table (latest m (statements x)))) k.0 ∙ k.1

    pub body_row : (b : Body) → e.statement.body ≡ b → BodyRow text table (record_of l e x) b
    unfolding record_of
    body_row (primitive t ss rs) b = record {
      target = ap (λ (z : Body). target_link z (statements x)) b;
      type = ap (λ (z : Body). type_in (own_body z (statements x))) b;
      strings = ap (λ (z : Body). words_from text (behind_words text k 2) (length (strings_in (own_body z (statements x))))) b ∙ strings_are;
      reals = ap (λ (z : Body). words_from text (behind_words text k (4 + length (strings_in (own_body z (statements x))))) (length (reals_in (own_body z (statements x))))) b ∙ reals_are;
    }
      where
        k : ℕ
        k = e.places.name

        h : PrimitiveRead (text ++ newline) k e.statement.name ss rs
        h = subst (BodyRead (text ++ newline) e.places e.statement.name) b (each_tail BodyRead (text ++ newline) l (e ∷ x) (subst (Each BodyRead (text ++ newline)) q (bodies_read r text es reads))).0

        u : List Bytes
        u = head_words e.statement.name ss h.string_count h.integer_count h.real_count

        words : words_from text k (length (u ++ numeral_words rs)) ≡ u ++ numeral_words rs
        words = spelt_words text k (u ++ numeral_words rs) h.words

        strings_are : words_from text (behind_words text k 2) (length ss) ≡ ss
        strings_are = words_front text (behind_words text k 2) ss (h.integer_count ∷ h.real_count ∷ []) (words_behind text k (e.statement.name ∷ h.string_count ∷ []) (ss ++ h.integer_count ∷ h.real_count ∷ []) (words_front text k u (numeral_words rs) words))

        reals_are : words_from text (behind_words text k (4 + length ss)) (length (numbers rs)) ≡ numeral_words rs
        reals_are =
            let a : 4 + length ss ≡ length u = omega (arith, length-append ss (h.integer_count ∷ h.real_count ∷ [])) in
            (λ i. words_from text (behind_words text k (a i)) ((numbers_length rs ∙ sym (numerals_length rs)) i)) ∙ words_behind text k u (numeral_words rs) words
    body_row (alias y) b =
        let d = target_defined (definition y (statements x)) (subst (BodyLink (statements x)) b linked.body) in
        let k = leads (l ++ e ∷ []) x (next l e x q) y d.0 d.1 in
        let a : target_link e.statement.body (statements x) ≡ latest y (statements x) = ap (λ (z : Body). target_link z (statements x)) b in
        record {
          target = ap (λ (z : ℕ). eqb z 0) a ∙ k.0;
          name = ap (λ (z : ℕ). name_in text table z) a ∙ k.1;
        }

    pub record_text_lem : record_text text table (suc (length x)) ≡ statement_text e.statement
    record_text_lem =
        let at = record_at l e x q in
        row_text text table (suc (length x)) e.statement.modifier e.statement.name e.statement.body
        (ap (λ (k : Record). link_word text table k.modifier) at ∙ modifier_word_lem)
        (name_of_lem l e x q)
        (subst (λ (k : Record). BodyRow text table k e.statement.body) (sym at) (body_row e.statement.body refl))

  -- the earliest records, and the earliest statements
  texts : (l x : List Entry) → es ≡ l ++ x → record_texts text table (length x) ≡ tidy (statements x)
  unfolding record_texts tidy statements
  texts l [] q = refl
  texts l (e ∷ x) q = λ i. texts (l ++ e ∷ []) x (next l e x q) i ++ record_text_lem l e x q i

pub written : (r : Settings) (text : Bytes) (es : List Entry) (n : ℕ) → read_statements r text ≡ accepted es → record_texts text (record_image text n (accepted es)) (length es) ≡ tidy (statements es)
written r text es n reads = texts r text es n reads [] es refl
