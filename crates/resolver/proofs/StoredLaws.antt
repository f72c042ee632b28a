-- What the tables of an accepted text say of each statement, and what the look-ups of its sides find.
use mathlib.Core.Bool.{cond, not, ◌||◌}
use mathlib.Core.List.{List, [], ◌∷◌, ◌++◌}
use mathlib.Core.Path.{◌≡◌, refl, ap, ◌∙◌, subst}
use Prim.Native.Nat.{ℕ, suc, ◌*◌, ◌/◌, ◌≤◌, min}
use native.Mathlib.Omega.{arith}
use lib.Dec.{eqb}
use lib.ListN.{get_or, length}
use Rattle.graph.specs.Graph.{mixture_type}
use Rattle.index.proofs.TableLaws.{finds_number}
use Rattle.index.specs.Searches.{sought}
use Rattle.laws.specs.Bytes.{Bytes, same}
use Rattle.lexer.specs.Word.{word_bytes, word_end}
use Rattle.resolver.proofs.CountLaws.{AllCounted, Counted, accepted_counted, mixture_count, own_counted}
use Rattle.resolver.specs.Code.{Stored, first_place, side_at, side_of}
use Rattle.scene.proofs.FlatLaws.{record_in_lem}
use Rattle.scene.proofs.PlaceLaws.{AllRead}
use Rattle.scene.proofs.SwapLaws.{latest_le}
use Rattle.scene.proofs.TellsLaws.{nth_at, read_read, split_statements, statements_length, tells_told}
use Rattle.scene.specs.Links.{latest, modifier_link, own_body, source, strings_in, type_in}
use Rattle.scene.specs.Reading.{Entry, newline, statements}
use Rattle.scene.specs.Record.{Record, field_in, record_image, record_in, record_of, records, string_place, width}
use Rattle.scene.specs.Statement.{Body, void}
use Rattle.scene.specs.Told.{Told, tells, told, words_from}
use Rattle.scene.specs.declared.Settings.{Settings}
use Rattle.sides.specs.Read.{is_known}
use Rattle.statement.specs.States.{clipped}

-- ---- the first two of many words

two_words : (text : Bytes) (p : ℕ) (ss : List Bytes) → 4 ≤ length ss → words_from text p (length ss) ≡ ss → (word_bytes text p ≡ get_or ss 0 void) × (word_bytes text (word_end text p) ≡ get_or ss 1 void)
unfolding words_from
two_words text p [] l e = absurd (omega arith)
two_words text p (a ∷ []) l e = absurd (omega arith)
two_words text p (a ∷ b ∷ ss) l e = (ap (λ (z : List Bytes). get_or z 0 void) e, ap (λ (z : List Bytes). get_or z 1 void) e)

module _ (r : Settings) (text : Bytes) (T X : List ℕ) (es : List Entry) (S : Stored r text T X es) where
  whole : AllRead (text ++ newline) es
  whole = read_read r text es S.reads

  -- ---- a side's name

  finds : (w : Bytes) → (sought text T X (length es) w).number ≡ latest w (statements es)
  unfolding record_image
  finds w =
      let len : length (statements es) ≡ length es = statements_length es in
      let few : length es ≤ 1024 = S.few in
      let room : length es * width ≤ length T = S.room in
      let rows : min (length es) (length T / width) ≡ length (statements es) = omega arith in
      finds_number text T X es S.records whole (omega arith) S.index (length es) rows w

  module _ (p : ℕ) (w : Bytes) (e : word_bytes text p ≡ w) where
    pub number_at : (side_at text T X (length es) p).number ≡ modifier_link w (statements es)
    unfolding side_at
    number_at =
        let few : length es ≤ 1024 = S.few in
        let small : clipped (latest w (statements es)) ≡ latest w (statements es) = omega (arith, latest_le w (statements es), statements_length es) in
        ap (λ (v : Bytes). (side_of v (sought text T X (length es) v).number).number) e ∙ ap (λ (m : ℕ). cond (same w void) 0 (clipped m)) (finds w) ∙ ap (cond (same w void) 0) small

    pub known_at : (side_at text T X (length es) p).known ≡ is_known w (statements es)
    unfolding side_at is_known
    known_at = ap (λ (v : Bytes). (side_of v (sought text T X (length es) v).number).known) e ∙ ap (λ (m : ℕ). same w void || not (eqb m 0)) (finds w)

  -- ---- the record of an entry

  module _ (l : List Entry) (e : Entry) (x : List Entry) (q : es ≡ l ++ e ∷ x) where
    abbrev n : ℕ
    n = suc (length x)

    abbrev body : Body
    body = own_body e.statement.body (statements x)

    record_here : record_in T n ≡ record_of l e x
    unfolding record_image
    record_here = ap (λ (t : List ℕ). record_in t n) S.records ∙ record_in_lem text (records es) (length T) n ∙ nth_at es l e x n q refl

    pub type_here : field_in T n 0 ≡ type_in body
    unfolding record_in record_of
    type_here = ap (λ (k : Record). k.type) record_here

    pub place_here : first_place T n ≡ string_place (e ∷ x) (length (source e.statement (statements x)))
    unfolding record_in record_of
    place_here = ap (λ (k : Record). k.string) record_here

    strings_here : words_from text (first_place T n) (length (strings_in body)) ≡ strings_in body
    unfolding tells told record_of
    strings_here = ap (λ (p : ℕ). words_from text p (length (strings_in body))) place_here ∙ ap (λ (t : Told). t.strings) (tells_told text es l e x whole q)

    counted : Counted body
    counted = own_counted (statements l) e.statement (statements x) (subst AllCounted (split_statements es l e x q) (accepted_counted r text es S.reads))

    -- a mixture's first two strings are the names of its sides
    pub sides_here : type_in body ≡ mixture_type → (word_bytes text (first_place T n) ≡ get_or (strings_in body) 0 void) × (word_bytes text (word_end text (first_place T n)) ≡ get_or (strings_in body) 1 void)
    sides_here m = two_words text (first_place T n) (strings_in body) (mixture_count body counted m) strings_here
