-- The backward search: one turn of it, and that it finds what the definition of a lookup names.
use mathlib.Core.Bool.{Bool, true, false, not, ◌&&◌, cond, and-true, and-false, and_comm}
use mathlib.Core.List.{List, [], ◌∷◌, ◌++◌, append_assoc}
use mathlib.Core.Logic.{◌≢◌}
use mathlib.Core.Path.{◌≡◌, refl, ap, sym, ◌∙◌, subst}
use Prim.Native.Nat.{ℕ, zero, suc, ◌+◌, ◌-◌, ◌*◌, ◌≤◌, ◌<◌}
use native.Mathlib.Nat.{add-zero}
use native.Mathlib.Omega.{arith}
use borrow.Author.Tests.{eq-eqb, ne_eqb, eqb-true, le-leb, leb-true}
use lib.Dec.{eqb, leb, lit<}
use lib.ListN.{length, length-append, get_or}
use lib.Seq.{ext_get_or}
use Rattle.laws.proofs.BoolLaws.{and_left, and_right, not_both}
use Rattle.laws.proofs.BytesLaws.{same_eq, same_refl, same_sized}
use Rattle.laws.proofs.ListLaws.{part_at, part_length}
use Rattle.laws.specs.Bytes.{part, same, Bytes}
use Rattle.lookup.specs.Lookup.{has_name, latest_in}
use Rattle.scene.proofs.GivesLaws.{gives_by_type, hits_name}
use Rattle.scene.proofs.ImageLaws.{name_is, record_is}
use Rattle.scene.proofs.PlaceLaws.{Says, AllRead}
use Rattle.scene.proofs.TellsLaws.{read_tail, statements_length}
use Rattle.scene.specs.Links.{gives, hits, latest, found}
use Rattle.scene.specs.Reading.{statements, Entry, newline}
use Rattle.scene.specs.Record.{record_of, flat, filled, records, width, field_in, name_in, record_in}
use Rattle.scene.specs.Types.{is_surface}
use Rattle.table.proofs.QuestionLaws.{field_at}

-- the table, of n numbers, of the entries es that have been read of a text
module _ (text : Bytes) (es : List Entry) (n : ℕ) (h : AllRead (text ++ newline) es) where
  abbrev table : List ℕ
  table = filled 0 n (flat text (records es))

  said : (l : List Entry) (e : Entry) (d : List Entry) → es ≡ l ++ e ∷ d → Says (text ++ newline) e.places.name e.statement.name
  said l e d q = (read_tail (text ++ newline) l (e ∷ d) (subst (AllRead (text ++ newline)) q h)).0.name

  has_is : (w : Bytes) (l : List Entry) (e : Entry) (d : List Entry) → es ≡ l ++ e ∷ d → has_name text table (suc (length d)) w ≡ hits w e.statement
  unfolding has_name record_of
  has_is w l e d q =
      let r = record_is text es n l e d q in
      let s = e.statement in
      (λ i. leb ((r i).name + (r i).name_length) (length text) && eqb (r i).name_length (length w) && same w (name_is text es n l e d q h i) && not (is_surface (r i).type))
      ∙ (λ i. le-leb (e.places.name + length s.name) (length text) (omega (arith, (said l e d q).fits, length-append text newline)) i && eqb (length s.name) (length w) && same w s.name && sym (gives_by_type s (statements d)) i)
      ∙ ap (λ (b : Bool). b && gives s) (same_sized s.name w)
      ∙ and_comm (same w s.name) (gives s)
      ∙ sym (hits_name w s)

  search_is : (w : Bytes) (l d : List Entry) → es ≡ l ++ d → latest_in text table w (length d) ≡ latest w (statements d)
  unfolding latest_in found statements
  search_is w l [] q = refl
  search_is w l (e ∷ d) q = (λ i. cond (has_is w l e d q i) (suc (sym (statements_length d) i)) (search_is w (l ++ e ∷ []) d (q ∙ sym (append_assoc l (e ∷ []) d)) i)) ∙ go (hits w e.statement)
    where
      go : (b : Bool) → cond b (suc (length (statements d))) (latest w (statements d)) ≡ length (cond b (e.statement ∷ statements d) (found w (statements d)))
      go true = refl
      go false = refl

  -- The search over text and table finds what the definition names.
  pub search_latest : (w : Bytes) → latest_in text table w (length es) ≡ latest w (statements es)
  search_latest w = search_is w [] es refl

-- ---- one turn of the search

-- record N, a surface or not, which names `size` bytes from `place` on
turn : (text : Bytes) (tb : List ℕ) (w : Bytes) (N : ℕ) → N ≢ 0 → (place size : ℕ) (surface : Bool) → place ≡ field_in tb N 3 → size ≡ field_in tb N 4 → surface ≡ is_surface (field_in tb N 0)
    → latest_in text tb w N ≡ cond (leb (place + size) (length text) && eqb size (length w) && same w (part text place size) && not surface) N (latest_in text tb w (N - 1))
unfolding latest_in has_name name_in record_in
turn text tb w N h₀ place size surface hp hs hk =
    let n : N ≡ suc (N - 1) = omega arith in
    ap (latest_in text tb w) n
    ∙ (λ i. cond (has_name text tb (sym n i) w) (sym n i) (latest_in text tb w (N - 1)))
    ∙ (λ i. cond (leb (sym hp i + sym hs i) (length text) && eqb (sym hs i) (length w) && same w (part text (sym hp i) (sym hs i)) && not (sym hk i)) N (latest_in text tb w (N - 1)))

-- ---- the search for a name with no bytes

module _ (text : Bytes) (tb : List ℕ) (N : ℕ) (h₀ : 0 < N) (size place : ℕ) (surface : Bool) (hs : size ≡ field_in tb N 4) (hp : place ≡ field_in tb N 3) (hk : surface ≡ is_surface (field_in tb N 0)) where
  abbrev is_empty : Bool
  is_empty = eqb size 0 && leb place (length text) && not surface

  empty_turn : latest_in text tb [] N ≡ cond is_empty N (latest_in text tb [] (N - 1))
  unfolding same
  empty_turn =
      turn text tb [] N (λ z. omega arith) place size surface hp hs hk
      ∙ ap (λ (b : Bool). cond (b && not surface) N (latest_in text tb [] (N - 1))) (go size)
    where
      go : (k : ℕ) → (leb (place + k) (length text) && eqb k 0 && same [] (part text place k)) ≡ (eqb k 0 && leb place (length text))
      go zero = rw (add-zero place) (and-true (leb place (length text) && true) ∙ and-true (leb place (length text)))
      go (suc k) = rw (ne_eqb (suc k) 0 (λ e. omega arith), and-false (leb (place + suc k) (length text)))

  pub empty_hit : is_empty ≡ true → latest_in text tb [] N ≡ N
  empty_hit e = empty_turn ∙ ap (λ (b : Bool). cond b N (latest_in text tb [] (N - 1))) e

  pub empty_miss : is_empty ≡ false → latest_in text tb [] N ≡ latest_in text tb [] (N - 1)
  empty_miss e = empty_turn ∙ ap (λ (b : Bool). cond b N (latest_in text tb [] (N - 1))) e

-- ---- the search for any other

-- a word with no bytes
pub find_nothing : (text : Bytes) (tb : List ℕ) (w : Bytes) (n m : ℕ) → length w ≡ 0 → n ≡ m → latest_in text tb [] n ≡ latest_in text tb w m
find_nothing text tb [] n m h e = ap (latest_in text tb []) e
find_nothing text tb (x ∷ w) n m h e = absurd (omega arith)

-- a word that the text is too short for is nobody's name
pub find_short : (text : Bytes) (tb : List ℕ) (w : Bytes) (n : ℕ) → length text < length w → latest_in text tb w n ≡ 0
unfolding latest_in has_name
find_short text tb w zero h = refl
find_short text tb w (suc n) h = ap (λ (b : Bool). cond b (suc n) (latest_in text tb w n)) no ∙ find_short text tb w n h
  where
    no : has_name text tb (suc n) w ≡ false
    no =
        let r = record_in tb (suc n) in
        let in_text = leb (r.name + r.name_length) (length text) in
        let sized = eqb r.name_length (length w) in
        ap (λ (b : Bool). b && not (is_surface r.type)) (not_both (in_text && sized) (same w (name_in text tb (suc n)))
        (λ a b. omega (arith, leb-true (r.name + r.name_length) (length text) (and_left in_text sized a), eqb-true r.name_length (length w) (and_right in_text sized a))))

-- record N, which names `size` bytes from `place` on; `most` is the last place where so many bytes fit as the word has
module _ (text : Bytes) (tb : List ℕ) (w : Bytes) (fits : length w ≤ length text) (most : ℕ) (hm : most ≡ length text - length w) (N : ℕ) (h₀ : N ≢ 0) (place size : ℕ)
    (hp : place ≡ get_or tb ((N - 1) * width + 3) 0) (hs : size ≡ get_or tb ((N - 1) * width + 4) 0) where
  stands : Bool
  stands = leb (place + size) (length text) && eqb size (length w)

  abbrev surface : Bool
  surface = is_surface (get_or tb ((N - 1) * width + 0) 0)

  here : latest_in text tb w N ≡ cond (stands && same w (part text place size) && not surface) N (latest_in text tb w (N - 1))
  unfolding stands
  here = turn text tb w N h₀ place size surface (hp ∙ field_at tb 3 (lit< tt) N h₀) (hs ∙ field_at tb 4 (lit< tt) N h₀) (ap is_surface (field_at tb 0 (lit< tt) N h₀))

  one_less : (place + size ≤ length text → size ≡ length w → w ≡ part text place size → ⊥) → latest_in text tb w N ≡ latest_in text tb w (N - 1)
  unfolding stands
  one_less h = here ∙ ap (λ (b : Bool). cond (b && not surface) N (latest_in text tb w (N - 1)))
      (not_both stands (same w (part text place size)) (λ a b. h (leb-true (place + size) (length text) (and_left (leb (place + size) (length text)) (eqb size (length w)) a)) (eqb-true size (length w) (and_right (leb (place + size) (length text)) (eqb size (length w)) a)) (same_eq w (part text place size) b)))

  pub find_sized : (size ≡ length w → ⊥) → latest_in text tb w N ≡ latest_in text tb w (N - 1)
  find_sized h = one_less (λ p q e. h q)

  pub find_beyond : most < place → latest_in text tb w N ≡ latest_in text tb w (N - 1)
  find_beyond h = one_less (λ p q e. omega arith)

  module _ (q : size ≡ length w) (p : place ≤ most) where
    pub find_fits : place + length w ≤ length text
    find_fits = omega arith

    pub find_byte : (i : ℕ) → i < length w → (get_or text (place + i) 0 ≡ get_or w i 0 → ⊥) → latest_in text tb w N ≡ latest_in text tb w (N - 1)
    find_byte i l h = one_less (λ p q e. h (sym (part_at text place size i 0 (omega arith)) ∙ sym (ap (λ (z : Bytes). get_or z i 0) e)))

    module _ (h : (k : ℕ) → k < length w → get_or text (place + k) 0 ≡ get_or w k 0) where
      named : (stands && same w (part text place size)) ≡ true
      unfolding stands
      named =
          let f : place + size ≤ length text = omega arith in
          let e : w ≡ part text place size = ext_get_or 0 w (part text place size) (sym q ∙ sym (part_length text place size f)) (λ k l. sym (h k l) ∙ sym (part_at text place size k 0 (omega arith))) in
          rw (le-leb (place + size) (length text) f, eq-eqb size (length w) q) (ap (same w) (sym e) ∙ same_refl w)

      pub find_hit : surface ≡ false → latest_in text tb w N ≡ N
      find_hit k = here ∙ (λ i. cond (named i && not (k i)) N (latest_in text tb w (N - 1)))

      pub find_surface : surface ≡ true → latest_in text tb w N ≡ latest_in text tb w (N - 1)
      find_surface k = here ∙ (λ i. cond (named i && not (k i)) N (latest_in text tb w (N - 1)))

pub find_none : (text : Bytes) (tb : List ℕ) (w : Bytes) → latest_in text tb w 0 ≡ 0
unfolding latest_in
find_none text tb w = refl
