-- The walk over the table of an accepted text is the walk over its statements.
use mathlib.Core.Bool.{Bool, true, false, cond}
use mathlib.Core.List.{List, [], ◌∷◌, ◌++◌, append_assoc}
use mathlib.Core.Path.{◌≡◌, refl, ap, sym, ◌∙◌, subst}
use Prim.Native.Nat.{ℕ, ◌/◌, zero, suc, ◌≤◌, ◌<◌}
use native.Mathlib.Nat.{min-le_left}
use native.Mathlib.Omega.{arith}
use borrow.Author.Tests.{le-leb, lt-ltb, not-true}
use lib.ListN.{length, length-append}
use Rattle.laws.specs.Bytes.{Bytes, same}
use Rattle.finish.specs.Meaning.{finish_in}
use Rattle.sides.proofs.MixedLaws.{resolved, same_reading}
use Rattle.sides.specs.Read.{read}
use Rattle.table.proofs.ImageLaws.{image_row, number_fine}
use Rattle.table.specs.View.{view_of}
use Rattle.finish.specs.Walk.{numbers_of, at_link, at_type, walk_from, finish_of}
use Rattle.finish.specs.Finish.{Finish, Reached, Refused}
use Rattle.scene.proofs.GivesLaws.{gives_by_type}
use Rattle.scene.proofs.MeaningLaws.{IsType, NoSurface, not_surface, own_type}
use Rattle.scene.proofs.PropertyLaws.{accepted_linked}
use Rattle.scene.proofs.SwapLaws.{Linked, hits_true, linked_split}
use Rattle.scene.proofs.TellsLaws.{nth_at, split_statements, statements_length}
use Rattle.scene.specs.Links.{gives, hits, found, head, definition, latest, modifier_link, own_body, type_in}
use Rattle.scene.specs.Reading.{Reading, Entry, statements, modifier_test, accepted, read_statements}
use Rattle.scene.specs.Record.{settings_for, Record, record_in, record_of, records, record_image, nth, width}
use Rattle.scene.specs.declared.Mode.{Mode}
use Rattle.scene.specs.declared.Settings.{Settings}
use Rattle.scene.specs.Types.{is_material}
use Rattle.scene.specs.Statement.{Statement, void}

-- ---- the walk over statements

finish_void : (w : Bytes) (d : List Statement) (k : ℕ) → same w void ≡ true → finish_in w d k ≡ Reached 0 k
unfolding finish_in
finish_void w [] k v = refl
finish_void w (s ∷ d) k v = rw v

-- what the walk comes to at the statements from a name's on
abbrev finish_at : List Statement → ℕ → Finish
finish_at [] k = Reached 0 k
finish_at (s ∷ d) k = cond (is_material (type_in (own_body s.body d))) (Reached (suc (length d)) (suc k)) (finish_in s.modifier d (suc k))

finish_found : (w : Bytes) (d : List Statement) (k : ℕ) → same w void ≡ false → finish_in w d k ≡ finish_at (found w d) k
unfolding finish_in found
finish_found w [] k v = refl
finish_found w (s ∷ d) k v = rw v (go (hits w s) (finish_found w d k v))
  where
    go : (c : Bool) → finish_in w d k ≡ finish_at (found w d) k → cond c (finish_at (s ∷ d) k) (finish_in w d k) ≡ finish_at (cond c (s ∷ d) (found w d)) k
    go true h = refl
    go false h = h

-- it refuses nothing
finish_reaches : (w : Bytes) (d : List Statement) (k : ℕ) → (numbers_of (finish_in w d k)).reason ≡ 0
unfolding finish_in
finish_reaches w [] k = refl
finish_reaches w (s ∷ d) k = go (same w void) (hits w s) (is_material (type_in (own_body s.body d))) (finish_reaches s.modifier d (suc k)) (finish_reaches w d k)
  where
    go : (a b c : Bool) → (numbers_of (finish_in s.modifier d (suc k))).reason ≡ 0 → (numbers_of (finish_in w d k)).reason ≡ 0
        → (numbers_of (cond a (Reached 0 k) (cond b (cond c (Reached (suc (length d)) (suc k)) (finish_in s.modifier d (suc k))) (finish_in w d k)))).reason ≡ 0
    go true b c g h = refl
    go false true true g h = refl
    go false true false g h = g
    go false false c g h = h

-- the entry that a name leads to
record Leads (w : Bytes) (x : List Entry) : Type 0 where
  later : List Entry
  entry : Entry
  earlier : List Entry
  split : x ≡ later ++ entry ∷ earlier
  given : gives entry.statement ≡ true
  there : found w (statements x) ≡ entry.statement ∷ statements earlier

leads : (w : Bytes) (x : List Entry) → modifier_test (definition w (statements x)) ≡ 0 → Leads w x
unfolding found statements
leads w [] h = absurd (omega arith)
leads w (e ∷ x) h = go (hits w e.statement) refl h (leads w x)
  where
    go : (c : Bool) → hits w e.statement ≡ c → modifier_test (head (cond c (e.statement ∷ statements x) (found w (statements x)))) ≡ 0 → (modifier_test (definition w (statements x)) ≡ 0 → Leads w x) → Leads w (e ∷ x)
    go true q h ih = record { later = []; entry = e; earlier = x; split = refl; given = (hits_true w e.statement q).0; there = rw q }
    go false q h ih = let a = ih h in record { later = e ∷ a.later; entry = a.entry; earlier = a.earlier; split = ap {B = List Entry} (λ (z : List Entry). e ∷ z) a.split; given = a.given; there = rw q a.there }

-- ---- the walk over the table

walk_none : (table : List ℕ) (k n : ℕ) → walk_from (view_of table) 0 k n ≡ at_link (record_in table n).modifier n k (Refused 19 k)
unfolding walk_from
walk_none table k n = refl

-- the answer at link m of primitive n
abbrev answer_at : List ℕ → (left k n m : ℕ) → Finish
answer_at table left k n m = at_link m n k (at_type (record_in table m).type m (suc k) (walk_from (view_of table) left (suc k) m))

walk_some : (table : List ℕ) (left k n : ℕ) → walk_from (view_of table) (suc left) k n ≡ answer_at table left k n (record_in table n).modifier
unfolding walk_from
walk_some table left k n = refl

-- a link that leads down to a modifier is followed
link_followed : (table : List ℕ) (left k n m t : ℕ) (f : Finish) → NoSurface t → (record_in table (suc m)).type ≡ t → suc m < n → walk_from (view_of table) left (suc k) (suc m) ≡ f
    → answer_at table left k n (suc m) ≡ cond (is_material t) (Reached (suc m) (suc k)) f
link_followed table left k n m t f (a, b) q l w = rw (lt-ltb (suc m) n l, q, le-leb 10 t a, le-leb t 25 b, w)

module _ (es : List Entry) (table : List ℕ) (row : (n : ℕ) → record_in table n ≡ nth (records es) n) (linked : Linked (statements es)) (typed : (later : List Statement) (s : Statement) (earlier : List Statement) → statements es ≡ later ++ s ∷ earlier → IsType (type_in (own_body s.body earlier))) where
  module _ (l : List Entry) (e : Entry) (x : List Entry) (q : es ≡ l ++ e ∷ x) where
    row_of : record_in table (suc (length x)) ≡ record_of l e x
    row_of = row (suc (length x)) ∙ nth_at es l e x (suc (length x)) q refl

    modifier_of : (record_in table (suc (length x))).modifier ≡ modifier_link e.statement.modifier (statements x)
    unfolding record_of
    modifier_of = ap (λ (r : Record). r.modifier) row_of

    type_of : (record_in table (suc (length x))).type ≡ type_in (own_body e.statement.body (statements x))
    unfolding record_of
    type_of = ap (λ (r : Record). r.type) row_of

    -- what gives its name is a modifier
    type_range : gives e.statement ≡ true → NoSurface (type_in (own_body e.statement.body (statements x)))
    type_range g = not_surface _ (typed (statements l) e.statement (statements x) (split_statements es l e x q)) (not-true _ (sym (gives_by_type e.statement (statements x)) ∙ g))

    defined : same e.statement.modifier void ≡ false → modifier_test (definition e.statement.modifier (statements x)) ≡ 0
    defined v = sym (ap (λ (b : Bool). cond b 0 (modifier_test (definition e.statement.modifier (statements x)))) v)
        ∙ (linked_split (statements l) (e.statement ∷ statements x) (subst Linked (split_statements es l e x q) linked)).1.0.modifier

    -- a modifier `void`
    void_of : same e.statement.modifier void ≡ true → (record_in table (suc (length x))).modifier ≡ 0
    void_of v = modifier_of ∙ ap (λ (b : Bool). cond b 0 (latest e.statement.modifier (statements x))) v

    void_walk : (left k : ℕ) → same e.statement.modifier void ≡ true → walk_from (view_of table) left k (suc (length x)) ≡ Reached 0 k
    void_walk zero k v = walk_none table k (suc (length x)) ∙ ap (λ m. at_link m (suc (length x)) k (Refused 19 k)) (void_of v)
    void_walk (suc left) k v = walk_some table left k (suc (length x)) ∙ ap (answer_at table left k (suc (length x))) (void_of v)

    -- any other leads to an entry, whose own walk is followed
    module _ (v : same e.statement.modifier void ≡ false) where
      next : Leads e.statement.modifier x
      next = leads e.statement.modifier x (defined v)

      before : length next.earlier < length x
      before = omega (arith, ap length next.split, length-append next.later (next.entry ∷ next.earlier))

      whole : es ≡ (l ++ e ∷ next.later) ++ next.entry ∷ next.earlier
      whole = q ∙ ap {B = List Entry} (λ (z : List Entry). l ++ e ∷ z) next.split ∙ sym (append_assoc l (e ∷ next.later) (next.entry ∷ next.earlier))

      link : (record_in table (suc (length x))).modifier ≡ suc (length next.earlier)
      link = modifier_of ∙ ap (λ (b : Bool). cond b 0 (latest e.statement.modifier (statements x))) v ∙ ap {B = ℕ} length next.there ∙ ap suc (statements_length next.earlier)

      finish_next : (k : ℕ) → finish_in e.statement.modifier (statements x) k ≡ cond (is_material (type_in (own_body next.entry.statement.body (statements next.earlier)))) (Reached (suc (length next.earlier)) (suc k)) (finish_in next.entry.statement.modifier (statements next.earlier) (suc k))
      finish_next k = finish_found e.statement.modifier (statements x) k v ∙ ap (λ (d : List Statement). finish_at d k) next.there
          ∙ (λ i. cond (is_material (type_in (own_body next.entry.statement.body (statements next.earlier)))) (Reached (suc (statements_length next.earlier i)) (suc k)) (finish_in next.entry.statement.modifier (statements next.earlier) (suc k)))

  walk_step : (left k : ℕ) (l : List Entry) (e : Entry) (x : List Entry) (q : es ≡ l ++ e ∷ x) (v : same e.statement.modifier void ≡ false)
      → walk_from (view_of table) left (suc k) (suc (length (next l e x q v).earlier)) ≡ finish_in (next l e x q v).entry.statement.modifier (statements (next l e x q v).earlier) (suc k)
      → walk_from (view_of table) (suc left) k (suc (length x)) ≡ finish_in e.statement.modifier (statements x) k
  walk_step left k l e x q v ih =
      let a = next l e x q v in
      let o = whole l e x q v in
      let b = before l e x q v in
      walk_some table left k (suc (length x)) ∙ ap (answer_at table left k (suc (length x))) (link l e x q v)
      ∙ link_followed table left k (suc (length x)) (length a.earlier) (type_in (own_body a.entry.statement.body (statements a.earlier))) (finish_in a.entry.statement.modifier (statements a.earlier) (suc k))
      (type_range (l ++ e ∷ a.later) a.entry a.earlier o a.given) (type_of (l ++ e ∷ a.later) a.entry a.earlier o) (omega arith) ih
      ∙ sym (finish_next l e x q v k)

  walk_from_lem : (left k : ℕ) (l : List Entry) (e : Entry) (x : List Entry) → es ≡ l ++ e ∷ x → length x ≤ left → walk_from (view_of table) left k (suc (length x)) ≡ finish_in e.statement.modifier (statements x) k
  walk_from_lem zero k l e x q h = go (same e.statement.modifier void) refl
    where
      go : (b : Bool) → same e.statement.modifier void ≡ b → walk_from (view_of table) 0 k (suc (length x)) ≡ finish_in e.statement.modifier (statements x) k
      go true v = void_walk l e x q 0 k v ∙ sym (finish_void e.statement.modifier (statements x) k v)
      go false v = let b = before l e x q v in absurd (omega arith)
  walk_from_lem (suc left) k l e x q h = go (same e.statement.modifier void) refl (walk_from_lem left (suc k))
    where
      go : (b : Bool) → same e.statement.modifier void ≡ b
          → ((l : List Entry) (e : Entry) (x : List Entry) → es ≡ l ++ e ∷ x → length x ≤ left → walk_from (view_of table) left (suc k) (suc (length x)) ≡ finish_in e.statement.modifier (statements x) (suc k))
          → walk_from (view_of table) (suc left) k (suc (length x)) ≡ finish_in e.statement.modifier (statements x) k
      go true v ih = void_walk l e x q (suc left) k v ∙ sym (finish_void e.statement.modifier (statements x) k v)
      go false v ih =
          let a = next l e x q v in
          let b = before l e x q v in
          walk_step left k l e x q v (ih (l ++ e ∷ a.later) a.entry a.earlier (whole l e x q v) (omega arith))

-- ---- an accepted text

module _ (r : Settings) (text : Bytes) (es : List Entry) (reads : read_statements r text ≡ accepted es) (m : ℕ) (l : List Entry) (e : Entry) (x : List Entry) (q : es ≡ l ++ e ∷ x) where
  -- the walk from a primitive of the table, with an allowance of all before it, is the walk from its statement
  walk_means : (left k : ℕ) → length x ≤ left → walk_from (view_of (record_image text m (read_statements r text))) left k (suc (length x)) ≡ finish_in e.statement.modifier (statements x) k
  walk_means left k h = walk_from_lem es (record_image text m (read_statements r text)) (image_row r text es reads m) (accepted_linked r text es reads) (own_type r text es reads) left k l e x q h

  -- the question's answer is the walk from its statement
  finish_means : (allowance : ℕ) → r.records ≤ 1024 → length x ≤ allowance → finish_of (record_image text m (read_statements r text)) (length es) (suc (length x)) allowance ≡ finish_in e.statement.modifier (statements x) 0
  unfolding finish_of
  finish_means allowance c h = rw (number_fine r text es reads m l e x q c) (walk_means allowance 0 h)

-- the same of the tables lent to the reader; it refuses nothing
module _ (mode : Mode) (text : Bytes) (lent doubles : ℕ) (es : List Entry) (reads : read (settings_for mode lent doubles) text ≡ accepted es) (l : List Entry) (e : Entry) (x : List Entry) (q : es ≡ l ++ e ∷ x) (allowance : ℕ) (enough : length x ≤ allowance) where
  pub finish_read : finish_of (record_image text lent (read (settings_for mode lent doubles) text)) (length es) (suc (length x)) allowance ≡ finish_in e.statement.modifier (statements x) 0
  finish_read =
      ap (λ (z : Reading). finish_of (record_image text lent z) (length es) (suc (length x)) allowance) (sym (same_reading (settings_for mode lent doubles) text es reads))
      ∙ finish_means (settings_for mode lent doubles) text es (resolved (settings_for mode lent doubles) text es reads).reads lent l e x q allowance (min-le_left 1024 (lent / width)) enough

  pub finish_accepts : (numbers_of (finish_of (record_image text lent (read (settings_for mode lent doubles) text)) (length es) (suc (length x)) allowance)).reason ≡ 0
  finish_accepts = ap (λ (f : Finish). (numbers_of f).reason) finish_read ∙ finish_reaches e.statement.modifier (statements x) 0
