-- The ties of an accepted text's records are those of its statements.
use mathlib.Core.Bool.{Bool, true, false, not, ◌&&◌, ◌||◌, cond, or_comm, or-false}
use mathlib.Core.List.{List, [], ◌∷◌, ◌++◌}
use mathlib.Core.Logic.{◌⊎◌, inl, inr}
use mathlib.Core.Option.{some}
use mathlib.Core.Path.{◌≡◌, refl, ap, sym, ◌∙◌}
use Prim.Native.Nat.{ℕ, suc, ◌-◌, ◌≤◌, ◌<◌}
use native.Mathlib.Omega.{arith}
use borrow.Author.Tests.{eq-eqb, le-leb, lt-leb, ne_eqb}
use lib.Dec.{eqb}
use lib.ListN.{length, length-append}
use Rattle.keys.proofs.OrderLaws.{same_sym}
use Rattle.laws.proofs.NatLaws.{le_or_lt}
use Rattle.laws.specs.Bytes.{Bytes, same}
use Rattle.rearrangement.specs.Held.{both, bound, bound_in, held, held_in}
use Rattle.scene.proofs.FlatLaws.{record_in_lem}
use Rattle.scene.proofs.GivesLaws.{gives_by_type}
use Rattle.scene.proofs.ImageLaws.{name_is}
use Rattle.scene.proofs.MeaningLaws.{IsType, own_type}
use Rattle.scene.proofs.NumberedLaws.{split}
use Rattle.scene.proofs.PropertyLaws.{modifier_latest, modifier_void, target_latest, target_none}
use Rattle.scene.proofs.TellsLaws.{At, at, nth_at, read_read, split_statements, statements_length}
use Rattle.scene.specs.Block.{given, referred, share, stands, targets}
use Rattle.scene.specs.Links.{gives, own_body, type_in}
use Rattle.scene.specs.Properties.{Named, numbered}
use Rattle.scene.specs.Reading.{Entry, accepted, read_statements, statements}
use Rattle.scene.specs.Record.{Record, name_in, nth, record_image, record_in, record_of, records}
use Rattle.scene.specs.Statement.{Body, Statement, alias, primitive, void}
use Rattle.scene.specs.Types.{is_modifier, is_surface}
use Rattle.scene.specs.declared.Settings.{Settings}
use Rattle.table.specs.Number.{number_in}
use Rattle.ties.specs.Ties.{bound_rows, class_of, classes_to, gives_in, gives_to, held_rows, refers_in}
use Rattle.tied.proofs.ClassLaws.{class_at, class_same, class_some}
use Rattle.tied.proofs.PairLaws.{given_shared, modifiers, stands_referred}

-- ---- numbers and types

numbered_at : (l : List Statement) (s : Statement) (d : List Statement) → numbered (l ++ s ∷ d) (suc (length d)) ≡ some s
unfolding numbered
numbered_at [] s d = rw (eq-eqb (suc (length d)) (suc (length d)) refl)
numbered_at (t ∷ l) s d = rw (ne_eqb (suc (length d)) (suc (length (l ++ s ∷ d))) (λ e. omega (arith, length-append l (s ∷ d)))) (numbered_at l s d)

entry_at : (es : List Entry) (n : ℕ) → 0 < n → (h : At es (n - 1)) → numbered (statements es) n ≡ some h.e.statement
entry_at es n p h =
    let e : n ≡ suc (length (statements h.x)) = omega (arith, h.number, statements_length h.x) in
    (λ i. numbered (split_statements es h.l h.e h.x h.split i) (e i)) ∙ numbered_at (statements h.l) h.e.statement (statements h.x)

pub statement_at : (es : List Entry) (n : ℕ) → 0 < n → n ≤ length es → (s : Statement) × (numbered (statements es) n ≡ some s)
statement_at es n p l = let h = at es (n - 1) (omega arith) in (h.e.statement, entry_at es n p h)

-- a type is a surface's or a modifier's
modifier_type : (t : ℕ) → IsType t → is_modifier t ≡ not (is_surface t)
modifier_type t (a, b) = go (le_or_lt t 9)
  where
    go : (t ≤ 9) ⊎ (9 < t) → is_modifier t ≡ not (is_surface t)
    go (inl l) = rw (lt-leb 10 t (omega arith), le-leb 1 t a, le-leb t 9 l)
    go (inr l) = rw (le-leb 10 t l, le-leb t 25 b, le-leb 1 t a, lt-leb t 9 l)

-- ---- the records of an accepted text

pub row : (text : Bytes) (es : List Entry) (k n : ℕ) → record_in (record_image text k (accepted es)) n ≡ nth (records es) n
unfolding record_image
row text es k n = record_in_lem text (records es) k n

pub type_at : (r : Settings) (text : Bytes) (es : List Entry) (k : ℕ) → read_statements r text ≡ accepted es → (n : ℕ) → 0 < n → n ≤ length es → (record_in (record_image text k (accepted es)) n).type ≡ (nth (records es) n).type
type_at r text es k reads n h l = ap (λ (z : Record). z.type) (row text es k n)

module _ (r : Settings) (text : Bytes) (es : List Entry) (k : ℕ) (reads : read_statements r text ≡ accepted es) where
  abbrev table : List ℕ
  table = record_image text k (accepted es)

  abbrev classes : List ℕ
  classes = classes_to text table (length es)

  abbrev Says : ℕ → Statement → Type 0
  Says n s = numbered (statements es) n ≡ some s

  module _ (n : ℕ) (s : Statement) (says : Says n s) where
    pub range : (0 < n) × (n ≤ length es)
    range = let a = split (statements es) n s says in let l = ap length a.whole ∙ length-append a.later (s ∷ a.earlier) in (omega (arith, a.number), omega (arith, a.number, l, statements_length es))

    pub here : At es (n - 1)
    here = at es (n - 1) (omega (arith, range.0, range.1))

    number : n ≡ suc (length here.x)
    number = omega (arith, range.0, here.number)

    pub own : here.e.statement ≡ s
    own = let h : some here.e.statement ≡ some s = sym (entry_at es n range.0 here) ∙ says in cc

    pub name_of_lem : name_in text table n ≡ s.name
    unfolding record_image
    name_of_lem = ap (name_in text table) number ∙ name_is text es k here.l here.e here.x here.split (read_read r text es reads) ∙ ap (λ (x : Statement). x.name) own

    gives_of : gives_in table n ≡ gives s
    unfolding gives_in record_of
    gives_of =
        let e = here.e.statement in
        let d = statements here.x in
        ap (λ (z : Record). is_modifier z.type) (row text es k n ∙ nth_at es here.l here.e here.x n here.split number)
        ∙ modifier_type (type_in (own_body e.body d)) (own_type r text es reads (statements here.l) e d (split_statements es here.l here.e here.x here.split))
        ∙ sym (gives_by_type e d)
        ∙ ap gives own

    class_of_lem : number_in classes n ≡ class_of text table n
    class_of_lem = class_at text table n (length es) range.0 range.1

  same_class : (m : ℕ) (u : Statement) → Says m u → (n : ℕ) (s : Statement) → Says n s → eqb (number_in classes m) (number_in classes n) ≡ same u.name s.name
  same_class m u p n s q = (λ i. eqb (class_of_lem m u p i) (class_of_lem n s q i)) ∙ class_same text table m n (range m u p).0 (range n s q).0 ∙ (λ i. same (name_of_lem m u p i) (name_of_lem n s q i))

  -- the class of a link, against that of the statement s of number n
  module _ (n : ℕ) (s : Statement) (says : Says n s) where
    no_link : eqb (number_in classes 0) (number_in classes n) ≡ false
    unfolding number_in
    no_link = ne_eqb 0 (number_in classes n) (λ e. class_some text table n (range n s says).0 (sym (e ∙ class_of_lem n s says)))

    link : (m : ℕ) (w : Bytes) → Named (statements es) m w → eqb (number_in classes m) (number_in classes n) ≡ stands s.name (w ∷ [])
    unfolding stands
    link m w x = same_class m x.statement x.there n s says ∙ ap (λ (v : Bytes). same v s.name) x.name ∙ same_sym w s.name ∙ sym (or-false (same s.name w))

    module _ (m : ℕ) (t : Statement) (there : Says m t) where
      by_modifier : eqb (number_in classes (nth (records es) m).modifier) (number_in classes n) ≡ stands s.name (modifiers t)
      unfolding stands
      by_modifier = go (same t.modifier void) refl
        where
          go : (b : Bool) → same t.modifier void ≡ b → eqb (number_in classes (nth (records es) m).modifier) (number_in classes n) ≡ stands s.name (cond b [] (t.modifier ∷ []))
          go true v = ap (λ (y : ℕ). eqb (number_in classes y) (number_in classes n)) (modifier_void r text es reads m t there v) ∙ no_link
          go false v = link (nth (records es) m).modifier t.modifier (modifier_latest r text es reads m t there v).named

      by_target : eqb (number_in classes (nth (records es) m).target) (number_in classes n) ≡ stands s.name (targets t.body)
      unfolding stands
      by_target = go t.body refl
        where
          go : (b : Body) → t.body ≡ b → eqb (number_in classes (nth (records es) m).target) (number_in classes n) ≡ stands s.name (targets b)
          go (primitive y ss rs) e = ap (λ (y : ℕ). eqb (number_in classes y) (number_in classes n)) (target_none r text es reads m t there y ss rs e) ∙ no_link
          go (alias x) e = link (nth (records es) m).target x (target_latest r text es reads m t there x e).named

      refers : refers_in table classes m (number_in classes n) ≡ stands s.name (referred (t ∷ []))
      unfolding refers_in
      refers =
          ap (λ (z : Record). eqb (number_in classes z.modifier) (number_in classes n) || eqb (number_in classes z.target) (number_in classes n)) (row text es k m)
          ∙ (λ i. by_modifier i || by_target i)
          ∙ sym (stands_referred s.name t)

  -- the first gives a name that the second gives or refers to
  pub first_binds : (i j : ℕ) (s t : Statement) → Says i s → Says j t → gives_to table classes i j ≡ share (given (s ∷ [])) (given (t ∷ []) ++ referred (t ∷ []))
  unfolding gives_to
  first_binds i j s t p q = (λ z. gives_of i s p z && (gives_of j t q z && same_class i s p j t q z || refers i s p j t q z)) ∙ sym (given_shared s t)

  module _ (i j : ℕ) (s t : Statement) (p : Says i s) (q : Says j t) where
    bound_pair : bound_rows table classes i j ≡ bound s t
    unfolding bound_rows bound
    bound_pair = λ z. first_binds i j s t p q z || first_binds j i t s q p z

    held_pair : held_rows table classes i j ≡ held s t
    unfolding held_rows held
    held_pair = (λ z. same_class i s p j t q z || bound_pair z) ∙ or_comm (same s.name t.name) (bound s t)

-- ---- the ties

pub tied_bound : (r : Settings) (text : Bytes) (es : List Entry) (k : ℕ) → read_statements r text ≡ accepted es → (i j : ℕ) → 0 < i → i < j → j ≤ length es → let T = record_image text k (accepted es) in bound_rows T (classes_to text T (length es)) i j ≡ bound_in (statements es) i j
unfolding bound_in
tied_bound r text es k reads i j p q l =
    let a = statement_at es i p (omega arith) in
    let b = statement_at es j (omega arith) l in
    bound_pair r text es k reads i j a.0 b.0 a.1 b.1 ∙ sym (λ z. both bound (a.1 z) (b.1 z))

pub tied : (r : Settings) (text : Bytes) (es : List Entry) (k : ℕ) → read_statements r text ≡ accepted es → (i j : ℕ) → 0 < i → i < j → j ≤ length es → let T = record_image text k (accepted es) in held_rows T (classes_to text T (length es)) i j ≡ held_in (statements es) i j
unfolding held_in
tied r text es k reads i j p q l =
    let a = statement_at es i p (omega arith) in
    let b = statement_at es j (omega arith) l in
    held_pair r text es k reads i j a.0 b.0 a.1 b.1 ∙ sym (λ z. both held (a.1 z) (b.1 z))
