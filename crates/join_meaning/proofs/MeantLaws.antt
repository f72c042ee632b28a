-- The numbers of two accepted texts' records, right's first, then left's, say what their statements say.
use mathlib.Core.Bool.{Bool, true, false, not, cond}
use mathlib.Core.List.{List, ◌++◌}
use mathlib.Core.Logic.{◌⊎◌, inl, inr}
use mathlib.Core.Option.{some, some-injective}
use mathlib.Core.Path.{◌≡◌, refl, ap, sym, ◌∙◌, subst}
use Prim.Native.Nat.{ℕ, suc, ◌+◌, ◌-◌, ◌*◌, ◌/◌, ◌≤◌, ◌<◌}
use native.Mathlib.Omega.{arith}
use borrow.Author.Tests.{eq-eqb, ne_eqb}
use lib.Dec.{eqb}
use lib.ListN.{length}
use Rattle.arranging.proofs.BothLaws.{kind_left, kind_right, link_left, link_right, name_left, name_right, shifted_none, shifted_some}
use Rattle.arranging.specs.Both.{both_of, kind_of, name_of, shifted}
use Rattle.arranging.specs.Order.{Both}
use Rattle.joining.specs.Definition.{names_once}
use Rattle.laws.specs.Bytes.{Bytes, same}
use Rattle.scene.proofs.GivesLaws.{gives_by_type}
use Rattle.scene.proofs.NumberedLaws.{numbered_range}
use Rattle.scene.proofs.PropertyLaws.{modifier_latest, modifier_void, target_latest, target_none}
use Rattle.scene.proofs.TellsLaws.{nth_at}
use Rattle.scene.specs.Links.{gives, own_body, type_in}
use Rattle.scene.specs.Properties.{Named, numbered}
use Rattle.scene.specs.Reading.{Entry, accepted, read_statements, statements}
use Rattle.scene.specs.Record.{Record, field_in, name_in, nth, record_in, record_of, records, width}
use Rattle.scene.specs.Statement.{Body, Literal, Statement, alias, primitive, void}
use Rattle.scene.specs.Types.{is_surface}
use Rattle.scene.specs.declared.Settings.{Settings}
use Rattle.table.proofs.NumberLaws.{no_number}
use Rattle.table.specs.Number.{number_in}
use Rattle.tied.proofs.TiedLaws.{here, name_of_lem, own, range, row}
use Rattle.join_meaning.proofs.HandLaws.{Hand, Hands, Names, hand_of, kept_once, names_left, names_right, other_names, other_number}
use Rattle.join_meaning.specs.Kept.{waiting}
use Rattle.join_meaning.specs.Meant.{Leads, LinkedBy, Meant, TargetBy, taken_of}
use Rattle.join_meaning.specs.Rows.{used_rows}

not_not : (b : Bool) → b ≡ not (not b)
not_not true = refl
not_not false = refl

-- ---- the records of an accepted text

names_of : (d : List Statement) (n : ℕ) (w : Bytes) → Named d n w → Names d w n
names_of d n w h = record { statement = h.statement; there = h.there; name = h.name }

module _ (r : Settings) (text : Bytes) (es : List Entry) (reads : read_statements r text ≡ accepted es) (n : ℕ) (s : Statement) (says : numbered (statements es) n ≡ some s) where
  abbrev table : List ℕ
  table = used_rows text es

  abbrev size : ℕ
  size = length es * width

  own_name : name_in text table n ≡ s.name
  own_name = name_of_lem r text es size reads n s says

  -- the type tells whether a name is given
  own_type : is_surface (field_in table n 0) ≡ not (gives s)
  unfolding record_in record_of
  own_type =
      let h = here r text es size reads n s says in
      let e : n ≡ suc (length h.x) = omega (arith, h.number, (range r text es size reads n s says).0) in
      let surface = is_surface (type_in (own_body h.e.statement.body (statements h.x))) in
      ap (λ (z : Record). is_surface z.type) (row text es size n ∙ nth_at es h.l h.e h.x n h.split e)
      ∙ not_not surface
      ∙ ap not (sym (gives_by_type h.e.statement (statements h.x)) ∙ ap gives (own r text es size reads n s says))

  field_modifier : field_in table n 1 ≡ (nth (records es) n).modifier
  unfolding record_in
  field_modifier = ap (λ (z : Record). z.modifier) (row text es size n)

  field_target : field_in table n 2 ≡ (nth (records es) n).target
  unfolding record_in
  field_target = ap (λ (z : Record). z.target) (row text es size n)

  -- a link is 0, or the number of a statement of its name
  modifier_free : same s.modifier void ≡ true → field_in table n 1 ≡ 0
  modifier_free v = field_modifier ∙ modifier_void r text es reads n s says v

  modifier_names : same s.modifier void ≡ false → Names (statements es) s.modifier (field_in table n 1)
  modifier_names v = subst (Names (statements es) s.modifier) (sym field_modifier) (names_of (statements es) (nth (records es) n).modifier s.modifier (modifier_latest r text es reads n s says v).named)

  target_free : (t : ℕ) (ss : List Bytes) (ns : List Literal) → s.body ≡ primitive t ss ns → field_in table n 2 ≡ 0
  target_free t ss ns e = field_target ∙ target_none r text es reads n s says t ss ns e

  target_names : (x : Bytes) → s.body ≡ alias x → Names (statements es) x (field_in table n 2)
  target_names x e = subst (Names (statements es) x) (sym field_target) (names_of (statements es) (nth (records es) n).target x (target_latest r text es reads n s says x e).named)

-- ---- both hands

module _ (r : Settings) (left right : Bytes) (ls rs : List Entry) (reads_left : read_statements r left ≡ accepted ls) (reads_right : read_statements r right ≡ accepted rs) (left_right right_left marks : List ℕ) where
  abbrev both : List Statement
  both = statements ls ++ statements rs

  abbrev L : List ℕ
  L = used_rows left ls

  abbrev R : List ℕ
  R = used_rows right rs

  abbrev v : Both
  v = both_of left L right R (right_left ++ left_right)

  -- the marks are those of both hands, where none clashes
  pub record Marking : Type 0 where
    pub hands : Hands (statements ls) (statements rs) left_right right_left R
    pub size : length marks ≡ length both
    pub low : (n : ℕ) → (number_in marks n ≡ 0) ⊎ (number_in marks n ≡ 1)
    pub once : names_once (waiting marks both) ≡ true

  module _ (h : Marking) where
    abbrev split : ℕ
    split = length R / width

    low_number : (n : ℕ) (s : Statement) → numbered (statements rs) n ≡ some s → n ≤ split
    low_number n s e = omega (arith, h.hands.split, (numbered_range (statements rs) n s e).1)

    high_number : (n k : ℕ) (s : Statement) → n ≡ length (statements rs) + k → numbered (statements ls) k ≡ some s → (split < n) × (n - split ≡ k)
    high_number n k s q e = let l = (numbered_range (statements ls) k s e).0 in (omega (arith, h.hands.split), omega (arith, h.hands.split))

    -- ---- what is taken of a name

    taken_once : (m n : ℕ) (s t : Statement) → numbered both m ≡ some s → numbered both n ≡ some t → number_in marks m ≡ 1 → number_in marks n ≡ 1 → s.name ≡ t.name → m ≡ n
    taken_once m n s t a b p q = kept_once (λ i. eqb (number_in marks i) 1) both h.once m n s t a b (eq-eqb (number_in marks m) 1 p) (eq-eqb (number_in marks n) 1 q)

    module _ (w : Bytes) (n : ℕ) (names : Names both w n) where
      abbrev s : Statement
      s = names.statement

      abbrev other : ℕ
      other = v.other n

      -- the other one is none, or it has the name too
      other_too : (other ≡ 0) ⊎ Names both s.name other
      other_too = other_names (statements ls) (statements rs) left_right right_left R h.hands n s names.there

      -- the other one, where it is taken
      by_other : number_in marks other ≡ 1 → taken_of both v marks n ≡ other
      by_other e = ap (λ (b : Bool). cond b n other) (ne_eqb (number_in marks other) 0 (λ z. omega arith))

      by_own : number_in marks other ≡ 0 → taken_of both v marks n ≡ n
      by_own e = ap (λ (b : Bool). cond b n other) (eq-eqb (number_in marks other) 0 e)

      -- not both of them are taken
      own_taken : number_in marks n ≡ 1 → taken_of both v marks n ≡ n
      own_taken e = go (h.low other) other_too
        where
          go : (number_in marks other ≡ 0) ⊎ (number_in marks other ≡ 1) → (other ≡ 0) ⊎ Names both s.name other → taken_of both v marks n ≡ n
          go (inl z) k = by_own z
          go (inr z) (inl q) = by_own (ap (number_in marks) q ∙ sym (no_number marks 0 refl))
          go (inr z) (inr k) = by_other z ∙ taken_once other n k.statement s k.there names.there z e k.name

      each_taken : (m : ℕ) (t : Statement) → numbered both m ≡ some t → number_in marks m ≡ 1 → t.name ≡ w → taken_of both v marks n ≡ m
      each_taken m t e z q = go (other_number (statements ls) (statements rs) left_right right_left R h.hands m n t s e names.there (q ∙ sym names.name))
        where
          go : (m ≡ n) ⊎ (m ≡ other) → taken_of both v marks n ≡ m
          go (inl k) = own_taken (ap (number_in marks) (sym k) ∙ z) ∙ sym k
          go (inr k) = by_other (ap (number_in marks) (sym k) ∙ z) ∙ sym k

      taken_name : (t : Statement) → numbered both (taken_of both v marks n) ≡ some t → t.name ≡ w
      taken_name t = go (eqb (number_in marks other) 0) other_too
        where
          same_name : (u : Statement) → u.name ≡ w → some u ≡ some t → t.name ≡ w
          same_name u q e = sym (ap (λ (x : Statement). x.name) (some-injective u t e)) ∙ q

          go : (b : Bool) → (other ≡ 0) ⊎ Names both s.name other → numbered both (cond b n other) ≡ some t → t.name ≡ w
          go true k e = same_name s names.name (sym names.there ∙ e)
          go false (inl z) e = absurd (omega (arith, (numbered_range both other t e).0))
          go false (inr k) e = same_name k.statement (k.name ∙ names.name) (sym k.there ∙ e)

      leads : Leads both v marks w n
      leads = record { linked = (numbered_range both n s names.there).0; each = each_taken; own = taken_name }

    -- ---- what numbers say

    names : (n : ℕ) (s : Statement) → numbered both n ≡ some s → v.name n ≡ s.name
    names n s e = go (hand_of (statements ls) (statements rs) n s e)
      where
        go : Hand (statements ls) (statements rs) n s → name_of left L right R n ≡ s.name
        go (inl f) = name_right left L right R n (low_number n s f) ∙ own_name r right rs reads_right n s f
        go (inr (k, q, f)) = let z = high_number n k s q f in name_left left L right R n z.0 ∙ ap (name_in left L) z.1 ∙ own_name r left ls reads_left k s f

    types : (n : ℕ) (s : Statement) → numbered both n ≡ some s → is_surface (v.type n) ≡ not (gives s)
    types n s e = go (hand_of (statements ls) (statements rs) n s e)
      where
        go : Hand (statements ls) (statements rs) n s → is_surface (kind_of L R n) ≡ not (gives s)
        go (inl f) = ap is_surface (kind_right L R n (low_number n s f)) ∙ own_type r right rs reads_right n s f
        go (inr (k, q, f)) = let z = high_number n k s q f in ap is_surface (kind_left L R n z.0 ∙ ap (λ (m : ℕ). field_in L m 0) z.1) ∙ own_type r left ls reads_left k s f

    -- a link of right's stays, and one of left's counts on behind right's; 0 stays none
    module _ (i n : ℕ) (s : Statement) (e : numbered (statements rs) n ≡ some s) where
      right_free : field_in R n i ≡ 0 → v.link i n ≡ 0
      right_free z = link_right L R n i (low_number n s e) ∙ z

      right_leads : (w : Bytes) → Names (statements rs) w (field_in R n i) → Leads both v marks w (v.link i n)
      right_leads w k = subst (Leads both v marks w) (sym (link_right L R n i (low_number n s e))) (leads w (field_in R n i) (names_right (statements ls) (statements rs) w (field_in R n i) k))

    module _ (i n m : ℕ) (s : Statement) (q : n ≡ length (statements rs) + m) (e : numbered (statements ls) m ≡ some s) where
      left_link : v.link i n ≡ shifted (length (statements rs)) (field_in L m i)
      left_link = let z = high_number n m s q e in link_left L R n i z.0 ∙ (λ j. shifted (h.hands.split j) (field_in L (z.1 j) i))

      left_free : field_in L m i ≡ 0 → v.link i n ≡ 0
      left_free z = left_link ∙ sym (shifted_none (length (statements rs)) (field_in L m i) z)

      left_leads : (w : Bytes) → Names (statements ls) w (field_in L m i) → Leads both v marks w (v.link i n)
      left_leads w k =
          let l = (numbered_range (statements ls) (field_in L m i) k.statement k.there).0 in
          let z = shifted_some (length (statements rs)) (field_in L m i) (λ c. omega arith) in
          subst (Leads both v marks w) (z ∙ sym left_link) (leads w (length (statements rs) + field_in L m i) (names_left (statements ls) (statements rs) w (field_in L m i) k))

    modifiers : (n : ℕ) (s : Statement) → numbered both n ≡ some s → LinkedBy both v marks s.modifier (v.link 1 n)
    modifiers n s e = go (hand_of (statements ls) (statements rs) n s e)
      where
        go : Hand (statements ls) (statements rs) n s → LinkedBy both v marks s.modifier (v.link 1 n)
        go (inl f) = record {
          free = λ z. right_free 1 n s f (modifier_free r right rs reads_right n s f z);
          bound = λ z. right_leads 1 n s f s.modifier (modifier_names r right rs reads_right n s f z);
        }
        go (inr (k, q, f)) = record {
          free = λ z. left_free 1 n k s q f (modifier_free r left ls reads_left k s f z);
          bound = λ z. left_leads 1 n k s q f s.modifier (modifier_names r left ls reads_left k s f z);
        }

    targets : (n : ℕ) (s : Statement) → numbered both n ≡ some s → TargetBy both v marks s.body (v.link 2 n)
    targets n s e = go s.body refl (hand_of (statements ls) (statements rs) n s e)
      where
        go : (b : Body) → s.body ≡ b → Hand (statements ls) (statements rs) n s → TargetBy both v marks b (v.link 2 n)
        go (primitive t ss ns) b (inl f) = right_free 2 n s f (target_free r right rs reads_right n s f t ss ns b)
        go (primitive t ss ns) b (inr (k, q, f)) = left_free 2 n k s q f (target_free r left ls reads_left k s f t ss ns b)
        go (alias x) b (inl f) = right_leads 2 n s f x (target_names r right rs reads_right n s f x b)
        go (alias x) b (inr (k, q, f)) = left_leads 2 n k s q f x (target_names r left ls reads_left k s f x b)

    pub rows_meant : Meant both v marks
    rows_meant = record { size = h.size; low = h.low; names = names; types = types; modifiers = modifiers; targets = targets; once = h.once }
