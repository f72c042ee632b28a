-- On the table of an accepted text the call refuses no two of its entries, and answers what the statements say.
use mathlib.Core.Bool.{Bool, true, false, ◌&&◌, ◌||◌, cond}
use mathlib.Core.List.{List, [], ◌∷◌, ◌++◌}
use mathlib.Core.Logic.{inl, inr}
use mathlib.Core.Option.{some}
use mathlib.Core.Path.{◌≡◌, refl, ap, sym, ◌∙◌, subst}
use Prim.Native.Nat.{ℕ, zero, suc, ◌+◌, ◌-◌, ◌≤◌, ◌<◌, min, max}
use native.Mathlib.Nat.{max_comm, min_comm}
use native.Mathlib.Omega.{arith}
use borrow.Author.Tests.{le-leb, lt-ltb, ne_eqb}
use lib.Dec.{leb, ltb}
use lib.ListN.{length, length-append}
use Rattle.holding.proofs.SameLaws.{first_link_same, first_link_tied}
use Rattle.holding.specs.Shortest.{first_link}
use Rattle.laws.proofs.BoolLaws.{and_left, and_right}
use Rattle.laws.specs.Bytes.{Bytes, same}
use Rattle.precedence.specs.Answer.{all_fit, between, binder, by_link, order_of, refusal_of, row_fits}
use Rattle.precedence.specs.Order.{Free, Held}
use Rattle.precedence_meaning.specs.Meaning.{Binds, GivesTo, Means, MeaningLaw, TurnedLaw}
use Rattle.rearrangement.specs.Held.{both, bound, bound_in}
use Rattle.scene.proofs.PlaceLaws.{AllRead}
use Rattle.scene.proofs.PropertyLaws.{modifier_latest, modifier_void, target_latest, target_none}
use Rattle.scene.proofs.TellsLaws.{At, at, nth_at, read_read, read_tail, split_statements}
use Rattle.scene.specs.Block.{given, referred, share, stands}
use Rattle.scene.specs.Links.{gives}
use Rattle.scene.specs.Properties.{numbered}
use Rattle.scene.specs.Reading.{Entry, accepted, newline, read_statements, statements}
use Rattle.scene.specs.Record.{Record, nth, record_image, record_of, records}
use Rattle.scene.specs.Statement.{Body, Statement, alias, primitive, void}
use Rattle.scene.specs.declared.Mode.{Mode}
use Rattle.scene.specs.declared.Settings.{Settings}
use Rattle.sides.proofs.MixedLaws.{resolved}
use Rattle.table.proofs.ImageLaws.{number_fine}
use Rattle.table.specs.Question.{number_refusal}
use Rattle.tidying.proofs.ReadBackLaws.{accepted_proper}
use Rattle.tidying.specs.Proper.{AllProper}
use Rattle.tied.proofs.PairLaws.{share_given}
use Rattle.tied.proofs.TiedLaws.{first_binds, row, statement_at, tied_bound}
use Rattle.ties.specs.Ties.{bound_rows, classes_to}

-- ---- statements

-- a name is a word
name_word : (mode : Mode) (l : List Statement) (s : Statement) (d : List Statement) → AllProper mode (l ++ s ∷ d) → 0 < length s.name
name_word mode [] s d h = h.0.name.0.filled
name_word mode (t ∷ l) s d h = name_word mode l s d h.1

-- one that gives a name that another gives or refers to
gives_to : (d : List Statement) (b o : ℕ) (s t : Statement) → numbered d b ≡ some s → numbered d o ≡ some t → share (given (s ∷ [])) (given (t ∷ []) ++ referred (t ∷ [])) ≡ true → GivesTo d b o
gives_to d b o s t p q h =
    let ys = given (t ∷ []) ++ referred (t ∷ []) in
    let x = sym (share_given s ys) ∙ h in
    record {
      name = s.name;
      from = record { statement = s; there = p; gives = and_left (gives s) (stands s.name ys) x; name = refl };
      other = t;
      there = q;
      used = and_right (gives s) (stands s.name ys) x;
    }

-- ---- nothing is refused

module _ (r : Settings) (text : Bytes) (es : List Entry) (k : ℕ) (reads : read_statements r text ≡ accepted es) where
  abbrev T : List ℕ
  T = record_image text k (accepted es)

  module _ (n : ℕ) (p : 0 < n) (l : n ≤ length es) where
    here : At es (n - 1)
    here = at es (n - 1) (omega arith)

    own : nth (records es) n ≡ record_of here.l here.e here.x
    own = nth_at es here.l here.e here.x n here.split (omega (arith, here.number))

    -- links lead to records above
    modifier_below : (nth (records es) n).modifier < n
    modifier_below =
        let s = statement_at es n p l in
        go s.0 s.1 (same s.0.modifier void) refl
      where
        go : (s : Statement) → numbered (statements es) n ≡ some s → (b : Bool) → same s.modifier void ≡ b → (nth (records es) n).modifier < n
        go s q true v = omega (arith, modifier_void r text es reads n s q v)
        go s q false v = (modifier_latest r text es reads n s q v).below

    target_below : (nth (records es) n).target < n
    target_below =
        let s = statement_at es n p l in
        go s.0 s.1 s.0.body refl
      where
        go : (s : Statement) → numbered (statements es) n ≡ some s → (b : Body) → s.body ≡ b → (nth (records es) n).target < n
        go s q (primitive t ss rs) e = omega (arith, target_none r text es reads n s q t ss rs e)
        go s q (alias x) e = (target_latest r text es reads n s q x e).below

    -- the name is a word of the text
    name_filled : 1 ≤ (nth (records es) n).name_length
    unfolding record_of
    name_filled =
        let h = name_word r.mode (statements here.l) here.e.statement (statements here.x) (subst (AllProper r.mode) (split_statements es here.l here.e here.x here.split) (accepted_proper r text es reads)) in
        omega (arith, h, ap (λ (z : Record). z.name_length) own)

    name_inside : (nth (records es) n).name + (nth (records es) n).name_length ≤ length text
    unfolding record_of
    name_inside =
        let h = (read_tail (text ++ newline) here.l (here.e ∷ here.x) (subst (AllRead (text ++ newline)) here.split (read_read r text es reads))).0.name.fits in
        omega (arith, h, length-append text newline, ap (λ (z : Record). z.name) own, ap (λ (z : Record). z.name_length) own)

    row_fits_lem : row_fits text T n ≡ true
    unfolding row_fits
    row_fits_lem =
        ap (λ (z : Record). ltb z.modifier n && ltb z.target n && leb 1 z.name_length && leb (z.name + z.name_length) (length text)) (row text es k n)
        ∙ rw (lt-ltb _ n modifier_below, lt-ltb _ n target_below, le-leb 1 _ name_filled, le-leb _ (length text) name_inside)

  all_fit_lem : (n : ℕ) → n ≤ length es → all_fit text T n ≡ true
  unfolding all_fit
  all_fit_lem zero l = refl
  all_fit_lem (suc n) l = λ i. all_fit_lem n (omega arith) i && row_fits_lem (suc n) (omega arith) l i

  -- ---- the entry whose name binds

  abbrev C : List ℕ
  C = classes_to text T (length es)

  module _ (n j : ℕ) (s t : Statement) (p : numbered (statements es) n ≡ some s) (q : numbered (statements es) j ≡ some t) where
    bound_both : bound_in (statements es) n j ≡ bound s t
    unfolding bound_in
    bound_both = λ i. both bound (p i) (q i)

    binder_binds : bound s t ≡ true → Binds (statements es) n j (binder T C n j)
    unfolding bound binder
    binder_binds h = subst (λ (b : Bool). Binds (statements es) n j (cond b n j)) (sym (first_binds r text es k reads n j s t p q)) (go (share (given (s ∷ [])) (given (t ∷ []) ++ referred (t ∷ []))) refl)
      where
        go : (b : Bool) → share (given (s ∷ [])) (given (t ∷ []) ++ referred (t ∷ [])) ≡ b → Binds (statements es) n j (cond b n j)
        go true e = inl (refl, gives_to (statements es) n j s t p q e)
        go false e = inr (refl, gives_to (statements es) j n t s q p (sym (ap (λ (b : Bool). b || share (given (t ∷ [])) (given (s ∷ []) ++ referred (s ∷ []))) e) ∙ h))

  -- ---- the answer

  module _ (few : r.records ≤ 1024) where
    number_fits : (n : ℕ) → 0 < n → n ≤ length es → number_refusal T (length es) n ≡ 0
    number_fits n p l =
        let h = here n p l in
        let q : suc (length h.x) ≡ n = omega (arith, h.number) in
        (λ i. number_refusal (record_image text k (sym reads i)) (length es) (sym q i)) ∙ number_fine r text es reads k h.l h.e h.x h.split few

    module _ (n m : ℕ) (p : 0 < n) (l : n ≤ length es) (q : 0 < m) (h : m ≤ length es) (differ : n ≡ m → ⊥) where
      refuses_none : refusal_of text T (length es) n m ≡ 0
      unfolding refusal_of
      refuses_none = rw (number_fits n p l, number_fits m q h, ne_eqb n m differ, all_fit_lem (length es) (omega arith))

      answers : order_of text T (length es) n m ≡ between text T (length es) (min n m) (max n m)
      unfolding order_of
      answers = rw refuses_none

    either_way : (n m : ℕ) → 0 < n → n ≤ length es → 0 < m → m ≤ length es → (n ≡ m → ⊥) → order_of text T (length es) m n ≡ order_of text T (length es) n m
    either_way n m p l q h differ =
        answers m n q h p l (λ e. differ (sym e))
        ∙ (λ i. between text T (length es) (min_comm m n i) (max_comm m n i))
        ∙ sym (answers n m p l q h differ)

    -- n stands above m
    module _ (n m : ℕ) (p : 0 < n) (q : n < m) (l : m ≤ length es) where
      abbrev first : ℕ
      first = first_link (bound_in (statements es)) n m

      answer_is : order_of text T (length es) n m ≡ by_link T C n first
      unfolding between
      answer_is =
          let upper : min n m ≡ n = omega arith in
          let lower : max n m ≡ m = omega arith in
          answers n m p (omega arith) (omega arith) l (λ e. omega arith)
          ∙ (λ i. between text T (length es) (upper i) (lower i))
          ∙ ap (by_link T C n) (first_link_same (bound_rows T C) (bound_in (statements es)) n m q (λ i j a b d. tied_bound r text es k reads i j (omega arith) b (omega arith)))

      means : Means text T es n m
      means = record {
        free = λ e. answer_is ∙ ap (by_link T C n) e;
        held = λ h.
            let x = first_link_tied (bound_in (statements es)) n m q h in
            let s = statement_at es n p (omega arith) in
            let t = statement_at es first (omega arith) (omega (arith, x.1)) in (
              binder T C n first,
              answer_is ∙ (λ i. cond (ne_eqb first 0 (λ e. omega arith) i) Free (Held first (binder T C n first))),
              binder_binds n first s.0 t.0 s.1 t.1 (sym (bound_both n first s.0 t.0 s.1 t.1) ∙ x.2),
            );
      }

pub turned : TurnedLaw
turned r text es k T reads few is n m p l q h differ =
    subst (λ (z : List ℕ). order_of text z (length es) m n ≡ order_of text z (length es) n m) (sym is)
    (either_way r text es k (resolved r text es reads).reads few n m p l q h differ)

pub meaning : MeaningLaw
meaning r text es k T reads few is n m p q l = subst (λ (z : List ℕ). Means text z es n m) (sym is) (means r text es k (resolved r text es reads).reads few n m p q l)
