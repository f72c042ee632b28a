-- Whether every side is known: a matter of the statements, which a renumbering leaves as it is.
use mathlib.Core.Bool.{Bool, true, false, cond, not, ◌&&◌, ◌||◌, false≢true}
use mathlib.Core.List.{List, [], ◌∷◌, ◌++◌, append_assoc}
use mathlib.Core.Option.{Option, none, some}
use mathlib.Core.Path.{◌≡◌, refl, ap, sym, ◌∙◌, subst}
use Prim.Native.Nat.{ℕ, zero, suc}
use native.Mathlib.Omega.{arith}
use borrow.Author.Tests.{ne_eqb}
use lib.Dec.{eqb}
use lib.ListN.{get_or, length}
use Rattle.laws.proofs.BoolLaws.{and_left, and_right}
use Rattle.laws.specs.Bytes.{Bytes, same}
use Rattle.lexer.specs.Word.{word_at, word_end}
use Rattle.scene.proofs.RenumberLaws.{Renamed}
use Rattle.scene.proofs.TellsLaws.{statements_length}
use Rattle.scene.specs.Links.{latest}
use Rattle.scene.specs.Reading.{Entry, Places, accepted, read_statements, statements}
use Rattle.scene.specs.Statement.{Body, Statement, alias, primitive, void}
use Rattle.scene.specs.declared.Settings.{Settings}
use Rattle.sides.proofs.MixedLaws.{resolved, resolves}
use Rattle.sides.specs.Read.{first_unknown, is_known, or_first, read, unknown_in}
use Rattle.sides.specs.Sides.{scene_graph}
use Rattle.graph.specs.Answers.{lowest_loop}
use Rattle.graph.specs.Graph.{mixture_type}

abbrev pub body_known : (whole : List Statement) → Body → Bool
body_known D (primitive t ss rs) = cond (eqb t mixture_type) (is_known (get_or ss 0 void) D && is_known (get_or ss 1 void) D) true
body_known D (alias x) = true

unfoldable pub all_known : (whole : List Statement) → List Statement → Bool
all_known D [] = true
all_known D (s ∷ d) = body_known D s.body && all_known D d

-- ---- known is what has no first word that is not

abbrev Is : Option ℕ → Type 0
Is none = ⊥
Is (some p) = Unit

pub is_none : (p : ℕ) → ◌≡◌ {A = Option ℕ} (some p) none → ⊥
is_none p e = subst Is e tt

body_none : (text : Bytes) (D : List Statement) (k : Places) (b : Body) → unknown_in text D k b ≡ none → body_known D b ≡ true
body_none text D k (alias x) e = refl
body_none text D k (primitive t ss rs) e = go (word_at text (word_end text k.string)).place k.string (eqb t mixture_type) (is_known (get_or ss 0 void) D) (is_known (get_or ss 1 void) D) e
  where
    go : (p q : ℕ) (x y z : Bool) → ◌≡◌ {A = Option ℕ} (cond x (cond y (cond z none (some p)) (some q)) none) none → cond x (y && z) true ≡ true
    go p q false y z e = refl
    go p q true true true e = refl
    go p q true true false e = absurd (is_none p e)
    go p q true false z e = absurd (is_none q e)

pub none_body : (text : Bytes) (D : List Statement) (k : Places) (b : Body) → body_known D b ≡ true → unknown_in text D k b ≡ none
none_body text D k (alias x) e = refl
none_body text D k (primitive t ss rs) e = go (word_at text (word_end text k.string)).place k.string (eqb t mixture_type) (is_known (get_or ss 0 void) D) (is_known (get_or ss 1 void) D) e
  where
    go : (p q : ℕ) (x y z : Bool) → cond x (y && z) true ≡ true → ◌≡◌ {A = Option ℕ} (cond x (cond y (cond z none (some p)) (some q)) none) none
    go p q false y z e = refl
    go p q true true true e = refl
    go p q true true false e = absurd (false≢true e)
    go p q true false z e = absurd (false≢true e)

both_none : (x y : Option ℕ) → or_first x y ≡ none → (x ≡ none) × (y ≡ none)
both_none none y e = (refl, e)
both_none (some p) y e = absurd (is_none p e)

pub first_known : (text : Bytes) (D : List Statement) (es : List Entry) → first_unknown text D es ≡ none → all_known D (statements es) ≡ true
unfolding first_unknown all_known statements
first_known text D [] e = refl
first_known text D (x ∷ es) e =
    let b = both_none (first_unknown text D es) (unknown_in text D x.places x.statement.body) e in
    (λ i. body_none text D x.places x.statement.body b.1 i && first_known text D es b.0 i)

pub known_first : (text : Bytes) (D : List Statement) (es : List Entry) → all_known D (statements es) ≡ true → first_unknown text D es ≡ none
unfolding first_unknown all_known statements
known_first text D [] e = refl
known_first text D (x ∷ es) e = λ i. or_first (known_first text D es (and_right (body_known D x.statement.body) (all_known D (statements es)) e) i) (none_body text D x.places x.statement.body (and_left (body_known D x.statement.body) (all_known D (statements es)) e) i)

-- ---- a renumbering keeps names known

module _ {f : ℕ → ℕ} {D D' : List Statement} (R : Renamed f D D') where
  name_on : (w : Bytes) → is_known w D ≡ true → is_known w D' ≡ true
  unfolding is_known
  name_on w e = go (same w void) (latest w D) refl e
    where
      go : (b : Bool) (n : ℕ) → latest w D ≡ n → (b || not (eqb (latest w D) 0)) ≡ true → (b || not (eqb (latest w D') 0)) ≡ true
      go true n q e = refl
      go false zero q e = absurd (false≢true (sym (ap (λ (k : ℕ). not (eqb k 0)) q) ∙ e))
      go false (suc n) q e = let s = R.some n in ap not (ne_eqb (latest w D') 0 (λ z. omega (arith, z, sym (R.names w) ∙ ap f q ∙ s.1)))

  body_on : (b : Body) → body_known D b ≡ true → body_known D' b ≡ true
  body_on (alias x) e = refl
  body_on (primitive t ss rs) e = go (eqb t mixture_type) e
    where
      go : (x : Bool) → cond x (is_known (get_or ss 0 void) D && is_known (get_or ss 1 void) D) true ≡ true → cond x (is_known (get_or ss 0 void) D' && is_known (get_or ss 1 void) D') true ≡ true
      go false e = refl
      go true e = λ i. name_on (get_or ss 0 void) (and_left (is_known (get_or ss 0 void) D) (is_known (get_or ss 1 void) D) e) i && name_on (get_or ss 1 void) (and_right (is_known (get_or ss 0 void) D) (is_known (get_or ss 1 void) D) e) i

-- each statement of a list is known where the whole list is
pub known_here : (W l : List Statement) (s : Statement) (d : List Statement) → all_known W (l ++ s ∷ d) ≡ true → body_known W s.body ≡ true
unfolding all_known
known_here W [] s d e = and_left (body_known W s.body) (all_known W d) e
known_here W (x ∷ l) s d e = known_here W l s d (and_right (body_known W x.body) (all_known W (l ++ s ∷ d)) e)

-- where each statement of the new list is one of the old list, all stay known
pub known_stay : {f g : ℕ → ℕ} {D D' : List Statement} → Renamed f D D' → Renamed g D' D → all_known D D ≡ true → all_known D' D' ≡ true
unfolding all_known
known_stay {f} {g} {D} {D'} R S e = go [] D' refl
  where
    one : (l : List Statement) (s : Statement) (d : List Statement) → D' ≡ l ++ s ∷ d → body_known D' s.body ≡ true
    one l s d q = let m = S.rows l s d q in body_on R s.body (known_here D m.later s m.earlier (subst (λ (z : List Statement). all_known D z ≡ true) m.place e))

    go : (l d : List Statement) → D' ≡ l ++ d → all_known D' d ≡ true
    go l [] q = refl
    go l (s ∷ d) q = λ i. one l s d q i && go (l ++ s ∷ []) d (q ∙ sym (append_assoc l (s ∷ []) d)) i

-- ---- a text of the same statements is accepted with it

pub same_accepted : (r : Settings) (text text' : Bytes) (es es' : List Entry) → read r text ≡ accepted es → read_statements r text' ≡ accepted es' → statements es' ≡ statements es → read r text' ≡ accepted es'
same_accepted r text text' es es' e q same =
    let h = resolved r text es e in
    let D = statements es in
    let known : all_known D D ≡ true = first_known text D es h.known in
    let size : length es' ≡ length es = sym (statements_length es') ∙ ap length same ∙ statements_length es in
    resolves r text' es' (record {
      reads = q;
      known = known_first text' (statements es') es' (subst (λ (z : List Statement). all_known z z ≡ true) (sym same) known);
      loopless = (λ i. lowest_loop (scene_graph (same i)) (size i)) ∙ h.loopless;
    })
