-- The look-ups of the code are those of the definitions, where the tables hold what reading the text left.
use mathlib.Core.Bool.{Bool, true, false, cond}
use mathlib.Core.List.{List, [], ◌∷◌, ◌++◌, append_assoc}
use mathlib.Core.Option.{Option, none, some}
use mathlib.Core.Path.{◌≡◌, refl, ap, sym, ◌∙◌, subst}
use Prim.Native.Nat.{ℕ, suc, ◌+◌, ◌-◌, ◌<◌}
use native.Mathlib.Numerals.{add-one}
use native.Mathlib.Omega.{arith}
use borrow.Author.Tests.{eqb-true}
use lib.Dec.{eqb}
use lib.ListN.{get_or, length, length-append}
use Rattle.graph.specs.Answers.{lowest, lowest_loop}
use Rattle.graph.specs.Graph.{Sides, mixture_type}
use Rattle.laws.proofs.BoolLaws.{or_false_left, or_false_right}
use Rattle.laws.specs.Bytes.{Bytes, same}
use Rattle.lexer.specs.Word.{word_at, word_end}
use Rattle.loops.proofs.LoopLaws.{loop_none, loop_passed, no_sides}
use Rattle.loops.specs.Found.{NoneBelow, Tells}
use Rattle.resolver.proofs.StoredLaws.{known_at, number_at, place_here, sides_here, type_here}
use Rattle.resolver.specs.Code.{Stored, chosen, first_place, is_mixture, mixture_to, pair_at, pairs_to, unknown_at, unknown_to}
use Rattle.scene.proofs.TellsLaws.{Tail, resolve_tail, statements_length, string_here}
use Rattle.scene.specs.Links.{body_of, modifier_link, own_body, resolve, strings_in, through, type_in}
use Rattle.scene.specs.Reading.{Entry, Places, begin_string, statements}
use Rattle.scene.specs.Record.{string_place}
use Rattle.scene.specs.Statement.{Body, Statement, alias, primitive, void}
use Rattle.scene.specs.Types.{number_from, type_number}
use Rattle.scene.specs.declared.Settings.{Settings}
use Rattle.sides.proofs.KnownLaws.{all_known, body_known, first_known, known_here, none_body}
use Rattle.sides.proofs.SideLaws.{from_entry, scene_within}
use Rattle.sides.specs.Read.{first_unknown, is_known, or_first, unknown_in}
use Rattle.sides.specs.Sides.{from_number, pair_of, pairs, pairs_from, scene_graph, sides, sides_at, sides_of}

-- ---- the first side of a body that is not known, where its strings stand at a place

abbrev unknown_by : Bytes → (whole : List Statement) → ℕ → Body → Option ℕ
unknown_by text D p b = cond (eqb (type_in b) mixture_type) (chosen (is_known (get_or (strings_in b) 0 void) D) (is_known (get_or (strings_in b) 1 void) D) p (word_at text (word_end text p)).place) none

known_none : (text : Bytes) (D : List Statement) (k : Places) (p : ℕ) (b : Body) → body_known D b ≡ true → unknown_by text D p b ≡ none
unfolding type_number number_from same
known_none text D k p (primitive t ss rs) e = none_body text D (begin_string p k) (primitive t ss rs) e
known_none text D k p (alias x) e = refl

-- where all are known, so is what a name leads to
tail_known : (D d x : List Statement) → all_known D d ≡ true → Tail x d → body_known D (body_of x) ≡ true
unfolding type_number number_from same
tail_known D d [] e t = refl
tail_known D d (s ∷ x) e (l, q) = known_here D l s x (subst (λ (z : List Statement). all_known D z ≡ true) q e)

module _ (r : Settings) (text : Bytes) (T X : List ℕ) (es : List Entry) (S : Stored r text T X es) where
  abbrev D : List Statement
  D = statements es

  -- ---- one record

  module _ (l : List Entry) (e : Entry) (x : List Entry) (q : es ≡ l ++ e ∷ x) where
    abbrev n : ℕ
    n = suc (length x)

    abbrev p : ℕ
    p = first_place T n

    abbrev body : Body
    body = own_body e.statement.body (statements x)

    pair_here : cond (is_mixture T n) (pair_at text T X (length es) n) (0 ∷ 0 ∷ []) ≡ pair_of (sides_of D e.statement (statements x))
    unfolding pair_at
    pair_here = ap (λ (t : ℕ). cond (eqb t mixture_type) (pair_at text T X (length es) n) (0 ∷ 0 ∷ [])) (type_here r text T X es S l e x q) ∙ go (eqb (type_in body) mixture_type) refl
      where
        go : (c : Bool) → eqb (type_in body) mixture_type ≡ c → cond c (pair_at text T X (length es) n) (0 ∷ 0 ∷ []) ≡ pair_of (cond c (sides (modifier_link (get_or (strings_in body) 0 void) D) (modifier_link (get_or (strings_in body) 1 void) D)) (sides 0 0))
        go true z =
            let h = sides_here r text T X es S l e x q (eqb-true (type_in body) mixture_type z) in
            (λ i. number_at r text T X es S p (get_or (strings_in body) 0 void) h.0 i ∷ number_at r text T X es S (word_end text p) (get_or (strings_in body) 1 void) h.1 i ∷ [])
        go false z = refl

    unknown_here : cond (is_mixture T n) (unknown_at text T X (length es) n) none ≡ unknown_by text D p body
    unfolding unknown_at
    unknown_here = ap (λ (t : ℕ). cond (eqb t mixture_type) (unknown_at text T X (length es) n) none) (type_here r text T X es S l e x q) ∙ go (eqb (type_in body) mixture_type) refl
      where
        go : (c : Bool) → eqb (type_in body) mixture_type ≡ c → cond c (unknown_at text T X (length es) n) none ≡ cond c (chosen (is_known (get_or (strings_in body) 0 void) D) (is_known (get_or (strings_in body) 1 void) D) p (word_at text (word_end text p)).place) none
        go true z =
            let h = sides_here r text T X es S l e x q (eqb-true (type_in body) mixture_type z) in
            (λ i. chosen (known_at r text T X es S p (get_or (strings_in body) 0 void) h.0 i) (known_at r text T X es S (word_end text p) (get_or (strings_in body) 1 void) h.1 i) p (word_at text (word_end text p)).place)
        go false z = refl

    -- a primitive's strings stand at its own place; an alias has those of a primitive above it
    unknown_more : (u : Option ℕ) → first_unknown text D x ≡ u → or_first u (unknown_by text D p body) ≡ or_first u (unknown_in text D e.places e.statement.body)
    unknown_more u f = go e.statement.body refl u f
      where
        place : (b : Body) → e.statement.body ≡ b → p ≡ string_place (e ∷ x) (length (through b (e.statement ∷ statements x) (λ y. resolve y (statements x))))
        place b z = place_here r text T X es S l e x q ∙ ap (λ (y : Body). string_place (e ∷ x) (length (through y (e.statement ∷ statements x) (λ y. resolve y (statements x))))) z

        go : (b : Body) → e.statement.body ≡ b → (u : Option ℕ) → first_unknown text D x ≡ u → or_first u (unknown_by text D p (own_body b (statements x))) ≡ or_first u (unknown_in text D e.places b)
        go (primitive t ss rs) z u f = ap (λ (k : ℕ). or_first u (unknown_by text D k (primitive t ss rs))) (place (primitive t ss rs) z ∙ string_here e x)
        go (alias y) z (some k) f = refl
        go (alias y) z none f = known_none text D e.places p (body_of (resolve y (statements x))) (tail_known D (statements x) (resolve y (statements x)) (first_known text D x f) (resolve_tail y (statements x)))

    no_sides_here : is_mixture T n ≡ false → sides_at D (from_number D n) ≡ sides 0 0
    no_sides_here z = ap (sides_at D) (from_entry es l e x n q refl) ∙ ap (λ (c : Bool). cond c (sides (modifier_link (get_or (strings_in body) 0 void) D) (modifier_link (get_or (strings_in body) 1 void) D)) (sides 0 0)) (ap (λ (t : ℕ). eqb t mixture_type) (sym (type_here r text T X es S l e x q)) ∙ z)

  -- ---- the first records, those of the last entries

  on : (l : List Entry) (e : Entry) (x : List Entry) → es ≡ l ++ e ∷ x → es ≡ (l ++ e ∷ []) ++ x
  on l e x q = q ∙ sym (append_assoc l (e ∷ []) x)

  unknown_to_lem : (l d : List Entry) → es ≡ l ++ d → unknown_to text T X (length es) (length d) ≡ first_unknown text D d
  unfolding unknown_to first_unknown
  unknown_to_lem l [] q = refl
  unknown_to_lem l (e ∷ x) q = (λ i. or_first (unknown_to_lem (l ++ e ∷ []) x (on l e x q) i) (unknown_here l e x q i)) ∙ unknown_more l e x q (first_unknown text D x) refl

  pairs_to_lem : (l d : List Entry) → es ≡ l ++ d → pairs_to text T X (length es) (length d) ≡ pairs_from D (statements d)
  unfolding pairs_to pairs_from statements
  pairs_to_lem l [] q = refl
  pairs_to_lem l (e ∷ x) q = λ i. pairs_to_lem (l ++ e ∷ []) x (on l e x q) i ++ pair_here l e x q i

  -- without mixtures links lead down only
  none_below : (l d : List Entry) → es ≡ l ++ d → mixture_to T (length d) ≡ false → NoneBelow (scene_graph D) (length D + 1) (length d + 1)
  unfolding mixture_to lowest
  none_below l [] q m = refl
  none_below l (e ∷ x) q m =
      let n : ℕ = length x + 1 in
      let h : (scene_graph D).sides n ≡ sides 0 0 = simp add-one (no_sides_here l e x q (or_false_right (mixture_to T (length x)) (is_mixture T (suc (length x))) m)) in
      let below : NoneBelow (scene_graph D) (length D + 1) n = none_below (l ++ e ∷ []) x (on l e x q) (or_false_left (mixture_to T (length x)) (is_mixture T (suc (length x))) m) in
      let within : n < length D + 1 = omega (arith, statements_length es, ap length q, length-append l (e ∷ x)) in
      let up : n + 1 ≡ suc (length x) + 1 = omega arith in
      let tells : Tells (scene_graph D) (length D + 1) n false = no_sides (scene_graph D) (length D + 1) n (sym (ap (λ (k : Sides). k.foreground) h)) (sym (ap (λ (k : Sides). k.background) h)) refl refl in
      subst (NoneBelow (scene_graph D) (length D + 1)) up (loop_passed (scene_graph D) (length D + 1) n tells (scene_within D) (omega arith) within below refl)

  pub resolved_unknown : unknown_to text T X (length es) (length es) ≡ first_unknown text (statements es) es
  resolved_unknown = unknown_to_lem [] es refl

  pub resolved_pairs : pairs_to text T X (length es) (length es) ≡ pairs (statements es)
  unfolding pairs
  resolved_pairs = pairs_to_lem [] es refl

  pub plain_loopless : mixture_to T (length es) ≡ false → lowest_loop (scene_graph (statements es)) (length es) ≡ 0
  plain_loopless m =
      let size : length es ≡ length D + 1 - 1 = omega (arith, statements_length es) in
      ap (lowest_loop (scene_graph D)) size ∙ sym (loop_none (scene_graph D) (length D + 1) (length es + 1) (omega (arith, statements_length es)) (none_below [] es refl m))
