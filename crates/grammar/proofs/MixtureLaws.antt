-- What mixtures ask of a whole text: the reading finds an unknown side or a loop exactly where there is one, and the first of them.
use mathlib.Core.Bool.{Bool, true, false, cond, ◌&&◌, false≢true}
use mathlib.Core.List.{List, [], ◌∷◌, ◌++◌, append_assoc}
use mathlib.Core.Logic.{◌⊎◌, ◌↔◌, inl, inr}
use mathlib.Core.Option.{Option, none, some}
use mathlib.Core.Path.{◌≡◌, refl, ap, sym, ◌∙◌, subst}
use Prim.Native.Nat.{ℕ, zero, suc, ◌+◌, ◌≤◌, ◌<◌}
use native.Mathlib.Omega.{arith}
use borrow.Author.Tests.{eq-eqb, eqb-true}
use lib.Dec.{eqb}
use lib.ListN.{get_or, length}
use Rattle.grammar.proofs.SoundLaws.{known_back, known_forth}
use Rattle.grammar.specs.Laws.{MixtureReason}
use Rattle.grammar.specs.Refusal.{Unknown}
use Rattle.grammar.specs.Sound.{Known, KnownSides, Mixes, SidesKnown}
use Rattle.graph.proofs.GraphLaws.{Among, and_of, link_inv}
use Rattle.graph.proofs.LowestLaws.{lowest_least, lowest_none, lowest_passes}
use Rattle.graph.proofs.PathLaws.{decided, decides}
use Rattle.graph.specs.Answers.{looped, lowest_loop}
use Rattle.graph.specs.Graph.{goes_on, link, links, mixture_type}
use Rattle.graph.specs.Paths.{Way, on, one}
use Rattle.laws.proofs.BoolLaws.{and_left, and_right}
use Rattle.laws.proofs.NatLaws.{le_or_lt}
use Rattle.laws.specs.Bytes.{Bytes}
use Rattle.lexer.specs.Word.{word_at, word_end}
use Rattle.mixtures.proofs.LeadLaws.{within_bound}
use Rattle.scene.proofs.TellsLaws.{statements_length}
use Rattle.scene.specs.Reading.{Entry, Places, refused, statements}
use Rattle.scene.specs.Record.{nth, records}
use Rattle.scene.specs.Statement.{Body, Literal, Statement, alias, primitive, void}
use Rattle.sides.proofs.KnownLaws.{all_known, body_known, first_known, is_none, known_first}
use Rattle.sides.proofs.MovedLaws.{links_at, none_among}
use Rattle.sides.proofs.SideLaws.{from_outside, scene_within}
use Rattle.sides.specs.Read.{first_unknown, is_known, or_first, settled, unknown_in}
use Rattle.sides.specs.Sides.{scene_graph}

-- D: the statements of the whole text
module _ (D : List Statement) where
  -- ---- the sides of mixtures

  known_both : (v w : Bytes) → ((is_known v D && is_known w D) ≡ true) ↔ (Known v D × Known w D)
  known_both v w = (
    λ e. (known_forth v D (and_left (is_known v D) (is_known w D) e), known_forth w D (and_right (is_known v D) (is_known w D) e)),
    λ k. and_of (is_known v D) (is_known w D) (known_back v D k.0) (known_back w D k.1),
  )

  body_forth : (b : Body) → body_known D b ≡ true → SidesKnown D b
  body_forth (primitive t ss rs) e = λ m. (known_both (get_or ss 0 void) (get_or ss 1 void)).0 (rw (eq-eqb t mixture_type m) at e)
  body_forth (alias x) e = tt

  body_back : (b : Body) → SidesKnown D b → body_known D b ≡ true
  body_back (primitive t ss rs) h = go (eqb t mixture_type) refl
    where
      go : (b : Bool) → eqb t mixture_type ≡ b → cond b (is_known (get_or ss 0 void) D && is_known (get_or ss 1 void) D) true ≡ true
      go true m = (known_both (get_or ss 0 void) (get_or ss 1 void)).1 (h (eqb-true t mixture_type m))
      go false m = refl
  body_back (alias x) h = refl

  all_forth : (d : List Statement) → all_known D d ≡ true → KnownSides D d
  unfolding all_known
  all_forth [] e = tt
  all_forth (s ∷ d) e = (body_forth s.body (and_left (body_known D s.body) (all_known D d) e), all_forth d (and_right (body_known D s.body) (all_known D d) e))

  all_back : (d : List Statement) → KnownSides D d → all_known D d ≡ true
  unfolding all_known
  all_back [] h = refl
  all_back (s ∷ d) h = and_of (body_known D s.body) (all_known D d) (body_back s.body h.0) (all_back d h.1)

  sides_forth : (text : Bytes) (es : List Entry) → first_unknown text D es ≡ none → KnownSides D (statements es)
  sides_forth text es e = all_forth (statements es) (first_known text D es e)

  sides_back : (text : Bytes) (es : List Entry) → KnownSides D (statements es) → first_unknown text D es ≡ none
  sides_back text es h = known_first text D es (all_back (statements es) h)

  -- ---- the first side that is not known

  unknown_forth : (w : Bytes) → is_known w D ≡ false → Known w D → ⊥
  unknown_forth w e k = false≢true (sym e ∙ known_back w D k)

  unknown_back : (w : Bytes) → (Known w D → ⊥) → is_known w D ≡ false
  unknown_back w h = go (is_known w D) refl
    where
      go : (b : Bool) → is_known w D ≡ b → b ≡ false
      go true q = absurd (h (known_forth w D q))
      go false q = refl

  -- of two, v at p and w at q
  abbrev first_of : (v w : Bytes) (p q : ℕ) → Option ℕ
  first_of v w p q = cond (is_known v D) (cond (is_known w D) none (some q)) (some p)

  abbrev FirstSide : (v w : Bytes) (p q place : ℕ) → Type 0
  FirstSide v w p q place = ((Known v D → ⊥) × (place ≡ p)) ⊎ (Known v D × (Known w D → ⊥) × (place ≡ q))

  side_forth : (v w : Bytes) (p q place : ℕ) → first_of v w p q ≡ some place → FirstSide v w p q place
  side_forth v w p q place e = go (is_known v D) refl (is_known w D) refl e
    where
      go : (x : Bool) → is_known v D ≡ x → (y : Bool) → is_known w D ≡ y → cond x (cond y none (some q)) (some p) ≡ some place → FirstSide v w p q place
      go true f true g e = absurd (is_none place (sym e))
      go true f false g e = inr (known_forth v D f, unknown_forth w g, cc)
      go false f y g e = inl (unknown_forth v f, cc)

  side_back : (v w : Bytes) (p q place : ℕ) → FirstSide v w p q place → first_of v w p q ≡ some place
  side_back v w p q place (inl (f, e)) = rw (unknown_back v f, e)
  side_back v w p q place (inr (f, g, e)) = rw (known_back v D f, unknown_back w g, e)

  module _ (text : Bytes) where
    -- of a body, which has them as its first strings
    abbrev FirstIn : Places → Body → (place : ℕ) → Type 0
    FirstIn k b place = (ss : List Bytes) × (rs : List Literal) × (b ≡ primitive mixture_type ss rs) × FirstSide (get_or ss 0 void) (get_or ss 1 void) k.string (word_at text (word_end text k.string)).place place

    in_forth : (k : Places) (b : Body) (place : ℕ) → unknown_in text D k b ≡ some place → FirstIn k b place
    in_forth k (alias x) place e = absurd (is_none place (sym e))
    in_forth k (primitive t ss rs) place e = go (eqb t mixture_type) refl e
      where
        go : (b : Bool) → eqb t mixture_type ≡ b → cond b (first_of (get_or ss 0 void) (get_or ss 1 void) k.string (word_at text (word_end text k.string)).place) none ≡ some place → FirstIn k (primitive t ss rs) place
        go true m e = (ss, rs, ap (λ (n : ℕ). primitive n ss rs) (eqb-true t mixture_type m), side_forth (get_or ss 0 void) (get_or ss 1 void) k.string (word_at text (word_end text k.string)).place place e)
        go false m e = absurd (is_none place (sym e))

    in_back : (k : Places) (b : Body) (place : ℕ) → FirstIn k b place → unknown_in text D k b ≡ some place
    in_back k b place (ss, rs, m, h) = rw (m, eq-eqb mixture_type mixture_type refl) (side_back (get_or ss 0 void) (get_or ss 1 void) k.string (word_at text (word_end text k.string)).place place h)

    -- later entries leave it as it is
    first_stays : (later es : List Entry) (place : ℕ) → first_unknown text D es ≡ some place → first_unknown text D (later ++ es) ≡ some place
    unfolding first_unknown
    first_stays [] es place e = e
    first_stays (x ∷ later) es place e = rw (first_stays later es place e)

  -- ---- loops

  abbrev Leads : (n m : ℕ) → Type 0
  Leads n m = Way (link (scene_graph D)) (goes_on (scene_graph D) true) n m

  abbrev Number : ℕ → Type 0
  Number n = (0 < n) × (n ≤ length D)

  -- a link leads from a number of the scene to a number of the scene
  link_inside : (a b : ℕ) → link (scene_graph D) a b ≡ true → Number a × Number b
  link_inside a b e = let i = link_inv (scene_graph D) a b e in go i.0 i.1 (le_or_lt 1 a) (le_or_lt a (length D))
    where
      outside : 0 < b → Among b (links (scene_graph D) a) → (a ≡ 0) ⊎ (length D < a) → ⊥
      outside p i h = none_among b p (subst (λ (d : List Statement). Among b (links_at D d)) (from_outside D a h) i)

      go : 0 < b → Among b (links (scene_graph D) a) → (1 ≤ a) ⊎ (a < 1) → (a ≤ length D) ⊎ (length D < a) → Number a × Number b
      go p i (inl z) (inl h) = ((z, h), (p, omega (arith, (within_bound (scene_graph D) (length D + 1) (scene_within D) a b z (omega arith) e).1)))
      go p i (inl z) (inr h) = absurd (outside p i (inr h))
      go p i (inr z) h = absurd (outside p i (inl (omega arith)))

  way_inside : (n m : ℕ) → Leads n m → Number n
  way_inside n m (one e) = (link_inside n m e).0
  way_inside n m (on c e p w) = (link_inside n c e).0

  abbrev on_loop : ℕ → Bool
  on_loop = looped (scene_graph D) (length D)

  loop_forth : (n : ℕ) → on_loop n ≡ true → Leads n n
  loop_forth n = decided (link (scene_graph D)) (goes_on (scene_graph D) true) (length D) n n

  loop_back : (n : ℕ) → Leads n n → on_loop n ≡ true
  loop_back n w =
      let i = way_inside n n w in
      decides (link (scene_graph D)) (goes_on (scene_graph D) true) (length D) (λ a b z h e. (link_inside a b e).1) n n i.0 i.1 w

  -- the lowest number on a loop, 0 for none
  abbrev LowestLoop : ℕ → Type 0
  LowestLoop zero = (n : ℕ) → Leads n n → ⊥
  LowestLoop (suc l) = Leads (suc l) (suc l) × ((n : ℕ) → Leads n n → suc l ≤ n)

  lowest_is : (l : ℕ) → lowest_loop (scene_graph D) (length D) ≡ l → LowestLoop l
  unfolding lowest_loop
  lowest_is zero e = λ n w. let i = way_inside n n w in false≢true (sym (lowest_none on_loop (length D) e n i.0 i.1) ∙ loop_back n w)
  lowest_is (suc l) e = (
    loop_forth (suc l) (lowest_passes on_loop (length D) l e).0,
    λ n w. let i = way_inside n n w in omega (arith, e, lowest_least on_loop (length D) n i.0 i.1 (loop_back n w)),
  )

  lowest_of : (n : ℕ) → Leads n n → ((m : ℕ) → Leads m m → n ≤ m) → LowestLoop n
  lowest_of zero w h = absurd (omega (arith, (way_inside 0 0 w).0))
  lowest_of (suc n) w h = (w, h)

  -- there is one such number
  lowest_same : (l m : ℕ) → LowestLoop l → LowestLoop m → l ≡ m
  lowest_same zero zero h k = refl
  lowest_same zero (suc m) h k = absurd (h (suc m) k.0)
  lowest_same (suc l) zero h k = absurd (k (suc l) h.0)
  lowest_same (suc l) (suc m) h k = omega (arith, h.1 (suc m) k.0, k.1 (suc l) h.0)

-- ---- what the reading finds

lowest_read : (es : List Entry) → LowestLoop (statements es) (lowest_loop (scene_graph (statements es)) (length es))
lowest_read es = let g = scene_graph (statements es) in lowest_is (statements es) (lowest_loop g (length es)) (ap (lowest_loop g) (statements_length es))

loop_is : (es : List Entry) (n : ℕ) → LowestLoop (statements es) n → lowest_loop (scene_graph (statements es)) (length es) ≡ n
loop_is es n h = lowest_same (statements es) (lowest_loop (scene_graph (statements es)) (length es)) n (lowest_read es) h

-- entries stand latest first: what it finds at a list's end is the first in the text
first_unknown_lem : (text : Bytes) (es later xs : List Entry) (place : ℕ) → es ≡ later ++ xs → first_unknown text (statements es) xs ≡ some place → Unknown text es place
unfolding first_unknown
first_unknown_lem text es later [] place split e = absurd (is_none place (sym e))
first_unknown_lem text es later (x ∷ xs) place split e = go (first_unknown text (statements es) xs) refl e (first_unknown_lem text es (later ++ x ∷ []) xs place (split ∙ sym (append_assoc later (x ∷ []) xs)))
  where
    go : (u : Option ℕ) → first_unknown text (statements es) xs ≡ u → or_first u (unknown_in text (statements es) x.places x.statement.body) ≡ some place → (first_unknown text (statements es) xs ≡ some place → Unknown text es place) → Unknown text es place
    go (some p) q e ih = ih (q ∙ e)
    go none q e ih =
        let h = in_forth (statements es) text x.places x.statement.body place e in
        record { later = later; entry = x; earlier = xs; strings = h.0; reals = h.1; split = split; mixture = h.2; above = sides_forth (statements es) text xs q; here = h.3 }

unknown_first : (text : Bytes) (es : List Entry) (place : ℕ) → Unknown text es place → first_unknown text (statements es) es ≡ some place
unfolding first_unknown
unknown_first text es place u =
    let D = statements es in
    let k = u.entry.places in
    let b = u.entry.statement.body in
    let own : first_unknown text D (u.entry ∷ u.earlier) ≡ some place = rw (sides_back D text u.earlier u.above) (in_back D text k b place (u.strings, u.reals, u.mixture, u.here)) in
    ap (first_unknown text D) u.split ∙ first_stays D text u.later (u.entry ∷ u.earlier) place own

-- ---- both sides of every mixture are known, and nothing leads back to itself, exactly where the reading finds no unknown side and no loop

pub mixes_forth : (text : Bytes) (es : List Entry) → first_unknown text (statements es) es ≡ none → lowest_loop (scene_graph (statements es)) (length es) ≡ 0 → Mixes (statements es)
mixes_forth text es u l = record { known = sides_forth (statements es) text es u; loopless = subst (LowestLoop (statements es)) l (lowest_read es) }

pub mixes_back : (text : Bytes) (es : List Entry) → Mixes (statements es) → (first_unknown text (statements es) es ≡ none) × (lowest_loop (scene_graph (statements es)) (length es) ≡ 0)
mixes_back text es h = (sides_back (statements es) text es h.known, loop_is es 0 h.loopless)

-- ---- the refusals of mixtures

settled_loop : (es : List Entry) (n : ℕ) → 0 < n → settled es none n ≡ refused 26 (nth (records es) n).name
settled_loop es zero z = absurd (omega arith)
settled_loop es (suc n) z = refl

pub mixture_reason : (text : Bytes) (es : List Entry) (n place : ℕ) → (settled es (first_unknown text (statements es) es) (lowest_loop (scene_graph (statements es)) (length es)) ≡ refused n place) ↔ MixtureReason text es n place
mixture_reason text es n place = (forth (first_unknown text (statements es) es) refl (lowest_loop (scene_graph (statements es)) (length es)) (lowest_read es), back)
  where
    forth : (u : Option ℕ) → first_unknown text (statements es) es ≡ u → (l : ℕ) → LowestLoop (statements es) l → settled es u l ≡ refused n place → MixtureReason text es n place
    forth (some p) q l h e = inl (cc, first_unknown_lem text es [] es place refl cc)
    forth none q zero h e = let z : ◌≡◌ {A = ℕ} 0 1 = cc in absurd (omega arith)
    forth none q (suc l) h e = inr (cc, record { number = suc l; known = sides_forth (statements es) text es q; loop = h.0; lowest = h.1; name = cc })

    back : MixtureReason text es n place → settled es (first_unknown text (statements es) es) (lowest_loop (scene_graph (statements es)) (length es)) ≡ refused n place
    back (inl (m, x)) = rw (unknown_first text es place x, m)
    back (inr (m, x)) =
        let i = way_inside (statements es) x.number x.number x.loop in
        rw (sides_back (statements es) text es x.known, loop_is es x.number (lowest_of (statements es) x.number x.loop x.lowest), m, x.name) (settled_loop es x.number i.0)
