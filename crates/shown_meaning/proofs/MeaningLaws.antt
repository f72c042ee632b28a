-- The tables of an accepted text pass the tests of the list call.
use mathlib.Core.Bool.{Bool, true, false, cond, not, ◌&&◌}
use mathlib.Core.List.{List, [], ◌∷◌, ◌++◌, append_assoc}
use mathlib.Core.Path.{◌≡◌, refl, ap, sym, ◌∙◌, subst}
use Prim.Native.Nat.{ℕ, zero, suc, ◌≤◌, ◌<◌}
use native.Mathlib.Omega.{arith}
use borrow.Author.Tests.{eq-eqb, le-leb, lt-ltb}
use lib.Dec.{eqb}
use lib.ListN.{get_or, length}
use Rattle.graph.proofs.GraphLaws.{or_right}
use Rattle.graph.specs.Answers.{lowest_loop}
use Rattle.graph.specs.Graph.{Graph, mixture_type}
use Rattle.laws.specs.Bytes.{Bytes, same}
use Rattle.scene.proofs.GivesLaws.{gives_by_type}
use Rattle.scene.proofs.MeaningLaws.{IsType, own_type}
use Rattle.scene.proofs.SwapLaws.{hits_true, latest_le}
use Rattle.scene.proofs.TellsLaws.{statements_length}
use Rattle.scene.specs.Links.{found, hits, latest, modifier_link, own_body, strings_in, type_in}
use Rattle.scene.specs.Reading.{Entry, accepted, read_statements, statements}
use Rattle.scene.specs.Statement.{Statement, void}
use Rattle.scene.specs.Types.{is_surface, is_type}
use Rattle.scene.specs.declared.Settings.{Settings}
use Rattle.shown.specs.List.{every, link_fits, primitive_fits, side_fits, table_fits}
use Rattle.shown_meaning.specs.Meaning.{FitsLaw}
use Rattle.sides.proofs.MixedLaws.{resolved}
use Rattle.sides.proofs.SideLaws.{found_at, from_here, scene_within, stands, tables_graph}
use Rattle.sides.specs.Sides.{from_number, node_at, scene_graph, sides, sides_at, sides_in}
use Rattle.table.specs.View.{View}

-- ---- links

module _ (D : List Statement) where
  -- types and modifier links of a scene
  abbrev v : View
  v = (scene_graph D).nodes

  module _ (w : Bytes) where
    -- a name leads to a statement that gives it, so to no surface
    latest_fits : (l d : List Statement) → D ≡ l ++ d → link_fits v (latest w d) ≡ true
    unfolding found link_fits
    latest_fits l [] q = refl
    latest_fits l (s ∷ d) q = go (hits w s) refl (latest_fits (l ++ s ∷ []) d (q ∙ sym (append_assoc l (s ∷ []) d)))
      where
        go : (b : Bool) → hits w s ≡ b → link_fits v (latest w d) ≡ true → link_fits v (length (cond b (s ∷ d) (found w d))) ≡ true
        go true h ih =
            or_right (eqb (suc (length d)) 0) (not (is_surface (v (suc (length d))).type))
            (ap (λ (z : List Statement). not (is_surface (node_at z).type)) (ap (λ (z : List Statement). from_number z (suc (length d))) q ∙ from_here l s d)
            ∙ sym (gives_by_type s d) ∙ (hits_true w s h).0)
        go false h ih = ih

    modifier_fits : (l d : List Statement) → D ≡ l ++ d → link_fits v (modifier_link w d) ≡ true
    unfolding link_fits
    modifier_fits l d q = go (same w void)
      where
        go : (b : Bool) → link_fits v (cond b 0 (latest w d)) ≡ true
        go true = refl
        go false = latest_fits l d q

  module _ (count : ℕ) (size : length D ≡ count) (n : ℕ) where
    -- a side that a mixture names
    named_fits : eqb (v n).type mixture_type ≡ true → (w : Bytes) → side_fits v count n (modifier_link w D) ≡ true
    unfolding side_fits link_fits
    named_fits e w = go (same w void)
      where
        go : (b : Bool) → side_fits v count n (cond b 0 (latest w D)) ≡ true
        go true = refl
        go false = rw (le-leb (latest w D) count (omega (arith, latest_le w D, size)), e) (latest_fits w [] D refl)

    -- both sides, which only a mixture has
    sides_fit : (t : ℕ) (ss : List Bytes) → (v n).type ≡ t → (side_fits v count n (sides_in t ss D).foreground ≡ true) × (side_fits v count n (sides_in t ss D).background ≡ true)
    unfolding side_fits
    sides_fit t ss q = go (eqb t mixture_type) (ap (λ (k : ℕ). eqb k mixture_type) q)
      where
        go : (b : Bool) → eqb (v n).type mixture_type ≡ b → let p = cond b (sides (modifier_link (get_or ss 0 void) D) (modifier_link (get_or ss 1 void) D)) (sides 0 0) in (side_fits v count n p.foreground ≡ true) × (side_fits v count n p.background ≡ true)
        go true e = (named_fits e (get_or ss 0 void), named_fits e (get_or ss 1 void))
        go false e = (refl, refl)

-- ---- every primitive

every_of : (test : ℕ → Bool) (k : ℕ) → ((n : ℕ) → 0 < n → n ≤ k → test n ≡ true) → every test k ≡ true
unfolding every
every_of test zero h = refl
every_of test (suc k) h = λ i. every_of test k (λ n z l. h n z (omega arith)) i && h (suc k) (omega arith) (omega arith) i

type_fits : (t : ℕ) → IsType t → is_type t ≡ true
type_fits t h = λ i. le-leb 1 t h.0 i && le-leb t 25 h.1 i

module _ (r : Settings) (text : Bytes) (es : List Entry) (reads : read_statements r text ≡ accepted es) where
  abbrev D : List Statement
  D = statements es

  fits_at : (n : ℕ) → 0 < n → n ≤ length es → primitive_fits (scene_graph D) (length es) n ≡ true
  unfolding primitive_fits
  fits_at n z h =
      let size = statements_length es in
      let f = found_at D n z (omega (arith, size)) in
      let st = stands D n f.s f.e f.here in
      let b = own_body f.s.body f.e in
      let is : (v D n).type ≡ type_in b = ap (λ (x : List Statement). (node_at x).type) f.here in
      let type = ap is_type is ∙ type_fits (type_in b) (own_type r text es reads st.later f.s f.e st.split) in
      let below = lt-ltb (v D n).modifier n ((scene_within D).modifier n z (omega (arith, size))) in
      let modifier = ap (λ (x : List Statement). link_fits (v D) (node_at x).modifier) f.here ∙ modifier_fits D f.s.modifier (st.later ++ f.s ∷ []) f.e (st.split ∙ sym (append_assoc st.later (f.s ∷ []) f.e)) in
      let both = sides_fit D (length es) size n (type_in b) (strings_in b) is in
      let foreground = ap (λ (x : List Statement). side_fits (v D) (length es) n (sides_at D x).foreground) f.here ∙ both.0 in
      let background = ap (λ (x : List Statement). side_fits (v D) (length es) n (sides_at D x).background) f.here ∙ both.1 in
      λ i. type i && below i && modifier i && foreground i && background i

pub fits : FitsLaw
fits r text es lent room e =
    let h = resolved r text es e in
    let g = scene_graph (statements es) in
    subst (λ (x : Graph). table_fits x (length es) ≡ true) (sym (tables_graph text es lent room))
    (λ i. every_of (primitive_fits g (length es)) (length es) (fits_at r text es h.reads) i && eq-eqb (lowest_loop g (length es)) 0 h.loopless i)
