-- The list call: one law for each answer.
use mathlib.Core.Bool.{true, false}
use mathlib.Core.List.{List}
use mathlib.Core.Path.{◌≡◌, ap, sym, ◌∙◌, subst}
use Prim.Native.Nat.{ℕ, ◌+◌, ◌-◌, ◌≤◌, ◌<◌}
use native.Mathlib.Omega.{arith}
use borrow.Author.Tests.{eq-eqb, le-leb, lt-leb, ne_eqb}
use lib.Dec.{eqb}
use lib.ListN.{length, replicate}
use Rattle.graph.specs.Answers.{lowest_loop, shown_in}
use Rattle.graph.specs.Graph.{Graph, graph_of}
use Rattle.laws.proofs.BoolLaws.{and_left}
use Rattle.mixtures.specs.Walk.{Within}
use Rattle.shown.proofs.FitLaws.{fits_within}
use Rattle.shown.proofs.ListLaws.{padded_filled}
use Rattle.shown.specs.Code.{Holds, Numbered, Walkable}
use Rattle.shown.specs.List.{every, primitive_fits, fit_answer, fit_list, fit_refusal, pair_refusal, shown_answer, shown_list, table_fits}
use Rattle.shown.specs.Shown.{Listed, Refused}

module _ (g : Graph) (count n room : ℕ) where
  pub table_unfit : table_fits g count ≡ false → (Refused 18 ≡ fit_answer g count n room) × (replicate room 0 ≡ fit_list g count n room)
  unfolding fit_answer fit_list fit_refusal
  table_unfit e = (rw e, rw e)

  module _ (e : table_fits g count ≡ true) {total : ℕ} {list : List ℕ} (h : Holds (shown_in g count n) room list total) where
    pub list_short : room < total → (Refused 23 ≡ fit_answer g count n room) × (replicate room 0 ≡ fit_list g count n room)
    unfolding fit_answer fit_list fit_refusal
    list_short o = let l = lt-leb (length (shown_in g count n)) room (omega (arith, h.total)) in (rw (e, l), rw (e, l))

    pub all_listed : total ≤ room → (Listed total ≡ fit_answer g count n room) × (list ≡ fit_list g count n room)
    unfolding fit_answer fit_list fit_refusal
    all_listed o =
        let m : length (shown_in g count n) ≤ room = omega (arith, h.total) in
        let l = le-leb (length (shown_in g count n)) room m in
        (rw (e, l) (ap Listed h.total), rw (e, l) (h.stands ∙ padded_filled room (shown_in g count n) m))

-- ---- what a table that fits is walked with

module _ (g : Graph) {count n size marks : ℕ} (p : Numbered count n size) (e : marks ≡ size) where
  pub walkable : table_fits g count ≡ true → Walkable g marks n
  walkable f = record {
    within = subst (Within g) (let q : count + 1 ≡ marks = omega (arith, e, p.sized) in q) (fits_within g count (and_left (every (primitive_fits g count) count) (eqb (lowest_loop g count) 0) f));
    small = omega (arith, e, p.sized, p.few);
    some = p.some;
    there = omega (arith, e, p.sized, p.within);
  }

  pub all_of_them : {room total : ℕ} {list : List ℕ} → Holds (shown_in g (marks - 1) n) room list total → Holds (shown_in g count n) room list total
  all_of_them {room} {total} {list} h = subst (λ (k : ℕ). Holds (shown_in g k n) room list total) (let q : marks - 1 ≡ count = omega (arith, e, p.sized) in q) h

module _ (records pairs : List ℕ) (count n room : ℕ) {reason : ℕ} (e : reason ≡ pair_refusal records pairs count n) where
  pub number_refused : (reason ≡ 0 → ⊥) → (Refused reason ≡ shown_answer records pairs count n room) × (replicate room 0 ≡ shown_list records pairs count n room)
  unfolding shown_answer shown_list
  number_refused f = let z = ne_eqb reason 0 f in (rw (sym e, z), rw (sym e, z))

  pub number_taken : reason ≡ 0 → (fit_answer (graph_of records pairs) count n room ≡ shown_answer records pairs count n room) × (fit_list (graph_of records pairs) count n room ≡ shown_list records pairs count n room)
  unfolding shown_answer shown_list
  number_taken f = let z = eq-eqb reason 0 f in (rw (sym e, z), rw (sym e, z))
