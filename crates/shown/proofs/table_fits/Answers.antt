-- `shown::table_fits` meets its contract.
use mathlib.Core.Bool.{true}
use mathlib.Core.Path.{◌≡◌, ap, refl, sym, ◌∙◌}
use Prim.Native.Nat.{ℕ, ◌-◌}
use native.Mathlib.Omega.{arith}
use lib.Dec.{eqb}
use lib.ListN.{length}
use Rattle.graph.specs.Answers.{lowest_loop}
use Rattle.graph.specs.Graph.{graph_of}
use Rattle.shown.proofs.FitLaws.{fits_within}
use Rattle.shown.specs.List.{every, primitive_fits}
use Rattle.shown.proofs.table_fits.Goals as goal

pub returns-then-not-all_fit : goal.returns-then-not-all_fit
returns-then-not-all_fit c = record { marks_len_unchanged = refl; value = rw (sym c.all_fit.ensures ∙ c.if-not-all_fit.true) }

pub shape_of-marks : goal.shape_of-marks
shape_of-marks c = c.first_loop.ensures.marks_len_unchanged

pub returns : goal.returns
returns c =
    let a = c.args in
    let g = graph_of a.records.now a.pairs.now in
    let fit : every (primitive_fits g a.count) a.count ≡ true = sym c.all_fit.ensures ∙ c.if-not-all_fit.false in
    let last : length a.marks.now - 1 ≡ a.count = omega (arith, c.requires) in
    let found = c.first_loop.ensures.finds (rw c.requires (fits_within g a.count fit)) in
    record { marks_len_unchanged = c.first_loop.ensures.marks_len_unchanged; value = rw fit (ap (λ (k : ℕ). eqb k 0) (found ∙ ap (lowest_loop g) last)) }
