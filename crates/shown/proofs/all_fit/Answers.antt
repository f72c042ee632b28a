-- `shown::all_fit` meets its contract.
use mathlib.Core.Bool.{true}
use mathlib.Core.Path.{◌≡◌, sym, subst, ◌∙◌}
use Prim.Native.Nat.{ℕ, ◌+◌}
use native.Mathlib.Omega.{arith}
use Rattle.graph.specs.Graph.{graph_of}
use Rattle.shown.proofs.FitLaws.{every_more, every_none, every_not}
use Rattle.shown.specs.List.{every, primitive_fits}
use Rattle.shown.proofs.all_fit.Goals as goal

pub loop-n-init : goal.loop-n-init
loop-n-init c = (omega arith, every_none _)

pub returns-then-not-primitive_fits : goal.returns-then-not-primitive_fits
returns-then-not-primitive_fits c =
    let a = c.args in
    every_not (primitive_fits (graph_of a.records.now a.pairs.now) a.count) a.count (c.loop-n.n + 1) (omega arith) (omega arith) (sym c.primitive_fits.ensures ∙ c.if-not-primitive_fits.true)

pub loop-n-preserved : goal.loop-n-preserved
loop-n-preserved c =
    let l = c.loop-n in
    let a = c.args in
    (omega arith, every_more (primitive_fits (graph_of a.records.now a.pairs.now) a.count) l.n l.invariant.1 (sym c.primitive_fits.ensures ∙ c.if-not-primitive_fits.false))

pub returns : goal.returns
returns c =
    let l = c.loop-n in
    let a = c.args in
    sym (subst (λ (k : ℕ). every (primitive_fits (graph_of a.records.now a.pairs.now) a.count) k ≡ true) (let e : l.n ≡ a.count = omega arith in e) l.invariant.1)
