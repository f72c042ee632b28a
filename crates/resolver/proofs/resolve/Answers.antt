-- `resolver::resolve` meets its contract.
use mathlib.Core.Path.{refl, ◌∙◌}
use Prim.Native.Nat.{◌+◌, ◌-◌}
use native.Mathlib.Omega.{arith}
use Rattle.resolver.proofs.StepLaws.{all_known, goes_on, is_mixture_lem, no_mixture, none_yet, passed, stops_at}
use Rattle.resolver.proofs.resolve.Goals as goal

pub loop-n-init : goal.loop-n-init
loop-n-init c = (omega arith, none_yet _ _ _ _ _)

pub shape_of-pairs-in-Unknown : goal.shape_of-pairs-in-Unknown
shape_of-pairs-in-Unknown c = c.resolve_mixture-end.ensures.same ∙ c.loop-n.invariant.1.same

pub returns-in-Unknown : goal.returns-in-Unknown
returns-in-Unknown c =
    let a = c.args in
    let l = c.loop-n in
    let m = is_mixture_lem a.records.now (l.n + 1) c.field.ensures c.if-field-eq-MIXFUNC.true in
    stops_at a.text.now a.records.now a.index.now a.count a.pairs.now l.n l.invariant.1 refl m c.resolve_mixture-end.ensures (omega (arith, c.loop-n-test.true)) _ c.in-Unknown.is

pub loop-n-preserved-in_default : goal.loop-n-preserved-in_default
loop-n-preserved-in_default c =
    let a = c.args in
    let l = c.loop-n in
    let m = is_mixture_lem a.records.now (l.n + 1) c.field.ensures c.if-field-eq-MIXFUNC.true in
    (omega (arith, c.loop-n-test.true), goes_on a.text.now a.records.now a.index.now a.count a.pairs.now l.n l.invariant.1 refl m c.resolve_mixture-end.ensures c.in_default.not-Unknown)

pub loop-n-preserved : goal.loop-n-preserved
loop-n-preserved c =
    let a = c.args in
    let l = c.loop-n in
    (omega (arith, c.loop-n-test.true), passed a.text.now a.records.now a.index.now a.count a.pairs.now l.n l.invariant.1 refl (no_mixture a.records.now (l.n + 1) c.field.ensures c.if-field-eq-MIXFUNC.false))

pub shape_of-pairs : goal.shape_of-pairs
shape_of-pairs c = c.loop-n.invariant.1.same

pub returns : goal.returns
returns c = let l = c.loop-n in all_known _ _ _ _ _ (omega (arith, c.loop-n-test.false, l.invariant.0)) l.invariant.1
