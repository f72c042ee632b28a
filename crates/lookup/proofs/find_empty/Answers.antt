-- `lookup::find_empty` meets its contract.
use mathlib.Core.List.{[]}
use mathlib.Core.Path.{sym, ap, ◌∙◌}
use native.Mathlib.Omega.{arith}
use Rattle.lookup.proofs.LookupLaws.{empty_hit, empty_miss, find_none}
use Rattle.lookup.specs.Lookup.{latest_in}
use Rattle.scene.specs.Types.{is_surface}
use Rattle.lookup.proofs.find_empty.Goals as goal

pub returns-then-size-name : goal.returns-then-size-name
returns-then-size-name c =
    sym (c.loop-n.invariant ∙ empty_hit _ _ _ c.loop-n-test.true _ _ _ c.field-size.ensures c.field-name.ensures (c.is_surface-surface.ensures ∙ ap is_surface c.field.ensures) c.if-size-name.true)

pub loop-n-preserved : goal.loop-n-preserved
loop-n-preserved c =
    c.loop-n.invariant ∙ empty_miss _ _ _ c.loop-n-test.true _ _ _ c.field-size.ensures c.field-name.ensures (c.is_surface-surface.ensures ∙ ap is_surface c.field.ensures) c.if-size-name.false

pub returns : goal.returns
returns c = sym (c.loop-n.invariant ∙ ap (latest_in _ _ []) (omega arith) ∙ find_none _ _ [])
