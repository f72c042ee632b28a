-- `Hands::kind` meets its contract.
use mathlib.Core.Path.{ap, sym, ◌∙◌}
use Prim.Native.Nat.{◌-◌}
use native.Mathlib.Omega.{arith}
use Rattle.scene.specs.Record.{field_in}
use Rattle.arranging.proofs.BothLaws.{kind_left, kind_right}
use Rattle.arranging.proofs.Hands.kind.Goals as goal

pub returns-then-n-split : goal.returns-then-n-split
returns-then-n-split c =
    let h = c.args.self in
    c.field.ensures ∙ sym (kind_right h.left.records.now h.right.records.now c.args.n (omega arith))

pub returns : goal.returns
returns c =
    let h = c.args.self in
    c.field-2.ensures ∙ ap (λ k. field_in h.left.records.now (c.args.n - k) 0) c.split-split.ensures ∙ sym (kind_left h.left.records.now h.right.records.now c.args.n (omega arith))
