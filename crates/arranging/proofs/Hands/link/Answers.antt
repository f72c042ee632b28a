-- `Hands::link` meets its contract.
use mathlib.Core.Path.{ap, sym, ◌∙◌}
use Prim.Native.Nat.{◌-◌}
use native.Mathlib.Omega.{arith}
use Rattle.scene.specs.Record.{field_in}
use Rattle.arranging.specs.Both.{shifted}
use Rattle.arranging.proofs.BothLaws.{link_left, link_right}
use Rattle.arranging.proofs.Hands.link.Goals as goal

pub returns-then-n-split : goal.returns-then-n-split
returns-then-n-split c =
    let h = c.args.self in
    c.number.ensures ∙ sym (link_right h.left.records.now h.right.records.now c.args.n c.args.k (omega arith))

pub returns : goal.returns
returns c =
    let h = c.args.self in
    c.shifted.ensures ∙ (λ i. shifted (c.split-split.ensures i) ((c.field-link.ensures ∙ ap (λ k. field_in h.left.records.now (c.args.n - k) c.args.k) c.split-split.ensures) i)) ∙ sym (link_left h.left.records.now h.right.records.now c.args.n c.args.k (omega arith))
