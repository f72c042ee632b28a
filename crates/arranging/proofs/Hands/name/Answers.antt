-- `Hands::name` meets its contract.
use mathlib.Core.Path.{ap, sym, ◌∙◌}
use Prim.Native.Nat.{◌-◌}
use native.Mathlib.Omega.{arith}
use Rattle.scene.specs.Record.{name_in}
use Rattle.arranging.proofs.BothLaws.{name_left, name_right}
use Rattle.arranging.proofs.Hands.name.Goals as goal

pub returns-then-n-split : goal.returns-then-n-split
returns-then-n-split c =
    let h = c.args.self in
    c.name_of.ensures ∙ sym (name_right h.left.text.now h.left.records.now h.right.text.now h.right.records.now c.args.n (omega arith))

pub returns : goal.returns
returns c =
    let h = c.args.self in
    c.name_of-2.ensures ∙ ap (λ k. name_in h.left.text.now h.left.records.now (c.args.n - k)) c.split-split.ensures ∙ sym (name_left h.left.text.now h.left.records.now h.right.text.now h.right.records.now c.args.n (omega arith))
