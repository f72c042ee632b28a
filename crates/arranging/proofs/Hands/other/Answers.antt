-- `Hands::other` meets its contract.
use mathlib.Core.Path.{ap, sym, ◌∙◌}
use Prim.Native.Nat.{◌/◌}
use native.Mathlib.Omega.{arith}
use Rattle.arranging.specs.Both.{shifted}
use Rattle.arranging.proofs.BothLaws.{other_left, other_right}
use Rattle.arranging.proofs.Hands.other.Goals as goal

pub returns-then-n-split : goal.returns-then-n-split
returns-then-n-split c =
    let h = c.args.self in
    c.shifted.ensures ∙ (λ i. shifted (c.split-split.ensures i) (c.number_at-other.ensures i / 2)) ∙ sym (other_right h.right.records.now h.others.now c.args.n (omega arith))

pub returns : goal.returns
returns c =
    let h = c.args.self in
    ap (λ m. m / 2) c.number_at-other.ensures ∙ sym (other_left h.right.records.now h.others.now c.args.n (omega arith))
