-- `index::by_eights` meets its contract.
use mathlib.Core.Path.{◌≡◌, subst}
use Prim.Native.Nat.{ℕ, ◌+◌, ◌*◌}
use native.Mathlib.Omega.{arith}
use Rattle.index.proofs.SearchLaws.{hashed_eight, hashed_none}
use Rattle.index.specs.Searches.{Hashed}
use Rattle.index.proofs.by_eights.Goals as goal

pub loop-i-init : goal.loop-i-init
loop-i-init c = hashed_none _

pub with_eight-h-requires : goal.with_eight-h-requires
with_eight-h-requires c = c.loop-i.invariant.small

pub loop-i-preserved : goal.loop-i-preserved
loop-i-preserved c =
    let w = c.args.word.now in
    let h = c.loop-i.h in
    let i = c.loop-i.i in
    let inv = c.loop-i.invariant in
    let l = c.loop-i-test.true in
    let n : i * 8 + 8 ≡ (i + 1) * 8 = omega arith in
    subst (Hashed w _) n (hashed_eight w h (i * 8) _ _ _ (omega (arith, c.requires, l)) inv c.four-p.ensures c.four-q.ensures c.with_eight-h.ensures)

pub returns : goal.returns
returns c = let n : c.loop-i.i ≡ c.args.eights = omega arith in subst (λ (k : ℕ). Hashed c.args.word.now c.loop-i.h (k * 8)) n c.loop-i.invariant
