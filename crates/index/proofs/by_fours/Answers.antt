-- `index::by_fours` meets its contract.
use mathlib.Core.Path.{◌≡◌, refl, subst}
use Prim.Native.Nat.{◌+◌, ◌*◌, ◌/◌}
use native.Mathlib.Omega.{arith}
use lib.ListN.{length}
use Rattle.index.proofs.SearchLaws.{hashed_four}
use Rattle.index.specs.Searches.{Hashed}
use Rattle.index.proofs.by_fours.Goals as goal

pub returns-then-word-at-lt4 : goal.returns-then-word-at-lt4
returns-then-word-at-lt4 c =
    let w = c.args.word.now in
    let n : length w / 8 * 8 ≡ length w / 4 * 4 = omega (arith, c.if-word-at-lt4.true) in
    subst (Hashed w _) n c.by_eights-h.ensures

pub returns : goal.returns
returns c =
    let w = c.args.word.now in
    let l = c.if-word-at-lt4.false in
    let n : length w / 8 * 8 + 4 ≡ length w / 4 * 4 = omega (arith, l) in
    subst (Hashed w _) n (hashed_four w _ (length w / 8 * 8) _ _ (omega (arith, l)) c.by_eights-h.ensures c.four-p.ensures refl)
