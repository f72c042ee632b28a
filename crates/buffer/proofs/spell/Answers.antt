-- `buffer::spell` meets its contract.
use mathlib.Core.List.{◌++◌, append-nil}
use mathlib.Core.Path.{◌≡◌, refl, sym, ap, ◌∙◌}
use native.Mathlib.Omega.{arith}
use lib.ListN.{drop, length-set}
use Rattle.buffer.proofs.DecimalLaws.{digits_none, has_place, spelt, tenth_left}
use lib.Seq.{drop-length}
use Rattle.laws.specs.Bytes.{Bytes}
use Rattle.buffer.specs.Decimal.{digits}
use borrow.Author.Rules.{rules}
use Rattle.buffer.proofs.spell.Goals as goal
use Rattle.buffer.proofs.spell.Goals.{In-loop-rest}

pub loop-rest-init : goal.loop-rest-init
loop-rest-init c = (search rules, search rules, refl, simp (drop-length, append-nil))

pub overflow_sub-i : goal.overflow_sub-i
overflow_sub-i c = has_place c.loop-rest.text c.loop-rest.rest c.loop-rest-test.true c.loop-rest.i c.loop-rest.invariant.1

pub bounds-text-i : goal.bounds-text-i
bounds-text-i c = omega (arith, overflow_sub-i (goal.at.bounds-text-i c).In-loop-rest)

pub loop-rest-preserved : goal.loop-rest-preserved
loop-rest-preserved c =
    let l = c.loop-rest in
    let some = c.loop-rest-test.true in (
      omega arith,
      tenth_left l.text l.rest some l.i l.invariant.1,
      simp length-set l.invariant.2,
      spelt l.text l.rest some l.i l.invariant.1 (omega arith) ∙ l.invariant.3,
    )

pub returns : goal.returns
returns c =
    let l = c.loop-rest in
    let none : l.rest ≡ 0 = omega arith in
    record { upper_bound = l.invariant.0; text_after = sym (ap (λ (s : Bytes). s ++ drop l.i l.text) (ap (digits l.i) none ∙ digits_none l.i)) ∙ l.invariant.3 }
