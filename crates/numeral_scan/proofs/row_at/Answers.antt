-- `numeral_scan::row_at` meets its contract: at each turn the digits passed are a row, which is what is answered.
use Rattle.std.proofs.Common.{◌≡◌, ℕ, true, sym, subst, ◌∙◌, arith, get_or}
use Rattle.numeral_parts.proofs.DigitLaws.{digit_low, digit_high}
use Rattle.numeral_parts.specs.Digits.{is_digit}
use Rattle.numeral_scan.proofs.PieceLaws.{row_none, row_step}
use Rattle.numeral_scan.specs.Pieces.{RowAt}
use Rattle.numeral_scan.proofs.row_at.Goals as goal
use Rattle.numeral_scan.proofs.row_at.Goals.{Else-value-ge-ROOM}

-- a byte that is pushed is a digit
digit : (c : Else-value-ge-ROOM) → is_digit (get_or c.args.text.now c.loop-i.i 0) ≡ true
digit c = sym c.is_digit.ensures ∙ c.if-not-is_digit.false

pub loop-i-init : goal.loop-i-init
loop-i-init c = row_none _ _ _ c.requires

pub returns-then-not-is_digit : goal.returns-then-not-is_digit
returns-then-not-is_digit c = c.loop-i.invariant

pub overflow_sub-b : goal.overflow_sub-b
overflow_sub-b c = omega (arith, digit_low _ (digit (goal.at.overflow_sub-b c).Else-value-ge-ROOM))

pub overflow_add-value : goal.overflow_add-value
overflow_add-value c = omega (arith, c.from.ensures, digit_high _ (digit (goal.at.overflow_add-value c).Else-value-ge-ROOM))

pub loop-i-preserved : goal.loop-i-preserved
loop-i-preserved c = row_step _ _ _ _ _ c.loop-i.invariant c.loop-i-test.true _ c.from.ensures (digit (goal.at.loop-i-preserved c).Else-value-ge-ROOM) c.if-value-ge-ROOM.false

-- where the loop ends at once, the place is past the text's end
pub returns : goal.returns
returns c =
    let r = c.loop-i.invariant in
    let last : c.loop-i.i ≡ c.max.result = omega (arith, c.max.ensures, r.piece.forward, r.piece.most, c.loop-i-test.false) in
    subst (λ (e : ℕ). RowAt c.args.text.now c.args.at c.args.n record { end = e; value = c.loop-i.value }) last r
