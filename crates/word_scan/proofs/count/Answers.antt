-- `word_scan::count` meets its contract: a digit that no word goes on behind is a count.
use Rattle.std.proofs.Common.{◌≡◌, ℕ, ◌-◌, sym, ap, ◌∙◌, ◌+◌, arith, get_or}
use Rattle.numeral_parts.proofs.DigitLaws.{digit_low}
use Rattle.numeral_parts.specs.Digits.{is_digit}
use Rattle.word_scan.proofs.PassLaws.{digit_passes, line_most}
use Rattle.word_scan.proofs.count.Goals as goal

pub overflow_sub-b : goal.overflow_sub-b
overflow_sub-b c = omega (arith, digit_low _ (sym c.is_digit.ensures ∙ c.if-not-is_digit.false))

pub overflow_add-result : goal.overflow_add-result
overflow_add-result c = omega (arith, c.in_ok-b.ensures.lookup.3.0)

pub overflow_add-result-2 : goal.overflow_add-result-2
overflow_add-result-2 c = omega (arith, c.skip-gap.ensures.lines_value, c.line_ends.ensures, line_most c.args.text.now c.skip-gap.result.place, line_most c.args.text.now (c.skip-gap.result.place + 1 + 1))

pub returns : goal.returns
returns c =
    let byte : get_or c.args.text.now c.skip-gap.result.place 0 ≡ c.in_ok-b.field-0.now = sym (c.in_ok-b.ensures.lookup.3.1 0) in
    digit_passes c.args.text.now c.args.at _ c.skip-gap.ensures.place_value c.in_ok-b.ensures.lookup.3.0 (ap is_digit byte ∙ sym c.is_digit.ensures ∙ c.if-not-is_digit.false) (sym c.ends_word.ensures ∙ c.if-not-ends_word.false) _ _ _ c.skip-gap.ensures.lines_value c.line_ends.ensures (c.from.ensures ∙ ap (λ (n : ℕ). n - 48) (sym byte))
