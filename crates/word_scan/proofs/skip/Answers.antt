-- `word_scan::skip` meets its contract: blanks are passed one by one, and the lines among them counted.
use Rattle.std.proofs.Common.{refl, sym, ◌∙◌, ◌+◌, arith, length}
use Rattle.laws.proofs.RunLaws.{past_end, past_stop, past_step}
use Rattle.lexer.specs.Class.{is_blank}
use Rattle.word_scan.proofs.PassLaws.{line_end, line_most, line_step}
use Rattle.word_scan.proofs.skip.Goals as goal

pub loop-place-init : goal.loop-place-init
loop-place-init c = (refl, omega arith)

pub returns-then-not-is_blank : goal.returns-then-not-is_blank
returns-then-not-is_blank c = record {
  place_value = sym (past_stop is_blank c.args.text.now c.loop-place.place 0 c.loop-place-test.true (sym c.is_blank.ensures ∙ c.if-not-is_blank.true)) ∙ c.loop-place.invariant.0;
  lines_value = c.loop-place.invariant.1;
}

pub overflow_add-lines : goal.overflow_add-lines
overflow_add-lines c = omega (arith, c.loop-place.invariant.1, line_step c.args.text.now c.loop-place.place _ c.loop-place-test.true c.ends_line-lines.ensures, line_most c.args.text.now (c.loop-place.place + 1))

pub loop-place-preserved : goal.loop-place-preserved
loop-place-preserved c =
    (past_step is_blank c.args.text.now c.loop-place.place 0 c.loop-place-test.true (sym c.is_blank.ensures ∙ c.if-not-is_blank.false) ∙ c.loop-place.invariant.0, omega (arith, c.loop-place.invariant.1, line_step c.args.text.now c.loop-place.place _ c.loop-place-test.true c.ends_line-lines.ensures))

pub returns : goal.returns
returns c = record {
  place_value = sym (past_end is_blank c.args.text.now c.loop-place.place c.loop-place-test.false) ∙ c.loop-place.invariant.0;
  lines_value = c.loop-place.invariant.1 ∙ line_end c.args.text.now c.loop-place.place (length c.args.text.now) c.loop-place-test.false (omega arith);
}
