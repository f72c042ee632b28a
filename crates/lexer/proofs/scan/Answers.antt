-- `lexer::scan` meets its contract: a scan from the present place ends where one from `at` does.
use Rattle.std.proofs.Common.{sym, ◌∙◌}
use Rattle.laws.proofs.RunLaws.{past_end, past_stop, past_step}
use Rattle.lexer.proofs.scan.Goals as goal

pub returns-then-not-passes : goal.returns-then-not-passes
returns-then-not-passes g c test meets =
    sym (past_stop test c.args.text.now c.loop-i.i 0 c.loop-i-test.true (sym (meets _ _ c.passes.ensures) ∙ c.if-not-passes.true)) ∙ c.loop-i.invariant test meets

pub loop-i-preserved : goal.loop-i-preserved
loop-i-preserved g c test meets =
    past_step test c.args.text.now c.loop-i.i 0 c.loop-i-test.true (sym (meets _ _ c.passes.ensures) ∙ c.if-not-passes.false) ∙ c.loop-i.invariant test meets

pub returns : goal.returns
returns g c test meets = sym (past_end test c.args.text.now c.loop-i.i c.loop-i-test.false) ∙ c.loop-i.invariant test meets
