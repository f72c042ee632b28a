-- `word_scan::line_ends` meets its contract.
use Rattle.std.proofs.Common.{ℕ, cond, eqb, ap, ◌∙◌, ◌+◌, arith}
use Rattle.word_scan.proofs.PassLaws.{line_end, line_step}
use Rattle.word_scan.proofs.line_ends.Goals as goal

pub returns-in-Some : goal.returns-in-Some
returns-in-Some c = line_step c.args.text.now c.args.at _ c.in-Some.ensures.lookup.3.0 (c.ends_line.ensures ∙ ap (λ (n : ℕ). cond {A = ℕ} (eqb n 10) 1 0) (c.in-Some.ensures.lookup.3.1 0))

pub returns-in-None : goal.returns-in-None
returns-in-None c = omega arith ∙ line_end c.args.text.now c.args.at (c.args.at + 1) c.in-None.ensures.lookup.3 (omega (arith, c.in-None.ensures.lookup.3))
