-- `plain::first_real` meets its contract.
use mathlib.Core.Bool.{Bool, cond}
use mathlib.Core.Path.{ap, sym, ◌∙◌}
use borrow.Author.Tests.{eq-eqb, ne_eqb}
use Rattle.statement.specs.States.{clipped}
use Rattle.plain.proofs.first_real.Goals as goal

pub returns-then-n-eq0 : goal.returns-then-n-eq0
returns-then-n-eq0 c = ap (λ (z : Bool). cond z 0 (clipped c.args.used)) (sym (eq-eqb c.args.n 0 c.if-n-eq0.true))

pub returns-else-n-eq0 : goal.returns-else-n-eq0
returns-else-n-eq0 c =
    let a = c.args in
    let at-if1 = c.if-n-eq0 in
    let at-narrow = c.narrow in
    at-narrow.ensures ∙ ap (λ (z : Bool). cond z 0 (clipped a.used)) (sym (ne_eqb a.n 0 at-if1.false))
