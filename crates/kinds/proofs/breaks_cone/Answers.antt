-- `kinds::breaks_cone` meets its contract: each arm has its real's rules, as antt computes.
use Rattle.std.proofs.Common.{ℕ, not, ◌&&◌, ◌||◌, ap, sym, ◌∙◌, arith}
use Rattle.kinds.proofs.HouseLaws.{one, no_cone_rule}
use Rattle.kinds.specs.Rules.{cone_breach}
use Rattle.kinds.proofs.breaks_cone.Goals as goal

pub returns-in-7 : goal.returns-in-7
unfolding cone_breach
returns-in-7 c = let a = c.args in ap not c.is_at_least_0.ensures ∙ one _ ∙ ap (λ (k : ℕ). cone_breach k a.x a.previous) (sym c.in-7.is)

pub returns-in-8 : goal.returns-in-8
unfolding cone_breach
returns-in-8 c =
    let a = c.args in
    (λ i. not (c.is_at_least_0-in-8.ensures i) || (c.is_0.ensures i && c.is_0-in-8.ensures i)) ∙ ap (λ (k : ℕ). cone_breach k a.x a.previous) (sym c.in-8.is)

pub returns-in_default : goal.returns-in_default
returns-in_default c = no_cone_rule _ _ _ (λ e. omega arith) (λ e. omega arith)
