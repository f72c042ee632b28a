-- `kinds::breaks_ring` meets its contract: each arm has its real's rule, as antt computes.
use Rattle.std.proofs.Common.{ℕ, not, ◌&&◌, ap, sym, ◌∙◌, arith}
use Rattle.kinds.proofs.HouseLaws.{one, no_ring_rule}
use Rattle.kinds.specs.Rules.{ring_breach}
use Rattle.kinds.proofs.breaks_ring.Goals as goal

pub returns-in-6 : goal.returns-in-6
unfolding ring_breach
returns-in-6 c =
    let a = c.args in
    (λ i. c.is_0.ensures i && c.is_0-in-6.ensures i && c.is_0-in-6-2.ensures i) ∙ ap (λ (k : ℕ). ring_breach k a.x a.previous a.first) (sym c.in-6.is)

pub returns-in-7 : goal.returns-in-7
unfolding ring_breach
returns-in-7 c = let a = c.args in ap not c.is_at_least_0.ensures ∙ one _ ∙ ap (λ (k : ℕ). ring_breach k a.x a.previous a.first) (sym c.in-7.is)

pub returns-in-8 : goal.returns-in-8
unfolding ring_breach
returns-in-8 c = let a = c.args in one _ ∙ ap (λ (k : ℕ). ring_breach k a.x a.previous a.first) (sym c.in-8.is)

pub returns-in_default : goal.returns-in_default
returns-in_default c = no_ring_rule _ _ _ _ (λ e. omega arith) (λ e. omega arith) (λ e. omega arith)
