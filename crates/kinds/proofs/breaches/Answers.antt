-- `kinds::breaches` meets its contract: each arm has its types' rules, as antt computes.
use Rattle.std.proofs.Common.{not, ◌&&◌, ◌||◌, eqb, ◌∙◌, arith, rules}
use Rattle.kinds.proofs.HouseLaws.{cone_rule, cylinder_rule, index_rule, indices_rule, no_later_rule, no_material_rule, no_polygon_rule, no_type_rule, ring_rule, rough_rule, source_rule, sphere_rule}
use Rattle.kinds.proofs.breaches.Goals as goal

pub returns-in-1 : goal.returns-in-1
returns-in-1 c = (λ i. eqb 3 c.args.count && (c.is_0.ensures i && c.is_0-in-1.ensures i && c.is_0-in-1-2.ensures i)) ∙ source_rule _ _ _ _ _ c.in-1.is

pub returns-in-2 : goal.returns-in-2
returns-in-2 c = (λ i. eqb 4 c.args.count && not (c.is_above_0-in-2.ensures i)) ∙ sphere_rule _ _ _ _ _ (omega arith) (omega arith)

pub returns-in-5 : goal.returns-in-5
returns-in-5 c = c.breaks_cone.ensures ∙ cone_rule _ _ _ _ _ (omega arith) (omega arith)

pub returns-in-7 : goal.returns-in-7
returns-in-7 c = (λ i. eqb 7 c.args.count && not (c.is_above_0-in-7.ensures i)) ∙ cylinder_rule _ _ _ _ _ (omega arith) (omega arith)

pub returns-in-9 : goal.returns-in-9
returns-in-9 c = c.breaks_ring.ensures ∙ ring_rule _ _ _ _ _ c.in-9.is

pub returns-in-18 : goal.returns-in-18
returns-in-18 c = (λ i. eqb 5 c.args.count && not (c.is_above_0-in-18.ensures i) || eqb 6 c.args.count && not (c.is_above_0-in-18-2.ensures i)) ∙ rough_rule _ _ _ _ _ (omega arith) (omega arith)

pub returns-in-21 : goal.returns-in-21
returns-in-21 c = (λ i. eqb 4 c.args.count && not (c.is_above_0.ensures i)) ∙ index_rule _ _ _ _ _ c.in-21.is

pub returns-in-22 : goal.returns-in-22
returns-in-22 c = (λ i. eqb 4 c.args.count && not (c.is_above_0-in-22.ensures i) || eqb 8 c.args.count && not (c.is_above_0-in-22-2.ensures i)) ∙ indices_rule _ _ _ _ _ c.in-22.is

pub returns-in_default : goal.returns-in_default
returns-in_default c = no_type_rule _ _ _ _ _ (omega arith)

pub returns-in_default-2 : goal.returns-in_default-2
returns-in_default-2 c = no_polygon_rule _ _ _ _ _ (omega arith)

pub returns-in_default-3 : goal.returns-in_default-3
returns-in_default-3 c = no_material_rule _ _ _ _ _ (omega arith) (omega arith)

pub returns-in_default-4 : goal.returns-in_default-4
returns-in_default-4 c = no_later_rule _ _ _ _ _ (omega arith) (search rules) (λ e. omega arith)
