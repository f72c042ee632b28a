-- `edges::sum_of` meets its contract.
use Rattle.edges.proofs.sum_of.Goals as goal

pub returns : goal.returns
returns c = λ i. record { x = c.step.ensures i; y = c.step-2.ensures i; z = c.step-3.ensures i }
