-- `typed_matches::match_at` meets its contract.
use mathlib.Core.Path.{◌∙◌}
use Rattle.typed_matches.proofs.HeldLaws.{match_left, match_right}
use Rattle.typed_matches.proofs.match_at.Goals as goal

pub returns-then-n-split : goal.returns-then-n-split
returns-then-n-split c = let a = c.args in c.number_at.ensures ∙ match_right a.right_matches.now a.left_matches.now a.n c.if-n-split.true

pub returns : goal.returns
returns c = let a = c.args in c.number_at-2.ensures ∙ match_left a.right_matches.now a.left_matches.now a.n c.if-n-split.false
