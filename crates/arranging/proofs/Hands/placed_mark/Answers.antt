-- `Hands::placed_mark` meets its contract.
use Rattle.arranging.proofs.OrderLaws.{mark_stands, mark_surface}
use Rattle.arranging.proofs.Hands.placed_mark.Goals as goal

pub returns-then-is_surface : goal.returns-then-is_surface
returns-then-is_surface c = mark_surface _ _ c.kind.ensures _ c.is_surface.ensures c.if-is_surface.true

pub returns : goal.returns
returns c = mark_stands _ _ c.kind.ensures _ c.is_surface.ensures c.if-is_surface.false
