-- `resolver::side_at` meets its contract.
use Rattle.resolver.proofs.StepLaws.{side_found, side_void}
use Rattle.resolver.proofs.side_at.Goals as goal

pub returns-then-same : goal.returns-then-same
returns-then-same c = side_void _ _ _ _ _ c.word_bytes-word.ensures c.same.ensures c.if-same.true

pub returns : goal.returns
returns c = side_found _ _ _ _ _ c.word_bytes-word.ensures c.same.ensures c.if-same.false c.search-found.ensures c.narrow.ensures
