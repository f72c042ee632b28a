-- Both hands' scenes as the code has them, and as the definitions do.
use Rattle.arranging.specs.Both.{both_of}
use Rattle.arranging.specs.Order.{Both}
use Rattle.arranging.specs.declared.Hands.{Hands}

abbrev pub both : Hands → Both
both h = both_of h.left.text.now h.left.records.now h.right.text.now h.right.records.now h.others.now
