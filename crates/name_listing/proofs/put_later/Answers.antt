-- `name_listing::put_later` meets its contract.
use Rattle.lines.proofs.PutsLaws.{puts_as, puts_none}
use Rattle.name_listing.proofs.LineLaws.{later_here, later_not}
use lib.Dec.{ltb}
use mathlib.Core.Bool.{Bool, ◌&&◌}
use mathlib.Core.Path.{◌∙◌, ap, sym}
use Rattle.name_listing.proofs.put_later.Goals as goal

pub returns-then-first-j : goal.returns-then-first-j
returns-then-first-j c =
    let a = c.args in
    puts_as _ (later_here a.records.now a.d a.first a.j (sym (ap (λ (b : Bool). ltb a.first a.j && b) c.uses.ensures) ∙ c.if-first-j.true)) c.put_number.ensures

pub returns : goal.returns
returns c =
    let a = c.args in
    puts_as _ (later_not a.records.now a.d a.first a.j (sym (ap (λ (b : Bool). ltb a.first a.j && b) c.uses.ensures) ∙ c.if-first-j.false)) (puts_none _ _)
