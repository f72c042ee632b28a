-- `keys::key_name` meets its contract.
use mathlib.Core.Path.{ap, sym, ◌∙◌}
use Rattle.keys.proofs.ScanLaws.{key_none, key_name}
use Rattle.keys.specs.Key.{Key}
use Rattle.keys.proofs.key_name.Goals as goal

pub returns-then-k-eq0 : goal.returns-then-k-eq0
returns-then-k-eq0 c =
    let a = c.args in
    c.part.ensures ∙ sym (ap (λ (k : Key). k.name) (key_none a.text.now a.records.now a.n _ c.within-k.ensures c.if-k-eq0.true))

pub returns : goal.returns
returns c =
    let a = c.args in
    c.name_of.ensures ∙ key_name a.text.now a.records.now a.n _ c.within-k.ensures c.if-k-eq0.false
