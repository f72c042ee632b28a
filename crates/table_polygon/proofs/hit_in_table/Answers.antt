-- `table_polygon::hit_in_table` meets its contract.
use mathlib.Core.Path.{◌∙◌, ap}
use lib.Ieee.{Float}
use Rattle.hits.proofs.LeastLaws.{default_bits}
use Rattle.table_polygon.specs.InTable.{hit_in_table}
use Rattle.table_polygon.proofs.hit_in_table.Goals as goal

pub returns : goal.returns
returns c =
    let a = c.args in
    c.hit_in_table_above.ensures ∙ ap (λ (l : Float). hit_in_table l a.ray a.records.now a.count a.number a.reals.now) default_bits
