-- `bits::same_bits` meets its contract.
use Rattle.std.proofs.Common.{eqb, sym, ◌∙◌, rules, ne_eqb}
use Rattle.std.specs.Float.{binary64}
use Rattle.std.specs.Float.Ieee.{to_bits}
use Rattle.std.proofs.lemmas.Iterator.{YieldsList-from_slice, YieldsList-from_zip}
use Rattle.std.proofs.lemmas.Iterator.Search.{all_from_yields_List}
use lib.Ieee.{Float}
use Rattle.bits.proofs.BitsLaws.{all_bits, reals_length}
use Rattle.bits.proofs.same_bits.Goals as goal

pub returns-then-a-b : goal.returns-then-a-b
returns-then-a-b c =
    let a = c.args.a.now in
    let b = c.args.b.now in
    all_from_yields_List (λ (p : Float × Float). eqb (to_bits binary64 p.0) (to_bits binary64 p.1)) c.all.new.self _ c.all.result c.all.ensures.ran (YieldsList-from_zip (YieldsList-from_slice a cc) (YieldsList-from_slice b (search rules))) (λ x r q k. search rules)
    ∙ all_bits a b c.if-a-b.true

pub returns-else-a-b : goal.returns-else-a-b
returns-else-a-b c = ne_eqb _ _ c.if-a-b.false ∙ sym (reals_length _ _ c.if-a-b.false)
