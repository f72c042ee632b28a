-- `fresh::compare` meets its contract.
use mathlib.Core.Bool.{Bool, true, false, cond, ◌&&◌}
use mathlib.Core.List.{List}
use mathlib.Core.Path.{◌≡◌, ap, sym, ◌∙◌}
use Prim.Native.Nat.{ℕ, ◌*◌, ◌≤◌}
use native.Mathlib.Omega.{arith}
use lib.Ieee.{Float}
use lib.ListN.{length}
use lib.Seq.{length-take-le, take_at}
use Rattle.bits.specs.Bits.{same_reals}
use Rattle.laws.specs.Bytes.{same}
use Rattle.reader.specs.Answer.{read_into}
use Rattle.scene.specs.HouseRules.{zero_real}
use Rattle.scene.specs.Record.{filled, width}
use Rattle.fresh.proofs.FreshLaws.{tables_compared}
use Rattle.fresh.specs.Fresh.{Same, Refused, fresh_of}
use Rattle.fresh.proofs.compare.Goals as goal
use Rattle.fresh.proofs.compare.Goals.{After-read_with_own_tables, After-same_reals}

-- the parts that were lent to the reader come back as long as they were
kept-records : (c : After-read_with_own_tables) → length c.read_with_own_tables.new.records ≡ c.min-n.result
kept-records c = let h : c.min-n.result ≤ 1024 * width = omega arith in c.read_with_own_tables.auto.records ∙ length-take-le _ _ h

kept-reals : (c : After-read_with_own_tables) → length c.read_with_own_tables.new.reals ≡ c.min-k.result
kept-reals c = let h : c.min-k.result ≤ 4096 = omega arith in c.read_with_own_tables.auto.reals ∙ length-take-le _ _ h

-- both tests together say whether the tables are those of the reading
compared : (c : After-same_reals) (t : Bool) → (c.same_numbers.result && c.same_reals.result) ≡ t → cond t (Same c.in_ok-counts.counts.primitives) (Refused 22 0) ≡ fresh_of c.args.text.now c.args.records.now c.args.reals.now (read_into c.args.mode c.args.text.now c.args.records.now c.args.reals.now)
compared c t e =
    let few : c.min-n.result ≤ 1024 * width = omega arith in
    let few_reals : c.min-k.result ≤ 4096 = omega arith in
    let rows : length c.read_with_own_tables.new.records ≡ c.min-n.result = c.read_with_own_tables.auto.records ∙ length-take-le _ _ few in
    let doubles : length c.read_with_own_tables.new.reals ≡ c.min-k.result = c.read_with_own_tables.auto.reals ∙ length-take-le _ _ few_reals in
    tables_compared c.args.mode c.args.records.now c.args.reals.now c.args.text.now _ _
    (sym c.read_with_own_tables.auto.records ∙ rows ∙ c.min-n.ensures)
    (sym c.read_with_own_tables.auto.reals ∙ doubles ∙ c.min-k.ensures)
    _ _ _ _ (rw c.in_ok-counts.was at c.read_with_own_tables.ensures) _ _ t
    (c.same_numbers.ensures ∙ ap (λ (xs : List ℕ). same c.args.records.now (filled 0 (length c.args.records.now) xs)) (take_at c.read_with_own_tables.new.records _ _ rows))
    (c.same_reals.ensures ∙ ap (λ (ys : List Float). same_reals c.args.reals.now (filled zero_real (length c.args.reals.now) ys)) (take_at c.read_with_own_tables.new.reals _ _ doubles))
    e

pub returns-then-same_numbers-same_reals : goal.returns-then-same_numbers-same_reals
returns-then-same_numbers-same_reals c = compared (goal.at.returns-then-same_numbers-same_reals c).After-same_reals true c.if-same_numbers-same_reals.true

pub returns : goal.returns
returns c = compared (goal.at.returns c).After-same_reals false c.if-same_numbers-same_reals.false
