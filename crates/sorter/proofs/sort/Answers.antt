-- `sorter::sort` meets its contract.
use mathlib.Core.Bool.{true, false}
use mathlib.Core.Path.{◌≡◌}
use borrow.Author.Rules.{rules}
use lib.ListN.{length}
use Rattle.std.specs.Prelude.{is_err}
use Rattle.sorter.proofs.AnswerLaws.{refused_cleared, written_kept}
use Rattle.sorter.specs.Answer.{sorted_by}
use Rattle.sorter.proofs.sort.Goals as goal

pub returns-then-is_err : goal.returns-then-is_err
returns-then-is_err c =
    let a = c.args in
    let e : is_err c.put_checked-sorted.result ≡ true = search rules in
    record {
      says = c.put_checked-sorted.ensures.leaves.says;
      output = refused_cleared (sorted_by a.mode a.text.now a.records.now a.reals.now (length a.out.now)) a.out.now _ _ c.put_checked-sorted.ensures e c.put_checked-sorted.auto.out (search rules);
    }

pub returns-else-is_err : goal.returns-else-is_err
returns-else-is_err c =
    let a = c.args in
    let e : is_err c.put_checked-sorted.result ≡ false = search rules in
    record {
      says = c.put_checked-sorted.ensures.leaves.says;
      output = written_kept (sorted_by a.mode a.text.now a.records.now a.reals.now (length a.out.now)) a.out.now _ _ c.put_checked-sorted.ensures e;
    }
