-- `linker::tell_next` meets its contract.
use mathlib.Core.Path.{sym}
use Rattle.linker.proofs.TableLaws.{told_beyond, told_none, told_some}
use Rattle.linker.proofs.tell_next.Goals as goal

pub returns-then-number-eq0 : goal.returns-then-number-eq0
returns-then-number-eq0 c = sym (told_none _ _ _ c.if-number-eq0.true)

pub returns-then-records-number : goal.returns-then-records-number
returns-then-records-number c = sym (told_beyond _ _ _ c.if-records-number.true)

pub returns : goal.returns
returns c = sym (told_some _ _ _ c.if-number-eq0.false c.if-records-number.false)
