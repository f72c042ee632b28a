-- `index::is_part` meets its contract.
use Rattle.index.proofs.SearchLaws.{other_part, whole_part}
use Rattle.index.proofs.is_part.Goals as goal

pub returns-then-len-word : goal.returns-then-len-word
returns-then-len-word c =
    let a = c.args in
    other_part a.text.now a.word.now a.place a.size c.if-text-end.false c.if-len-word.true

pub returns : goal.returns
returns c =
    let a = c.args in
    whole_part a.text.now a.word.now a.place a.size _ c.same-2.ensures
