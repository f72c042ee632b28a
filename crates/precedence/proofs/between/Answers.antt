-- `precedence::between` meets its contract.
use mathlib.Core.Path.{◌≡◌, sym, ◌∙◌}
use Prim.Native.Nat.{◌≤◌}
use native.Mathlib.Omega.{arith}
use lib.ListN.{length}
use lib.Seq.{length-take-le, take_at}
use Rattle.laws.proofs.ListLaws.{front_within}
use Rattle.precedence.proofs.AnswerLaws.{between_is}
use Rattle.precedence.proofs.between.Goals as goal
use Rattle.precedence.proofs.between.Goals.{After-classes}

pub slice_bounds-classes-end-2 : goal.slice_bounds-classes-end-2
slice_bounds-classes-end-2 c = let h : c.args.count ≤ 1024 = omega arith in sym (length-take-le _ _ h)

-- the part that was lent comes back as long as it was
kept-classes : (c : After-classes) → length c.classes.new.classes ≡ c.args.count
kept-classes c = let h : c.args.count ≤ 1024 = omega arith in c.classes.auto.classes ∙ length-take-le _ _ h

pub slice_bounds-classes-end-3 : goal.slice_bounds-classes-end-3
slice_bounds-classes-end-3 c = front_within c.classes.new.classes _ (kept-classes (goal.at.slice_bounds-classes-end-3 c).After-classes)

pub slice_bounds-linked-end : goal.slice_bounds-linked-end
slice_bounds-linked-end c = sym (length-take-le _ _ (front_within c.classes.new.classes _ (kept-classes (goal.at.slice_bounds-linked-end c).After-classes)))

pub returns : goal.returns
returns c =
    let a = c.args in
    let h : a.count ≤ 1024 = omega arith in
    between_is a.text.now a.records.now a.count a.first a.last c.classes.new.classes _ _ c.classes.ensures (length-take-le _ _ h) (take_at c.classes.new.classes _ _ (kept-classes (goal.at.returns c).After-classes)) c.linked.ensures
