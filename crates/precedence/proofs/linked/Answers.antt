-- `precedence::linked` meets its contract.
use mathlib.Core.Path.{◌≡◌, sym, ◌∙◌}
use Prim.Native.Nat.{◌+◌, ◌≤◌}
use native.Mathlib.Omega.{arith}
use lib.ListN.{length}
use lib.Seq.{length-take-le, take_at}
use Rattle.holding.specs.Shortest.{first_link}
use Rattle.laws.proofs.ListLaws.{front_within}
use Rattle.ties.specs.Ties.{bound_rows}
use Rattle.precedence.proofs.AnswerLaws.{link_held, link_none}
use Rattle.precedence.proofs.ChainLaws.{first_link_is, in_front}
use Rattle.precedence.proofs.linked.Goals as goal
use Rattle.precedence.proofs.linked.Goals.{After-fill, After-first_link-by}

pub slice_bounds-fill-end : goal.slice_bounds-fill-end
slice_bounds-fill-end c = let h : c.args.last + 1 ≤ 1025 = omega arith in sym (length-take-le _ _ h)

pub fill-requires : goal.fill-requires
fill-requires c = let h : c.args.last + 1 ≤ 1025 = omega arith in in_front _ _ _ h (omega arith)

-- the part that was lent comes back as long as it was
kept-lengths : (c : After-fill) → length c.fill.new.lengths ≡ c.args.last + 1
kept-lengths c = let h : c.args.last + 1 ≤ 1025 = omega arith in c.fill.auto.lengths ∙ length-take-le _ _ h

pub slice_bounds-lengths-end-2 : goal.slice_bounds-lengths-end-2
slice_bounds-lengths-end-2 c = front_within c.fill.new.lengths _ (kept-lengths (goal.at.slice_bounds-lengths-end-2 c).After-fill)

pub slice_bounds-first_link-end : goal.slice_bounds-first_link-end
slice_bounds-first_link-end c = sym (length-take-le _ _ (front_within c.fill.new.lengths _ (kept-lengths (goal.at.slice_bounds-first_link-end c).After-fill)))

pub first_link-by-requires : goal.first_link-by-requires
first_link-by-requires c = in_front _ _ _ (front_within c.fill.new.lengths _ (kept-lengths (goal.at.first_link-by-requires c).After-fill)) (omega arith)

-- what is found is the first link
link : (c : After-first_link-by) → let a = c.args in c.first_link-by.result ≡ first_link (bound_rows a.records.now a.classes.now) a.first a.last
link c =
    let p = c.requires in
    let h : c.args.last + 1 ≤ 1025 = omega arith in
    let kept : length c.fill.new.lengths ≡ c.args.last + 1 = c.fill.auto.lengths ∙ length-take-le _ _ h in
    first_link_is _ c.fill.new.lengths _ _ _ _ c.fill.ensures kept (take_at c.fill.new.lengths _ _ kept) p.rises c.first_link-by.ensures

pub returns-then-by-eq0 : goal.returns-then-by-eq0
returns-then-by-eq0 c = link_none _ _ _ _ _ (link (goal.at.returns-then-by-eq0 c).After-first_link-by) c.if-by-eq0.true

pub returns : goal.returns
returns c = link_held _ _ _ _ _ (link (goal.at.returns c).After-first_link-by) c.if-by-eq0.false _ c.binder.ensures
