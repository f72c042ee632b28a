-- `plain::statements` meets its contract: each turn of the loop passes a comment, or reads and enters a statement.
use Rattle.std.proofs.Common.{ℕ, List, ◌≤◌, ◌<◌, refl, ap, sym, subst, ◌∙◌, length, arith}
use lib.Ieee.{Float}
use Rattle.laws.specs.Bytes.{Bytes}
use Rattle.plain.proofs.WholeLaws.{comment_stands, enters, line_bound, stands, stops_inside, whole_further, whole_within}
use Rattle.plain.specs.Plain.{Begins, Fills, idle_at, unfilled}
use Rattle.plain.specs.declared.Between.{Between}
use Rattle.plain.specs.declared.Filled.{Filled}
use Rattle.plain.specs.declared.Head.{Head}
use Rattle.progress.specs.Invariant.{Inv}
use Rattle.scene.specs.declared.Settings.{Settings}
use Rattle.statement.specs.States.{clipped}
use Rattle.statement.specs.declared.State.{State}
use Rattle.word_scan.proofs.PassLaws.{line_most}
use Rattle.plain.proofs.statements.Goals as goal
use Rattle.plain.proofs.statements.Goals.{After-fill-f}

pub returns-then-not-is_idle : goal.returns-then-not-is_idle
returns-then-not-is_idle c = record { inv = λ I. I; at_le_at = omega arith }

pub loop-b-init : goal.loop-b-init
loop-b-init c = (λ S. S, omega (arith, c.narrow.ensures), omega arith, refl, refl, refl)

pub head_at-requires : goal.head_at-requires
head_at-requires c = c.loop-b.invariant.1

pub shape_of-records-in_default-comment : goal.shape_of-records-in_default-comment
shape_of-records-in_default-comment c = c.loop-b.invariant.3

pub shape_of-reals-in_default-comment : goal.shape_of-reals-in_default-comment
shape_of-reals-in_default-comment c = c.loop-b.invariant.4

pub shape_of-index-in_default-comment : goal.shape_of-index-in_default-comment
shape_of-index-in_default-comment c = c.loop-b.invariant.5

pub returns-in_default-comment : goal.returns-in_default-comment
returns-in_default-comment c =
    let a = c.args in
    record {
      inv = λ I. subst (Inv a.text.now c.loop-b.records c.loop-b.reals c.loop-b.index a.settings) (sym c.between.ensures)
          (c.loop-b.invariant.0 (stands a.text.now a.records.now a.reals.now a.index.now a.settings a.s I (sym c.is_idle.ensures ∙ c.if-not-is_idle.false) _ (c.narrow.ensures ∙ ap clipped c.line_of.ensures))).inv;
      at_le_at = omega (arith, ap (λ (z : State). z.at) c.between.ensures, c.loop-b.invariant.2);
    }

pub overflow_add-b : goal.overflow_add-b
overflow_add-b c = omega (arith, c.loop-b.invariant.1, c.in-Some-comment.ensures.lines_on, line_most c.args.text.now c.in-Some-comment.c.next, c.well_formed.0)

pub loop-b-smaller-in_default : goal.loop-b-smaller-in_default
loop-b-smaller-in_default c = omega (arith, c.in-Some-comment.ensures.further, c.in-Some-comment.ensures.within)

pub loop-b-preserved-in_default : goal.loop-b-preserved-in_default
loop-b-preserved-in_default c =
    let P = c.in-Some-comment.ensures in (
      λ S. comment_stands c.args.text.now c.loop-b.records c.loop-b.reals c.loop-b.index c.args.settings c.loop-b.b c.in-Some-comment.c P (c.loop-b.invariant.0 S),
      omega (arith, c.loop-b.invariant.1, P.lines_on),
      omega (arith, c.loop-b.invariant.2, P.further),
      c.loop-b.invariant.3,
      c.loop-b.invariant.4,
      c.loop-b.invariant.5,
    )

pub fill-f-requires : goal.fill-f-requires
fill-f-requires c = omega (arith, c.loop-b.invariant.1, c.in-Some.ensures.line_on)

-- a turn of the loop, once a statement's reals are stored
module _ (p : After-fill-f) where
  abbrev text : Bytes
  text = p.args.text.now

  abbrev settings : Settings
  settings = p.args.settings

  abbrev records : List ℕ
  records = p.loop-b.records

  abbrev reals : List Float
  reals = p.loop-b.reals

  abbrev index : List ℕ
  index = p.loop-b.index

  abbrev from : Between
  from = p.loop-b.b

  abbrev head : Head
  head = p.in-Some.h

  abbrev filled : Filled
  filled = p.fill-f.result

  abbrev stored : List Float
  stored = p.fill-f.new.reals

  begins : Begins text records index settings (idle_at from) from.line head
  begins = p.in-Some.ensures

  fills : Fills text reals settings head.draft (unfilled head from.used) filled stored
  fills = p.fill-f.ensures

  further : from.at < filled.at
  further = whole_further text records reals index settings from head begins filled stored fills

  within : from.at ≤ length text
  within = whole_within text records reals index settings from head begins filled stored fills

pub shape_of-records-then-f-gt0 : goal.shape_of-records-then-f-gt0
shape_of-records-then-f-gt0 c = c.loop-b.invariant.3

pub shape_of-reals-then-f-gt0 : goal.shape_of-reals-then-f-gt0
shape_of-reals-then-f-gt0 c = c.fill-f.auto.reals ∙ c.loop-b.invariant.4

pub shape_of-index-then-f-gt0 : goal.shape_of-index-then-f-gt0
shape_of-index-then-f-gt0 c = c.loop-b.invariant.5

pub returns-then-f-gt0 : goal.returns-then-f-gt0
returns-then-f-gt0 c =
    let a = c.args in
    let p : After-fill-f = (goal.at.returns-then-f-gt0 c).After-fill-f in
    record {
      inv = λ I. subst (Inv (text p) (records p) (stored p) (index p) (settings p)) (sym c.at_real.ensures)
          (stops_inside (text p) (records p) (reals p) (index p) (settings p) (from p) (head p) (begins p) (filled p) (stored p) (fills p)
          (c.loop-b.invariant.0 (stands a.text.now a.records.now a.reals.now a.index.now a.settings a.s I (sym c.is_idle.ensures ∙ c.if-not-is_idle.false) _ (c.narrow.ensures ∙ ap clipped c.line_of.ensures))).inv c.if-f-gt0.true);
      at_le_at = omega (arith, ap (λ (z : State). z.at) c.at_real.ensures, further p, c.loop-b.invariant.2);
    }

pub loop-b-smaller : goal.loop-b-smaller
loop-b-smaller c = omega (arith, further (goal.at.loop-b-smaller c).After-fill-f, within (goal.at.loop-b-smaller c).After-fill-f)

pub loop-b-preserved : goal.loop-b-preserved
loop-b-preserved c =
    let p : After-fill-f = (goal.at.loop-b-preserved c).After-fill-f in
    let e = c.enter_row-more in (
      λ S. enters (text p) (records p) (reals p) (index p) (settings p) (from p) (head p) (begins p) (filled p) (stored p) (fills p) (c.loop-b.invariant.0 S) c.loop-b-test.true (omega (arith, c.if-f-gt0.false))
          _ _ _ _ _ c.narrow-in-loop-b.ensures e.ensures.value e.ensures.records_after e.ensures.index_after e.auto.records e.auto.index c.saturating_add.ensures,
      line_bound (text p) (records p) (reals p) (index p) (settings p) (from p) (head p) (begins p) (filled p) (stored p) (fills p) c.loop-b.invariant.1,
      omega (arith, further p, c.loop-b.invariant.2),
      e.auto.records ∙ c.loop-b.invariant.3,
      c.fill-f.auto.reals ∙ c.loop-b.invariant.4,
      e.auto.index ∙ c.loop-b.invariant.5,
    )

pub shape_of-records : goal.shape_of-records
shape_of-records c = c.loop-b.invariant.3

pub shape_of-reals : goal.shape_of-reals
shape_of-reals c = c.loop-b.invariant.4

pub shape_of-index : goal.shape_of-index
shape_of-index c = c.loop-b.invariant.5

pub returns : goal.returns
returns c =
    let a = c.args in
    record {
      inv = λ I. subst (Inv a.text.now c.loop-b.records c.loop-b.reals c.loop-b.index a.settings) (sym c.between-2.ensures)
          (c.loop-b.invariant.0 (stands a.text.now a.records.now a.reals.now a.index.now a.settings a.s I (sym c.is_idle.ensures ∙ c.if-not-is_idle.false) _ (c.narrow.ensures ∙ ap clipped c.line_of.ensures))).inv;
      at_le_at = omega (arith, ap (λ (z : State). z.at) c.between-2.ensures, c.loop-b.invariant.2);
    }
