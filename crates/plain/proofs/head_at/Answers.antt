-- `plain::head_at` meets its contract: modifier, type, and what comes behind them.
use Rattle.std.proofs.Common.{refl, sym, ◌∙◌, arith}
use Rattle.std.proofs.lemmas.Option.{IfSome_then}
use Rattle.plain.specs.Plain.{idle_at}
use Rattle.word_scan.proofs.PassLaws.{line_most}
use Rattle.plain.proofs.HeadLaws.{begins_on, on_alias, on_kind}
use Rattle.plain.proofs.head_at.Goals as goal

pub overflow_add-c : goal.overflow_add-c
overflow_add-c c = omega (arith, c.requires, c.in_ok-m.ensures.line_on, c.in_ok-w.ensures.passes.lines_on, line_most c.args.text.now c.in_ok-w.w.next, c.well_formed.0)

pub alias-requires : goal.alias-requires
alias-requires c = omega (arith, c.requires, c.in_ok-m.ensures.line_on, c.in_ok-w.ensures.passes.lines_on)

pub returns-then-same : goal.returns-then-same
returns-then-same c =
    let a = c.args in
    IfSome_then _ c.alias.ensures (λ h B. begins_on a.text.now a.records.now a.index.now a.settings (idle_at a.b) _ a.b.line _ (on_alias a.text.now a.records.now a.index.now a.settings (idle_at a.b) a.b.line a.b.count a.b.used c.in_ok-m.m.looked c.in_ok-m.m.link c.in_ok-m.m c.in_ok-m.ensures c.in_ok-w.w c.in_ok-w.ensures c.part-bytes.ensures c.same.ensures c.if-same.true) refl refl h (B a.settings))

pub primitive-requires : goal.primitive-requires
primitive-requires c = omega (arith, c.requires, c.in_ok-m.ensures.line_on, c.in_ok-w.ensures.passes.lines_on)

pub returns : goal.returns
returns c =
    let a = c.args in
    IfSome_then _ c.primitive.ensures (λ h B. begins_on a.text.now a.records.now a.index.now a.settings (idle_at a.b) _ a.b.line _ (on_kind a.text.now a.records.now a.index.now a.settings (idle_at a.b) a.b.line a.b.count a.b.used c.in_ok-m.m.looked c.in_ok-m.m.link c.in_ok-m.m c.in_ok-m.ensures c.in_ok-w.w c.in_ok-w.ensures c.part-bytes.ensures c.same.ensures c.if-same.false _ c.type_number-kind.ensures c.if-kind-eq0.false (sym c.is_retired.ensures ∙ c.if-is_retired.false)) refl refl h (B a.records.now a.index.now))
