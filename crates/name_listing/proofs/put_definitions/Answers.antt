-- `name_listing::put_definitions` meets its contract.
use mathlib.Core.List.{◌++◌}
use mathlib.Core.Path.{◌≡◌, ap, ◌∙◌}
use Prim.Native.Nat.{ℕ, ◌+◌, ◌-◌}
use native.Mathlib.Nat.{sub-zero}
use native.Mathlib.Omega.{arith}
use Rattle.lines.proofs.PutsLaws.{all_put, none_yet, puts_length, some_more}
use Rattle.name_listing.proofs.LineLaws.{no_definition, none_left, one_definition}
use Rattle.name_listing.specs.NameLine.{definition_text, definition_texts}
use Rattle.name_listing.proofs.put_definitions.Goals as goal

pub loop-done-init : goal.loop-done-init
loop-done-init c = let a = c.args in simp sub-zero (none_yet a.out.now a.c (definition_texts a.records.now a.count a.count a.first))

pub shape_of-out-then-d-eq0 : goal.shape_of-out-then-d-eq0
shape_of-out-then-d-eq0 c = puts_length c.loop-done.invariant.puts

pub returns-then-d-eq0 : goal.returns-then-d-eq0
returns-then-d-eq0 c = let l = c.loop-done in let a = c.args in all_put (no_definition a.records.now a.count (a.count - l._done) l.d c.if-d-eq0.true) l.invariant

pub loop-done-preserved : goal.loop-done-preserved
loop-done-preserved c =
    let l = c.loop-done in
    let a = c.args in
    let q : a.count - l._done - 1 ≡ a.count - (l._done + 1) = omega arith in
    some_more (definition_text a.records.now a.count l.d) _ (one_definition a.records.now a.count (a.count - l._done) l.d _ (omega arith) c.if-d-eq0.false c.field-d.ensures ∙ ap (λ (k : ℕ). definition_text a.records.now a.count l.d ++ definition_texts a.records.now a.count k c.field-d.result) q) l.invariant c.put_definition-end.ensures

pub shape_of-out : goal.shape_of-out
shape_of-out c = puts_length c.loop-done.invariant.puts

pub returns : goal.returns
returns c = let l = c.loop-done in let a = c.args in all_put (none_left a.records.now a.count (a.count - l._done) l.d (omega arith)) l.invariant
