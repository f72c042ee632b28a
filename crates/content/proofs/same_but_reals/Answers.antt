-- `content::same_but_reals` meets its contract.
use mathlib.Core.Bool.{◌&&◌}
use mathlib.Core.Path.{◌≡◌, refl, ◌∙◌}
use Rattle.content.proofs.AndLaws.{both_by_first, both_by_second}
use Rattle.content.proofs.ContentLaws.{all_tests}
use Rattle.content.specs.Scene.{bare_rows}
use Rattle.keys.specs.Key.{key_of, same_key}
use Rattle.scene.specs.Record.{field_in, record_in}
use Rattle.content.proofs.same_but_reals.Goals as goal
use Rattle.content.proofs.same_but_reals.Goals.{Joined-same_but_links, then-same_but_links, else-same_but_links}

target_lem : (c : Joined-same_but_links) → c.if-same_but_links.value ≡ (c.same_but_links.result && same_key (key_of (bare_rows c.args.a) (field_in c.args.a.records.now c.args.m 2)) (key_of (bare_rows c.args.b) (field_in c.args.b.records.now c.args.n 2)))
target_lem c =
    elim c.if-same_but_links.branch [
      | then-same_but_links w ↦ both_by_second _ _ _ refl w.if-same_but_links.true (w.value-is ∙ w.same_link.ensures)
      | else-same_but_links w ↦ both_by_first _ _ _ refl w.if-same_but_links.false (w.value-is ∙ w.if-same_but_links.false)
    ]

pub returns-then-same_link : goal.returns-then-same_link
unfolding record_in
returns-then-same_link c =
    let a = c.args in
    all_tests a.a.text.now a.a.records.now a.m a.b.text.now a.b.records.now a.n _ _ _ c.same_but_links.ensures (target_lem (goal.at.returns-then-same_link c).Joined-same_but_links) (both_by_second _ _ _ refl c.if-same_link.true c.same_link-then-same_link.ensures)

pub returns-else-same_link : goal.returns-else-same_link
unfolding record_in
returns-else-same_link c =
    let a = c.args in
    all_tests a.a.text.now a.a.records.now a.m a.b.text.now a.b.records.now a.n _ _ _ c.same_but_links.ensures (target_lem (goal.at.returns-else-same_link c).Joined-same_but_links) (both_by_first _ _ _ refl c.if-same_link.false c.if-same_link.false)
