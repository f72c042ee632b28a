-- `ordered::same_content` meets its contract.
use mathlib.Core.Bool.{◌&&◌}
use mathlib.Core.Path.{◌≡◌, refl, ◌∙◌}
use Rattle.content.proofs.AndLaws.{both_by_first, both_by_second}
use Rattle.bits.specs.Bits.{same_reals}
use Rattle.content.specs.Content.{same_but_links}
use Rattle.keys.specs.Key.{same_key}
use Rattle.scene.specs.Record.{field_in, record_in}
use Rattle.scene.specs.Told.{reals_of}
use Rattle.ordered.proofs.TurnLaws.{all_tests}
use Rattle.ordered.specs.Lent.{lent}
use Rattle.ordered.specs.Lines.{key_by, Scene}
use Rattle.ordered.proofs.same_content.Goals as goal
use Rattle.ordered.proofs.same_content.Goals.{Joined-same_but_links, then-same_reals, else-same_reals, then-same_but_links, else-same_but_links}

abbrev left-scene : Joined-same_but_links → Scene
left-scene c = let a = c.args in lent a.left

abbrev right-scene : Joined-same_but_links → Scene
right-scene c = let a = c.args in lent a.right

rest_lem : (c : Joined-same_but_links) → c.if-same_reals.value ≡ (same_reals (reals_of c.args.left.scene.reals.now (record_in c.args.left.scene.records.now c.args.m)) (reals_of c.args.right.scene.reals.now (record_in c.args.right.scene.records.now c.args.n)) && same_but_links c.args.left.scene.text.now (record_in c.args.left.scene.records.now c.args.m) c.args.right.scene.text.now (record_in c.args.right.scene.records.now c.args.n))
rest_lem c =
    elim c.if-same_reals.branch [
      | then-same_reals w ↦ both_by_second _ _ _ c.same_reals.ensures w.if-same_reals.true (w.value-is ∙ w.same_but_links.ensures)
      | else-same_reals w ↦ both_by_first _ _ _ c.same_reals.ensures w.if-same_reals.false (w.value-is ∙ w.if-same_reals.false)
    ]

target_lem : (c : Joined-same_but_links) → c.if-same_but_links.value ≡ (c.if-same_reals.value && same_key (key_by (left-scene c) (field_in c.args.left.scene.records.now c.args.m 2)) (key_by (right-scene c) (field_in c.args.right.scene.records.now c.args.n 2)))
target_lem c =
    elim c.if-same_but_links.branch [
      | then-same_but_links w ↦ both_by_second _ _ _ refl w.if-same_but_links.true (w.value-is ∙ w.same_link.ensures)
      | else-same_but_links w ↦ both_by_first _ _ _ refl w.if-same_but_links.false (w.value-is ∙ w.if-same_but_links.false)
    ]

pub returns-then-same_link : goal.returns-then-same_link
unfolding record_in
returns-then-same_link c =
    let j = (goal.at.returns-then-same_link c).Joined-same_but_links in
    all_tests (left-scene j) (right-scene j) c.args.m c.args.n _ _ _ (rest_lem j) (target_lem j) (both_by_second _ _ _ refl c.if-same_link.true c.same_link-then-same_link.ensures)

pub returns-else-same_link : goal.returns-else-same_link
unfolding record_in
returns-else-same_link c =
    let j = (goal.at.returns-else-same_link c).Joined-same_but_links in
    all_tests (left-scene j) (right-scene j) c.args.m c.args.n _ _ _ (rest_lem j) (target_lem j) (both_by_first _ _ _ refl c.if-same_link.false c.if-same_link.false)
