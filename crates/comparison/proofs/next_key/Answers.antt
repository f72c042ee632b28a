-- `comparison::next_key` meets its contract.
use mathlib.Core.Path.{ap, ◌∙◌}
use Prim.Native.Nat.{ℕ}
use Rattle.content.specs.Scene.{bare_rows}
use Rattle.content.specs.declared.Scene.{Scene}
use Rattle.keys.specs.Key.{Key, key_of}
use Rattle.comparison.proofs.StepLaws.{follows_held}
use Rattle.comparison.proofs.next_key.Goals as goal
use Rattle.comparison.proofs.next_key.Goals.{in-Left, in-Right}

-- the key of a number of a scene
abbrev key_at : Scene × ℕ → Key
key_at z = key_of (bare_rows z.0) z.1

pub returns : goal.returns
returns c =
    let a = c.args in
    elim c.match-from.branch [
      | in-Left w ↦ follows_held (bare_rows a.left) (bare_rows a.right) a.from _ _ _ _ w.in-Left.is (c.key_name-name.ensures ∙ ap (λ z. (key_at z).name) w.n-is) (c.key_nth-nth.ensures ∙ ap (λ z. (key_at z).nth) w.n-is) c.after_key.ensures
      | in-Right w ↦ follows_held (bare_rows a.left) (bare_rows a.right) a.from _ _ _ _ w.in-Right.is (c.key_name-name.ensures ∙ ap (λ z. (key_at z).name) w.n-is) (c.key_nth-nth.ensures ∙ ap (λ z. (key_at z).nth) w.n-is) c.after_key.ensures
    ]
