-- The lines that a comparison of two saves prints.
use Rattle.std.specs.Prelude.{◌++◌, ℕ}
use Rattle.comparison.specs.declared.State.{State}
use Rattle.comparison.specs.declared.State.TheVariants as is
use Rattle.fields.specs.Fields.{field, last_field, text_field}
use Rattle.laws.specs.Bytes.{Bytes, bytes}
use Rattle.pair.specs.declared.Side.{Side}
use Rattle.pair.specs.declared.Side.TheVariants as on

-- a key's state, and the line's end
abbrev pub state_field : State → Bytes
state_field is.OnlyLeft = bytes " state=left\n"
state_field is.OnlyRight = bytes " state=right\n"
state_field is.Changed = bytes " state=changed\n"

-- which scene
abbrev pub scene_field : Side → Bytes
scene_field on.Left = bytes "scene=left"
scene_field on.Right = bytes "scene=right"

-- a key: its name, which definition of that name it is, from 1, and its state
unfoldable pub key_line : (name : Bytes) → (nth : ℕ) → State → Bytes
key_line name nth s = text_field "name=" name ++ field " nth=" nth ++ state_field s

-- a scene that is refused, with reason and place
unfoldable pub refusal_line : Side → (reason place : ℕ) → Bytes
refusal_line side reason place = scene_field side ++ field " refused=" reason ++ last_field " place=" place

-- a scene that cannot be read
unfoldable pub unreadable_line : Side → Bytes
unreadable_line side = scene_field side ++ bytes " unreadable\n"
