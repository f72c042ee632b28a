-- A scene as it is lent, by the rows that its text and tables say.
use Rattle.std.specs.Prelude.{List, []}
use Rattle.content.specs.declared.Scene.{Scene}
use Rattle.keys.specs.Rows.{scene_rows}
use Rattle.scene.specs.Told.{Told}

abbrev pub rows : Scene → List Told
rows s = scene_rows s.text.now s.records.now s.reals.now

-- the same with no reals
abbrev pub bare_rows : Scene → List Told
bare_rows s = scene_rows s.text.now s.records.now []
