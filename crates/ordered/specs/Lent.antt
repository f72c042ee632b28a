-- A scene with an order as the code has them, and as the definitions do.
use Rattle.ordered.specs.Lines.{Scene, scene}
use Rattle.ordered.specs.declared.OrderedScene.{OrderedScene}

abbrev pub lent : OrderedScene → Scene
lent s = scene s.scene.text.now s.scene.records.now s.scene.reals.now s.order.now
