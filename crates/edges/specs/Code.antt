-- The code's answers as the definitions have them.
use Rattle.std.specs.Prelude.{Bool, Option, Some, None}
use Rattle.std.proofs.Math.Option.{none, some}
use Rattle.edges.specs.Crossing.{Crossed}
use Rattle.edges.specs.Normal.{Axis, x, y, z}
use Rattle.edges.specs.declared.Dropped.{Dropped}
use Rattle.edges.specs.declared.Dropped.TheVariants as is

abbrev pub axis_of : Dropped → Axis
axis_of is.X = x
axis_of is.Y = y
axis_of is.Z = z

abbrev pub crossed_of : Option Bool → Crossed
crossed_of None = none
crossed_of (Some b) = some b
