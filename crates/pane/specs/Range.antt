-- What is true of the factors: neither is below 0, for all inputs that are taken, so for the coefficients that `fresnel` gives.
use Rattle.std.specs.Prelude.{T, Float}
use Rattle.std.specs.Float.Ieee.{le}
use Rattle.pane.specs.Factors.{Outcome, factors, factors_of, refused}
use Rattle.steps.specs.Step.{+0}

abbrev pub NotBelow0 : Outcome → Type 0
NotBelow0 (factors t b) = T (le +0 t) × T (le +0 b)
NotBelow0 (refused n) = Unit

abbrev pub RangeLaw : Type 0
RangeLaw = (FTE FTM Ct : Float) → NotBelow0 (factors_of FTE FTM Ct)
