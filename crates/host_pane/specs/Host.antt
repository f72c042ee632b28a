-- What a host program is told of a pane of glass: a number for the kind of answer, and the answer's values in a small array.
use Rattle.std.specs.Prelude.{List, [], ◌∷◌, ℕ, Float}
use Rattle.pane.specs.Factors as pane
use Rattle.pane.specs.Factors.{factors}
use Rattle.pane.specs.Transmissivity as transmitted
use Rattle.pane.specs.Transmissivity.{transmissivity}
use Rattle.steps.specs.Step.{+0}

-- 0 for factors, or the refusal's number
abbrev pub factors_kind : pane.Outcome → ℕ
factors_kind (factors t b) = 0
factors_kind (pane.refused n) = n

abbrev pub factors_values : pane.Outcome → List Float
factors_values (factors t b) = t ∷ b ∷ []
factors_values (pane.refused n) = +0 ∷ +0 ∷ []

-- 0 for a transmissivity, or the refusal's number
abbrev pub transmitted_kind : transmitted.Outcome → ℕ
transmitted_kind (transmissivity t) = 0
transmitted_kind (transmitted.refused n) = n

abbrev pub transmitted_values : transmitted.Outcome → List Float
transmitted_values (transmissivity t) = t ∷ []
transmitted_values (transmitted.refused n) = +0 ∷ []
