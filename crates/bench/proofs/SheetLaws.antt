-- The definitions give every row of the bench sheet.
use mathlib.Core.List.{map}
use mathlib.Core.Path.{◌≡◌, refl}
use lib.Ieee.{round, add, sub, mul, div, neg, lt, le, eq}
use Rattle.laws.specs.Bytes.{bytes, same}
use Rattle.laws.specs.Runs as runs
use Rattle.laws.specs.Runs.{all}
use Rattle.lexer.specs.Class.{is_blank, is_good}
use Rattle.lexer.specs.Word.{word_fault}
use Rattle.numeral.specs.Count.{count_of}
use Rattle.numeral.specs.Numeral.{numeral_of, value, well_formed, mantissa, exponent, coefficient, up, down, in_range, nearest, number_of}
use Rattle.numeral_parts.specs.Digits.{digits, is_digit, value_from}
use Rattle.numeral_parts.specs.Parts.{is_mantissa, is_exponent, before, behind, has, index_of, is_point, is_mark, is_sign, negative, unsigned}
use Rattle.scene.specs.HouseRules.{breach, breach_at, real_at, is_above0, is_at_least0, is0}
use Rattle.scene.specs.Links.{gives, hits, found, reals_used}
use Rattle.scene.specs.Reading.{read_statements, run, statements}
use Rattle.scene.specs.Types.{type_number, number_from, kind_of, strings_allowed, reals_allowed}
use Rattle.graph.specs.Answers.{lowest, lowest_loop}
use Rattle.sides.specs.Read.{first_unknown, read}
use Rattle.steps.specs.Step.{step}
use Rattle.steps.specs.Vectors.{dot, finite_vector, minus}
use Rattle.root.specs.Root.{root_of, root_units, whole_root}
use Rattle.hits.specs.Ahead.{ahead, default_least}
use Rattle.hits.specs.Shape.{first_ahead, hit_above}
use Rattle.hits.specs.Sphere.{from_centre, solved}
use Rattle.fresnel.specs.Fresnel as fresnel
use Rattle.fresnel.specs.Fresnel.{fresnel_of, cos2_squared, reflected}
use Rattle.bench.specs.Sheet.{Row, rows, answer}

pub sheet : map (λ (r : Row). answer r.question) rows ≡ map (λ (r : Row). r.expected) rows
unfolding read first_unknown lowest_loop lowest read_statements run statements gives hits found reals_used type_number number_from kind_of strings_allowed reals_allowed breach breach_at real_at is_above0 is_at_least0 is0 same all runs.run is_blank is_good word_fault count_of digits is_digit value_from numeral_of well_formed is_mantissa is_exponent mantissa exponent before behind has index_of is_point is_mark is_sign negative unsigned coefficient up down in_range nearest number_of step dot finite_vector minus root_of root_units whole_root hit_above from_centre solved first_ahead ahead default_least fresnel_of cos2_squared reflected fresnel.coefficient round add sub mul div neg lt le eq
sheet = refl

-- the default least distance is the double that a scene's `0.001` is
pub default_numeral : numeral_of (bytes "0.001") ≡ value default_least
unfolding all runs.run count_of digits is_digit value_from numeral_of well_formed is_mantissa is_exponent mantissa exponent before behind has index_of is_point is_mark is_sign negative unsigned coefficient up down in_range nearest number_of round default_least
default_numeral = refl
