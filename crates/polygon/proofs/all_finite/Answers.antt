-- `polygon::all_finite` meets its contract.
use Rattle.std.proofs.Common.{◌≡◌, ◌∙◌, Bool, List, [], ◌∷◌, refl, ap, rules, ◌&&◌}
use Rattle.std.proofs.lemmas.Iterator.{YieldsList-from_slice}
use Rattle.std.proofs.lemmas.Iterator.Search.{all_from_yields_List}
use Rattle.std.specs.Float.Ieee.Scale.{finite}
use Rattle.std.specs.List.{list_all}
use Rattle.laws.specs.Runs.{all}
use borrow.Author.Tests.{tests}
use Rattle.polygon.proofs.all_finite.Goals as goal

-- std's test of a whole list is that of `laws`
all_same : {A : Type 0} (test : A → Bool) (xs : List A) → list_all test xs ≡ all test xs
unfolding all
all_same test [] = refl
all_same test (x ∷ xs) = ap (λ b. test x && b) (all_same test xs)

pub returns : goal.returns
returns c =
    all_from_yields_List finite _ _ c.all.result c.all.ensures.ran (YieldsList-from_slice c.args.reals.now c.iter.ensures.rest) (λ x b q k. search (rules, tests))
    ∙ all_same finite c.args.reals.now
