-- The order of names is that of std on slices of bytes.
use Rattle.std.proofs.Common.{◌≡◌, ℕ, Bool, true, false, List, ◌∷◌, refl, arith}
use Rattle.std.specs.Ordering.{nat_cmp, is_lt, MatchOrdering, is_some_and}
use Rattle.std.specs.declared.cmp.Ordering.{Ordering}
use Rattle.std.specs.Cmp.Lexicographic.{slice_partial_cmp}
use Rattle.std.specs.Prelude.{Some}
use Rattle.std.proofs.lemmas.Bool.Decides.{nat_tests}
use Rattle.std.proofs.lemmas.Cmp.{same_from_slice_cmp_tested}
use Rattle.keys.specs.Key.{lower}

lower_step : (x y : ℕ) (xs ys : List ℕ) (o : Ordering) → o ≡ nat_cmp x y → MatchOrdering o (lower (x ∷ xs) (y ∷ ys) ≡ true) (lower (x ∷ xs) (y ∷ ys) ≡ lower xs ys) (lower (x ∷ xs) (y ∷ ys) ≡ false)
unfolding lower
lower_step x y xs ys o h = grind (arith, nat_tests)

-- std's order of slices is the order of names
pub lower_is : (xs ys : List ℕ) (r : Bool) → r ≡ is_some_and is_lt (slice_partial_cmp (λ x y. Some (nat_cmp x y)) xs ys) → r ≡ lower xs ys
unfolding lower
lower_is = same_from_slice_cmp_tested nat_cmp is_lt lower refl (λ _ _. refl) (λ _ _. refl) lower_step
