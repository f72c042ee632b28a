-- The matches of an order, one by one.
use mathlib.Core.Bool.{Bool, true, false, not, ◌&&◌}
use mathlib.Core.List.{List, [], ◌∷◌}
use mathlib.Core.Path.{◌≡◌, refl, ap, sym, ◌∙◌}
use Prim.Native.Nat.{ℕ, ◌-◌, ◌/◌, ◌≤◌, ◌<◌}
use borrow.Author.Tests.{eq-eqb, ne_eqb, not-false, not-true}
use lib.Dec.{eqb}
use lib.ListN.{length}
use Rattle.std.specs.List.{list_all}
use Rattle.arranging.proofs.BothLaws.{either_left, either_right}
use Rattle.arranging.specs.Both.{either}
use Rattle.join_meaning.specs.Written.{all_equal}
use Rattle.typed_matches.specs.Held.{all_held}
use Rattle.laws.specs.Bytes.{Bytes}
use Rattle.name_index.specs.Names.{names_once_in}
use Rattle.picking.specs.Picking.{is_equal}
use Rattle.scene.specs.Record.{width}
use Rattle.table.specs.Number.{number_in}

-- ---- each number of an order

module _ (R L : List ℕ) (n : ℕ) where
  pub match_right : n ≤ length R → number_in R n ≡ either (length R) (number_in R) (number_in L) n
  match_right h = sym (either_right (length R) (number_in R) (number_in L) n h)

  pub match_left : length R < n → number_in L (n - length R) ≡ either (length R) (number_in R) (number_in L) n
  match_left h = sym (either_left (length R) (number_in R) (number_in L) n h)

-- each number tested
each : (R L order : List ℕ) → list_all (λ n. is_equal (either (length R) (number_in R) (number_in L) n)) order ≡ all_equal R L order
unfolding all_equal
each R L [] = refl
each R L (n ∷ order) = ap (λ (b : Bool). is_equal (either (length R) (number_in R) (number_in L) n) && b) (each R L order)

pub all_tested : (R L order : List ℕ) (r : Bool) → r ≡ list_all (λ n. is_equal (either (length R) (number_in R) (number_in L) n)) order → r ≡ all_equal R L order
all_tested R L order r e = e ∙ each R L order

-- ---- the whole test

module _ (R L order : List ℕ) (typed : Bytes) (T : List ℕ) (t : Bool) (e : t ≡ names_once_in typed T) where
  abbrev many : Bool
  many = eqb (length order) (length T / width)

  once_said : all_held R L order typed T ≡ (t && many && all_equal R L order)
  unfolding all_held
  once_said = ap (λ (b : Bool). b && many && all_equal R L order) (sym e)

  pub named_twice : not t ≡ true → false ≡ all_held R L order typed T
  named_twice u = sym (once_said ∙ ap (λ (b : Bool). b && many && all_equal R L order) (not-true t u))

  pub not_as_many : not t ≡ false → (length order ≡ length T / width → ⊥) → false ≡ all_held R L order typed T
  not_as_many u v = sym (once_said ∙ (λ i. not-false t u i && ne_eqb (length order) (length T / width) v i && all_equal R L order))

  pub all_alike : not t ≡ false → length order ≡ length T / width → (b : Bool) → b ≡ all_equal R L order → b ≡ all_held R L order typed T
  all_alike u v b f = f ∙ sym (once_said ∙ (λ i. not-false t u i && eq-eqb (length order) (length T / width) v i && all_equal R L order))
