-- The text of two hands' records, put one behind the other.
use mathlib.Core.List.{List, [], ◌++◌}
use mathlib.Core.Path.{◌≡◌, ap, sym, ◌∙◌}
use Prim.Native.Nat.{ℕ, suc, ◌+◌, ◌-◌, ◌/◌, ◌≤◌, ◌<◌}
use native.Mathlib.Omega.{arith}
use lib.ListN.{drop, drop_of_length-le, get_or, length}
use lib.Seq.{drop-cons}
use Rattle.arranging.proofs.BothLaws.{either_left, either_right}
use Rattle.joined_text.specs.JoinedText.{number_text, order_text}
use Rattle.laws.specs.Bytes.{Bytes}
use Rattle.record_text.specs.RecordText.{record_text}
use Rattle.scene.specs.Record.{width}

module _ (left : Bytes) (L : List ℕ) (right : Bytes) (R : List ℕ) where
  pub text_right : (n : ℕ) → n ≤ length R / width → record_text right R n ≡ number_text left L right R n
  unfolding number_text
  text_right n l = sym (either_right (length R / width) (record_text right R) (record_text left L) n l)

  pub text_left : (n : ℕ) → length R / width < n → record_text left L (n - length R / width) ≡ number_text left L right R n
  unfolding number_text
  text_left n l = sym (either_left (length R / width) (record_text right R) (record_text left L) n l)

  pub one_number : (order : List ℕ) (i : ℕ) → i < length order → order_text left L right R (drop i order) ≡ number_text left L right R (get_or order i 0) ++ order_text left L right R (drop (i + 1) order)
  unfolding order_text
  one_number order i h = ap (order_text left L right R) (drop-cons order i 0 h) ∙ (let m : suc i ≡ i + 1 = omega arith in ap (λ (k : ℕ). number_text left L right R (get_or order i 0) ++ order_text left L right R (drop k order)) m)

  pub no_numbers : (order : List ℕ) (i : ℕ) → length order ≤ i → order_text left L right R (drop i order) ≡ []
  unfolding order_text
  no_numbers order i h = ap (order_text left L right R) (drop_of_length-le order {i = i} h)
