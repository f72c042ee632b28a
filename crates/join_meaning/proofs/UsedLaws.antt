-- The used records of an accepted text are the first of the table that its reading leaves.
use mathlib.Core.List.{List, [], ◌++◌, append-nil}
use mathlib.Core.Path.{◌≡◌, ap, sym, ◌∙◌}
use Prim.Native.Nat.{ℕ, ◌-◌, ◌*◌, ◌/◌, min}
use native.Mathlib.Omega.{arith}
use lib.ListN.{length, replicate, take}
use lib.Seq.{take_at}
use Rattle.join_meaning.specs.Rows.{used_rows}
use Rattle.laws.specs.Bytes.{Bytes}
use Rattle.scene.proofs.FlatLaws.{flat_length}
use Rattle.scene.proofs.ImageLaws.{filled_length}
use Rattle.scene.proofs.TellsLaws.{records_length}
use Rattle.scene.specs.Reading.{Entry, accepted}
use Rattle.scene.specs.Record.{filled, flat, record_image, records, settings_for, width}
use Rattle.scene.specs.declared.Mode.{Mode}
use Rattle.sides.proofs.FitLaws.{numbers_fit}
use Rattle.sides.specs.Read.{read}

-- tables no longer than a reading can use give it the same room
pub same_room : (mode : Mode) (numbers reals n k : ℕ) → n ≡ min numbers (1024 * width) → k ≡ min reals 4096 → settings_for mode n k ≡ settings_for mode numbers reals
same_room mode numbers reals n k e f =
    let a : min 1024 (n / width) ≡ min 1024 (numbers / width) = omega arith in
    let b : min 4096 k ≡ min 4096 reals = omega arith in
    λ i. record { mode = mode; records = a i; reals = b i }

-- a table that is filled up, cut to its used numbers
used_front : (n m : ℕ) (xs : List ℕ) → length xs ≡ m → take m (filled 0 n xs) ≡ filled 0 m xs
used_front n m xs e =
    let none_left : m - length xs ≡ 0 = omega arith in
    take_at xs (replicate (n - length xs) 0) m e ∙ sym (ap (λ (j : ℕ). xs ++ replicate j 0) none_left ∙ append-nil xs)

module _ (mode : Mode) (n k : ℕ) (text : Bytes) (es : List Entry) (reads : read (settings_for mode n k) text ≡ accepted es) where
  used_length : length (flat text (records es)) ≡ length es * width
  unfolding records
  used_length = omega (arith, flat_length text (records es), records_length [] es)

  pub used_rows_lem : (T : List ℕ) → T ≡ record_image text n (accepted es) → (count : ℕ) → count ≡ length es → take (min count (length T / width) * width) T ≡ used_rows text es
  unfolding record_image
  used_rows_lem T e count f =
      let fit = numbers_fit mode n k text (accepted es) reads in
      let whole : length T ≡ n = ap length e ∙ sym (filled_length 0 n (flat text (records es)) fit) in
      let all : min count (length T / width) * width ≡ length es * width = omega (arith, fit, used_length) in
      (λ i. take (all i) (e i)) ∙ used_front n (length es * width) (flat text (records es)) used_length
