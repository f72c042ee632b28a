-- Laws of the questions to a table: one for each answer.
use mathlib.Core.List.{List}
use mathlib.Core.Path.{◌≡◌, refl, ap, ◌∙◌}
use Prim.Native.Nat.{ℕ, zero, suc, ◌+◌, ◌*◌, ◌-◌, ◌<◌, min}
use native.Mathlib.Omega.{arith}
use borrow.Author.Tests.{lt-ltb}
use lib.Ieee.{Float}
use lib.ListN.{length, take, drop, get_or}
use Rattle.laws.proofs.ListLaws.{cut_part}
use Rattle.scene.specs.Record.{field_in, record_in, width}
use Rattle.scene.specs.Told.{reals_of}

-- ---- the numbers of a record

module _ (table : List ℕ) (k : ℕ) where
  module _ (l : k < width) where
    pub field_at : (n : ℕ) → (n ≡ 0 → ⊥) → get_or table ((n - 1) * width + k) 0 ≡ field_in table n k
    unfolding field_in
    field_at zero h = absurd (h refl)
    field_at (suc n) h = rw (lt-ltb k width l) (ap (λ (m : ℕ). get_or table (m * width + k) 0) (let e : suc n - 1 ≡ n = omega arith in e))

module _ (table : List ℕ) (n : ℕ) where
  pub type_field : field_in table n 0 ≡ (record_in table n).type
  unfolding field_in record_in
  type_field = refl

  pub modifier_field : field_in table n 1 ≡ (record_in table n).modifier
  unfolding field_in record_in
  modifier_field = refl

  pub target_field : field_in table n 2 ≡ (record_in table n).target
  unfolding field_in record_in
  target_field = refl

  pub name_field : field_in table n 3 ≡ (record_in table n).name
  unfolding field_in record_in
  name_field = refl

  pub length_field : field_in table n 4 ≡ (record_in table n).name_length
  unfolding field_in record_in
  length_field = refl

  pub strings_field : field_in table n 6 ≡ (record_in table n).strings
  unfolding field_in record_in
  strings_field = refl

  pub reals_field : field_in table n 8 ≡ (record_in table n).reals
  unfolding field_in record_in
  reals_field = refl

-- ---- the reals of a record

-- reals whose start and count are cut to what the table has
pub cut_reals : (reals : List Float) (records : List ℕ) (n first many start size : ℕ) → first ≡ (record_in records n).real → many ≡ (record_in records n).reals → start ≡ min first (length reals) → size ≡ min many (length reals - start) → take (start + size - start) (drop start reals) ≡ reals_of reals (record_in records n)
cut_reals reals records n first many start size f m s e = cut_part reals first many start size s e ∙ (λ i. take (m i) (drop (f i) reals))
