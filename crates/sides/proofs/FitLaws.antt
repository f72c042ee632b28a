-- The tables that a reading leaves are as long as they were lent.
use mathlib.Core.Path.{◌≡◌, refl, sym}
use Prim.Native.Nat.{ℕ, ◌≤◌}
use native.Mathlib.Omega.{arith}
use lib.ListN.{length}
use Rattle.laws.specs.Bytes.{Bytes}
use Rattle.scene.proofs.ImageLaws.{filled_length, used_numbers, used_reals}
use Rattle.scene.specs.HouseRules.{zero_real}
use Rattle.scene.specs.Reading.{Reading, accepted, refused, statements}
use Rattle.scene.specs.Record.{entries, flat, real_image, real_table, record_image, records, records_from, reals, settings_for}
use Rattle.scene.specs.declared.Mode.{Mode}
use Rattle.sides.proofs.MixedLaws.{resolved}
use Rattle.sides.specs.Read.{read}

module _ (mode : Mode) (n k : ℕ) (text : Bytes) where
  -- the entries that it uses fit
  pub numbers_fit : (x : Reading) → read (settings_for mode n k) text ≡ x → length (flat text (records (entries x))) ≤ n
  unfolding flat records records_from
  numbers_fit (refused m p) e = omega arith
  numbers_fit (accepted es) e = used_numbers mode n k text (accepted es) (resolved (settings_for mode n k) text es e).reads

  pub reals_fit : (x : Reading) → read (settings_for mode n k) text ≡ x → length (real_table (entries x)) ≤ k
  unfolding reals statements
  reals_fit (refused m p) e = omega arith
  reals_fit (accepted es) e = used_reals mode n k text (accepted es) (resolved (settings_for mode n k) text es e).reads

  pub numbers_kept : length (record_image text n (read (settings_for mode n k) text)) ≡ n
  unfolding record_image
  numbers_kept = sym (filled_length 0 n (flat text (records (entries (read (settings_for mode n k) text)))) (numbers_fit _ refl))

  pub reals_kept : length (real_image k (read (settings_for mode n k) text)) ≡ k
  unfolding real_image
  reals_kept = sym (filled_length zero_real k (real_table (entries (read (settings_for mode n k) text))) (reals_fit _ refl))
