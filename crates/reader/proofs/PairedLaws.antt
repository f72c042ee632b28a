-- Reading with a pair table, from its contract.
use mathlib.Core.Bool.{Bool, true, false, cond}
use mathlib.Core.List.{List}
use mathlib.Core.Path.{◌≡◌, refl, ap, sym, subst, ◌∙◌}
use Prim.Native.Nat.{ℕ, ◌*◌, ◌/◌, min}
use native.Mathlib.Omega.{arith}
use borrow.Author.Tests.{le-leb}
use lib.Ieee.{Float}
use lib.ListN.{length}
use Rattle.laws.specs.Bytes.{Bytes}
use Rattle.mixed_driver.specs.Paired.{enough_pairs, read_paired, short_reason}
use Rattle.reader.proofs.ReadsLaws.{accepted_as}
use Rattle.reader.specs.Answer.{answered, read_into}
use Rattle.reader.specs.Paired.{AcceptedEnough, PairedReads, read_with_pairs}
use Rattle.scene.specs.Reading.{Entry, Reading, accepted, refused}
use Rattle.scene.specs.Record.{answer, real_image, record_image, width}
use Rattle.scene.specs.declared.Mode.{Mode}

abbrev Refuses : Reading → Type 0
Refuses (refused n p) = Unit
Refuses (accepted es) = ⊥

module _ (mode : Mode) (text : Bytes) (lent : List ℕ) (doubles : List Float) (pairs : List ℕ) where
  paired_as : {b : Bool} → enough_pairs (length lent) (length pairs) ≡ b → read_with_pairs mode text lent doubles pairs ≡ cond b (read_into mode text lent doubles) (refused (short_reason 27 (length text)) 0)
  unfolding read_paired
  paired_as e = ap (λ (z : Bool). cond z (read_into mode text lent doubles) (refused (short_reason 27 (length text)) 0)) e

  pub enough : enough_pairs (length lent) (length pairs) ≡ true → read_with_pairs mode text lent doubles pairs ≡ read_into mode text lent doubles
  enough = paired_as

  -- only a table that is long enough is accepted with
  pub enough_there : (es : List Entry) → read_with_pairs mode text lent doubles pairs ≡ accepted es → enough_pairs (length lent) (length pairs) ≡ true
  enough_there es e = go (enough_pairs (length lent) (length pairs)) refl
    where
      go : (b : Bool) → enough_pairs (length lent) (length pairs) ≡ b → b ≡ true
      go true q = refl
      go false q = absurd (subst Refuses (sym (paired_as q) ∙ e) tt)

pub paired_reads : PairedReads
paired_reads mode text lent doubles pairs h r table reals pairs' R =
    let e = enough mode text lent doubles pairs h in
    record {
      says = R.says ∙ ap answered e;
      numbers = R.numbers ∙ ap answer e;
      table = R.table ∙ ap (record_image text (length lent)) e;
      doubles = R.doubles ∙ ap (real_image (length doubles)) e;
    }

pub accepted_enough : AcceptedEnough
accepted_enough mode text lent doubles pairs n k table reals pairs' R =
    let a = accepted_as (read_with_pairs mode text lent doubles pairs) n k R.says in
    enough_there mode text lent doubles pairs a.entries a.reads

-- two numbers for each of the most records
pub most_pairs : (n : ℕ) → enough_pairs n 2048 ≡ true
most_pairs n = le-leb (min 1024 (n / width) * 2) 2048 (omega arith)
