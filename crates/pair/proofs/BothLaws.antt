-- Two readings joined: where one is refused, the tables of both are zero.
use mathlib.Core.List.{List}
use mathlib.Core.Path.{◌≡◌, ap, sym, ◌∙◌}
use Prim.Native.Nat.{ℕ}
use lib.Ieee.{Float}
use lib.ListN.{length, replicate}
use Rattle.laws.specs.Bytes.{Bytes}
use Rattle.reader.proofs.ReadsLaws.{accepted_as, refused_as}
use Rattle.reader.specs.Answer.{Reads, read_into}
use Rattle.scene.proofs.ImageLaws.{zero_records, zero_reals}
use Rattle.scene.specs.HouseRules.{zero_real}
use Rattle.scene.specs.Reading.{Reading, accepted, refused}
use Rattle.scene.specs.Record.{real_image, record_image}
use Rattle.scene.specs.declared.Mode.{Mode}
use Rattle.pair.specs.Both.{Read, ReadsBoth, Refused, beside, both_answer}
use Rattle.pair.specs.declared.Side.TheVariants as on
use Rattle.reader.specs.Answer as reader

-- a reading beside a refused one leaves zeros
beside_records : (text : Bytes) (k n p : ℕ) (y : Reading) → replicate k 0 ≡ record_image text k (beside y (refused n p))
beside_records text k n p (refused m q) = zero_records text k m q
beside_records text k n p (accepted es) = zero_records text k n p

beside_reals : (k n p : ℕ) (y : Reading) → replicate k zero_real ≡ real_image k (beside y (refused n p))
beside_reals k n p (refused m q) = zero_reals k m q
beside_reals k n p (accepted es) = zero_reals k n p

module _ (mode : Mode) (left : Bytes) (lr : List ℕ) (lx : List Float) (right : Bytes) (rr : List ℕ) (rx : List Float) (lr' : List ℕ) (lx' : List Float) (rr' : List ℕ) (rx' : List Float) where
  abbrev x : Reading
  x = read_into mode left lr lx

  abbrev y : Reading
  y = read_into mode right rr rx

  -- the left scene is refused, and the right tables are cleared
  pub left_refused : (n p : ℕ) → Reads mode left lr lx (reader.Refused n p) lr' lx' → rr' ≡ replicate (length rr) 0 → rx' ≡ replicate (length rx) zero_real → ReadsBoth mode left lr lx right rr rx (Refused on.Left n p) lr' lx' rr' rx'
  left_refused n p h c d =
      let e = refused_as x n p h.says in
      record {
        says = ap (λ (z : Reading). both_answer z y) (sym e);
        left_table = h.table ∙ ap (record_image left (length lr)) e ∙ ap (λ (z : Reading). record_image left (length lr) (beside z y)) (sym e);
        left_doubles = h.doubles ∙ ap (real_image (length lx)) e ∙ ap (λ (z : Reading). real_image (length lx) (beside z y)) (sym e);
        right_table = c ∙ beside_records right (length rr) n p y ∙ ap (λ (z : Reading). record_image right (length rr) (beside y z)) (sym e);
        right_doubles = d ∙ beside_reals (length rx) n p y ∙ ap (λ (z : Reading). real_image (length rx) (beside y z)) (sym e);
      }

  -- the right one is, after the left one was read into tables cleared since
  pub right_refused : (m j n p : ℕ) (lr'' : List ℕ) (lx'' : List Float) → Reads mode left lr lx (reader.Accepted m j) lr'' lx'' → Reads mode right rr rx (reader.Refused n p) rr' rx' → lr' ≡ replicate (length lr) 0 → lx' ≡ replicate (length lx) zero_real → ReadsBoth mode left lr lx right rr rx (Refused on.Right n p) lr' lx' rr' rx'
  right_refused m j n p lr'' lx'' g h c d =
      let a = accepted_as x m j g.says in
      let e = refused_as y n p h.says in
      record {
        says = λ i. both_answer (sym a.reads i) (sym e i);
        left_table = c ∙ beside_records left (length lr) n p x ∙ ap (λ (z : Reading). record_image left (length lr) (beside x z)) (sym e);
        left_doubles = d ∙ beside_reals (length lx) n p x ∙ ap (λ (z : Reading). real_image (length lx) (beside x z)) (sym e);
        right_table = h.table ∙ ap (record_image right (length rr)) e ∙ (λ i. record_image right (length rr) (beside (sym e i) x));
        right_doubles = h.doubles ∙ ap (real_image (length rx)) e ∙ (λ i. real_image (length rx) (beside (sym e i) x));
      }

  pub both_read : (m j n k : ℕ) → Reads mode left lr lx (reader.Accepted m j) lr' lx' → Reads mode right rr rx (reader.Accepted n k) rr' rx' → ReadsBoth mode left lr lx right rr rx (Read m j n k) lr' lx' rr' rx'
  both_read m j n k g h =
      let a = accepted_as x m j g.says in
      let b = accepted_as y n k h.says in
      record {
        says = (λ i. Read (a.primitives i) (a.doubles i) (b.primitives i) (b.doubles i)) ∙ (λ i. both_answer (sym a.reads i) (sym b.reads i));
        left_table = g.table ∙ ap (record_image left (length lr)) a.reads ∙ (λ i. record_image left (length lr) (beside (sym a.reads i) (sym b.reads i)));
        left_doubles = g.doubles ∙ ap (real_image (length lx)) a.reads ∙ (λ i. real_image (length lx) (beside (sym a.reads i) (sym b.reads i)));
        right_table = h.table ∙ ap (record_image right (length rr)) b.reads ∙ (λ i. record_image right (length rr) (beside (sym b.reads i) (sym a.reads i)));
        right_doubles = h.doubles ∙ ap (real_image (length rx)) b.reads ∙ (λ i. real_image (length rx) (beside (sym b.reads i) (sym a.reads i)));
      }
