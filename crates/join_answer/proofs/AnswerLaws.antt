-- A refusal and an accepted text, from what the parts of each call give.
use mathlib.Core.Bool.{Bool, true, false, cond}
use mathlib.Core.List.{List, [], ◌++◌}
use mathlib.Core.Path.{◌≡◌, refl, ap, sym, ◌∙◌, subst}
use Prim.Native.Nat.{ℕ, ◌-◌}
use native.Mathlib.Nat.{sub-zero}
use borrow.Author.Tests.{le-leb, lt-leb, ltb-false, ltb-true}
use lib.Dec.{ltb}
use lib.Ieee.{Float}
use lib.ListN.{length, replicate, take}
use Rattle.std.specs.Prelude.{Result, Err}
use Rattle.join_answer.specs.Answer.{Answer, Joins, answer_of, reading_of, text_of}
use Rattle.join_answer.specs.Settled.{Settles}
use Rattle.join_answer.specs.Answer as call
use Rattle.join_answer.specs.declared.Joined.{Joined as Counts}
use Rattle.joining.specs.Outcome.{Outcome, joined, refused}
use Rattle.joining.specs.declared.Scene.{Scene}
use Rattle.joining.specs.declared.Scene.TheVariants as scene
use Rattle.joining.specs.declared.SceneRefusal.{SceneRefusal}
use Rattle.laws.specs.Bytes.{Bytes}
use Rattle.lines.proofs.PutsLaws.{puts_length}
use Rattle.lines.specs.Puts.{Puts}
use Rattle.lines.specs.declared.Cursor.{Cursor}
use Rattle.scene.proofs.ImageLaws.{zero_reals, zero_records}
use Rattle.scene.specs.HouseRules.{zero_real}
use Rattle.scene.specs.Reason.{reason_number}
use Rattle.scene.specs.Record.{filled, real_image, record_image}
use Rattle.writer.proofs.AnswerLaws.{end_is, front, rest_cleared}

-- ---- lent memory by its length alone

module _ {o : Outcome} {records : List ℕ} {reals : List Float} {out : Bytes} {r : Answer} {records' : List ℕ} {reals' : List Float} {out' : Bytes} (h : Joins o records reals out r records' reals' out') where
  pub joins_as : {p : Outcome} → o ≡ p → Joins p records reals out r records' reals' out'
  joins_as e = subst (λ (z : Outcome). Joins z records reals out r records' reals' out') e h

  -- as of memory of the same lengths
  pub joins_of : (old : List ℕ) (doubles : List Float) (bytes : Bytes) → length records ≡ length old → length reals ≡ length doubles → length out ≡ length bytes → Joins o old doubles bytes r records' reals' out'
  joins_of old doubles bytes a b c = record {
    says = h.says;
    table = h.table ∙ ap (λ (k : ℕ). record_image (text_of o) k (reading_of o)) a;
    doubles = h.doubles ∙ ap (λ (k : ℕ). real_image k (reading_of o)) b;
    output = h.output ∙ ap (λ (k : ℕ). filled 0 k (text_of o)) c;
  }

-- ---- a refusal

-- what `refuse` answers and leaves is the refusal of a whole call
module _ {records : List ℕ} {reals : List Float} {out : Bytes} {records' : List ℕ} {reals' : List Float} {out' : Bytes} where
  -- by any number and at any place
  pub refuses_any : (t : Scene) (n p : ℕ) {a : Answer} → a ≡ call.Refused t n p → records' ≡ replicate (length records) 0 → reals' ≡ replicate (length reals) zero_real → out' ≡ replicate (length out) 0 → Joins (refused t n p) records reals out a records' reals' out'
  refuses_any t n p e a b c = record {
    says = e;
    table = a ∙ zero_records [] (length records) n p;
    doubles = b ∙ zero_reals (length reals) n p;
    output = c ∙ ap (λ (k : ℕ). replicate k 0) (sym (sub-zero (length out)));
  }

  -- as the code refuses
  pub refuses : {r : Result Counts SceneRefusal} (w : SceneRefusal) → r ≡ Err w → records' ≡ replicate (length records) 0 → reals' ≡ replicate (length reals) zero_real → out' ≡ replicate (length out) 0 → Joins (refused w.scene (reason_number w.refusal.reason) w.refusal.place) records reals out (answer_of r) records' reals' out'
  refuses w e = refuses_any w.scene (reason_number w.refusal.reason) w.refusal.place (ap (λ (z : Result Counts SceneRefusal). answer_of z) e)

-- ---- an accepted text put into the output

pub full_is : {out text mid : Bytes} {e : Cursor} → Puts out front text e mid → e.full ≡ ltb (length out) (length text)
full_is {out = out} {text = text} p = ap (λ (c : Cursor). c.full) p.cursor ∙ ap (λ (k : ℕ). ltb k (length text)) (sub-zero (length out))

module _ (text : Bytes) (records : List ℕ) (reals : List Float) (out : Bytes) (count doubles : ℕ) {mid : Bytes} {e : Cursor} (p : Puts out front text e mid) where
  pub settled_short : e.full ≡ true → {r : Answer} {records' : List ℕ} {reals' : List Float} {out' : Bytes} → Joins (refused scene.None 23 0) records reals mid r records' reals' out' → Settles text records reals out count doubles r records' reals' out'
  settled_short f h =
      let o = joins_of h records reals out refl refl (puts_length p) in
      let short = lt-leb (length text) (length out) (ltb-true (length out) (length text) (sym (full_is p) ∙ f)) in
      record { joins = λ es a b c d. joins_as o (sym (ap (λ (b : Bool). cond b (joined text es) (refused scene.None 23 0)) short)) }

  pub settled_all : (f : e.full ≡ false) → {out' : Bytes} → out' ≡ take e.at mid ++ replicate (length mid - e.at) 0 → Settles text records reals out count doubles (call.Joined e.at count doubles) records reals out'
  settled_all f z =
      let fits = le-leb (length text) (length out) (ltb-false (length out) (length text) (sym (full_is p) ∙ f)) in
      record {
        joins = λ es a b c d. joins_as
            (record { says = λ i. call.Joined (end_is p f i) (c i) (d i); table = a; doubles = b; output = z ∙ rest_cleared p f })
            (sym (ap (λ (b : Bool). cond b (joined text es) (refused scene.None 23 0)) fits));
      }
