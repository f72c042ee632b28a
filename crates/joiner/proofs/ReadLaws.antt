-- A text that is read, and what comes of it.
use mathlib.Core.Bool.{Bool, true, false, cond}
use mathlib.Core.List.{List}
use mathlib.Core.Path.{◌≡◌, refl, ap, sym, ◌∙◌}
use Prim.Native.Nat.{ℕ}
use lib.Ieee.{Float}
use lib.ListN.{length}
use Rattle.join_answer.proofs.AnswerLaws.{joins_as, joins_of}
use Rattle.join_answer.specs.Answer.{Joins}
use Rattle.join_answer.specs.Settled.{Settles}
use Rattle.join_answer.specs.Answer.{Answer}
use Rattle.joining.specs.Outcome.{fitted, read_as, refused}
use Rattle.joining.specs.declared.Scene.TheVariants as scene
use Rattle.laws.specs.Bytes.{Bytes}
use Rattle.reader.proofs.ReadsLaws.{accepted_as, refused_as}
use Rattle.reader.specs.Answer.{Reads, read_into}
use Rattle.reader.specs.Answer as reader
use Rattle.scene.specs.Reading.{Entry, accepted, statements}
use Rattle.scene.specs.Record.{real_image, record_image}
use Rattle.scene.specs.Statement.{Statement}
use Rattle.scene.specs.declared.Mode.{Mode}
use Rattle.sides.proofs.FitLaws.{numbers_kept, reals_kept}

-- ---- a text read

module _ (mode : Mode) (text : Bytes) (records : List ℕ) (reals : List Float) (out : Bytes) {table : List ℕ} {bits : List Float} where
  -- the tables are as long as they were
  pub reads_kept : {r : reader.Answer} → Reads mode text records reals r table bits → (length table ≡ length records) × (length bits ≡ length reals)
  reads_kept h = (ap length h.table ∙ numbers_kept mode (length records) (length reals) text, ap length h.doubles ∙ reals_kept mode (length records) (length reals) text)

  module _ (good : List Statement → Bool) {r : Answer} {records' : List ℕ} {reals' : List Float} {out' : Bytes} where
    -- it is refused
    pub read_refused : (n p : ℕ) → Reads mode text records reals (reader.Refused n p) table bits → Joins (refused scene.Joined n p) table bits out r records' reals' out' → Joins (read_as good (length out) text (read_into mode text records reals)) records reals out r records' reals' out'
    read_refused n p h j =
        let k = reads_kept h in
        joins_as (joins_of j records reals out k.0 k.1 refl) (sym (ap (read_as good (length out) text) (refused_as (read_into mode text records reals) n p h.says)))

    module _ (m d : ℕ) (h : Reads mode text records reals (reader.Accepted m d) table bits) where
      -- it is accepted and good
      pub read_settled : ((es : List Entry) → read_into mode text records reals ≡ accepted es → good (statements es) ≡ true) → Settles text table bits out m d r records' reals' out' → Joins (read_as good (length out) text (read_into mode text records reals)) records reals out r records' reals' out'
      read_settled g t =
          let a = accepted_as (read_into mode text records reals) m d h.says in
          let k = reads_kept h in
          let es = a.entries in
          let j = t.joins es (h.table ∙ (λ i. record_image text (sym k.0 i) (a.reads i))) (h.doubles ∙ (λ i. real_image (sym k.1 i) (a.reads i))) a.primitives a.doubles in
          joins_as (joins_of j records reals out k.0 k.1 refl) (sym (ap (read_as good (length out) text) a.reads ∙ ap (λ (b : Bool). cond b (fitted (length out) text es) (refused scene.None 32 0)) (g es a.reads)))

      -- or not
      pub read_failed : ((es : List Entry) → read_into mode text records reals ≡ accepted es → good (statements es) ≡ false) → Joins (refused scene.None 32 0) table bits out r records' reals' out' → Joins (read_as good (length out) text (read_into mode text records reals)) records reals out r records' reals' out'
      read_failed g j =
          let a = accepted_as (read_into mode text records reals) m d h.says in
          let k = reads_kept h in
          let es = a.entries in
          joins_as (joins_of j records reals out k.0 k.1 refl) (sym (ap (read_as good (length out) text) a.reads ∙ ap (λ (b : Bool). cond b (fitted (length out) text es) (refused scene.None 32 0)) (g es a.reads)))
