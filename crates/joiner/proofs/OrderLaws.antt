-- The calls, from what planning and the parts behind it give.
use mathlib.Core.Bool.{Bool, true, false}
use mathlib.Core.List.{List, ◌++◌}
use mathlib.Core.Path.{◌≡◌, ap, sym, ◌∙◌, subst}
use Prim.Native.Nat.{ℕ, ◌+◌, ◌<◌, min}
use native.Mathlib.Nat.{sub-zero}
use native.Mathlib.Omega.{arith}
use borrow.Author.Tests.{lt-leb, ltb-false, ltb-true}
use lib.Ieee.{Float}
use lib.ListN.{drop, length, take}
use lib.Seq.{take_all, take_at}
use Rattle.buffer.specs.Put.{put}
use Rattle.join_meaning.specs.Kept.{in_turn}
use Rattle.join_meaning.specs.Written.{Numbers}
use Rattle.joined_hands.specs.Hands.{HoldsHands, PutsHands}
use Rattle.join_answer.proofs.AnswerLaws.{full_is, joins_as}
use Rattle.joiner.proofs.ReadLaws.{read_failed, read_refused, read_settled, reads_kept}
use Rattle.join_answer.specs.Answer.{Joins}
use Rattle.join_answer.specs.Settled.{Settles}
use Rattle.joiner.specs.Code.{ChecksOrder, ProposesOrder, read_proposed}
use Rattle.join_answer.specs.Answer.{Answer}
use Rattle.joining.specs.Outcome.{check_plan, checked, planned, propose_plan, proposed, read_as, refused}
use Rattle.joining.specs.Pick.{holds}
use Rattle.joining.specs.declared.Scene.{Scene}
use Rattle.joining.specs.declared.Scene.TheVariants as scene
use Rattle.laws.proofs.ListLaws.{take_min}
use Rattle.laws.specs.Bytes.{Bytes}
use Rattle.lines.specs.Puts.{Puts}
use Rattle.lines.specs.declared.Cursor.{Cursor}
use Rattle.planning.specs.Plan.{Plans}
use Rattle.planning.specs.Plan as reply
use Rattle.reader.proofs.ReadsLaws.{accepted_as}
use Rattle.reader.specs.Answer.{Reads, read_into}
use Rattle.reader.specs.Answer as reader
use Rattle.scene.specs.Reading as reading
use Rattle.scene.specs.Reading.{Entry, accepted, read_statements, statements}
use Rattle.scene.specs.Record.{real_image, record_image, settings_for}
use Rattle.scene.specs.declared.Mode.{Mode}
use Rattle.scene.specs.declared.Settings.{Settings}
use Rattle.sides.specs.Read.{read}
use Rattle.tidying.specs.Tidy.{tidy}
use Rattle.writer.proofs.AnswerLaws.{end_is, front}

-- the settings of a call
abbrev pub lent_settings : Mode → (records : List ℕ) (reals : List Float) → Settings
lent_settings mode records reals = settings_for mode (length records) (length reals)

-- ---- the text of an order

-- a text that is longer than any that is read is refused as the reader refuses it
long_refused : (s : Settings) (text : Bytes) → 65536 < length text → read s text ≡ reading.refused 1 0
unfolding read read_statements
long_refused s text l = rw (lt-leb (length text) 65536 l)

-- a text that fits stands in front
fits_front : (old text : Bytes) {mid : Bytes} {e : Cursor} → Puts old front text e mid → e.full ≡ false → (k : ℕ) → k ≡ min e.at (length old) → take k mid ≡ text
unfolding put
fits_front old text {mid = mid} {e = e} p f k q =
    let l = ltb-false (length old) (length text) (sym (full_is p) ∙ f) in
    let z : k ≡ length text = omega (arith, q, end_is p f, l) in
    let whole : mid ≡ text ++ drop (0 + length text) old = p.text ∙ rw (sub-zero, take_all (length old) text l) in
    ap (take k) whole ∙ take_at text (drop (0 + length text) old) k (sym z)

module _ (mode : Mode) (left right : Bytes) (order records : List ℕ) (reals : List Float) (out : Bytes) {old mid : Bytes} {e : Cursor} (size : length old ≡ 65536) (p : PutsHands mode (length records) (length reals) left right order old e mid) {r : Answer} {records' : List ℕ} {reals' : List Float} {out' : Bytes} where
  pub order_long : e.full ≡ true → Joins (refused scene.Joined 1 0) records reals out r records' reals' out' → ProposesOrder mode left right order records reals out r records' reals' out'
  order_long f j = record {
    joins = λ ls rs a b n.
        let text = tidy (in_turn (statements ls ++ statements rs) order) in
        let q = ltb-true (length old) (length text) (sym (full_is (p.puts ls rs a b n)) ∙ f) in
        joins_as j (sym (ap (read_as (λ d. true) (length out) text) (long_refused (lent_settings mode records reals) text (omega (arith, q, size)))));
  }

  pub order_read : e.full ≡ false → (k : ℕ) → k ≡ min e.at 65536 → (text : Bytes) → text ≡ take k mid → Joins (read_proposed mode text records reals (length out)) records reals out r records' reals' out' → ProposesOrder mode left right order records reals out r records' reals' out'
  order_read f k q text t j = record {
    joins = λ ls rs a b n. joins_as j (ap (λ (x : Bytes). read_proposed mode x records reals (length out)) (t ∙ fits_front old (tidy (in_turn (statements ls ++ statements rs) order)) (p.puts ls rs a b n) f k (q ∙ ap (min e.at) (sym size))));
  }

-- ---- a typed text

module _ (mode : Mode) (left right typed : Bytes) (order records : List ℕ) (reals : List Float) (out : Bytes) {table : List ℕ} {bits : List Float} {r : Answer} {records' : List ℕ} {reals' : List Float} {out' : Bytes} where
  pub typed_refused : (n p : ℕ) → Reads mode typed records reals (reader.Refused n p) table bits → Joins (refused scene.Joined n p) table bits out r records' reals' out' → ChecksOrder mode left right typed order records reals out r records' reals' out'
  typed_refused n p h j = record { joins = λ ls rs a b m. read_refused mode typed records reals out (holds (in_turn (statements ls ++ statements rs) order)) n p h j }

module _ (mode : Mode) (left right typed : Bytes) (order records : List ℕ) (reals : List Float) (out : Bytes) (m d : ℕ) {table : List ℕ} {bits : List Float} (h : Reads mode typed records reals (reader.Accepted m d) table bits) (b : Bool) (k : HoldsHands mode left right typed table bits m order b) where
  -- what the test says, of the reading at the lent sizes
  tested : (ls rs : List Entry) → read (lent_settings mode records reals) left ≡ accepted ls → read (lent_settings mode records reals) right ≡ accepted rs → Numbers (length (statements ls ++ statements rs)) order → (es : List Entry) → read_into mode typed records reals ≡ accepted es → holds (in_turn (statements ls ++ statements rs) order) (statements es) ≡ b
  tested ls rs x y n es z =
      let l = reads_kept mode typed records reals out h in
      let q : lent_settings mode table bits ≡ lent_settings mode records reals = λ i. settings_for mode (l.0 i) (l.1 i) in
      let a = accepted_as (read_into mode typed records reals) m d h.says in
      let own : a.entries ≡ es = entries_same (sym a.reads ∙ z) in
      sym (k.says ls rs es (ap (λ (t : Settings). read t left) q ∙ x) (ap (λ (t : Settings). read t right) q ∙ y) (ap (λ (t : Settings). read t typed) q ∙ z)
      (h.table ∙ (λ i. record_image typed (sym l.0 i) (z i))) (h.doubles ∙ (λ i. real_image (sym l.1 i) (z i))) (a.primitives ∙ ap length own) n)
    where
      entries_same : {x y : List Entry} → accepted x ≡ accepted y → x ≡ y
      entries_same e = cc

  module _ {r : Answer} {records' : List ℕ} {reals' : List Float} {out' : Bytes} where
    pub typed_settled : b ≡ true → Settles typed table bits out m d r records' reals' out' → ChecksOrder mode left right typed order records reals out r records' reals' out'
    typed_settled e t = record { joins = λ ls rs x y n. read_settled mode typed records reals out (holds (in_turn (statements ls ++ statements rs) order)) m d h (λ es z. tested ls rs x y n es z ∙ e) t }

    pub typed_failed : b ≡ false → Joins (refused scene.None 32 0) table bits out r records' reals' out' → ChecksOrder mode left right typed order records reals out r records' reals' out'
    typed_failed e j = record { joins = λ ls rs x y n. read_failed mode typed records reals out (holds (in_turn (statements ls ++ statements rs) order)) m d h (λ es z. tested ls rs x y n es z ∙ e) j }

-- ---- the calls

module _ (mode : Mode) (base left right : Bytes) (records : List ℕ) (reals : List Float) (out : Bytes) (order : List ℕ) {r : Answer} {records' : List ℕ} {reals' : List Float} {out' : Bytes} where
  pub proposes_refused : (t : Scene) (n p : ℕ) → Plans (lent_settings mode records reals) base left right (reply.Refused t n p) order → Joins (refused t n p) records reals out r records' reals' out' → Joins (proposed (lent_settings mode records reals) base left right (length out)) records reals out r records' reals' out'
  proposes_refused t n p h j = joins_as j (sym (ap (propose_plan (lent_settings mode records reals) (length out)) h.means))

  pub checks_refused : (typed : Bytes) (t : Scene) (n p : ℕ) → Plans (lent_settings mode records reals) base left right (reply.Refused t n p) order → Joins (refused t n p) records reals out r records' reals' out' → Joins (checked (lent_settings mode records reals) base left right typed (length out)) records reals out r records' reals' out'
  checks_refused typed t n p h j = joins_as j (sym (ap (check_plan (lent_settings mode records reals) typed (length out)) h.means))

-- the numbers that have their places
module _ (mode : Mode) (base left right : Bytes) (records : List ℕ) (reals : List Float) (out : Bytes) (order : List ℕ) (k : ℕ) (h : Plans (lent_settings mode records reals) base left right (reply.Ordered k) order) (end : ℕ) (e : end ≡ min k 2048) (part : List ℕ) (q : part ≡ take end order) where
  all : part ≡ take k order
  all = q ∙ ap (λ (n : ℕ). take n order) (e ∙ ap (min k) (sym h.size)) ∙ take_min k order

  module _ {r : Answer} {records' : List ℕ} {reals' : List Float} {out' : Bytes} where
    pub proposes_order : ProposesOrder mode left right part records reals out r records' reals' out' → Joins (proposed (lent_settings mode records reals) base left right (length out)) records reals out r records' reals' out'
    proposes_order p =
        let m = h.means in
        let both = statements m.lefts ++ statements m.rights in
        joins_as (p.joins m.lefts m.rights m.reads_left m.reads_right (subst (Numbers (length both)) (sym all) m.numbers))
        (sym (ap (propose_plan (lent_settings mode records reals) (length out)) (m.means ∙ ap (λ (o : List ℕ). planned (in_turn both o)) (sym all))))

    pub checks_order : (typed : Bytes) → ChecksOrder mode left right typed part records reals out r records' reals' out' → Joins (checked (lent_settings mode records reals) base left right typed (length out)) records reals out r records' reals' out'
    checks_order typed p =
        let m = h.means in
        let both = statements m.lefts ++ statements m.rights in
        joins_as (p.joins m.lefts m.rights m.reads_left m.reads_right (subst (Numbers (length both)) (sym all) m.numbers))
        (sym (ap (check_plan (lent_settings mode records reals) typed (length out)) (m.means ∙ ap (λ (o : List ℕ). planned (in_turn both o)) (sym all))))
