-- The call's answer and output, from what its parts give.
use mathlib.Core.Bool.{Bool, true, false, cond}
use mathlib.Core.List.{List, [], ◌++◌, append-nil}
use mathlib.Core.Path.{◌≡◌, refl, sym, ap, ◌∙◌, subst}
use Prim.Native.Nat.{ℕ, ◌+◌, ◌-◌, ◌≤◌, min}
use native.Mathlib.Nat.{sub-zero}
use native.Mathlib.Omega.{arith}
use borrow.Author.Tests.{ltb-true, ltb-false, le-leb, leb-true, lt-leb}
use lib.Dec.{leb, ltb}
use lib.Ieee.{Float}
use lib.ListN.{length, take, drop, replicate, length-append, length-replicate}
use lib.Seq.{take_all, take_at}
use Rattle.bits.specs.Bits.{same_reals}
use Rattle.buffer.specs.Put.{put}
use Rattle.fresh.specs.Fresh.{tables_match, fresh_of}
use Rattle.fresh.specs.Fresh as fresh
use Rattle.laws.proofs.BoolLaws.{and_left}
use Rattle.laws.proofs.BytesLaws.{same_eq}
use Rattle.laws.specs.Bytes.{Bytes}
use Rattle.lines.proofs.PutsLaws.{puts_length}
use Rattle.lines.specs.Puts.{Puts}
use Rattle.lines.specs.declared.Cursor.{Cursor}
use Rattle.reader.specs.Answer.{read_into}
use Rattle.record_text.proofs.RowLaws.{written}
use Rattle.record_text.specs.RecordText.{record_texts}
use Rattle.scene.specs.Reading as reading
use Rattle.scene.specs.Reading.{Entry, Reading, accepted, read_statements, statements}
use Rattle.scene.specs.Record.{filled, record_image, real_image, settings_for}
use Rattle.scene.specs.declared.Mode.{Mode}
use Rattle.scene.specs.declared.Settings.{Settings}
use Rattle.sides.proofs.MixedLaws.{resolved}
use Rattle.sides.specs.Read.{read}
use Rattle.tidying.specs.Tidy.{tidy}
use Rattle.writer.specs.Answer as answer
use Rattle.writer.specs.Answer.{Answer, Outcome, Refused, Written, refused, fitted, checked, tidied, answer_of, answered, bytes_of, output}
use Rattle.writer.specs.Left.{Leaves, length_put, used}
use Rattle.scene.specs.Reason.{reason_number}
use Rattle.scene.specs.declared.Refusal.{Refusal}
use Rattle.std.specs.Prelude.{Result, Ok, Err}

-- ---- the comparison of the tables

-- the entries of a text whose tables match, and what is made of them
pub record Matched (made : List Entry → Outcome) (r : Settings) (text : Bytes) (table : List ℕ) (doubles : List Float) (x : Reading) (n : ℕ) : Type 0 where
  pub entries : List Entry
  pub reads : read_statements r text ≡ accepted entries
  pub count : n ≡ length entries
  pub own : table ≡ record_image text (length table) (accepted entries)
  pub outcome : checked made text table doubles x ≡ made entries

module _ (made : List Entry → Outcome) (text : Bytes) (table : List ℕ) (doubles : List Float) where
  pub refused_as : (x : Reading) (n p : ℕ) → fresh.Refused n p ≡ fresh_of text table doubles x → checked made text table doubles x ≡ refused n p
  refused_as (reading.refused m q) n p e =
      let a : m ≡ n = cc in
      let b : q ≡ p = cc in
      λ i. refused (a i) (b i)
  refused_as (accepted es) n p e = go (tables_match text table doubles (accepted es)) e
    where
      go : (t : Bool) → fresh.Refused n p ≡ cond t (fresh.Same (length es)) (fresh.Refused 22 0) → cond t (made es) (refused 22 0) ≡ refused n p
      go true h = let z : ◌≡◌ {A = ℕ} 0 1 = cc in absurd (omega arith)
      go false h =
          let a : 22 ≡ n = cc in
          let b : 0 ≡ p = cc in
          λ i. refused (a i) (b i)

  pub same_as : (r : Settings) (x : Reading) (n : ℕ) → read r text ≡ x → fresh.Same n ≡ fresh_of text table doubles x → Matched made r text table doubles x n
  unfolding tables_match
  same_as r (reading.refused m q) n d e = let z : ◌≡◌ {A = ℕ} 0 1 = cc in absurd (omega arith)
  same_as r (accepted es) n d e = go (tables_match text table doubles (accepted es)) refl e
    where
      go : (t : Bool) → tables_match text table doubles (accepted es) ≡ t → fresh.Same n ≡ cond t (fresh.Same (length es)) (fresh.Refused 22 0) → Matched made r text table doubles (accepted es) n
      go false f h = let z : ◌≡◌ {A = ℕ} 0 1 = cc in absurd (omega arith)
      go true f h = record {
        entries = es;
        reads = (resolved r text es d).reads;
        count = cc;
        own = same_eq table (record_image text (length table) (accepted es)) (and_left _ (same_reals doubles (real_image (length doubles) (accepted es))) f);
        outcome = ap (λ (t : Bool). cond t (made es) (refused 22 0)) f;
      }

-- ---- what was put from the front of an output on

abbrev pub front : Cursor
front = record { at = 0; full = false }

module _ {out mid t : Bytes} {r : Cursor} (p : Puts out front t r mid) where
  full_is : r.full ≡ ltb (length out) (length t)
  full_is = ap (λ (c : Cursor). c.full) p.cursor ∙ ap (λ (k : ℕ). ltb k (length t)) (sub-zero (length out))

  pub too_long : r.full ≡ true → fitted (length out) t ≡ refused 23 0
  too_long f = let h = ltb-true (length out) (length t) (sym full_is ∙ f) in rw (lt-leb (length t) (length out) h)

  module _ (f : r.full ≡ false) where
    fits : length t ≤ length out
    fits = ltb-false (length out) (length t) (sym full_is ∙ f)

    pub fitting : fitted (length out) t ≡ answer.written t
    fitting = rw (le-leb (length t) (length out) fits)

    pub end_is : r.at ≡ length t
    end_is = let a : r.at ≡ 0 + min (length t) (length out - 0) = ap (λ (c : Cursor). c.at) p.cursor in omega (arith, fits)

    -- the text stands in front
    front_put : take (length t) mid ≡ t
    unfolding put
    front_put =
        let whole : mid ≡ t ++ drop (0 + length t) out = p.text ∙ rw (sub-zero, take_all (length out) t fits) in
        ap (take (length t)) whole ∙ take_at t (drop (0 + length t) out) (length t) refl

    -- the text, and zeros in place of what stands behind it
    pub rest_cleared : take r.at mid ++ replicate (length mid - r.at) 0 ≡ filled 0 (length out) t
    unfolding put
    rest_cleared =
        let behind : length mid - r.at ≡ length out - length t = omega (arith, end_is, puts_length p) in
        let whole : mid ≡ t ++ drop (0 + length t) out = p.text ∙ rw (sub-zero, take_all (length out) t fits) in
        let all : take r.at mid ≡ t = ap (take r.at) whole ∙ take_at t (drop (0 + length t) out) r.at (sym end_is) in
        λ i. all i ++ replicate (behind i) 0

-- ---- what is left

-- a refusal leaves the output as it is
pub leaves_refused : {o : Outcome} {n p : ℕ} → o ≡ refused n p → {out : Bytes} → Leaves o out (Refused n p) out
leaves_refused e {out = out} = record { says = ap answered (sym e); size = refl; text = ap (λ (x : Outcome). take (length (bytes_of x)) out) e ∙ ap bytes_of (sym e) }

-- a text put from the front on, as far as it fits
pub leaves_put : {out mid t : Bytes} {r : Cursor} → Puts out front t r mid → {a : Answer} → a ≡ length_put r → Leaves (fitted (length out) t) out a mid
leaves_put {out} {mid} {t} {r} p {a} q = go r.full refl
  where
    go : (b : Bool) → r.full ≡ b → Leaves (fitted (length out) t) out a mid
    go true f = subst (λ (o : Outcome). Leaves o out a mid) (sym (too_long p f)) (record { says = q ∙ ap (λ (b : Bool). cond b (Refused 23 0) (Written r.at)) f; size = puts_length p; text = refl })
    go false f = subst (λ (o : Outcome). Leaves o out a mid) (sym (fitting p f)) (record { says = q ∙ ap (λ (b : Bool). cond b (Refused 23 0) (Written r.at)) f ∙ ap Written (end_is p f); size = puts_length p; text = front_put p f })

-- so does a text with zeros behind it
pub leaves_filled : {out out' : Bytes} (t : Bytes) {a : Answer} → a ≡ answered (fitted (length out) t) → out' ≡ output (length out) (fitted (length out) t) → Leaves (fitted (length out) t) out a out'
leaves_filled {out} {out'} t {a} q z = go (leb (length t) (length out)) refl
  where
    go : (b : Bool) → leb (length t) (length out) ≡ b → Leaves (fitted (length out) t) out a out'
    go true f =
        let o : fitted (length out) t ≡ answer.written t = ap (λ (b : Bool). cond b (answer.written t) (refused 23 0)) f in
        let full : out' ≡ filled 0 (length out) t = z ∙ ap (output (length out)) o in
        let fits = leb-true (length t) (length out) f in
        subst (λ (x : Outcome). Leaves x out a out') (sym o) (record { says = q ∙ ap answered o; size = ap length full ∙ omega (arith, length-append t (replicate (length out - length t) 0), length-replicate {A = ℕ} (length out - length t) 0); text = ap (take (length t)) full ∙ take_at t (replicate (length out - length t) 0) (length t) refl })
    go false f =
        let o : fitted (length out) t ≡ refused 23 0 = ap (λ (b : Bool). cond b (answer.written t) (refused 23 0)) f in
        let zeros : out' ≡ filled 0 (length out) [] = z ∙ ap (output (length out)) o in
        subst (λ (x : Outcome). Leaves x out a out') (sym o) (record { says = q ∙ ap answered o; size = ap length zeros ∙ length-replicate {A = ℕ} (length out - 0) 0 ∙ sub-zero (length out); text = refl })

-- once the rest is zeroed
pub left_cleared : (o : Outcome) (out mid : Bytes) (w : Result ℕ Refusal) → Leaves o out (answer_of w) mid → {out' : Bytes} → out' ≡ take (used w) mid ++ replicate (length mid - used w) 0 → out' ≡ output (length out) o
left_cleared (refused n p) out mid (Ok k) h z = let s = h.says in cc
left_cleared (refused n p) out mid (Err r) h z = z ∙ ap (λ (k : ℕ). replicate (k - 0) 0) h.size
left_cleared (answer.written t) out mid (Err r) h z = let s = h.says in cc
left_cleared (answer.written t) out mid (Ok k) h z =
    let s = h.says in
    let e : k ≡ length t = cc in
    z ∙ (λ i. take (e i) mid ++ replicate (h.size i - e i) 0) ∙ ap (λ (x : Bytes). x ++ replicate (length out - length t) 0) h.text

-- ---- the call

module _ (mode : Mode) (text : Bytes) (table : List ℕ) (doubles : List Float) (out : Bytes) where
  pub tidy_refused : (f : Refusal) → fresh.Refused (reason_number f.reason) f.place ≡ fresh_of text table doubles (read_into mode text table doubles) → Leaves (tidied mode text table doubles (length out)) out (Refused (reason_number f.reason) f.place) out
  tidy_refused f e = leaves_refused (refused_as (λ es. fitted (length out) (tidy (statements es))) text table doubles (read_into mode text table doubles) (reason_number f.reason) f.place e)

  pub tidy_left : (n : ℕ) → fresh.Same n ≡ fresh_of text table doubles (read_into mode text table doubles) → {r : Cursor} {mid : Bytes} → Puts out front (record_texts text table n) r mid → {a : Answer} → a ≡ length_put r → Leaves (tidied mode text table doubles (length out)) out a mid
  tidy_left n e {mid = mid} p {a = a} q =
      let R = settings_for mode (length table) (length doubles) in
      let m = same_as (λ es. fitted (length out) (tidy (statements es))) text table doubles R (read_into mode text table doubles) n refl e in
      let o = m.outcome ∙ ap (fitted (length out)) (sym (written R text m.entries (length table) m.reads) ∙ (λ i. record_texts text (sym m.own i) (sym m.count i))) in
      subst (λ (x : Outcome). Leaves x out a mid) (sym o) (leaves_put p q)
