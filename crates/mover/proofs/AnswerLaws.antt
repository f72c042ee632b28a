-- The call's answer and output, from what its parts give.
use mathlib.Core.Bool.{Bool, true, false, cond, not}
use mathlib.Core.List.{List}
use mathlib.Core.Path.{◌≡◌, refl, sym, ap, ◌∙◌, subst}
use Prim.Native.Nat.{ℕ, ◌-◌, ◌≤◌, min}
use native.Mathlib.Omega.{arith}
use borrow.Author.Tests.{eq-eqb, ltb-false, ne_eqb}
use lib.Dec.{leb, ltb}
use lib.Ieee.{Float}
use lib.ListN.{length, take}
use Rattle.buffer.proofs.PutLaws.{front, length_put}
use Rattle.buffer.specs.Put.{behind, put}
use Rattle.fresh.specs.Fresh.{fresh_of}
use Rattle.fresh.specs.Fresh as fresh
use Rattle.laws.proofs.NatLaws.{ltb_not}
use Rattle.laws.specs.Bytes.{Bytes, part}
use Rattle.lines.specs.Puts.{Puts}
use Rattle.lines.specs.declared.Cursor.{Cursor}
use Rattle.moved_text.proofs.RowLaws.{moved_rows_lem}
use Rattle.moved_text.specs.MovedText.{moved_rows}
use Rattle.moving.specs.Moved.{moved}
use Rattle.moving.specs.declared.Direction.{Direction}
use Rattle.reader.specs.Answer.{read_into}
use Rattle.scene.specs.Links.{reals_used}
use Rattle.scene.specs.Reading.{Entry, accepted, read_statements, statements}
use Rattle.scene.specs.Record.{record_image, settings_for}
use Rattle.scene.specs.Statement.{Statement}
use Rattle.scene.specs.declared.Mode.{Mode}
use Rattle.scene.specs.declared.Settings.{Settings}
use Rattle.tidying.specs.Tidy.{tidy}
use Rattle.writer.proofs.AnswerLaws.{leaves_refused, same_as}
use Rattle.writer.specs.Answer.{Answer, Outcome, Refused, Written, refused, written}
use Rattle.writer.specs.Left.{Leaves}
use Rattle.mover.proofs.RealsLaws.{reals_counted}
use Rattle.mover.proofs.RefusalLaws.{capped_fits, not_refused}
use Rattle.mover.specs.Answer.{moved_by, moved_outcome, moved_refusal, outcome_for}
use Rattle.mover.specs.Code.{LeavesMoved, reals_to}

-- ---- what was put from the front of a space on that holds as much as a reading takes

abbrev start : Cursor
start = record { at = 0; full = false }

module _ (space : Bytes) (size : length space ≡ 65536) {t made : Bytes} {r : Cursor} (p : Puts space start t r made) where
  long_is : r.full ≡ not (leb (length t) 65536)
  long_is =
      let room : length space - 0 ≡ 65536 = omega arith in
      ap (λ (c : Cursor). c.full) p.cursor ∙ ap (λ (k : ℕ). ltb k (length t)) room ∙ ltb_not 65536 (length t)

  module _ (f : r.full ≡ false) where
    fits : length t ≤ length space
    fits =
        let room : length space ≡ length space - 0 = omega arith in
        ltb-false (length space) (length t) (ap (λ (k : ℕ). ltb k (length t)) room ∙ sym (ap (λ (c : Cursor). c.full) p.cursor) ∙ f)

    end_is : r.at ≡ length t
    end_is = let a : r.at ≡ behind space 0 t = ap (λ (c : Cursor). c.at) p.cursor in omega (arith, fits)

    made_is : part made 0 r.at ≡ t
    made_is = (λ i. part (p.text i) 0 (p.cursor i).at) ∙ front space t fits

  -- the code's reason is the definition's
  refusal_is : (reals all room out : ℕ) → reals ≡ min all 4097 → min room 4096 ≡ room → moved_refusal r.full reals room r.at out ≡ moved_refusal (not (leb (length t) 65536)) all room (length t) out
  unfolding moved_refusal
  refusal_is reals all room out e h = go r.full refl ∙ ap (λ (b : Bool). moved_refusal b all room (length t) out) long_is
    where
      go : (b : Bool) → r.full ≡ b → moved_refusal b reals room r.at out ≡ moved_refusal b all room (length t) out
      go true f = refl
      go false f = λ i. cond ((ap (λ (k : ℕ). leb k room) e ∙ capped_fits all room h) i) (cond (leb (end_is f i) out) 0 23) 13

-- a text put in front of an output that holds it
in_front : (out t : Bytes) → length t ≤ length out → take (length t) (put out 0 t) ≡ t
in_front out t h = let end : length t ≡ behind out 0 t = omega arith in ap (λ (k : ℕ). take k (put out 0 t)) end ∙ front out t h

-- ---- the records of a text moved

outcome_refused : (n : ℕ) (t : Bytes) → (n ≡ 0 → ⊥) → outcome_for n t ≡ refused n 0
outcome_refused n t h = ap (λ (b : Bool). cond b (written t) (refused n 0)) (ne_eqb n 0 h)

outcome_written : (n : ℕ) (t : Bytes) → n ≡ 0 → outcome_for n t ≡ written t
outcome_written n t h = ap (λ (b : Bool). cond b (written t) (refused n 0)) (eq-eqb n 0 h)

module _ {made : Bytes} {r : Cursor} {reals reason : ℕ} (m : Direction) (text : Bytes) (T : List ℕ) (room count : ℕ) (out space : Bytes) (size : length space ≡ 65536) (p : Puts space start (moved_rows m text T count) r made) (counted : reals ≡ reals_to m text T count) (why : reason ≡ moved_refusal r.full reals room r.at (length out)) where
  -- where the table is that of an accepted text
  module _ (s : Settings) (es : List Entry) (k : ℕ) (reads : read_statements s text ≡ accepted es) (own : T ≡ record_image text k (accepted es)) (all : count ≡ length es) (possible : min room 4096 ≡ room) where
    abbrev D : List Statement
    D = moved m (statements es)

    text_is : moved_rows m text T count ≡ tidy D
    text_is = (λ i. moved_rows m text (own i) (all i)) ∙ moved_rows_lem m s text es k reads

    reals_are : reals ≡ min (reals_used D) 4097
    reals_are = counted ∙ (λ i. reals_to m text (own i) (all i)) ∙ reals_counted m s text es k reads

    outcome_is : moved_outcome room (length out) D ≡ outcome_for reason (moved_rows m text T count)
    outcome_is =
        sym ((λ i. outcome_for (why i) (text_is i))
        ∙ (λ i. outcome_for (refusal_is space size p reals (reals_used D) room (length out) reals_are possible i) (tidy D))
        ∙ (λ i. outcome_for (moved_refusal (not (leb (length (text_is i)) 65536)) (reals_used D) room (length (text_is i)) (length out)) (tidy D)))

  pub moved_refused : {n : ℕ} → n ≡ reason → (reason ≡ 0 → ⊥) → LeavesMoved m text T room count out (Refused n 0) out
  moved_refused e h = λ s es k reads own all possible.
      leaves_refused (outcome_is s es k reads own all possible ∙ outcome_refused reason (moved_rows m text T count) h ∙ ap (λ (n : ℕ). refused n 0) (sym e))

  pub moved_all : {out' new : Bytes} → reason ≡ 0 → new ≡ part made 0 r.at → out' ≡ put out 0 new → LeavesMoved m text T room count out (Written r.at) out'
  moved_all {out'} h a b = λ s es k reads own all possible.
      let t = moved_rows m text T count in
      let o = outcome_is s es k reads own all possible ∙ outcome_written reason t h in
      let g = not_refused r.full reals room r.at (length out) (sym why ∙ h) in
      let end = end_is space size p g.0 in
      let full : out' ≡ put out 0 t = b ∙ ap (put out 0) (a ∙ made_is space size p g.0) in
      let fits : length t ≤ length out = omega (arith, g.1) in
      subst (λ (x : Outcome). Leaves x out (Written r.at) out') (sym o)
      (record { says = ap Written end; size = ap length full ∙ length_put out 0 t; text = ap (take (length t)) full ∙ in_front out t fits })

-- ---- the call

module _ (mode : Mode) (m : Direction) (text : Bytes) (table : List ℕ) (doubles : List Float) (out : Bytes) where
  -- tables that match are those that the records moved are put from
  pub moves_same : {a : Answer} {out' : Bytes} (room n : ℕ) → room ≡ min 4096 (length doubles) → LeavesMoved m text table room n out a out' → fresh.Same n ≡ fresh_of text table doubles (read_into mode text table doubles) → Leaves (moved_by mode m text table doubles (length out)) out a out'
  moves_same {a = a} {out' = out'} room n least w e =
      let R = settings_for mode (length table) (length doubles) in
      let x = same_as (λ es. moved_outcome (min 4096 (length doubles)) (length out) (moved m (statements es))) text table doubles R (read_into mode text table doubles) n refl e in
      let o : moved_outcome room (length out) (moved m (statements x.entries)) ≡ moved_by mode m text table doubles (length out) = ap (λ (k : ℕ). moved_outcome k (length out) (moved m (statements x.entries))) least ∙ sym x.outcome in
      subst (λ (y : Outcome). Leaves y out a out') o (w R x.entries (length table) x.reads x.own x.count (omega arith))
