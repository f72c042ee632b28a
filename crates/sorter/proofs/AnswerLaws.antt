-- The call's answer and output, from what its parts give.
use mathlib.Core.List.{List}
use mathlib.Core.Path.{◌≡◌, refl, ap, sym, ◌∙◌, subst}
use Prim.Native.Nat.{ℕ, ◌≤◌, min}
use native.Mathlib.Omega.{arith}
use lib.Ieee.{Float}
use lib.ListN.{length, replicate}
use mathlib.Core.Bool.{Bool, true, false}
use native.Mathlib.Nat.{sub-zero}
use Rattle.std.specs.Prelude.{Result, Ok, Err, is_err}
use Rattle.block_text.specs.BlockText.{WritesBlocks, sorted_in}
use Rattle.blocks.proofs.MeaningLaws.{ends_meant, verdict_meant}
use Rattle.blocks.specs.Code.{Cuts, ends_to, table_of, verdict_in, verdict_of}
use Rattle.fresh.specs.Fresh.{fresh_of}
use Rattle.fresh.specs.Fresh as fresh
use Rattle.laws.specs.Bytes.{Bytes}
use Rattle.reader.specs.Answer.{read_into}
use Rattle.rearrangement.specs.Blocks.{Verdict, block_ends, can, cannot, verdict}
use Rattle.scene.proofs.AcceptLaws.{accept_forth}
use Rattle.scene.proofs.RoomLaws.{fit_forth}
use Rattle.scene.proofs.TellsLaws.{statements_length}
use Rattle.scene.specs.Reading.{Entry, accepted, read_statements, statements}
use Rattle.scene.specs.Record.{record_image, settings_for}
use Rattle.scene.specs.declared.Mode.{Mode}
use Rattle.scene.specs.declared.Refusal.{Refusal}
use Rattle.scene.specs.declared.Settings.{Settings}
use Rattle.sorter.proofs.MeaningLaws.{ends_length, sorted_meant}
use Rattle.sorter.specs.Answer.{if_cut, sorted_by, sorted_outcome}
use Rattle.sorter.specs.Code.{Fills, LeavesSorted, order_in}
use Rattle.sorting.proofs.SortLaws.{verdict_can}
use Rattle.sorting.specs.Sorted.{sorted_text}
use Rattle.writer.proofs.AnswerLaws.{leaves_filled, leaves_refused, same_as}
use Rattle.writer.specs.Answer.{Answer, Outcome, Refused, answer_of, fitted, output, refused, written}

-- ---- what is left

-- a refusal leaves the output as it is
fills_refused : {o : Outcome} {n p : ℕ} → o ≡ refused n p → {out : Bytes} → Fills o out (Refused n p) out
fills_refused e = record { leaves = leaves_refused e; whole = λ t w. let s = sym e ∙ w in cc }

-- once a refusal's output is zeroed
pub refused_cleared : (o : Outcome) (out mid : Bytes) (w : Result ℕ Refusal) → Fills o out (answer_of w) mid → is_err w ≡ true → length mid ≡ length out → {out' : Bytes} → out' ≡ replicate (length mid) 0 → out' ≡ output (length out) o
refused_cleared (refused n p) out mid (Err r) h e s z = z ∙ ap (λ (k : ℕ). replicate k 0) (s ∙ sym (sub-zero (length out)))
refused_cleared (written t) out mid (Err r) h e s z = let x = h.leaves.says in cc
refused_cleared o out mid (Ok k) h e s z = cc

pub written_kept : (o : Outcome) (out mid : Bytes) (w : Result ℕ Refusal) → Fills o out (answer_of w) mid → is_err w ≡ false → mid ≡ output (length out) o
written_kept (written t) out mid (Ok k) h e = h.whole t refl
written_kept (refused n p) out mid (Ok k) h e = let x = h.leaves.says in cc
written_kept o out mid (Err r) h e = cc

-- ---- a text that is cut, or refused

module _ (text : Bytes) (T : List ℕ) (count : ℕ) (out : Bytes) {n : ℕ} {answer : Result (Unit {0}) Refusal} {ends : List ℕ} (least : n ≡ min count 1024) (cuts : Cuts text T n answer ends) where
  -- on the table of an accepted text
  module _ (r : Settings) (es : List Entry) (m : ℕ) (reads : read_statements r text ≡ accepted es) (own : T ≡ record_image text m (accepted es)) (all : count ≡ length es) (few : min count 1024 ≡ count) where
    many : n ≡ length es
    many = least ∙ few ∙ all

    verdict_is : verdict text es ≡ verdict_in text T n
    verdict_is = sym ((λ i. verdict_in text (own i) (many i)) ∙ verdict_meant r text es m reads)

    outcome_by : {v : Verdict} → verdict_in text T n ≡ v → sorted_outcome text (length out) es ≡ if_cut v (fitted (length out) (sorted_text text es))
    outcome_by q = ap (λ (v : Verdict). if_cut v (fitted (length out) (sorted_text text es))) (verdict_is ∙ q)

    -- the blocks that were cut are the text's
    written_is : verdict_in text T n ≡ can → sorted_in text ends (order_in text T (length ends)) ≡ sorted_text text es
    written_is q =
        let e : ends ≡ block_ends text es = cuts.ends ∙ ap (λ (v : Verdict). table_of v (ends_to text T n) n) q ∙ (λ i. ends_to text (own i) (many i)) ∙ ends_meant r text es m reads (verdict_can text es (verdict_is ∙ q)).0 in
        (λ i. sorted_in text (e i) (order_in text (own i) (length (e i))))
        ∙ ap (λ (k : ℕ). sorted_in text (block_ends text es) (order_in text (record_image text m (accepted es)) k)) (ends_length text es)
        ∙ sorted_meant r text es m reads (omega (arith, all, few))

  pub sorted_refused : (f : Refusal) → answer ≡ Err f → (w : Result ℕ Refusal) → w ≡ Err f → LeavesSorted text T count out (answer_of w) out
  sorted_refused f q w e r es m reads own all few =
      let o = outcome_by r es m reads own all few (sym cuts.says ∙ ap verdict_of q) in
      subst (λ (x : Result ℕ Refusal). Fills (sorted_outcome text (length out) es) out (answer_of x) out) (sym e) (fills_refused o)

  pub sorted_written : (u : Unit {0}) → answer ≡ Ok u → {a : Answer} {out' : Bytes} → WritesBlocks text ends (order_in text T (length ends)) out a out' → LeavesSorted text T count out a out'
  sorted_written u q {a} {out'} h r es m reads own all few =
      let v = sym cuts.says ∙ ap verdict_of q in
      let o = ap (fitted (length out)) (written_is r es m reads own all few v) ∙ sym (outcome_by r es m reads own all few v) in
      subst (λ (x : Outcome). Fills x out a out') o (record { leaves = leaves_filled (sorted_in text ends (order_in text T (length ends))) h.says h.output; whole = λ t w. h.output })

-- ---- the call

-- a table that was read has 1,024 records at most
pub sorts_same : (mode : Mode) (text : Bytes) (table : List ℕ) (doubles : List Float) (out : Bytes) (n : ℕ) {a : Answer} {out' : Bytes} → LeavesSorted text table n out a out' → fresh.Same n ≡ fresh_of text table doubles (read_into mode text table doubles) → Fills (sorted_by mode text table doubles (length out)) out a out'
sorts_same mode text table doubles out n {a} {out'} h e =
    let R = settings_for mode (length table) (length doubles) in
    let x = same_as (sorted_outcome text (length out)) text table doubles R (read_into mode text table doubles) n refl e in
    let es = x.entries in
    let few : length es ≤ 1024 = omega (arith, (fit_forth R (statements es) (accept_forth R text es x.reads).2).1, statements_length es) in
    subst (λ (y : Outcome). Fills y out a out') (sym x.outcome) (h R es (length table) x.reads x.own x.count (omega (arith, x.count)))
