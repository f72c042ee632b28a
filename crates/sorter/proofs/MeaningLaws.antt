-- On the table of an accepted text the blocks in the order that the code finds are the sorted text.
use mathlib.Core.List.{List, [], ◌∷◌, ◌++◌}
use mathlib.Core.Logic.{◌⊎◌, inl, inr}
use mathlib.Core.Path.{◌≡◌, refl, ap, sym, ◌∙◌, subst}
use Prim.Native.Nat.{ℕ, zero, suc, ◌-◌, ◌≤◌, ◌<◌, min}
use native.Mathlib.Omega.{arith}
use lib.ListN.{get_or-append, drop, length, length-append}
use lib.Seq.{get_or_at}
use Rattle.block_text.specs.BlockText.{block_in, blocks_in, sorted_in}
use Rattle.grouping.proofs.OrderLaws.{grouped_same}
use Rattle.grouping.specs.Grouped.{grouped}
use Rattle.laws.proofs.NatLaws.{le_or_lt}
use Rattle.laws.specs.Bytes.{Bytes, part}
use Rattle.rearrangement.specs.Blocks.{behind_blocks, behind_line, block_end, block_ends, blocks}
use Rattle.rearrangement.specs.Held.{held_in}
use Rattle.scene.specs.Reading.{Entry, accepted, read_statements, statements}
use Rattle.scene.specs.Record.{nth, record_image, record_in, records}
use Rattle.scene.specs.declared.Settings.{Settings}
use Rattle.sorter.specs.Code.{order_in}
use Rattle.sorting.proofs.OwnLaws.{Among, at, at_before, at_last, blocks_length}
use Rattle.sorting.proofs.ShuffleLaws.{All}
use Rattle.sorting.proofs.SortLaws.{among}
use Rattle.sorting.specs.Sorted.{in_order, order_of, sorted_text}
use Rattle.table.specs.Number.{number_in}
use Rattle.tied.proofs.TiedLaws.{tied, type_at}
use Rattle.ties.specs.Ties.{classes_to, held_rows}

-- ---- the blocks of an accepted text, by the places behind them

pub ends_length : (text : Bytes) (es : List Entry) → length (block_ends text es) ≡ length es
unfolding block_ends
ends_length text [] = refl
ends_length text (e ∷ es) = length-append (block_ends text es) _ ∙ (let k = ends_length text es in omega (arith, k))

end_before : (E F : List ℕ) (n : ℕ) → n ≤ length E → number_in (E ++ F) n ≡ number_in E n
unfolding number_in
end_before E F zero h = refl
end_before E F (suc n) h = get_or-append E F 0 n h

end_last : (text : Bytes) (es : List Entry) → number_in (block_ends text es) (length es) ≡ block_end text es
unfolding block_ends number_in
end_last text [] = refl
end_last text (e ∷ es) = get_or_at (block_ends text es) (behind_line text e.end) [] 0 (length es) (ends_length text es)

module _ (text : Bytes) (e : Entry) (es : List Entry) where
  block_before : (k : ℕ) → Among (length es) k → block_in text (block_ends text es) k ≡ at [] (blocks text es) k → block_in text (block_ends text (e ∷ es)) k ≡ at [] (blocks text (e ∷ es)) k
  unfolding block_in block_ends blocks
  block_before k h q =
      let l = h.1 in
      let a = end_before (block_ends text es) (behind_line text e.end ∷ []) (k - 1) (omega (arith, ends_length text es)) in
      let b = end_before (block_ends text es) (behind_line text e.end ∷ []) k (omega (arith, ends_length text es)) in
      (λ i. part text (a i) (b i - a i)) ∙ q ∙ sym (at_before [] (blocks text es) _ k (h.0, omega (arith, blocks_length text es)))

  block_here : block_in text (block_ends text (e ∷ es)) (suc (length es)) ≡ at [] (blocks text (e ∷ es)) (suc (length es))
  unfolding block_in block_ends blocks
  block_here =
      let n : suc (length es) - 1 ≡ length es = omega arith in
      let a : number_in (block_ends text es ++ behind_line text e.end ∷ []) (suc (length es) - 1) ≡ block_end text es =
      ap (number_in (block_ends text es ++ behind_line text e.end ∷ [])) n ∙ end_before (block_ends text es) (behind_line text e.end ∷ []) (length es) (omega (arith, ends_length text es)) ∙ end_last text es in
      let b : number_in (block_ends text es ++ behind_line text e.end ∷ []) (suc (length es)) ≡ behind_line text e.end = end_last text (e ∷ es) in
      (λ i. part text (a i) (b i - a i)) ∙ sym (at_last [] (blocks text es) _ [] (length es) (blocks_length text es))

block_at : (text : Bytes) (es : List Entry) (k : ℕ) → Among (length es) k → block_in text (block_ends text es) k ≡ at [] (blocks text es) k
block_at text [] k h = absurd (let z = h.0 in let l = h.1 in omega arith)
block_at text (e ∷ es) k h = go (le_or_lt k (length es)) (block_at text es k)
  where
    go : (k ≤ length es) ⊎ (length es < k) → (Among (length es) k → block_in text (block_ends text es) k ≡ at [] (blocks text es) k) → block_in text (block_ends text (e ∷ es)) k ≡ at [] (blocks text (e ∷ es)) k
    go (inl l) f = block_before text e es k (h.0, l) (f (h.0, l))
    go (inr l) f =
        let q : suc (length es) ≡ k = (let m = h.1 in omega arith) in
        subst (λ (n : ℕ). block_in text (block_ends text (e ∷ es)) n ≡ at [] (blocks text (e ∷ es)) n) q (block_here text e es)

blocks_at : (text : Bytes) (es : List Entry) (ks : List ℕ) → All (Among (length es)) ks → blocks_in text (block_ends text es) ks ≡ in_order (blocks text es) ks
unfolding blocks_in in_order
blocks_at text es [] h = refl
blocks_at text es (k ∷ ks) h = λ i. block_at text es k h.0 i ++ blocks_at text es ks h.1 i

-- ---- the order

module _ (r : Settings) (text : Bytes) (es : List Entry) (m : ℕ) (reads : read_statements r text ≡ accepted es) (few : length es ≤ 1024) where
  abbrev T : List ℕ
  T = record_image text m (accepted es)

  order_meant : order_in text T (length es) ≡ order_of es
  unfolding order_in order_of
  order_meant =
      let n : min (length es) 1024 ≡ length es = omega arith in
      (λ i. grouped (held_rows T (classes_to text T (n i))) (λ k. (record_in T k).type) (n i))
      ∙ grouped_same (held_rows T (classes_to text T (length es))) (held_in (statements es)) (λ k. (record_in T k).type) (λ k. (nth (records es) k).type) (length es)
      (λ i k z l h. tied r text es m reads i k z l h) (λ k z h. type_at r text es m reads k z h)

  pub sorted_meant : sorted_in text (block_ends text es) (order_in text T (length es)) ≡ sorted_text text es
  unfolding sorted_in sorted_text
  sorted_meant =
      let rest : number_in (block_ends text es) (length (block_ends text es)) ≡ block_end text es = ap (number_in (block_ends text es)) (ends_length text es) ∙ end_last text es in
      (λ i. blocks_in text (block_ends text es) (order_meant i) ++ drop (rest i) text)
      ∙ (λ i. blocks_at text es (order_of es) (among es) i ++ behind_blocks text es)
