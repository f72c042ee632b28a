-- The order as the code finds it.
use mathlib.Core.Bool.{Bool}
use mathlib.Core.List.{List, ◌++◌, append-nil}
use mathlib.Core.Path.{◌≡◌, refl, ap, ◌∙◌, subst}
use Prim.Native.Nat.{ℕ, zero, suc, ◌-◌, min}
use native.Mathlib.Omega.{arith}
use lib.ListN.{length, replicate}
use Rattle.block_text.specs.BlockText.{WritesBlocks}
use Rattle.grouping.specs.Grouped.{grouped, grouped_from, next, up_to, without}
use Rattle.laws.specs.Bytes.{Bytes}
use Rattle.scene.specs.Record.{filled, record_in}
use Rattle.sorter.specs.Code.{order_in}
use Rattle.ties.specs.Ties.{classes_to, held_rows}
use Rattle.writer.specs.Answer.{Answer}

grouped_length : (held : ℕ → ℕ → Bool) (type : ℕ → ℕ) (n last : ℕ) (left : List ℕ) → length (grouped_from held type n last left) ≡ n
unfolding grouped_from
grouped_length held type zero last left = refl
grouped_length held type (suc n) last left = let c = next held type last left in ap suc (grouped_length held type n (type c) (without c left))

pub order_is : (text : Bytes) (T : List ℕ) (many : ℕ) {n : ℕ} {classes order : List ℕ} → n ≡ min many 1024 → classes ≡ classes_to text T n → order ≡ filled 0 n (grouped (held_rows T classes) (λ k. (record_in T k).type) (min 1024 n)) → order ≡ order_in text T many
unfolding order_in grouped
order_is text T many {n = n} p q e =
    let m : min 1024 n ≡ n = omega (arith, p) in
    let found = grouped (held_rows T (classes_to text T n)) (λ k. (record_in T k).type) n in
    let full : n - length found ≡ 0 = omega (arith, grouped_length (held_rows T (classes_to text T n)) (λ k. (record_in T k).type) n 0 (up_to n)) in
    e ∙ (λ i. filled 0 n (grouped (held_rows T (q i)) (λ k. (record_in T k).type) (m i)))
    ∙ ap (λ (k : ℕ). found ++ replicate k 0) full ∙ append-nil found
    ∙ (λ i. grouped (held_rows T (classes_to text T (p i))) (λ k. (record_in T k).type) (p i))

-- the tables of classes and of the order are parts of longer ones, lent and taken again
pub cut_written : (text : Bytes) (T E : List ℕ) (out : Bytes) {n many long : ℕ} {classes classes' order order' : List ℕ} → n ≡ min (length E) 1024 → many ≡ n → classes ≡ classes_to text T many → classes' ≡ classes
    → long ≡ n → order ≡ filled 0 long (grouped (held_rows T classes') (λ k. (record_in T k).type) (min 1024 long)) → order' ≡ order → {r : Answer} {out' : Bytes} → WritesBlocks text E order' out r out' → WritesBlocks text E (order_in text T (length E)) out r out'
cut_written text T E out {n = n} p m c c' l o o' {r = r} {out' = out'} h =
    let cs = c' ∙ c ∙ ap (classes_to text T) m in
    let os = o ∙ (λ i. filled 0 (l i) (grouped (held_rows T (cs i)) (λ k. (record_in T k).type) (min 1024 (l i)))) in
    subst (λ (ks : List ℕ). WritesBlocks text E ks out r out') (o' ∙ order_is text T (length E) p refl os) h
