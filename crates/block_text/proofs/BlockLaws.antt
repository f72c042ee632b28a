-- Blocks put into an output one behind the other.
use mathlib.Core.List.{List, [], ◌++◌}
use mathlib.Core.Path.{◌≡◌, ap, sym, ◌∙◌}
use Prim.Native.Nat.{ℕ, suc, ◌+◌, ◌-◌, ◌≤◌, ◌<◌}
use native.Mathlib.Omega.{arith}
use lib.ListN.{drop, drop_of_length-le, get_or, length, length-drop, replicate, take}
use lib.Seq.{drop-cons, take_all}
use Rattle.block_text.specs.BlockText.{WritesBlocks, block_in, blocks_in, sorted_in}
use Rattle.laws.specs.Bytes.{Bytes, part}
use Rattle.lines.specs.Puts.{Puts}
use Rattle.lines.specs.declared.Cursor.{Cursor}
use Rattle.scene.specs.declared.Refusal.{Refusal}
use Rattle.table.specs.Number.{number_in}
use Rattle.std.specs.Prelude.{Result}
use Rattle.writer.proofs.AnswerLaws.{front, leaves_put, left_cleared}
use Rattle.writer.specs.Answer.{answer_of, fitted}
use Rattle.writer.specs.Left.{length_put, used}

-- ---- blocks one behind the other

pub block_is : (text : Bytes) (E : List ℕ) (n : ℕ) {m start end size : ℕ} → m ≡ n - 1 → start ≡ number_in E m → end ≡ number_in E n → size ≡ end - start → {new : Bytes} → new ≡ part text start size → new ≡ block_in text E n
unfolding block_in
block_is text E n p q s l e =
    let a = q ∙ ap (number_in E) p in
    e ∙ (λ i. part text (a i) (l i)) ∙ (λ i. part text (number_in E (n - 1)) (s i - a i))

pub one_block : (text : Bytes) (E ks : List ℕ) (i : ℕ) → i < length ks → {new : Bytes} → new ≡ block_in text E (get_or ks i 0) → blocks_in text E (drop i ks) ≡ new ++ blocks_in text E (drop (i + 1) ks)
unfolding blocks_in
one_block text E ks i h e = ap (blocks_in text E) (drop-cons ks i 0 h) ∙ (let m : suc i ≡ i + 1 = omega arith in λ j. sym e j ++ blocks_in text E (drop (m j) ks))

pub no_blocks : (text : Bytes) (E ks : List ℕ) (i : ℕ) → length ks ≤ i → blocks_in text E (drop i ks) ≡ []
unfolding blocks_in
no_blocks text E ks i h = ap (blocks_in text E) (drop_of_length-le ks {i = i} h)

-- ---- what was put into the output

-- all that stands behind a place
pub rest_is : (text : Bytes) (E ks : List ℕ) {at : ℕ} → at ≡ number_in E (length E) → {new : Bytes} → new ≡ part text at (length text) → blocks_in text E ks ++ new ≡ sorted_in text E ks
unfolding sorted_in
rest_is text E ks {at = at} e p = ap (λ (z : Bytes). blocks_in text E ks ++ z) (p ∙ take_all (length text) (drop at text) (omega (arith, length-drop at text)) ∙ ap (λ (n : ℕ). drop n text) e)

pub blocks_written : (text : Bytes) (E ks : List ℕ) {out mid : Bytes} {r : Cursor} → Puts out front (sorted_in text E ks) r mid → (w v : Result ℕ Refusal) → answer_of w ≡ length_put r → v ≡ w → {out' : Bytes} → out' ≡ take (used w) mid ++ replicate (length mid - used w) 0 → WritesBlocks text E ks out (answer_of v) out'
blocks_written text E ks {out = out} {mid = mid} p w v e f z =
    let left = leaves_put p e in
    record { says = ap answer_of f ∙ left.says; output = left_cleared (fitted (length out) (sorted_in text E ks)) out mid w left z }
