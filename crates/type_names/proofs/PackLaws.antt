-- A short word as a number, and the word that a number is.
use mathlib.Core.List.{[], ◌∷◌, ◌++◌}
use mathlib.Core.Path.{◌≡◌, refl, sym, ap, ◌∙◌}
use Prim.Native.Nat.{ℕ, zero, suc, ◌+◌, ◌-◌, ◌*◌, ◌/◌, ◌%◌, ◌^◌, ◌≤◌, ◌<◌}
use native.Mathlib.Nat.{pow-le-pow_right, pow-suc}
use native.Mathlib.Numerals.{add-one}
use native.Mathlib.Omega.{arith}
use borrow.Author.Tests.{lt-leb}
use lib.ListN.{length, take, get_or}
use lib.Seq.{take-suc}
use Rattle.laws.specs.Bytes.{Bytes}
use Rattle.scene.specs.Types.{type_number}
use Rattle.type_names.specs.Packed.{unpacked}

unpacked_none : (n : ℕ) → unpacked n 1 ≡ []
unfolding unpacked
unpacked_none zero = refl
unpacked_none (suc n) = refl

unpacked_more : (n k b : ℕ) → 1 ≤ k → b < 256 → unpacked (suc n) (k * 256 + b) ≡ unpacked n k ++ (b ∷ [])
unfolding unpacked
unpacked_more n k b l h =
    let m : 1 < k * 256 + b = omega arith in
    let q : (k * 256 + b) / 256 ≡ k = omega arith in
    let r : (k * 256 + b) % 256 ≡ b = omega arith in
    rw (lt-leb (k * 256 + b) 1 m) (λ i. unpacked n (q i) ++ (r i ∷ []))

-- k is the first i bytes of a word of at most seven
pub record PackedTo (w : Bytes) (k i : ℕ) : Type 0 where
  pub within : i ≤ length w
  pub some : 1 ≤ k
  pub small : k < 2 * 256 ^ i
  pub word : unpacked (7 - length w + i) k ≡ take i w

module _ (w : Bytes) (s : length w ≤ 7) where
  pub packed_none : PackedTo w 1 0
  packed_none = record { within = omega arith; some = omega arith; small = omega arith; word = unpacked_none (7 - length w + 0) }

  module _ (k i : ℕ) (p : PackedTo w k i) where
    pub packed_fits : i < length w → k < 562949953421312
    packed_fits l =
        let m : i ≤ 6 = omega arith in
        let q : 256 ^ i ≤ 281474976710656 = pow-le-pow_right (omega arith) m in
        let h = p.small in
        omega arith

    pub packed_more : (b : ℕ) → i < length w → get_or w i 0 < 256 → b ≡ get_or w i 0 → PackedTo w (k * 256 + b) (i + 1)
    packed_more b l h e =
        let z = p.small in
        let o = p.some in
        record {
          within = omega arith;
          some = omega arith;
          small = rw (add-one, pow-suc) (omega arith);
          word =
              (let n : 7 - length w + (i + 1) ≡ suc (7 - length w + i) = omega arith in ap (λ (j : ℕ). unpacked j (k * 256 + b)) n)
              ∙ unpacked_more (7 - length w + i) k b o (omega arith)
              ∙ (λ j. p.word j ++ (e j ∷ []))
              ∙ sym (take-suc w i 0 l)
              ∙ ap (λ (j : ℕ). take j w) (sym (add-one i));
        }

-- words of one number are one type's
pub packed_type : {w : Bytes} {r k : ℕ} → unpacked 7 r ≡ w → r ≡ k → type_number (unpacked 7 k) ≡ type_number w
packed_type p e = ap (λ (j : ℕ). type_number (unpacked 7 j)) (sym e) ∙ ap type_number p
