-- The pieces of a text that a scan reads: how they join, and one law for each answer of the code.
use mathlib.Core.Bool.{Bool, true, false, cond}
use mathlib.Core.List.{[], ◌∷◌, ◌++◌}
use mathlib.Core.Path.{◌≡◌, refl, sym, ap, ◌∙◌}
use Prim.Native.Nat.{ℕ, suc, ◌+◌, ◌*◌, ◌-◌, ◌^◌, ◌≤◌, ◌<◌}
use native.Mathlib.Nat.{add-zero}
use native.Mathlib.Numerals.{add-one}
use native.Mathlib.Omega.{arith}
use borrow.Author.Tests.{ltb-true, eqb-true, le-leb}
use lib.Dec.{ltb, eqb}
use lib.ListN.{length, take, drop, get_or}
use lib.Seq.{drop-cons, drop-drop, take-add}
use Rattle.laws.proofs.BoolLaws.{and_left, and_right, or_false_right}
use Rattle.laws.proofs.ListLaws.{part_length}
use Rattle.laws.specs.Bytes.{Bytes, part}
use Rattle.laws.specs.Runs.{all}
use Rattle.numeral_parts.proofs.DigitLaws.{digit_high, value_append}
use Rattle.numeral_parts.proofs.PartLaws.{negative_first, unsigned_plain}
use Rattle.numeral_parts.specs.Digits.{digits, is_digit, value_from}
use Rattle.numeral_parts.specs.Parts.{is_exponent, is_point, is_sign, negative, unsigned}
use Rattle.numeral_parts.specs.Saturated.{limit}
use Rattle.numeral_scan.proofs.ShapeLaws.{all_both, both, digits_unsigned}
use Rattle.numeral_scan.specs.Pieces.{ExponentAt, FractionAt, Piece, PowerAt, RowAt, is_fraction, is_power, stands}
use Rattle.numeral_scan.specs.declared.Power.{Power}
use Rattle.numeral_scan.specs.declared.Row.{Row}

module _ (text : Bytes) where
  -- ---- parts

  part_none : (at : ℕ) → part text at (at - at) ≡ []
  part_none at = let z : at - at ≡ 0 = omega arith in ap (part text at) z

  part_cons : (at end : ℕ) → at < end → at < length text → part text at (end - at) ≡ get_or text at 0 ∷ part text (at + 1) (end - (at + 1))
  part_cons at end l h =
      let n : end - at ≡ suc (end - (at + 1)) = omega arith in
      let d : drop at text ≡ get_or text at 0 ∷ drop (at + 1) text = rw add-one (drop-cons text at 0 h) in
      λ i. take (n i) (d i)

  pub part_join : (a b c : ℕ) → a ≤ b → b ≤ c → part text a (c - a) ≡ part text a (b - a) ++ part text b (c - b)
  part_join a b c p q =
      let n : c - a ≡ (b - a) + (c - b) = omega arith in
      let d : a + (b - a) ≡ b = omega arith in
      ap (part text a) n ∙ take-add (b - a) (c - b) (drop a text)
      ∙ ap (λ (xs : Bytes). part text a (b - a) ++ take (c - b) xs) (drop-drop (b - a) a text ∙ ap (λ (k : ℕ). drop k text) d)

  -- ---- one byte

  module _ (at b : ℕ) where
    pub stands_within : stands text at b ≡ true → at < length text
    unfolding stands
    stands_within e = ltb-true at (length text) (and_left (ltb at (length text)) (eqb (get_or text at 0) b) e)

    stands_byte : stands text at b ≡ true → get_or text at 0 ≡ b
    unfolding stands
    stands_byte e = eqb-true (get_or text at 0) b (and_right (ltb at (length text)) (eqb (get_or text at 0) b) e)

    -- a piece that begins with the byte
    module _ (s : stands text at b ≡ true) (end : ℕ) (p : Piece text (at + 1) end) where
      first_part : part text at (end - at) ≡ b ∷ part text (at + 1) (end - (at + 1))
      first_part =
          let l : at < end = omega arith in
          part_cons at end l (stands_within s) ∙ ap (λ (x : ℕ). x ∷ part text (at + 1) (end - (at + 1))) (stands_byte s)

      first_piece : Piece text at end
      first_piece = let h = stands_within s in record { forward = omega arith; most = omega arith }

  pub piece_none : (at : ℕ) → Piece text at at
  piece_none at = record { forward = omega arith; most = omega arith }

  pub piece_within : {at end : ℕ} → Piece text at end → at ≤ length text → end ≤ length text
  piece_within p h = omega arith

  pub piece_stays : {at end : ℕ} → Piece text at end → length text < at → end ≡ at
  piece_stays p h = omega arith

  pub piece_join : {a b c : ℕ} → Piece text a b → Piece text b c → Piece text a c
  piece_join p q = record { forward = omega arith; most = omega arith }

  pub piece_length : {at end : ℕ} → Piece text at end → end ≤ length text → length (part text at (end - at)) ≡ end - at
  piece_length {at} {end} p h = part_length text at (end - at) (omega arith)

  piece_some : {at end : ℕ} → Piece text at end → at < end → length (part text at (end - at)) ≡ 0 → ⊥
  piece_some {at} {end} p l z = let h : end ≤ length text = omega arith in omega (arith, piece_length p h)

  -- ---- the sign

  -- what stands behind a minus, if there is one, is the word without its sign
  module _ (at first end : ℕ) (f : first ≡ cond (stands text at 45) (at + 1) at) (p : Piece text first end) where
    pub sign_piece : Piece text at end
    sign_piece = go (stands text at 45) refl f
      where
        go : (b : Bool) → stands text at 45 ≡ b → first ≡ cond b (at + 1) at → Piece text at end
        go true s e = let h = stands_within at 45 s in record { forward = omega arith; most = omega arith }
        go false s e = record { forward = omega arith; most = omega arith }

    module _ (l : first < end) (u : is_sign (get_or (part text first (end - first)) 0 0) ≡ false) where
      plain : negative (part text first (end - first)) ≡ false
      unfolding is_sign
      plain = let w : Bytes = part text first (end - first) in sym (negative_first w (piece_some p l)) ∙ or_false_right (eqb (get_or w 0 0) 43) (eqb (get_or w 0 0) 45) u

      pub sign_read : (unsigned (part text at (end - at)) ≡ part text first (end - first)) × (negative (part text at (end - at)) ≡ stands text at 45)
      unfolding unsigned negative is_sign
      sign_read = go (stands text at 45) refl f
        where
          go : (b : Bool) → stands text at 45 ≡ b → first ≡ cond b (at + 1) at → (unsigned (part text at (end - at)) ≡ part text first (end - first)) × (negative (part text at (end - at)) ≡ b)
          go true s e =
              let q : Piece text (at + 1) end = rw (sym e) p in
              let w : part text at (end - at) ≡ 45 ∷ part text first (end - first) = first_part at 45 s end q ∙ ap (λ (k : ℕ). 45 ∷ part text k (end - k)) (sym e) in
              (ap unsigned w, ap negative w)
          go false s e =
              let w : part text at (end - at) ≡ part text first (end - first) = ap (λ (k : ℕ). part text k (end - k)) (sym e) in
              (ap unsigned w ∙ sym (unsigned_plain (part text first (end - first)) (piece_some p l) u), ap negative w ∙ plain)

  -- ---- rows of digits

  module _ (at n : ℕ) where
    pub row_none : n < limit → RowAt text at n record { end = at; value = n }
    unfolding all value_from
    row_none h = record { piece = piece_none at; digits = rw (part_none at); value_is = rw (part_none at); small = h }

    pub row_step : (i v : ℕ) → RowAt text at n record { end = i; value = v } → i < length text → (d : ℕ) → d ≡ get_or text i 0 - 48 → is_digit (get_or text i 0) ≡ true → v < 10 ^ 14 → RowAt text at n record { end = i + 1; value = v * 10 + d }
    unfolding all value_from
    row_step i v r h d e g l =
        let p = r.piece in
        let q : Piece text at (i + 1) = record { forward = omega arith; most = omega arith } in
        let one : part text i (i + 1 - i) ≡ get_or text i 0 ∷ [] = part_cons i (i + 1) (omega arith) h ∙ ap (λ (xs : Bytes). get_or text i 0 ∷ xs) (part_none (i + 1)) in
        let w : part text at (i + 1 - at) ≡ part text at (i - at) ++ get_or text i 0 ∷ [] = part_join at i (i + 1) (omega arith) (omega arith) ∙ ap (λ (xs : Bytes). part text at (i - at) ++ xs) one in
        let x = digit_high (get_or text i 0) g in
        record {
          piece = q;
          digits = rw w (all_both is_digit (part text at (i - at)) (get_or text i 0 ∷ []) r.digits (both g refl));
          value_is = rw (w, value_append n (part text at (i - at)) (get_or text i 0 ∷ []), ← r.value_is, e);
          small = omega arith;
        }

  -- ---- the fraction

  pub fraction_none : (r : Row) → FractionAt text r.end r.value r
  unfolding is_fraction value_from
  fraction_none r = record { piece = piece_none r.end; form = rw (part_none r.end); value_is = rw (part_none r.end) }

  pub fraction_read : (at n : ℕ) (r : Row) → stands text at 46 ≡ true → RowAt text (at + 1) n r → FractionAt text at n r
  unfolding is_fraction is_point
  fraction_read at n r s q =
      let w = first_part at 46 s r.end q.piece in
      record { piece = first_piece at 46 s r.end q.piece; form = rw w q.digits; value_is = rw w q.value_is }

  -- ---- the exponent and the power

  module _ (at first down : ℕ) (d : Row) (f : first ≡ cond (stands text at 45) (at + 1) at) (q : RowAt text first 0 d) where
    pub exponent_read : (s : Bool) (u k : ℕ) → stands text at 45 ≡ s → u ≡ cond s 0 d.value → k ≡ down + cond s d.value 0 → (d.end - first ≡ 0 → ⊥) → d.end - first ≤ 3 → ExponentAt text at down record { end = d.end; up = u; down = k }
    unfolding is_exponent digits
    exponent_read s u k m eu ek some few =
        let p = q.piece in
        let l = piece_length p (omega arith) in
        let r = sign_read at first d.end f p (omega arith) (digits_unsigned (part text first (d.end - first)) q.digits) in
        record {
          piece = sign_piece at first d.end f p;
          form = rw (r.0, l) (both (both (le-leb 1 (d.end - first) (omega arith)) (le-leb (d.end - first) 3 few)) q.digits);
          up_is = rw (r.0, r.1, m, ← q.value_is) eu;
          down_is = rw (r.0, r.1, m, ← q.value_is) ek;
        }

  pub power_none : (at down : ℕ) → PowerAt text at down record { end = at; up = 0; down = down }
  unfolding is_power negative unsigned value_from
  power_none at down = record { piece = piece_none at; form = rw (part_none at); up_is = rw (part_none at); down_is = rw (part_none at) (sym (add-zero down)) }

  pub power_read : (at down : ℕ) → stands text at 101 ≡ true → (r : Power) → ExponentAt text (at + 1) down r → PowerAt text at down r
  unfolding is_power
  power_read at down s r q =
      let w = first_part at 101 s r.end q.piece in
      record { piece = first_piece at 101 s r.end q.piece; form = rw w q.form; up_is = rw w q.up_is; down_is = rw w q.down_is }
