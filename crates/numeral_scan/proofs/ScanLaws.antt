-- The pieces that a scan reads join to a word that is a numeral of their value.
use mathlib.Core.Bool.{Bool, true, cond}
use mathlib.Core.List.{◌++◌}
use mathlib.Core.Logic.{⊎_elim}
use mathlib.Core.Path.{◌≡◌, sym, ap, ◌∙◌}
use Prim.Native.Nat.{ℕ, ◌+◌, ◌-◌, ◌≤◌, ◌<◌}
use native.Mathlib.Nat.{le_trans, lt_of_le_of_lt}
use native.Mathlib.Omega.{arith}
use lib.Ieee.{Float}
use lib.ListN.{length, drop, get_or, length-drop}
use Rattle.laws.proofs.NatLaws.{le_or_lt}
use Rattle.laws.specs.Bytes.{Bytes, part}
use Rattle.laws.specs.Runs.{all}
use Rattle.lexer.specs.Class.{is_good}
use Rattle.lexer.specs.Word.{ends_word}
use Rattle.numeral.specs.Numeral.{number_of, value}
use Rattle.numeral_parts.specs.Digits.{value_from, value_of}
use Rattle.numeral_parts.specs.Parts.{is_sign, negative, unsigned}
use Rattle.numeral_scan.proofs.PieceLaws.{part_join, piece_join, piece_length, piece_none, piece_stays, piece_within, sign_piece, sign_read}
use Rattle.numeral_scan.proofs.ShapeLaws.{Shape, shape_good, shape_numeral, shape_unsigned, signed_good}
use Rattle.numeral_scan.specs.Pieces.{FractionAt, Piece, PowerAt, RowAt, down_by, stands}
use Rattle.numeral_scan.specs.Scan.{ReadAt}
use Rattle.numeral_scan.specs.declared.Power.{Power}
use Rattle.numeral_scan.specs.declared.Row.{Row}

-- a digit before the point or behind it goes some way
some_way : (first point end last behind : ℕ) → first ≤ point → point ≤ end → end ≤ last → behind ≡ end - point - 1 → (point - first + behind ≡ 0 → ⊥) → first < last
some_way first point end last behind p q r n h = omega arith

some_of : {x y m n : ℕ} → x ≡ m → y ≡ n → (m + n ≡ 0 → ⊥) → 0 < x + y
some_of p q h = omega arith

module _
    (text : Bytes) (place first behind : ℕ) (whole number : Row) (p : Power) (f : first ≡ cond (stands text place 45) (place + 1) place)
    (a : RowAt text first 0 whole) (b : FractionAt text whole.end whole.value number)
    (n : behind ≡ number.end - whole.end - 1) (some : whole.end - first + behind ≡ 0 → ⊥) (q : PowerAt text number.end behind p)
  where
    abbrev A : Bytes
    A = part text first (whole.end - first)

    abbrev F : Bytes
    F = part text whole.end (number.end - whole.end)

    abbrev E : Bytes
    E = part text number.end (p.end - number.end)

    abbrev w : Bytes
    w = part text place (p.end - place)

    -- a text with a digit there goes on as far
    inside : number.end ≤ length text
    inside =
        ⊎_elim (λ h. piece_within text b.piece (piece_within text a.piece h))
        (λ h. let k = piece_stays text a.piece h in let l = piece_stays text b.piece (omega arith) in absurd (some (omega arith)))
        (le_or_lt first (length text))

    after_length : length (drop 1 F) ≡ behind
    after_length = length-drop 1 F ∙ ap (λ (k : ℕ). k - 1) (piece_length text b.piece inside) ∙ sym n

    shape : Shape A F E
    shape =
        let most : whole.end ≤ length text = le_trans b.piece.forward inside in
        record { whole = a.digits; fraction = b.form; power = q.form; some = some_of (piece_length text a.piece most) after_length some }

    body_piece : Piece text first p.end
    body_piece = piece_join text (piece_join text a.piece b.piece) q.piece

    body_is : part text first (p.end - first) ≡ (A ++ F) ++ E
    body_is =
        part_join text first number.end p.end (piece_join text a.piece b.piece).forward q.piece.forward
        ∙ ap (λ (xs : Bytes). xs ++ E) (part_join text first whole.end number.end a.piece.forward b.piece.forward)

    last_inside : p.end ≤ length text
    last_inside = piece_within text q.piece inside

    ahead : first < p.end
    ahead = some_way first whole.end number.end p.end behind a.piece.forward b.piece.forward q.piece.forward n some

    read : (unsigned w ≡ part text first (p.end - first)) × (negative w ≡ stands text place 45)
    read =
        sign_read text place first p.end f body_piece ahead (ap (λ (xs : Bytes). is_sign (get_or xs 0 0)) body_is ∙ shape_unsigned A F E shape)

    module _ (e : ends_word text p.end ≡ true) (s : Bool) (m : s ≡ stands text place 45) (x : Float) (v : value x ≡ number_of s number.value p.up p.down) where
      pub numeral_read : ReadAt text place record { end = p.end; value = x }
      numeral_read =
          let u : unsigned w ≡ (A ++ F) ++ E = read.0 ∙ body_is in
          let c : number.value ≡ value_from (value_of A) (drop 1 F) = b.value_is ∙ ap (λ (k : ℕ). value_from k (drop 1 F)) a.value_is in
          let d : p.down ≡ length (drop 1 F) + down_by (drop 1 E) = q.down_is ∙ ap (λ (k : ℕ). k + down_by (drop 1 E)) (sym after_length) in
          record {
            some_bytes = lt_of_le_of_lt (sign_piece text place first first f (piece_none text first)).forward ahead;
            within = last_inside;
            good_bytes = signed_good w (ap (all is_good) u ∙ shape_good A F E shape);
            ended = e;
            value_is = shape_numeral A F E shape w u ∙ sym (λ i. number_of ((m ∙ sym read.1) i) (c i) (q.up_is i) (d i)) ∙ sym v;
          }
