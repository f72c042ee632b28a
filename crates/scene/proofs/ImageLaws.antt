-- The lent tables as a reading leaves them: their lengths, their entries, and a record and its name in them.
use mathlib.Core.List.{List, [], ◌∷◌, ◌++◌, append_assoc}
use mathlib.Core.Path.{◌≡◌, refl, ap, sym, ◌∙◌, subst}
use Prim.Native.Nat.{ℕ, suc, ◌+◌, ◌-◌, ◌≤◌, ◌<◌}
use native.Mathlib.Nat.{sub-zero}
use native.Mathlib.Omega.{arith}
use lib.ListN.{length, get_or, replicate, length-append, length-replicate, replicate-append-replicate}
use Rattle.laws.proofs.TableLaws.{any_default, padded}
use Rattle.laws.specs.Bytes.{Bytes, part}
use Rattle.scene.proofs.AcceptLaws.{accept_forth}
use Rattle.scene.proofs.FlatLaws.{flat_length, line_in_lem, record_in_lem}
use Rattle.scene.proofs.PlaceLaws.{AllRead}
use Rattle.scene.proofs.RoomLaws.{fit_forth}
use Rattle.scene.proofs.TellsLaws.{nth_at, name_at, read_tail, reals_length, records_length, statements_length}
use Rattle.scene.specs.HouseRules.{zero_real}
use Rattle.scene.specs.Reading.{Entry, Reading, accepted, newline, read_statements, refused, statements}
use Rattle.scene.specs.Record.{Record, entries, filled, flat, line_at, line_in, name_in, real_image, real_table, reals, record_image, record_in, record_of, records, records_from, settings_for}
use Rattle.scene.specs.declared.Mode.{Mode}

-- ---- a table filled up behind its used entries

module _ {A : Type 0} (z : A) where
  pub filled_over : (n : ℕ) (xs : List A) → n < length xs → n ≡ length (filled z n xs) → ⊥
  filled_over n xs h e = omega (arith, length-append xs (replicate (n - length xs) z))

  module _ (n : ℕ) (xs : List A) (h : length xs ≤ n) where
    pub filled_length : n ≡ length (filled z n xs)
    filled_length = omega (arith, length-append xs (replicate (n - length xs) z), length-replicate (n - length xs) z)

    pub filled_at : (i : ℕ) (d : A) → i < n → get_or (filled z n xs) i d ≡ get_or xs i z
    filled_at i d l = any_default (filled z n xs) i d z (omega (arith, filled_length)) ∙ padded z xs (n - length xs) i

    pub filled_more : (m : ℕ) → n ≤ m → filled z m (filled z n xs) ≡ filled z m xs
    filled_more m l =
        let k : (n - length xs) + (m - length (filled z n xs)) ≡ m - length xs = omega (arith, filled_length) in
        append_assoc xs (replicate (n - length xs) z) (replicate (m - length (filled z n xs)) z)
        ∙ ap {B = List A} (λ (y : List A). xs ++ y) (replicate-append-replicate (n - length xs) (m - length (filled z n xs)) z ∙ ap (λ (j : ℕ). replicate j z) k)

-- ---- the tables that a reading leaves

module _ (mode : Mode) (n k : ℕ) (text : Bytes) where
  -- the entries that it uses fit
  pub used_numbers : (x : Reading) → read_statements (settings_for mode n k) text ≡ x → length (flat text (records (entries x))) ≤ n
  unfolding flat records records_from
  used_numbers (refused m p) e = omega arith
  used_numbers (accepted es) e =
      let f = fit_forth (settings_for mode n k) (statements es) (accept_forth (settings_for mode n k) text es e).2 in
      omega (arith, f.1, flat_length text (records es), records_length [] es, statements_length es)

  pub used_reals : (x : Reading) → read_statements (settings_for mode n k) text ≡ x → length (real_table (entries x)) ≤ k
  unfolding reals statements
  used_reals (refused m p) e = omega arith
  used_reals (accepted es) e =
      let f = fit_forth (settings_for mode n k) (statements es) (accept_forth (settings_for mode n k) text es e).2 in
      omega (arith, f.2, reals_length (statements es))

-- a refused one leaves zeros
pub zero_records : (text : Bytes) (k n p : ℕ) → replicate k 0 ≡ record_image text k (refused n p)
unfolding record_image flat records records_from
zero_records text k n p = ap (λ (j : ℕ). replicate j 0) (sym (sub-zero k))

pub zero_reals : (k n p : ℕ) → replicate k zero_real ≡ real_image k (refused n p)
unfolding real_image reals statements
zero_reals k n p = ap (λ (j : ℕ). replicate j zero_real) (sym (sub-zero k))

-- ---- a record of an entry between others, and its name

module _ (text : Bytes) (es : List Entry) (n : ℕ) (l : List Entry) (e : Entry) (d : List Entry) (q : es ≡ l ++ e ∷ d) where
  pub record_is : record_in (filled 0 n (flat text (records es))) (suc (length d)) ≡ record_of l e d
  record_is = record_in_lem text (records es) n (suc (length d)) ∙ nth_at es l e d (suc (length d)) q refl

  pub line_is : line_in (filled 0 n (flat text (records es))) (suc (length d)) ≡ line_at text e.places.name
  unfolding record_of records
  line_is = line_in_lem text (records es) n (length d) (omega (arith, records_length [] es, ap length q, length-append l (e ∷ d))) ∙ ap (λ (r : Record). line_at text r.name) (nth_at es l e d (suc (length d)) q refl)

  pub name_is : AllRead (text ++ newline) es → name_in text (filled 0 n (flat text (records es))) (suc (length d)) ≡ e.statement.name
  unfolding name_in record_of
  name_is h =
      ap (λ (r : Record). part text r.name r.name_length) record_is
      ∙ name_at text e.places.name e.statement.name (read_tail (text ++ newline) l (e ∷ d) (subst (AllRead (text ++ newline)) q h)).0.name
