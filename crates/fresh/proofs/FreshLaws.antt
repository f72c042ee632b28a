-- Lent tables beside those of a fresh reading at cut sizes.
use mathlib.Core.Bool.{Bool, true, false, cond, ◌&&◌, and_assoc}
use mathlib.Core.List.{List, [], ◌∷◌, ◌++◌}
use mathlib.Core.Path.{◌≡◌, refl, ap, sym, ◌∙◌}
use Prim.Native.Nat.{ℕ, ◌-◌, ◌*◌, ◌/◌, min}
use native.Mathlib.Omega.{arith}
use lib.Dec.{eqb}
use lib.Ieee.{Float, binary64, to_bits}
use lib.ListN.{drop, length, replicate, take, take-append-drop}
use Rattle.std.specs.Cmp.Lexicographic.{pointwise}
use Rattle.std.specs.List.{IsSplitAt, list_all}
use Rattle.bits.specs.Bits.{same_reals}
use Rattle.laws.proofs.CompareLaws.{ByElement}
use Rattle.laws.specs.Bytes.{Bytes, same}
use Rattle.reader.proofs.ReadsLaws.{refused_as, accepted_as}
use Rattle.reader.specs.Answer.{Reads, read_into}
use Rattle.reader.specs.Answer as reader
use Rattle.scene.proofs.ImageLaws.{filled_more}
use Rattle.scene.specs.HouseRules.{zero_real}
use Rattle.scene.specs.Reading.{Reading}
use Rattle.scene.specs.Record.{entries, filled, flat, real_image, real_table, record_image, records, width}
use Rattle.scene.specs.declared.Mode.{Mode}
use Rattle.sides.proofs.FitLaws.{numbers_fit, reals_fit}
use Rattle.sides.specs.Read.{read}
use Rattle.fresh.specs.Fresh.{Same, Refused, tables_match, fresh_of}

-- ---- a table beside a fresh one that is filled up

module _ {A : Type 0} {alike : A → A → Bool} {same_lists : List A → List A → Bool} (c : ByElement alike same_lists) where
  elements_same : (a b : List A) → pointwise alike a b ≡ same_lists a b
  elements_same [] [] = sym c.neither
  elements_same [] (y ∷ b) = sym (c.second y b)
  elements_same (x ∷ a) [] = sym (c.first x a)
  elements_same (x ∷ a) (y ∷ b) = ap (λ (t : Bool). alike x y && t) (elements_same a b) ∙ sym (c.both x a y b)

  fronts_same : (a b p q : List A) → length a ≡ length b → same_lists (a ++ p) (b ++ q) ≡ (same_lists a b && same_lists p q)
  fronts_same [] [] p q e = sym (ap (λ (t : Bool). t && same_lists p q) c.neither)
  fronts_same [] (y ∷ b) p q e = absurd (omega arith)
  fronts_same (x ∷ a) [] p q e = absurd (omega arith)
  fronts_same (x ∷ a) (y ∷ b) p q e =
      c.both x (a ++ p) y (b ++ q)
      ∙ ap (λ (t : Bool). alike x y && t) (fronts_same a b p q (omega arith))
      ∙ sym (and_assoc (alike x y) (same_lists a b) (same_lists p q))
      ∙ sym (ap (λ (t : Bool). t && same_lists p q) (c.both x a y b))

  rest_same : (xs : List A) (z : A) → same_lists xs (replicate (length xs) z) ≡ list_all (λ x. alike x z) xs
  rest_same [] z = c.neither
  rest_same (x ∷ xs) z = c.both x xs z (replicate (length xs) z) ∙ ap (λ (t : Bool). alike x z && t) (rest_same xs z)

  -- a table split where the fresh one ends
  module _ (z : A) (table front rest fresh : List A) (split : IsSplitAt table (length fresh) front rest) where
    in_two : same_lists table (filled z (length table) fresh) ≡ (same_lists front fresh && list_all (λ x. alike x z) rest)
    in_two =
        let whole : table ≡ front ++ rest = sym (take-append-drop (length fresh) table) ∙ sym (λ i. split.1 i ++ split.2 i) in
        let behind : length table - length fresh ≡ length rest = omega arith in
        ap (λ (k : ℕ). same_lists table (fresh ++ replicate k z)) behind
        ∙ ap (λ (t : List A). same_lists t (fresh ++ replicate (length rest) z)) whole
        ∙ fronts_same front fresh rest (replicate (length rest) z) split.3
        ∙ ap (λ (t : Bool). same_lists front fresh && t) (rest_same rest z)

    pub front_differs : (r : Bool) → r ≡ pointwise alike front fresh → r ≡ false → r ≡ same_lists table (filled z (length table) fresh)
    front_differs r q f = f ∙ sym (in_two ∙ ap (λ (t : Bool). t && list_all (λ x. alike x z) rest) (sym (q ∙ elements_same front fresh) ∙ f))

    pub rest_decides : (t : Bool) → t ≡ pointwise alike front fresh → t ≡ true → (r : Bool) → r ≡ list_all (λ x. alike x z) rest → r ≡ same_lists table (filled z (length table) fresh)
    rest_decides t q f r k = k ∙ sym (in_two ∙ ap (λ (u : Bool). u && list_all (λ x. alike x z) rest) (sym (q ∙ elements_same front fresh) ∙ f))

pub by_number : ByElement eqb same
unfolding same
by_number = record { neither = refl; second = λ y ys. refl; first = λ x xs. refl; both = λ x xs y ys. refl }

pub by_bits : ByElement (λ x y. eqb (to_bits binary64 x) (to_bits binary64 y)) same_reals
unfolding same_reals
by_bits = record { neither = refl; second = λ y ys. refl; first = λ x xs. refl; both = λ x xs y ys. refl }

-- the same for reals, which the code compares by their definition
module _ (table front rest fresh : List Float) (split : IsSplitAt table (length fresh) front rest) where
  pub bits_differ : (r : Bool) → r ≡ same_reals front fresh → r ≡ false → r ≡ same_reals table (filled zero_real (length table) fresh)
  bits_differ r q f = front_differs by_bits zero_real table front rest fresh split r (q ∙ sym (elements_same by_bits front fresh)) f

  pub bits_decide : (t : Bool) → t ≡ same_reals front fresh → t ≡ true → (r : Bool) → r ≡ list_all (λ x. eqb (to_bits binary64 x) 0) rest → r ≡ same_reals table (filled zero_real (length table) fresh)
  unfolding to_bits
  bits_decide t q f r k = rest_decides by_bits zero_real table front rest fresh split t (q ∙ sym (elements_same by_bits front fresh)) f r k

-- fresh tables as long as the lent ones, but no longer than a reading can use
module _ (mode : Mode) (table : List ℕ) (doubles : List Float) (text : Bytes) (xs : List ℕ) (ys : List Float) (f : length xs ≡ min (length table) (1024 * width)) (g : length ys ≡ min (length doubles) 4096) (xs' : List ℕ) (ys' : List Float) where
  abbrev x : Reading
  x = read_into mode text xs ys

  same_reading : x ≡ read_into mode text table doubles
  same_reading =
      let a : min 1024 (length xs / width) ≡ min 1024 (length table / width) = omega arith in
      let b : min 4096 (length ys) ≡ min 4096 (length doubles) = omega arith in
      λ i. read (record { mode = mode; records = a i; reals = b i }) text

  same_numbers : filled 0 (length table) (record_image text (length xs) x) ≡ record_image text (length table) x
  unfolding record_image
  same_numbers = filled_more 0 (length xs) (flat text (records (entries x))) (numbers_fit mode (length xs) (length ys) text x refl) (length table) (omega arith)

  same_doubles : filled zero_real (length doubles) (real_image (length ys) x) ≡ real_image (length doubles) x
  unfolding real_image
  same_doubles = filled_more zero_real (length ys) (real_table (entries x)) (reals_fit mode (length xs) (length ys) text x refl) (length doubles) (omega arith)

  pub tables_refused : (n p : ℕ) → Reads mode text xs ys (reader.Refused n p) xs' ys' → Refused n p ≡ fresh_of text table doubles (read_into mode text table doubles)
  tables_refused n p h = ap (fresh_of text table doubles) (sym (refused_as x n p h.says) ∙ same_reading)

  pub tables_compared : (n k : ℕ) → Reads mode text xs ys (reader.Accepted n k) xs' ys' → (a b t : Bool) → a ≡ same table (filled 0 (length table) xs') → b ≡ same_reals doubles (filled zero_real (length doubles) ys') → (a && b) ≡ t → cond t (Same n) (Refused 22 0) ≡ fresh_of text table doubles (read_into mode text table doubles)
  unfolding tables_match
  tables_compared n k h a b t p q e =
      let c = accepted_as x n k h.says in
      let u : a ≡ same table (record_image text (length table) x) = p ∙ ap (same table) (ap (filled 0 (length table)) h.table ∙ same_numbers) in
      let v : b ≡ same_reals doubles (real_image (length doubles) x) = q ∙ ap (same_reals doubles) (ap (filled zero_real (length doubles)) h.doubles ∙ same_doubles) in
      ap (λ (s : Bool). cond s (Same n) (Refused 22 0)) (sym e ∙ (λ i. u i && v i))
      ∙ (λ i. cond (tables_match text table doubles (c.reads i)) (Same (c.primitives i)) (Refused 22 0))
      ∙ ap (fresh_of text table doubles) (sym c.reads ∙ same_reading)
