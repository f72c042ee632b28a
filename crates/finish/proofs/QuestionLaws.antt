-- Laws of the name call: one for each answer.
use mathlib.Core.Bool.{Bool, true, false, cond, ◌&&◌, false≢true}
use mathlib.Core.List.{List, []}
use mathlib.Core.Path.{◌≡◌, refl, sym, ap, ◌∙◌}
use Prim.Native.Nat.{ℕ, ◌+◌, ◌≤◌, ◌<◌}
use native.Mathlib.Omega.{arith}
use borrow.Author.Tests.{le-leb, lt-leb, leb-true, eq-eqb, ne_eqb}
use lib.Dec.{eqb, leb}
use lib.ListN.{length, drop, length-take, length-drop}
use Rattle.laws.proofs.BoolLaws.{and_left, and_right}
use Rattle.laws.specs.Bytes.{Bytes, part}
use Rattle.finish.specs.Question.{shown_name, name_refusal, name_test}
use Rattle.scene.specs.Record.{field_in, name_in, record_in}
use Rattle.table.specs.Question.{number_refusal}

-- ---- whether a name can be shown

module _ (text : Bytes) (place len : ℕ) where
  pub name_empty : len ≡ 0 → 18 ≡ name_test text place len
  unfolding name_test
  name_empty e = rw e

  pub name_outside : 0 < len → length text < place + len → 18 ≡ name_test text place len
  unfolding name_test
  name_outside z o = rw (le-leb 1 len z, lt-leb (place + len) (length text) o)

  pub name_inside : 0 < len → place + len ≤ length text → 0 ≡ name_test text place len
  unfolding name_test
  name_inside z o = rw (le-leb 1 len z, le-leb (place + len) (length text) o)

  inside_of : name_test text place len ≡ 0 → (0 < len) × (place + len ≤ length text)
  unfolding name_test
  inside_of e = go (leb 1 len && leb (place + len) (length text)) refl e
    where
      go : (t : Bool) → (leb 1 len && leb (place + len) (length text)) ≡ t → ◌≡◌ {A = ℕ} (cond t 0 18) 0 → (0 < len) × (place + len ≤ length text)
      go true h q = (leb-true 1 len (and_left (leb 1 len) (leb (place + len) (length text)) h), leb-true (place + len) (length text) (and_right (leb 1 len) (leb (place + len) (length text)) h))
      go false h q = absurd (omega (arith, q))

module _ (text : Bytes) (table : List ℕ) (count n : ℕ) where
  pub refusal_first : (number_refusal table count n ≡ 0 → ⊥) → number_refusal table count n ≡ name_refusal text table count n
  unfolding name_refusal
  refusal_first h = rw (ne_eqb (number_refusal table count n) 0 h)

  pub refusal_test : (place len : ℕ) → number_refusal table count n ≡ 0 → place ≡ field_in table n 3 → len ≡ field_in table n 4 → name_test text place len ≡ name_refusal text table count n
  unfolding name_refusal field_in record_in
  refusal_test place len h p l = rw (eq-eqb (number_refusal table count n) 0 h, p, l)

  -- ---- the name

  pub name_shown : name_refusal text table count n ≡ 0 → name_in text table n ≡ shown_name text table count n
  unfolding shown_name
  name_shown h = rw (eq-eqb (name_refusal text table count n) 0 h)

  -- a refused name is an empty part
  pub refused_empty : (name_refusal text table count n ≡ 0 → ⊥) → shown_name text table count n ≡ []
  unfolding shown_name
  refused_empty h = rw (ne_eqb (name_refusal text table count n) 0 h)

  test_of : name_refusal text table count n ≡ 0 → name_test text (record_in table n).name (record_in table n).name_length ≡ 0
  unfolding name_refusal
  test_of e = go (eqb (number_refusal table count n) 0) refl e
    where
      go : (t : Bool) → eqb (number_refusal table count n) 0 ≡ t → cond t (name_test text (record_in table n).name (record_in table n).name_length) (number_refusal table count n) ≡ 0 → name_test text (record_in table n).name (record_in table n).name_length ≡ 0
      go true h q = q
      go false h q = absurd (false≢true (sym h ∙ eq-eqb (number_refusal table count n) 0 q))

  -- a name that is not refused is not empty
  pub shown_not_empty : name_refusal text table count n ≡ 0 → length (shown_name text table count n) ≡ 0 → ⊥
  unfolding name_in
  shown_not_empty e q =
      let i = inside_of text (record_in table n).name (record_in table n).name_length (test_of e) in
      let s : name_in text table n ≡ shown_name text table count n = name_shown e in
      let l : length (part text (record_in table n).name (record_in table n).name_length) ≡ 0 = ap length s ∙ q in
      omega (arith, l, i.0, i.1, length-take (record_in table n).name_length (drop (record_in table n).name text), length-drop (record_in table n).name text)
