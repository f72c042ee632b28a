-- What a text and its tables say of each primitive is what its statements say, whatever the sizes of the tables lent.
use mathlib.Core.Bool.{Bool, true, false, cond}
use mathlib.Core.List.{List, [], ◌∷◌, ◌++◌, append-nil}
use mathlib.Core.Path.{◌≡◌, refl, ap, sym, ◌∙◌, subst}
use Prim.Native.Nat.{ℕ, zero, suc, ◌-◌, ◌*◌, ◌/◌, ◌<◌, ◌≤◌}
use native.Mathlib.Omega.{arith}
use borrow.Author.Tests.{eqb-true}
use lib.Dec.{eqb}
use lib.Ieee.{Float}
use lib.ListN.{length, take, drop, replicate, length-take, length-drop}
use lib.Seq.{take-append-le, take-append_seam, drop-append-le}
use Rattle.laws.specs.Bytes.{Bytes, part}
use Rattle.scene.proofs.FlatLaws.{flat_length, record_in_lem}
use Rattle.scene.proofs.TellsLaws.{At, at, nth_at, records_length, tells_told, read_read}
use Rattle.scene.specs.HouseRules.{zero_real}
use Rattle.scene.specs.Reading.{Reading, Entry, statements, accepted, read_statements}
use Rattle.scene.specs.Record.{Record, records, nth, real_table, record_in, width, flat, record_image, real_image}
use Rattle.scene.specs.declared.Settings.{Settings}
use Rattle.scene.specs.Told.{Told, tells, told, words_from}
use Rattle.keys.specs.Key.{from}
use Rattle.keys.specs.Rows.{rows_in, scene_rows, rows_to, rows_of}

-- reals that a list has are not changed by what stands behind it
padded : (k i : ℕ) (xs ys : List Float) → length (take k (drop i xs)) ≡ k → take k (drop i (xs ++ ys)) ≡ take k (drop i xs)
padded zero i xs ys h = refl
padded (suc k) i xs ys h =
    let a = length-take (suc k) (drop i xs) in
    let b = length-drop i xs in
    ap (take (suc k)) (drop-append-le i xs ys (omega arith)) ∙ take-append-le (suc k) (drop i xs) ys (omega arith)

tells_padded : (text : Bytes) (xs ys : List Float) (r : Record) → length (take r.reals (drop r.real xs)) ≡ r.reals → tells text (xs ++ ys) r ≡ tells text xs r
unfolding tells
tells_padded text xs ys r h = λ i. record {
  type = r.type;
  modifier = r.modifier;
  target = r.target;
  name = part text r.name r.name_length;
  string_count = r.strings;
  strings = words_from text r.string r.strings;
  real_count = r.reals;
  reals = padded r.reals r.real xs ys h i;
  next = r.next;
}

module _ (r : Settings) (text : Bytes) (es : List Entry) (reads : read_statements r text ≡ accepted es) where
  -- a row of an accepted text is what its statement says
  pub row_told : (k : ℕ) (a : At es k) → tells text (real_table es) (nth (records es) (suc k)) ≡ told (statements a.l) a.e.statement (statements a.x)
  row_told k a = ap (tells text (real_table es)) (nth_at es a.l a.e a.x (suc k) a.split (ap suc (sym a.number))) ∙ tells_told text es a.l a.e a.x (read_read r text es reads) a.split

  -- it has as many reals as it counts
  row_full : (k : ℕ) → k < length es → length (take (nth (records es) (suc k)).reals (drop (nth (records es) (suc k)).real (real_table es))) ≡ (nth (records es) (suc k)).reals
  unfolding tells told
  row_full k h = subst (λ (t : Told). length t.reals ≡ t.real_count) (sym (row_told k (at es k h))) refl

  module _ (lent doubles : ℕ) where
    -- what the tables say of one, whatever stands behind their used entries
    pub row_read : (n : ℕ) → n < length es → tells text (real_image doubles (accepted es)) (record_in (record_image text lent (accepted es)) (suc n)) ≡ tells text (real_table es) (nth (records es) (suc n))
    unfolding record_image real_image
    row_read n h = ap (tells text (real_image doubles (accepted es))) (record_in_lem text (records es) lent (suc n)) ∙ tells_padded text (real_table es) (replicate (doubles - length (real_table es)) zero_real) (nth (records es) (suc n)) (row_full n h)

    rows_to_lem : (n : ℕ) → n ≤ length es → rows_in text (record_image text lent (accepted es)) (real_image doubles (accepted es)) n ≡ rows_to text es n
    unfolding rows_in rows_to
    rows_to_lem zero h = refl
    rows_to_lem (suc n) h = λ i. row_read n h i ∷ rows_to_lem n (omega arith) i

    -- the rows of a text read into tables of any sizes
    pub rows_read : rows_in text (record_image text lent (read_statements r text)) (real_image doubles (read_statements r text)) (length es) ≡ rows_of text es
    rows_read = ap (λ (x : Reading). rows_in text (record_image text lent x) (real_image doubles x) (length es)) reads ∙ rows_to_lem (length es) (omega arith)

  -- of a table, what stands up to the last record
  lent_records : (lent : ℕ) → length es * width ≡ length (flat text (records es)) → take (length es * width) (record_image text lent (read_statements r text)) ≡ flat text (records es)
  unfolding record_image
  lent_records lent e = ap (λ (x : Reading). take (length es * width) (record_image text lent x)) reads ∙ ap (λ (n : ℕ). take n (flat text (records es) ++ replicate (lent - length (flat text (records es))) 0)) e ∙ take-append_seam (flat text (records es)) (replicate (lent - length (flat text (records es))) 0)

  all_records : length es * width ≡ length (flat text (records es)) → record_image text (length es * width) (read_statements r text) ≡ flat text (records es)
  unfolding record_image
  all_records e = ap (record_image text (length es * width)) reads ∙ ap (λ (n : ℕ). flat text (records es) ++ replicate n 0) (let z : length es * width - length (flat text (records es)) ≡ 0 = omega arith in z) ∙ append-nil (flat text (records es))

  -- the rows of a text read into tables of any sizes, where that of the records is lent up to the last one
  pub scene_read : (lent doubles : ℕ) → scene_rows text (take (length es * width) (record_image text lent (read_statements r text))) (real_image doubles (read_statements r text)) ≡ rows_of text es
  unfolding records
  scene_read lent doubles =
      let e : length es * width ≡ length (flat text (records es)) = omega (arith, flat_length text (records es), records_length [] es) in
      let c : length (flat text (records es)) / width ≡ length es = omega arith in
      (λ i. scene_rows text (lent_records lent e i) (real_image doubles (read_statements r text)))
      ∙ (λ i. rows_in text (sym (all_records e) i) (real_image doubles (read_statements r text)) (c i))
      ∙ rows_read (length es * width) doubles

-- ---- a row by its number

rows_length : (text : Bytes) (es : List Entry) (n : ℕ) → length (rows_to text es n) ≡ n
unfolding rows_to
rows_length text es zero = refl
rows_length text es (suc n) = ap suc (rows_length text es n)

-- the row that number n leads to among the first m
pub record Row (text : Bytes) (es : List Entry) (m n : ℕ) (t : Told) : Type 0 where
  pub least : 0 < n
  pub most : n ≤ m
  pub tells≡ : t ≡ tells text (real_table es) (nth (records es) n)

pub row : (text : Bytes) (es : List Entry) (m n : ℕ) (t : Told) (x : List Told) → from n (rows_to text es m) ≡ t ∷ x → Row text es m n t
unfolding rows_to from
row text es zero n t x e = let z : ◌≡◌ {A = ℕ} 0 1 = cc in absurd (omega arith)
row text es (suc m) n t x e = go (eqb n (suc (length (rows_to text es m)))) refl e (row text es m n t x)
  where
    go : (b : Bool) → eqb n (suc (length (rows_to text es m))) ≡ b → cond b (rows_to text es (suc m)) (from n (rows_to text es m)) ≡ t ∷ x → (from n (rows_to text es m) ≡ t ∷ x → Row text es m n t) → Row text es (suc m) n t
    go true p q ih =
        let k : n ≡ suc m = eqb-true n (suc (length (rows_to text es m))) p ∙ ap suc (rows_length text es m) in
        let s : t ≡ tells text (real_table es) (nth (records es) (suc m)) = cc in
        record { least = omega arith; most = omega arith; tells≡ = s ∙ ap (λ k. tells text (real_table es) (nth (records es) k)) (sym k) }
    go false p q ih = let h = ih q in record { least = h.least; most = omega (arith, h.most); tells≡ = h.tells≡ }
