-- What a loop over names does at each turn, and what the rows of a table are by number.
use mathlib.Core.Bool.{Bool, true, false, cond, and-false}
use mathlib.Core.List.{List, [], ◌∷◌}
use mathlib.Core.Option.{Option, none, some}
use mathlib.Core.Path.{◌≡◌, refl, ap, sym, ◌∙◌}
use Prim.Native.Nat.{ℕ, zero, suc, ◌+◌, ◌-◌, ◌/◌, ◌≤◌, ◌<◌}
use native.Mathlib.Numerals.{add-one}
use native.Mathlib.Omega.{arith}
use borrow.Author.Tests.{eq-eqb, ne_eqb, eqb-true, eqb-false, leb-true, leb-false, le-leb, lt-leb}
use lib.Dec.{eqb, leb}
use lib.Ieee.{Float}
use lib.ListN.{length}
use Rattle.laws.proofs.BytesLaws.{same_eq}
use Rattle.laws.specs.Bytes.{Bytes, same}
use Rattle.scene.specs.Record.{record_in, name_in, width}
use Rattle.scene.specs.Told.{Told, tells}
use Rattle.keys.proofs.NumberLaws.{found_times, from_above, from_found}
use Rattle.keys.specs.Key.{Key, nth_of, times, key_over, key_at, key_of, from, same_key, found, is_found, lower}
use Rattle.keys.specs.Next.{named_by, lesser, above, least_above}
use Rattle.keys.specs.Rows.{rows_in, scene_rows}
use Rattle.keys.specs.Scan.{better, least_in}

module _ (text : Bytes) (records : List ℕ) where
  -- ---- rows by number

  name_row : (xs : List Float) (n : ℕ) → (tells text xs (record_in records n)).name ≡ name_in text records n
  unfolding tells name_in
  name_row xs n = refl

  pub rows_count : (xs : List Float) (n : ℕ) → length (rows_in text records xs n) ≡ n
  unfolding rows_in
  rows_count xs zero = refl
  rows_count xs (suc n) = ap suc (rows_count xs n)

  from_rows : (xs : List Float) (n count : ℕ) → n ≤ count → from n (rows_in text records xs count) ≡ rows_in text records xs n
  unfolding rows_in from
  from_rows xs n zero h = ap (rows_in text records xs) (let e : 0 ≡ n = omega arith in e)
  from_rows xs n (suc c) h = go (eqb n (suc (length (rows_in text records xs c)))) refl (from_rows xs n c)
    where
      go : (b : Bool) → eqb n (suc (length (rows_in text records xs c))) ≡ b → (n ≤ c → from n (rows_in text records xs c) ≡ rows_in text records xs n) → cond b (rows_in text records xs (suc c)) (from n (rows_in text records xs c)) ≡ rows_in text records xs n
      go true e ih = ap (rows_in text records xs) (let k : suc c ≡ n = omega (arith, eqb-true n (suc (length (rows_in text records xs c))) e, rows_count xs c) in k)
      go false e ih = ih (omega (arith, eqb-false n (suc (length (rows_in text records xs c))) e, rows_count xs c))

  -- a number above the count leads nowhere
  from_within : (xs : List Float) (n count : ℕ) → from n (rows_in text records xs count) ≡ rows_in text records xs (cond (leb n count) n 0)
  unfolding rows_in
  from_within xs n count = go (leb n count) refl
    where
      go : (b : Bool) → leb n count ≡ b → from n (rows_in text records xs count) ≡ rows_in text records xs (cond b n 0)
      go true e = from_rows xs n count (leb-true n count e)
      go false e = from_above (rows_in text records xs count) n (omega (arith, leb-false n count e, rows_count xs count))

  -- ---- how often a name stands

  module _ (w : Bytes) where
    times_suc : (xs : List Float) (k : ℕ) → times w (rows_in text records xs (suc k)) ≡ times w (rows_in text records xs k) + cond (same w (name_in text records (suc k))) 1 0
    unfolding times rows_in tells name_in
    times_suc xs k = go (same w (name_in text records (suc k)))
      where
        go : (b : Bool) → cond b (suc (times w (rows_in text records xs k))) (times w (rows_in text records xs k)) ≡ times w (rows_in text records xs k) + cond b 1 0
        go true = omega arith
        go false = omega arith

    pub times_none : 0 ≡ times w (rows_in text records [] 0)
    unfolding times rows_in
    times_none = refl

    pub times_more : (k seen h : ℕ) → seen ≡ times w (rows_in text records [] k) → h ≡ cond (same w (name_in text records (k + 1))) 1 0 → seen + h ≡ times w (rows_in text records [] (k + 1))
    times_more k seen h p q = (λ i. p i + q i) ∙ rw add-one (sym (times_suc [] k))

    one_most : (b : Bool) → cond b 1 0 ≤ 1
    one_most true = omega arith
    one_most false = omega arith

    pub hit_most : (n h : ℕ) → h ≡ cond (same w (name_in text records n)) 1 0 → h ≤ 1
    hit_most n h e = omega (arith, e, one_most (same w (name_in text records n)))

    pub times_most : (xs : List Float) (n : ℕ) → times w (rows_in text records xs n) ≤ n
    unfolding times rows_in
    times_most xs zero = omega arith
    times_most xs (suc n) = omega (arith, times_suc xs n, times_most xs n, one_most (same w (name_in text records (suc n))))

    -- names do not depend on the reals
    times_reals : (xs ys : List Float) (n : ℕ) → times w (rows_in text records xs n) ≡ times w (rows_in text records ys n)
    unfolding times rows_in
    times_reals xs ys zero = refl
    times_reals xs ys (suc n) = times_suc xs n ∙ ap (λ (k : ℕ). k + cond (same w (name_in text records (suc n))) 1 0) (times_reals xs ys n) ∙ sym (times_suc ys n)

    pub least_reals : (xs ys : List Float) (n : ℕ) → least_above w (rows_in text records xs n) ≡ least_above w (rows_in text records ys n)
    unfolding least_above rows_in tells name_in
    least_reals xs ys zero = refl
    least_reals xs ys (suc n) = ap (λ (o : Option Bytes). lesser o (above w (name_in text records (suc n)))) (least_reals xs ys n)

  -- ---- keys

  key_reals : (xs ys : List Float) (n : ℕ) → key_at (rows_in text records xs n) ≡ key_at (rows_in text records ys n)
  unfolding rows_in tells name_in
  key_reals xs ys zero = refl
  key_reals xs ys (suc n) = λ i. nth_of (name_in text records (suc n)) (suc (times_reals (name_in text records (suc n)) xs ys n i))

  pub key_bare : (xs : List Float) (n : ℕ) → key_of (scene_rows text records xs) n ≡ key_of (scene_rows text records []) n
  key_bare xs n =
      let count = length records / width in
      ap key_at (from_within xs n count) ∙ key_reals xs [] (cond (leb n count) n 0) ∙ sym (ap key_at (from_within [] n count))

  pub found_rows : (k : Key) (xs ys : List Float) (n : ℕ) → found k (rows_in text records xs n) ≡ rows_in text records xs (length (found k (rows_in text records ys n)))
  unfolding found rows_in
  found_rows k xs ys zero = refl
  found_rows k xs ys (suc n) = go (same_key k (key_at (rows_in text records xs (suc n)))) (same_key k (key_at (rows_in text records ys (suc n)))) (ap (same_key k) (key_reals xs ys (suc n))) (found_rows k xs ys n)
    where
      go : (b c : Bool) → b ≡ c → found k (rows_in text records xs n) ≡ rows_in text records xs (length (found k (rows_in text records ys n))) → cond b (rows_in text records xs (suc n)) (found k (rows_in text records xs n)) ≡ rows_in text records xs (length (cond c (rows_in text records ys (suc n)) (found k (rows_in text records ys n))))
      go true true e ih = ap (rows_in text records xs) (sym (rows_count ys (suc n)))
      go true false e ih = let z : ◌≡◌ {A = ℕ} 0 1 = cc in absurd (omega arith)
      go false true e ih = let z : ◌≡◌ {A = ℕ} 0 1 = cc in absurd (omega arith)
      go false false e ih = ih

  key_some : (n : ℕ) → (n ≡ 0 → ⊥) → key_at (rows_in text records [] n) ≡ nth_of (name_in text records n) (times (name_in text records n) (rows_in text records [] (n - 1)) + 1)
  unfolding rows_in tells name_in
  key_some zero h = absurd (h refl)
  key_some (suc n) h =
      let e : n ≡ suc n - 1 = omega arith in
      let g : suc (times (name_in text records (suc n)) (rows_in text records [] n)) ≡ times (name_in text records (suc n)) (rows_in text records [] n) + 1 = omega arith in
      ap (nth_of (name_in text records (suc n))) (g ∙ ap (λ (m : ℕ). times (name_in text records (suc n)) (rows_in text records [] m) + 1) e)

  -- the key of a number by what it leads to
  module _ (n k : ℕ) (e : k ≡ cond (leb n (length records / width)) n 0) where
    key_within : key_at (rows_in text records [] k) ≡ key_of (scene_rows text records []) n
    key_within = ap (λ (m : ℕ). key_at (rows_in text records [] m)) e ∙ sym (ap key_at (from_within [] n (length records / width)))

    pub key_none : k ≡ 0 → key_of (scene_rows text records []) n ≡ nth_of [] 0
    unfolding rows_in
    key_none z = sym key_within ∙ ap (λ (m : ℕ). key_at (rows_in text records [] m)) z

    pub key_name : (k ≡ 0 → ⊥) → name_in text records k ≡ (key_of (scene_rows text records []) n).name
    key_name h = sym (ap (λ (j : Key). j.name) (sym key_within ∙ key_some k h))

    pub key_count : (t : ℕ) (v : Bytes) → (k ≡ 0 → ⊥) → v ≡ name_in text records k → t ≡ times v (rows_in text records [] (k - 1)) → t + 1 ≡ (key_of (scene_rows text records []) n).nth
    key_count t v h d q = ap (λ (j : ℕ). j + 1) (q ∙ ap (λ (u : Bytes). times u (rows_in text records [] (k - 1))) d) ∙ sym (ap (λ (j : Key). j.nth) (sym key_within ∙ key_some k h))

  -- ---- the one that has so many of its name above it

  module _ (w : Bytes) (count up : ℕ) where
    pub number_hit : (k seen h : ℕ) → k < count → seen ≡ times w (rows_in text records [] k) → seen ≤ up → h ≡ cond (same w (name_in text records (k + 1))) 1 0 → up < seen + h → k + 1 ≡ length (found (nth_of w (suc up)) (rows_in text records [] count))
    unfolding rows_in
    number_hit k seen h l p m q u = go (same w (name_in text records (suc k))) refl (q ∙ rw add-one)
      where
        row : Told
        row = tells text [] (record_in records (suc k))

        go : (b : Bool) → same w (name_in text records (suc k)) ≡ b → h ≡ cond b 1 0 → k + 1 ≡ length (found (nth_of w (suc up)) (rows_in text records [] count))
        go true e g =
            let n : row.name ≡ w = name_row [] (suc k) ∙ sym (same_eq w (name_in text records (suc k)) e) in
            let t : times w (rows_in text records [] k) ≡ up = omega arith in
            let j : key_over row (rows_in text records [] k) ≡ nth_of w (suc up) = (λ i. nth_of (n i) (suc (times (n i) (rows_in text records [] k)))) ∙ ap (λ (x : ℕ). nth_of w (suc x)) t in
            let f : found (nth_of w (suc up)) (rows_in text records [] count) ≡ row ∷ rows_in text records [] k = ap (λ (x : Key). found x (rows_in text records [] count)) (sym j) ∙ from_found (suc k) (rows_in text records [] count) row (rows_in text records [] k) (from_rows [] (suc k) count l) in
            sym (ap length f ∙ ap suc (rows_count [] k) ∙ (let z : suc k ≡ k + 1 = omega arith in z))
        go false e g = absurd (omega arith)

    pub number_none : (k seen : ℕ) → count ≤ k → k ≤ count → seen ≡ times w (rows_in text records [] k) → seen ≤ up → 0 ≡ length (found (nth_of w (suc up)) (rows_in text records [] count))
    number_none k seen l m p u =
        let q : times w (rows_in text records [] k) ≡ times w (rows_in text records [] count) = ap (λ (n : ℕ). times w (rows_in text records [] n)) (let e : k ≡ count = omega arith in e) in
        go (found (nth_of w (suc up)) (rows_in text records [] count)) (found_times (nth_of w (suc up)) (rows_in text records [] count) ∙ rw (lt-leb (suc up) (times w (rows_in text records [] count)) (omega arith)) (and-false (leb 1 (suc up))))
      where
        go : (d : List Told) → is_found d ≡ false → 0 ≡ length d
        go [] e = refl
        go (t ∷ d) e = let z : ◌≡◌ {A = ℕ} 0 1 = cc in absurd (omega arith)

  -- ---- the least name above another

  module _ (w : Bytes) where
    pub least_start : 0 ≡ least_in text records w 0
    unfolding least_in
    least_start = refl

    pub least_step : (k best r : ℕ) → best ≡ least_in text records w k → r ≡ better text records w best (k + 1) → r ≡ least_in text records w (k + 1)
    unfolding least_in
    least_step k best r p q = q ∙ (λ i. better text records w (p i) (add-one k i)) ∙ ap (least_in text records w) (sym (add-one k))

    -- the better of two has the lesser name
    better_name : (best k : ℕ) → named_by text records (better text records w best (suc k)) ≡ lesser (named_by text records best) (above w (name_in text records (suc k)))
    unfolding better
    better_name best k = go best (lower w (name_in text records (suc k)))
      where
        pick : (m : ℕ) (c : Bool) → named_by text records (cond c (suc k) (suc m)) ≡ cond c (some (name_in text records (suc k))) (some (name_in text records (suc m)))
        pick m true = refl
        pick m false = refl

        go : (m : ℕ) (b : Bool) → named_by text records (cond b (cond (eqb m 0) (suc k) (cond (lower (name_in text records (suc k)) (name_in text records m)) (suc k) m)) m) ≡ lesser (named_by text records m) (cond b (some (name_in text records (suc k))) none)
        go zero true = refl
        go zero false = refl
        go (suc m) true = rw (ne_eqb (suc m) 0 (λ e. omega arith)) (pick m (lower (name_in text records (suc k)) (name_in text records (suc m))))
        go (suc m) false = refl

    least_rows : (k : ℕ) → named_by text records (least_in text records w k) ≡ least_above w (rows_in text records [] k)
    unfolding least_in least_above rows_in tells name_in
    least_rows zero = refl
    least_rows (suc k) = better_name (least_in text records w k) k ∙ ap (λ (o : Option Bytes). lesser o (above w (name_in text records (suc k)))) (least_rows k)

    -- the number found has the least name above w
    pub least_name : (r : ℕ) → r ≡ least_in text records w (length records / width) → named_by text records r ≡ least_above w (scene_rows text records [])
    least_name r e = ap (named_by text records) e ∙ least_rows (length records / width)

  -- the better of two, by what each test came to
  module _ (w v : Bytes) (best n : ℕ) (e : v ≡ name_in text records n) (p : Bool) (t : p ≡ lower w v) where
    above_is : lower w (name_in text records n) ≡ p
    above_is = ap (lower w) (sym e) ∙ sym t

    pub better_not : p ≡ false → best ≡ better text records w best n
    unfolding better
    better_not f = rw (above_is ∙ f)

    pub better_first : p ≡ true → best ≡ 0 → n ≡ better text records w best n
    unfolding better
    better_first f z = rw (above_is ∙ f, eq-eqb best 0 z)

    module _ (f : p ≡ true) (z : best ≡ 0 → ⊥) (u : Bytes) (d : u ≡ name_in text records best) (q : Bool) (s : q ≡ lower v u) where
      less_is : lower (name_in text records n) (name_in text records best) ≡ q
      less_is = (λ i. lower (sym e i) (sym d i)) ∙ sym s

      pub better_lower : q ≡ true → n ≡ better text records w best n
      unfolding better
      better_lower g = rw (above_is ∙ f, ne_eqb best 0 z, less_is ∙ g)

      pub better_kept : q ≡ false → best ≡ better text records w best n
      unfolding better
      better_kept g = rw (above_is ∙ f, ne_eqb best 0 z, less_is ∙ g)

  -- ---- what the code's values come to

  pub count_most : (n t : ℕ) (v : Bytes) → t ≡ times v (rows_in text records [] (n - 1)) → t ≤ n - 1
  count_most n t v q = omega (arith, q, times_most v [] (n - 1))

module _ (w v u : Bytes) (r : Bool) (t : r ≡ same w v) (e : v ≡ u) where
  hit_is : same w u ≡ r
  hit_is = ap (same w) (sym e) ∙ sym t

  pub hit_yes : r ≡ true → ◌≡◌ {A = ℕ} 1 (cond (same w u) 1 0)
  hit_yes f = rw (hit_is ∙ f)

  pub hit_no : r ≡ false → ◌≡◌ {A = ℕ} 0 (cond (same w u) 1 0)
  hit_no f = rw (hit_is ∙ f)

pub within_low : (n count : ℕ) → n ≤ count → n ≡ cond (leb n count) n 0
within_low n count h = rw (le-leb n count h)

pub within_high : (n count : ℕ) → count < n → 0 ≡ cond (leb n count) n 0
within_high n count h = rw (lt-leb n count h)

-- two keys by their counts and names
module _ (k j : Key) (x y : ℕ) (p : x ≡ k.nth) (q : y ≡ j.nth) where
  pub keys_apart : (x ≡ y → ⊥) → false ≡ same_key k j
  keys_apart h = rw (ne_eqb k.nth j.nth (λ e. h (p ∙ e ∙ sym q)))

  pub keys_names : x ≡ y → (v u : Bytes) (s : Bool) → v ≡ k.name → u ≡ j.name → s ≡ same v u → s ≡ same_key k j
  keys_names h v u s e f g = g ∙ (λ i. same (e i) (f i)) ∙ rw (eq-eqb k.nth j.nth (sym p ∙ h ∙ q))
