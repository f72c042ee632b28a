-- One turn of the hash and of the search, and where each ends.
use mathlib.Core.Bool.{Bool, true, false, cond}
use mathlib.Core.List.{List, [], ◌∷◌, ◌++◌}
use mathlib.Core.Path.{◌≡◌, refl, ap, subst, sym, ◌∙◌}
use Prim.Native.Nat.{ℕ, zero, suc, ◌+◌, ◌-◌, ◌*◌, ◌/◌, ◌%◌, ◌≤◌, ◌<◌}
use native.Mathlib.Nat.{add-mul-mod_self_left, mul-add, mul_assoc, mul_left_comm}
use native.Mathlib.Numerals.{add-one}
use native.Mathlib.Omega.{arith}
use borrow.Author.Tests.{eq-eqb, ne_eqb, le-leb, lt-leb}
use lib.Dec.{lit<}
use lib.ListN.{length, take, drop, get_or, set, replicate, drop_of_length-le}
use lib.Seq.{drop-cons}
use Rattle.laws.proofs.BoolLaws.{cond_elim}
use Rattle.laws.proofs.ListLaws.{part_length}
use Rattle.laws.proofs.TableLaws.{padded}
use Rattle.laws.specs.Bytes.{Bytes, part, same}
use Rattle.lexer.proofs.SameLaws.{same_length}
use Rattle.index.specs.Index.{hash, hash_from, looked_at, passed, place, searched, seek, stops}
use Rattle.index.specs.Searches.{Hashed, found_plain, sought}
use Rattle.index.specs.declared.Found.{Found}
use Rattle.scene.specs.Record.{name_in, width}
use Rattle.table.proofs.QuestionLaws.{field_at, length_field, name_field}

pub hash_step : (h : ℕ) (w : Bytes) (i : ℕ) → i < length w → hash_from h (drop i w) ≡ hash_from ((31 * h + get_or w i 0) % 2048) (drop (i + 1) w)
unfolding hash_from
hash_step h w i l = rw (add-one, drop-cons w i 0 l)

-- a step by the factor k taken twice is one by its square
twice : (k h p q : ℕ) → (k * ((k * h + p) % 2048) + q) % 2048 ≡ (k * k * h + (k * p + q)) % 2048
twice k h p q =
    let x : ℕ = k * h + p in
    let s : x ≡ x % 2048 + 2048 * (x / 2048) = omega arith in
    let m : k * x ≡ k * (x % 2048) + 2048 * (k * (x / 2048)) = ap (λ (n : ℕ). k * n) s ∙ mul-add k (x % 2048) (2048 * (x / 2048)) ∙ ap (λ (n : ℕ). k * (x % 2048) + n) (mul_left_comm k 2048 (x / 2048)) in
    let d : k * x ≡ k * k * h + k * p = mul-add k (k * h) p ∙ ap (λ (n : ℕ). n + k * p) (sym (mul_assoc k k h)) in
    let e : k * (x % 2048) + q + 2048 * (k * (x / 2048)) ≡ k * k * h + (k * p + q) = omega (arith, m, d) in
    sym (add-mul-mod_self_left (k * (x % 2048) + q) 2048 (k * (x / 2048))) ∙ ap (λ (n : ℕ). n % 2048) e

-- what four bytes add to a hash
abbrev pub added : ℕ → ℕ → ℕ → ℕ → ℕ
added a b c d = 29791 * a + 961 * b + 31 * c + d

-- four steps are one
four_steps : (h a b c d : ℕ) → (31 * ((31 * ((31 * ((31 * h + a) % 2048) + b) % 2048) + c) % 2048) + d) % 2048 ≡ (923521 * h + added a b c d) % 2048
four_steps h a b c d =
    let k : ℕ = (31 * ((31 * h + a) % 2048) + b) % 2048 in
    twice 31 k c d
    ∙ ap (λ (n : ℕ). (961 * n + (31 * c + d)) % 2048) (twice 31 h a b)
    ∙ twice 961 h (31 * a + b) (31 * c + d)
    ∙ (let q : 961 * (31 * a + b) + (31 * c + d) ≡ added a b c d = omega arith in ap (λ (n : ℕ). (923521 * h + n) % 2048) q)

module _ (w : Bytes) where
  pub hashed_none : Hashed w 0 0
  hashed_none = record { small = omega arith; rest = refl }

  -- p is what the four bytes from place i on add
  pub hashed_four : (h i p g : ℕ) → i + 4 ≤ length w → Hashed w h i → p ≡ added (get_or w i 0) (get_or w (i + 1) 0) (get_or w (i + 2) 0) (get_or w (i + 3) 0) → g ≡ (923521 * h + p) % 2048 → Hashed w g (i + 4)
  hashed_four h i p g l H f e =
      let n1 : i + 1 + 1 ≡ i + 2 = omega arith in
      let n2 : i + 2 + 1 ≡ i + 3 = omega arith in
      let n3 : i + 3 + 1 ≡ i + 4 = omega arith in
      let h1 : ℕ = (31 * h + get_or w i 0) % 2048 in
      let h2 : ℕ = (31 * h1 + get_or w (i + 1) 0) % 2048 in
      let h3 : ℕ = (31 * h2 + get_or w (i + 2) 0) % 2048 in
      let s1 = hash_step h w i (omega arith) in
      let s2 = hash_step h1 w (i + 1) (omega arith) ∙ ap (λ (n : ℕ). hash_from h2 (drop n w)) n1 in
      let s3 = hash_step h2 w (i + 2) (omega arith) ∙ ap (λ (n : ℕ). hash_from h3 (drop n w)) n2 in
      let s4 = hash_step h3 w (i + 3) (omega arith) ∙ ap (λ (n : ℕ). hash_from ((31 * h3 + get_or w (i + 3) 0) % 2048) (drop n w)) n3 in
      let r : g ≡ (31 * h3 + get_or w (i + 3) 0) % 2048 = e ∙ ap (λ (n : ℕ). (923521 * h + n) % 2048) f ∙ sym (four_steps h (get_or w i 0) (get_or w (i + 1) 0) (get_or w (i + 2) 0) (get_or w (i + 3) 0)) in
      record { small = omega (arith, e); rest = ap (λ (n : ℕ). hash_from n (drop (i + 4) w)) r ∙ sym (s1 ∙ s2 ∙ s3 ∙ s4) ∙ H.rest }

  -- p is what the first four of eight bytes add, q what the last four do
  pub hashed_eight : (h i p q g : ℕ) → i + 8 ≤ length w → Hashed w h i → p ≡ added (get_or w i 0) (get_or w (i + 1) 0) (get_or w (i + 2) 0) (get_or w (i + 3) 0) → q ≡ added (get_or w (i + 4) 0) (get_or w (i + 5) 0) (get_or w (i + 6) 0) (get_or w (i + 7) 0) → g ≡ (852891037441 * h + (923521 * p + q)) % 2048 → Hashed w g (i + 8)
  hashed_eight h i p q g l H f f' e =
      let n5 : i + 5 ≡ i + 4 + 1 = omega arith in
      let n6 : i + 6 ≡ i + 4 + 2 = omega arith in
      let n7 : i + 7 ≡ i + 4 + 3 = omega arith in
      let n8 : i + 4 + 4 ≡ i + 8 = omega arith in
      let k : ℕ = (923521 * h + p) % 2048 in
      subst (Hashed w g) n8 (hashed_four k (i + 4) q g (omega arith) (hashed_four h i p k (omega arith) H f refl) (f' ∙ (λ j. added (get_or w (i + 4) 0) (get_or w (n5 j) 0) (get_or w (n6 j) 0) (get_or w (n7 j) 0))) (e ∙ sym (twice 923521 h p q)))

  pub hashed_step : (h i g : ℕ) → i < length w → Hashed w h i → g ≡ (31 * h + get_or w i 0) % 2048 → Hashed w g (i + 1)
  hashed_step h i g l H e = record { small = omega (arith, e); rest = ap (λ (n : ℕ). hash_from n (drop (i + 1) w)) e ∙ sym (hash_step h w i l) ∙ H.rest }

pub hash_end : (h : ℕ) (w : Bytes) (i : ℕ) → length w ≤ i → hash_from h (drop i w) ≡ h
unfolding hash_from
hash_end h w i l = rw (drop_of_length-le w l)

pub hash_lt : (h : ℕ) (w : Bytes) → h < 2048 → hash_from h w < 2048
unfolding hash_from
hash_lt h [] l = l
hash_lt h (b ∷ w) l = hash_lt ((31 * h + b) % 2048) w (omega arith)

pub stops_zero : (name : ℕ → Bytes) (w : Bytes) (v : ℕ) → v ≡ 0 → stops name w v ≡ true
unfolding stops
stops_zero name w v e = rw (eq-eqb v 0 e)

pub stops_same : (name : ℕ → Bytes) (w : Bytes) (v : ℕ) → (v ≡ 0 → ⊥) → stops name w v ≡ same w (name v)
unfolding stops
stops_same name w v e = rw (ne_eqb v 0 e)

-- ---- the first that passes

module _ (test : ℕ → Bool) (m p : ℕ) where
  more : p < m → seek test (m - p) p ≡ cond (test p) p (seek test (m - (p + 1)) (p + 1))
  unfolding seek
  more l =
      let e : m - p ≡ suc (m - (p + 1)) = omega arith in
      ap (λ (k : ℕ). seek test k p) e ∙ (let a : suc p ≡ p + 1 = omega arith in ap (λ (k : ℕ). cond (test p) p (seek test (m - (p + 1)) k)) a)

  seek_hit : p < m → test p ≡ true → seek test (m - p) p ≡ p
  seek_hit l e = more l ∙ ap (λ (b : Bool). cond b p (seek test (m - (p + 1)) (p + 1))) e

  pub seek_miss : p < m → test p ≡ false → seek test (m - p) p ≡ seek test (m - (p + 1)) (p + 1)
  seek_miss l e = more l ∙ ap (λ (b : Bool). cond b p (seek test (m - (p + 1)) (p + 1))) e

  seek_last : m ≤ p → seek test (m - p) p ≡ p
  unfolding seek
  seek_last l = let e : m - p ≡ 0 = omega arith in ap (λ (k : ℕ). seek test k p) e

-- ---- one turn of the search

-- what the search has come to: the entry after p others, and the rest of the search decides
pub record At (x : List ℕ) (name : ℕ → Bytes) (w : Bytes) (entry p : ℕ) : Type 0 where
  pub here : entry ≡ place w p
  pub few : p ≤ 2047
  pub rest : seek (λ k. stops name w (get_or x (place w k) 0)) (2047 - p) p ≡ passed x name w

module _ (x : List ℕ) (name : ℕ → Bytes) (w : Bytes) where
  pub at_first : (entry : ℕ) → entry ≡ hash w → At x name w entry 0
  unfolding passed
  at_first entry e = record { here = (let l = hash_lt 0 w (omega arith) in omega arith); few = omega arith; rest = refl }

  pub at_next : (entry p : ℕ) → p < 2047 → At x name w entry p → stops name w (get_or x entry 0) ≡ false → At x name w ((entry + 1) % 2048) (p + 1)
  at_next entry p l a e =
      record {
        here = (let h = a.here in omega arith);
        few = omega arith;
        rest = sym (seek_miss (λ k. stops name w (get_or x (place w k) 0)) 2047 p l (ap (λ (k : ℕ). stops name w (get_or x k 0)) (sym a.here) ∙ e)) ∙ a.rest;
      }

  ends : (entry p v : ℕ) → entry ≡ place w p → p ≡ passed x name w → v ≡ get_or x entry 0 → ◌≡◌ {A = Found} (record { entry = entry; number = v; looked = p + 1 }) (searched x name w)
  ends entry p v h q e =
      let n : entry ≡ place w (passed x name w) = h ∙ ap (place w) q in
      let l : p + 1 ≡ suc (passed x name w) = omega arith in
      (λ i. record { entry = n i; number = (e ∙ ap (λ (k : ℕ). get_or x k 0) n) i; looked = l i })

  pub at_hit : (entry p v : ℕ) → p < 2047 → At x name w entry p → v ≡ get_or x entry 0 → stops name w v ≡ true → ◌≡◌ {A = Found} (record { entry = entry; number = v; looked = p + 1 }) (searched x name w)
  at_hit entry p v l a e t = ends entry p v a.here (sym (seek_hit (λ k. stops name w (get_or x (place w k) 0)) 2047 p l (ap (λ (k : ℕ). stops name w (get_or x k 0)) (sym a.here) ∙ ap (stops name w) (sym e) ∙ t)) ∙ a.rest) e

  pub at_last : (entry p v : ℕ) → 2047 ≤ p → At x name w entry p → v ≡ get_or x entry 0 → ◌≡◌ {A = Found} (record { entry = entry; number = v; looked = p + 1 }) (searched x name w)
  at_last entry p v l a e = ends entry p v a.here (sym (seek_last (λ k. stops name w (get_or x (place w k) 0)) 2047 p l) ∙ a.rest) e

pub stops_else : (name : ℕ → Bytes) (w : Bytes) (v : ℕ) (b : Bool) (n : Bytes) → (v ≡ 0 → ⊥) → b ≡ same w n → n ≡ name v → b ≡ stops name w v
stops_else name w v b n h e q = e ∙ ap (same w) q ∙ sym (stops_same name w v h)

-- ---- a name read in place

pub name_at : (text : Bytes) (table : List ℕ) (n : ℕ) → (n ≡ 0 → ⊥) → part text (get_or table ((n - 1) * width + 3) 0) (get_or table ((n - 1) * width + 4) 0) ≡ name_in text table n
unfolding name_in
name_at text table n h = λ i. part text ((field_at table 3 (lit< tt) n h ∙ name_field table n) i) ((field_at table 4 (lit< tt) n h ∙ length_field table n) i)

-- a part of a text, and a word
module _ (text w : Bytes) (place size : ℕ) where
  pub whole_part : (b : Bool) → b ≡ same w (take (place + size - place) (drop place text)) → b ≡ same w (part text place size)
  whole_part b e = e ∙ (let q : place + size - place ≡ size = omega arith in ap (λ (k : ℕ). same w (part text place k)) q)

  -- of another length
  pub other_part : place + size ≤ length text → (size ≡ length w → ⊥) → false ≡ same w (part text place size)
  other_part f h = sym (same_length w (part text place size) (λ e. h (sym (e ∙ part_length text place size f))))

module _ (text : Bytes) (table x : List ℕ) (n : ℕ) (w : Bytes) where
  pub sought_plain : length x < 2048 → sought text table x n w ≡ found_plain text table x n w
  unfolding sought
  sought_plain l = rw (lt-leb 2048 (length x) l)

  pub sought_indexed : 2048 ≤ length x → sought text table x n w ≡ searched x (name_in text table) w
  unfolding sought
  sought_indexed l = rw (le-leb 2048 (length x) l)

-- ---- a number written, and zeros behind the entries

pub set_beyond : (x : List ℕ) (q v : ℕ) → length x ≤ q → set x q v ≡ x
set_beyond [] q v l = refl
set_beyond (u ∷ x) zero v l = absurd (omega arith)
set_beyond (u ∷ x) (suc q) v l = ap {B = List ℕ} (λ (y : List ℕ). u ∷ y) (set_beyond x q v (omega arith))

pub searched_padded : (x : List ℕ) (n : ℕ) (name : ℕ → Bytes) (w : Bytes) → searched (x ++ replicate n 0) name w ≡ searched x name w
unfolding passed
searched_padded x n name w =
    let q : passed (x ++ replicate n 0) name w ≡ passed x name w = (λ i. seek (λ k. stops name w (padded 0 x n (place w k) i)) 2047 0) in
    (λ i. record { entry = place w (q i); number = padded 0 x n (place w (q i)) i; looked = suc (q i) })

-- ---- how many entries are looked at

seek_most : (test : ℕ → Bool) (n k : ℕ) → seek test n k ≤ k + n
unfolding seek
seek_most test zero k = omega arith
seek_most test (suc n) k = cond_elim (λ r. r ≤ k + suc n) (test k) (omega arith) (omega (arith, seek_most test n (suc k)))

pub looked_most : (x : List ℕ) (name : ℕ → Bytes) (w : Bytes) → looked_at x name w ≤ 2048
unfolding passed
looked_most x name w = omega (arith, seek_most (λ k. stops name w (get_or x (place w k) 0)) 2047 0)
