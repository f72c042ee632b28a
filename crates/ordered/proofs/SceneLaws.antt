-- A scene whose table is as its order leaves it: the numbers in the order of their keys, and each number's key.
use mathlib.Core.Bool.{Bool, true, false, cond, ◌&&◌, ◌||◌, or-true, false≢true}
use mathlib.Core.List.{List, [], ◌∷◌, ◌++◌, map, append-nil}
use mathlib.Core.Logic.{◌⊎◌, inl, inr}
use mathlib.Core.Path.{◌≡◌, refl, ap, sym, ◌∙◌, subst}
use Prim.Native.Nat.{ℕ, zero, suc, ◌+◌, ◌-◌, ◌*◌, ◌/◌, ◌<◌, ◌≤◌}
use native.Mathlib.Numerals.{add-one}
use native.Mathlib.Omega.{arith}
use borrow.Author.Tests.{eqb-true, le-leb, lt-ltb, leb-true, ltb-true}
use lib.Dec.{eqb, ltb, leb}
use lib.Ieee.{Float}
use lib.ListN.{length, take, drop, replicate, length-append, length-replicate, get_or-eq_default}
use lib.Seq.{take_at, drop_at}
use Rattle.content.specs.Content.{content_of, content_with}
use Rattle.keys.proofs.NumberLaws.{found_from, from_above}
use Rattle.keys.proofs.OrderLaws.{earlier_before, key_same, lower_one, same_key_lem}
use Rattle.keys.proofs.ScanLaws.{found_rows, key_bare, key_count, key_name, key_none, number_hit, rows_count, times_more, within_high, within_low}
use Rattle.keys.specs.Key.{Key, nth_of, times, key_at, key_of, from, found, is_found, same_key, lower, before}
use Rattle.keys.specs.Properties.{Increasing, stands_in}
use Rattle.keys.specs.Rows.{rows_in, scene_rows}
use Rattle.laws.proofs.BoolLaws.{and_left, and_right, same_bool}
use Rattle.laws.proofs.BytesLaws.{same_eq, same_refl}
use Rattle.laws.proofs.NatLaws.{le_or_lt}
use Rattle.laws.specs.Bytes.{Bytes}
use Rattle.ranks.proofs.RankLaws.{entry_length, ranks_nth}
use Rattle.ranks.specs.Rank.{entry_of, rank_behind, with_entry, ranks_from, ranks_of, with_ranks, order_table}
use Rattle.scene.specs.Record.{filled, name_in, record_in, width}
use Rattle.scene.specs.Told.{Told, tells}
use Rattle.name_order.proofs.MergeLaws.{has_first, has_later}
use Rattle.name_order.proofs.SortLaws.{names_sorted, sorted_length}
use Rattle.name_order.specs.Sort.{Rising, Sorted, earlier, has, room, sorted}
use Rattle.ordered.proofs.TurnLaws.{neither}
use Rattle.ordered.specs.Compared.{InOrder, count_of}
use Rattle.ordered.specs.Lines.{Scene, numbers_of, key_by, content_by}

module _ (text : Bytes) (records : List ℕ) where
  abbrev count : ℕ
  count = length records / width

  abbrev key : ℕ → Key
  key n = key_of (scene_rows text records []) n

  -- ---- the key of a number, and the number of a key

  module _ (u : ℕ) (h : u < count) where
    abbrev name : Bytes
    name = name_in text records (suc u)

    key_is : key (suc u) ≡ nth_of name (suc (times name (rows_in text records [] u)))
    key_is = sym (λ i. nth_of (key_name text records (suc u) (suc u) low some i) (counted i))
      where
        low : suc u ≡ cond (leb (suc u) count) (suc u) 0
        low = within_low (suc u) count h

        some : suc u ≡ 0 → ⊥
        some q = omega arith

        counted : suc (times name (rows_in text records [] u)) ≡ (key (suc u)).nth
        counted =
            let e : u ≡ suc u - 1 = omega arith in
            let m : suc (times name (rows_in text records [] u)) ≡ times name (rows_in text records [] u) + 1 = omega arith in
            m ∙ key_count text records (suc u) (suc u) low (times name (rows_in text records [] u)) name some refl (ap (λ (k : ℕ). times name (rows_in text records [] k)) e)

    number_is : length (found (key (suc u)) (scene_rows text records [])) ≡ suc u
    number_is =
        let n = times name (rows_in text records [] u) in
        ap (λ (k : Key). length (found k (scene_rows text records []))) key_is
        ∙ sym (number_hit text records name count n u n 1 h refl (omega arith) (rw (add-one, same_refl name)) (omega arith))
        ∙ add-one u

    pub found_number : (reals : List Float) → found (key (suc u)) (scene_rows text records reals) ≡ tells text reals (record_in records (suc u)) ∷ rows_in text records reals u
    unfolding rows_in
    found_number reals = found_rows text records (key (suc u)) reals [] count ∙ ap (rows_in text records reals) number_is

  -- ---- numbers in order have keys in order

  times_later : (w : Bytes) (x y : ℕ) → x ≤ y → times w (rows_in text records [] x) ≤ times w (rows_in text records [] y)
  times_later w x zero h = let e : x ≡ 0 = omega arith in subst (λ (k : ℕ). times w (rows_in text records [] k) ≤ times w (rows_in text records [] 0)) (sym e) (omega arith)
  times_later w x (suc y) h = go (le_or_lt x y) (times_later w x y)
    where
      go : (x ≤ y) ⊎ (y < x) → (x ≤ y → times w (rows_in text records [] x) ≤ times w (rows_in text records [] y)) → times w (rows_in text records [] x) ≤ times w (rows_in text records [] (suc y))
      go (inl l) ih = let e = rw add-one at (times_more text records w y _ _ refl refl) in omega (arith, ih l)
      go (inr l) ih = let e : x ≡ suc y = omega arith in subst (λ (k : ℕ). times w (rows_in text records [] x) ≤ times w (rows_in text records [] k)) e (omega arith)

  times_here : (u : ℕ) → times (name_in text records (suc u)) (rows_in text records [] (suc u)) ≡ suc (times (name_in text records (suc u)) (rows_in text records [] u))
  times_here u =
      let w = name_in text records (suc u) in
      let e : times w (rows_in text records [] u) + 1 ≡ times w (rows_in text records [] (u + 1)) = times_more text records w u _ 1 refl (rw (add-one, same_refl w)) in
      sym (ap (λ (k : ℕ). times w (rows_in text records [] k)) (add-one u)) ∙ sym e ∙ add-one (times w (rows_in text records [] u))

  keys_before : (u v : ℕ) → u < count → v < count → earlier text records (suc v) (suc u) ≡ false → (earlier text records (suc u) (suc v) ≡ false → suc u < suc v) → before (key (suc u)) (key (suc v)) ≡ true
  unfolding earlier
  keys_before u v h k p q = rw (key_is u h, key_is v k) (earlier_before _ _ (go (lower (name_in text records (suc u)) (name_in text records (suc v))) refl))
    where
      go : (b : Bool) → lower (name_in text records (suc u)) (name_in text records (suc v)) ≡ b → (lower (name_in text records (suc u)) (name_in text records (suc v)) ≡ true) ⊎ ((name_in text records (suc u) ≡ name_in text records (suc v)) × (suc (times (name_in text records (suc u)) (rows_in text records [] u)) < suc (times (name_in text records (suc v)) (rows_in text records [] v))))
      go true e = inl e
      go false e =
          let n : name_in text records (suc u) ≡ name_in text records (suc v) = same_eq (name_in text records (suc u)) (name_in text records (suc v)) (neither (lower_one (name_in text records (suc u)) (name_in text records (suc v))) e p) in
          let w = name_in text records (suc u) in
          let l : suc (times w (rows_in text records [] u)) ≤ times w (rows_in text records [] v) = omega (arith, q e, times_here u, times_later w (suc u) v (omega (arith, q e))) in
          inr (n, subst (λ (x : Bytes). suc (times w (rows_in text records [] u)) < suc (times x (rows_in text records [] v))) n (omega arith))

  -- numbers of records
  abbrev pub Within : List ℕ → Type 0
  Within [] = Unit {0}
  Within (n ∷ o) = (0 < n) × (n ≤ count) × Within o

  within_all : (o : List ℕ) → ((v : ℕ) → has v o ≡ true → (0 < v) × (v ≤ count)) → Within o
  within_all [] h = tt
  within_all (n ∷ o) h = let b = h n (has_first n o) in (b.0, b.1, within_all o (λ v e. h v (has_later v n o e)))

  increasing : (o : List ℕ) → Within o → Rising (earlier text records) o → Increasing (map key o)
  increasing [] w h = tt
  increasing (x ∷ []) w h = (tt, tt)
  increasing (x ∷ y ∷ o) w h = (two x y w.0 w.1 w.2.0 w.2.1 h.0.0 h.0.1, increasing (y ∷ o) w.2 h.1)
    where
      two : (x y : ℕ) → 0 < x → x ≤ count → 0 < y → y ≤ count → earlier text records y x ≡ false → (earlier text records x y ≡ false → x < y) → before (key x) (key y) ≡ true
      two zero y a b c d p q = absurd (omega arith)
      two (suc u) zero a b c d p q = absurd (omega arith)
      two (suc u) (suc v) a b c d p q = keys_before u v b d p q

  -- ---- the keys of all numbers are the keys found in the scene

  module _ (reals : List Float) (k : Key) where
    stands_found : (o : List ℕ) → Within o → stands_in k (map key o) ≡ true → is_found (found k (scene_rows text records reals)) ≡ true
    unfolding stands_in
    stands_found [] w e = absurd (false≢true e)
    stands_found (x ∷ o) w e = go x w.0 w.1 (same_key k (key x)) refl e (stands_found o w.2)
      where
        go : (x : ℕ) → 0 < x → x ≤ count → (b : Bool) → same_key k (key x) ≡ b → (b || stands_in k (map key o)) ≡ true → (stands_in k (map key o) ≡ true → is_found (found k (scene_rows text records reals)) ≡ true) → is_found (found k (scene_rows text records reals)) ≡ true
        go zero a c b q e ih = absurd (omega arith)
        go (suc u) a c true q e ih = ap is_found (ap (λ (j : Key). found j (scene_rows text records reals)) (same_key_lem k (key (suc u)) q) ∙ found_number u c reals)
        go (suc u) a c false q e ih = ih e

    has_stands : (v : ℕ) (o : List ℕ) → has v o ≡ true → stands_in (key v) (map key o) ≡ true
    unfolding has stands_in
    has_stands v [] e = absurd (false≢true e)
    has_stands v (x ∷ o) e = go (eqb v x) refl e (has_stands v o)
      where
        go : (b : Bool) → eqb v x ≡ b → (b || has v o) ≡ true → (has v o ≡ true → stands_in (key v) (map key o) ≡ true) → (same_key (key v) (key x) || stands_in (key v) (map key o)) ≡ true
        go true q f ih = ap (λ (n : ℕ). same_key (key v) (key n) || stands_in (key v) (map key o)) (sym (eqb-true v x q)) ∙ ap (λ (b : Bool). b || stands_in (key v) (map key o)) (key_same (key v))
        go false q f ih = ap (λ (b : Bool). same_key (key v) (key x) || b) (ih f) ∙ or-true (same_key (key v) (key x))

    found_stands : (o : List ℕ) → ((v : ℕ) → 0 < v → v ≤ count → has v o ≡ true) → is_found (found k (scene_rows text records reals)) ≡ true → stands_in k (map key o) ≡ true
    found_stands o all e = go (found k (scene_rows text records reals)) refl e
      where
        go : (d : List Told) → found k (scene_rows text records reals) ≡ d → is_found d ≡ true → stands_in k (map key o) ≡ true
        go [] q e = absurd (false≢true e)
        go (t ∷ d) q e =
            let h = found_from k (scene_rows text records reals) t d q in
            let is : key (suc (length d)) ≡ k = sym (key_bare text records reals (suc (length d))) ∙ ap key_at h.0 ∙ h.1 in
            subst (λ (j : Key). stands_in j (map key o) ≡ true) is (has_stands (suc (length d)) o (all (suc (length d)) (omega arith) (low (le_or_lt (suc (length d)) count) h.0)))
          where
            low : (suc (length d) ≤ count) ⊎ (count < suc (length d)) → from (suc (length d)) (scene_rows text records reals) ≡ t ∷ d → suc (length d) ≤ count
            low (inl l) f = l
            low (inr l) f =
                let g : from (suc (length d)) (scene_rows text records reals) ≡ [] = from_above (scene_rows text records reals) (suc (length d)) (omega (arith, rows_count text records reals count)) in
                let z : ◌≡◌ {A = ℕ} 0 1 = cc in
                absurd (omega arith)

    stands_exactly : (o : List ℕ) → ((v : ℕ) → has v o ≡ (ltb 0 v && leb v count)) → Within o → stands_in k (map key o) ≡ is_found (found k (scene_rows text records reals))
    stands_exactly o all w = same_bool (stands_in k (map key o)) (is_found (found k (scene_rows text records reals))) (stands_found o w) (found_stands o (λ v a b. all v ∙ rw (lt-ltb 0 v a, le-leb v count b)))

-- ---- the table that an order leaves

ranks_length : (text : Bytes) (records : List ℕ) (p k : ℕ) (o t : List ℕ) → length (ranks_from text records p k o t) ≡ length t
unfolding ranks_from
ranks_length text records p k [] t = refl
ranks_length text records p k (x ∷ o) t = let n = rank_behind text records p k x in ranks_length text records x n o (with_entry t x n) ∙ entry_length t x n

-- what a number leads to
pub record Known (s : Scene) (d : List Told) (n : ℕ) : Type 0 where
  pub row : Told
  pub above : List Told
  pub found≡ : found (key_by s n) d ≡ row ∷ above
  pub number≡ : suc (length above) ≡ n
  pub content≡ : content_by s n ≡ content_of d row

abbrev pub AllKnown : Scene → List Told → List ℕ → Type 0
AllKnown s d [] = Unit {0}
AllKnown s d (n ∷ o) = Known s d n × AllKnown s d o

-- an order of a scene: all its numbers, by their keys
pub record Arranged (s : Scene) (d : List Told) (o : List ℕ) : Type 0 where
  pub rises : Increasing (map (key_by s) o)
  pub stands : (k : Key) → stands_in k (map (key_by s) o) ≡ is_found (found k d)
  pub known : AllKnown s d o

module _ (s : Scene) (scratch : ℕ) (h : InOrder s scratch) where
  abbrev ordered : List ℕ
  ordered = sorted (earlier s.text s.records) (count_of s)

  abbrev rows : List Told
  rows = scene_rows s.text s.records s.reals

  table_is : s.order ≡ with_ranks s.text s.records ordered (count_of s)
  unfolding order_table
  table_is =
      let half : 2 * count_of s / 2 ≡ count_of s = omega arith in
      let rest : 2 * count_of s - 2 * count_of s / 2 ≡ count_of s = omega arith in
      let all : room (length s.records) (2 * count_of s / 2) scratch ≡ count_of s = omega (arith, h.few, h.room) in
      let none : count_of s - length ordered ≡ 0 = omega (arith, sorted_length (earlier s.text s.records) (count_of s)) in
      h.table
      ∙ (λ i. with_ranks s.text s.records (filled 0 (half i) (sorted (earlier s.text s.records) (all i))) (rest i))
      ∙ ap (λ (o : List ℕ). with_ranks s.text s.records o (count_of s)) (ap (λ (n : ℕ). ordered ++ replicate n 0) none ∙ append-nil ordered)

  ranks_size : length (ranks_of s.text s.records ordered (count_of s)) ≡ count_of s
  ranks_size = ranks_length s.text s.records 0 0 (take 1024 ordered) (replicate (count_of s) 0) ∙ length-replicate (count_of s) 0

  first_half : length ordered ≡ length s.order / 2
  first_half = omega (arith, ap length table_is, length-append ordered (ranks_of s.text s.records ordered (count_of s)), sorted_length (earlier s.text s.records) (count_of s), ranks_size)

  pub numbers_are : numbers_of s ≡ ordered
  numbers_are = ap (take (length s.order / 2)) table_is ∙ take_at ordered (ranks_of s.text s.records ordered (count_of s)) (length s.order / 2) first_half

  nths_are : drop (length s.order / 2) s.order ≡ ranks_of s.text s.records ordered (count_of s)
  nths_are = ap (drop (length s.order / 2)) table_is ∙ drop_at ordered (ranks_of s.text s.records ordered (count_of s)) (length s.order / 2) first_half

  -- ---- each number's key

  nth_is : (n : ℕ) → entry_of (ranks_of s.text s.records ordered (count_of s)) n ≡ (key s.text s.records n).nth
  nth_is zero = sym (ap (λ (k : Key). k.nth) (key_none s.text s.records 0 0 (within_low 0 (count_of s) (omega arith)) refl))
  nth_is (suc u) = go (le_or_lt (suc u) (count_of s))
    where
      unfilled : ordered ≡ filled 0 (count_of s) ordered
      unfilled =
          let none : 0 ≡ count_of s - length ordered = omega (arith, sorted_length (earlier s.text s.records) (count_of s)) in
          sym (append-nil ordered) ∙ ap (λ (n : ℕ). ordered ++ replicate n 0) none

      go : (suc u ≤ count_of s) ⊎ (count_of s < suc u) → entry_of (ranks_of s.text s.records ordered (count_of s)) (suc u) ≡ (key s.text s.records (suc u)).nth
      go (inl l) = ranks_nth s.text s.records (count_of s) (count_of s) (count_of s) ordered unfilled h.few (omega arith) (omega arith) (suc u) (omega arith) l
      go (inr l) = get_or-eq_default (ranks_of s.text s.records ordered (count_of s)) 0 {n = u} (omega (arith, ranks_size)) ∙ sym (ap (λ (k : Key). k.nth) (key_none s.text s.records (suc u) 0 (within_high (suc u) (count_of s) l) refl))

  key_by_lem : (n : ℕ) → key_by s n ≡ key s.text s.records n
  key_by_lem n = λ i. nth_of (key s.text s.records n).name ((ap (λ (t : List ℕ). entry_of t n) nths_are ∙ nth_is n) i)

  content_by_lem : (n : ℕ) → content_by s n ≡ content_of rows (tells s.text s.reals (record_in s.records n))
  content_by_lem n = λ i. content_with (λ m. (key_by_lem m ∙ sym (key_bare s.text s.records s.reals m)) i) (tells s.text s.reals (record_in s.records n))

  known : (o : List ℕ) → Within s.text s.records o → AllKnown s rows o
  known [] w = tt
  known (n ∷ o) w = (go n w.0 w.1, known o w.2)
    where
      go : (n : ℕ) → 0 < n → n ≤ count_of s → Known s rows n
      go zero a b = absurd (omega arith)
      go (suc u) a b = record {
        row = tells s.text s.reals (record_in s.records (suc u));
        above = rows_in s.text s.records s.reals u;
        found≡ = ap (λ (k : Key). found k rows) (key_by_lem (suc u)) ∙ found_number s.text s.records u b s.reals;
        number≡ = ap suc (rows_count s.text s.records s.reals u);
        content≡ = content_by_lem (suc u);
      }

  pub arranged : Arranged s rows (numbers_of s)
  arranged = subst (Arranged s rows) (sym numbers_are) record {
    rises = rw keys (increasing s.text s.records ordered within law.rising);
    stands = λ k. ap (stands_in k) keys ∙ stands_exactly s.text s.records s.reals k ordered law.all within;
    known = known ordered within;
  }
    where
      law : Sorted (earlier s.text s.records) (count_of s) ordered
      law = names_sorted s.text s.records (count_of s)

      within : Within s.text s.records ordered
      within = within_all s.text s.records ordered (λ v e. let b = sym (law.all v) ∙ e in (ltb-true 0 v (and_left (ltb 0 v) (leb v (count_of s)) b), leb-true v (count_of s) (and_right (ltb 0 v) (leb v (count_of s)) b)))

      keys : map (key_by s) ordered ≡ map (key s.text s.records) ordered
      keys = λ i. map (λ n. key_by_lem n i) ordered
