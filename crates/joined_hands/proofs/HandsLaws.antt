-- An order of both hands' records beside texts: what reading both hands again leaves, and what is put or held of it.
use mathlib.Core.Bool.{Bool, false, ◌&&◌}
use mathlib.Core.List.{List, ◌++◌}
use mathlib.Core.Path.{◌≡◌, refl, ap, sym, ◌∙◌, subst}
use Prim.Native.Nat.{ℕ, ◌*◌, ◌/◌, ◌≤◌, min}
use native.Mathlib.Omega.{arith}
use lib.Dec.{eqb}
use lib.Ieee.{Float}
use lib.ListN.{length, length-take, take}
use lib.Seq.{length-take-le, take_at}
use Rattle.join_meaning.proofs.MatchedLaws.{rows_count, rows_matched}
use Rattle.join_meaning.proofs.UsedLaws.{same_room, used_rows_lem}
use Rattle.join_meaning.proofs.WrittenLaws.{equal_meant, text_meant}
use Rattle.join_meaning.specs.Kept.{in_turn}
use Rattle.join_meaning.specs.Rows.{used_rows}
use Rattle.join_meaning.specs.Written.{Numbers}
use Rattle.joined_hands.specs.Hands.{HoldsHands, PutsHands, RoomFor, holds_rows}
use Rattle.joined_text.specs.JoinedText.{order_text}
use Rattle.joining.specs.Pick.{holds}
use Rattle.laws.specs.Bytes.{Bytes}
use Rattle.lines.proofs.PutsLaws.{puts_length}
use Rattle.lines.specs.Puts.{Puts}
use Rattle.lines.specs.declared.Cursor.{Cursor}
use Rattle.match_meaning.proofs.NumberLaws.{once_meaning}
use Rattle.pair.specs.Both.{Both, Read, ReadsBoth, Refused, beside, both_answer}
use Rattle.pair.specs.declared.Side.{Side}
use Rattle.reader.specs.Answer.{read_into}
use Rattle.scene.specs.Reading.{Entry, accepted, statements}
use Rattle.scene.specs.Record.{real_image, record_image, settings_for, width}
use Rattle.scene.specs.declared.Mode.{Mode}
use Rattle.scene.specs.declared.Settings.{Settings}
use Rattle.sides.proofs.MixedLaws.{resolved}
use Rattle.sides.specs.Read.{read}
use Rattle.tabled.proofs.TabledLaws.{tabled_length}
use Rattle.tabled.specs.Tabled.{tabled}
use Rattle.typed_matches.specs.Held.{all_held}

-- ---- a typed scene's records

-- matches written over the front of a table
module _ (f : ℕ → ℕ) (n : ℕ) (old xs : List ℕ) (h : n ≤ length old) (e : xs ≡ tabled f (length (take n old))) where
  pub matches_many : length xs ≡ n
  matches_many = ap length e ∙ tabled_length f (length (take n old)) ∙ length-take-le n old h

  pub matches_front : (behind : List ℕ) → take n (xs ++ behind) ≡ tabled f n
  matches_front behind = take_at xs behind n matches_many ∙ e ∙ ap (tabled f) (length-take-le n old h)

-- ---- both hands, read again

-- both texts are accepted: the answer and the tables
pub record BothRead (left right : Bytes) (n k : ℕ) (ls rs : List Entry) (r : Both) (L : List ℕ) (y : List Float) (R : List ℕ) (z : List Float) : Type 0 where
  pub says : r ≡ both_answer (accepted ls) (accepted rs)
  pub left_table : L ≡ record_image left n (accepted ls)
  pub left_doubles : y ≡ real_image k (accepted ls)
  pub right_table : R ≡ record_image right n (accepted rs)
  pub right_doubles : z ≡ real_image k (accepted rs)

abbrev left_count : Both → ℕ
left_count (Read m j n k) = m
left_count (Refused s a p) = 0

abbrev right_count : Both → ℕ
right_count (Read m j n k) = n
right_count (Refused s a p) = 0

abbrev IsRead : Both → Type 0
IsRead (Read m j n k) = Unit {0}
IsRead (Refused s a p) = ⊥

-- tables lent that are as long as asked for, but no longer than a reading can use, and what reading both hands into them leaves
pub record Again (mode : Mode) (numbers reals : ℕ) (left right : Bytes) (r : Both) (L : List ℕ) (y : List Float) (R : List ℕ) (z : List Float) : Type 0 where
  pub each : (ls rs : List Entry) → read (settings_for mode numbers reals) left ≡ accepted ls → read (settings_for mode numbers reals) right ≡ accepted rs → BothRead left right (min numbers (1024 * width)) (min reals 4096) ls rs r L y R z

pub read_again : (mode : Mode) (numbers reals : ℕ) (left : Bytes) (lr : List ℕ) (lx : List Float) (right : Bytes) (rr : List ℕ) (rx : List Float) (r : Both) (L : List ℕ) (y : List Float) (R : List ℕ) (z : List Float) → length lr ≡ min numbers (1024 * width) → length lx ≡ min reals 4096 → length rr ≡ min numbers (1024 * width) → length rx ≡ min reals 4096 → ReadsBoth mode left lr lx right rr rx r L y R z → Again mode numbers reals left right r L y R z
read_again mode numbers reals left lr lx right rr rx r L y R z a b c d h = record { each = go }
  where
    go : (ls rs : List Entry) → read (settings_for mode numbers reals) left ≡ accepted ls → read (settings_for mode numbers reals) right ≡ accepted rs → BothRead left right (min numbers (1024 * width)) (min reals 4096) ls rs r L y R z
    go ls rs p q =
        let u : read_into mode left lr lx ≡ accepted ls = ap (λ (s : Settings). read s left) (same_room mode numbers reals (length lr) (length lx) a b) ∙ p in
        let v : read_into mode right rr rx ≡ accepted rs = ap (λ (s : Settings). read s right) (same_room mode numbers reals (length rr) (length rx) c d) ∙ q in
        record {
          says = h.says ∙ (λ i. both_answer (u i) (v i));
          left_table = h.left_table ∙ (λ i. record_image left (a i) (beside (u i) (v i)));
          left_doubles = h.left_doubles ∙ (λ i. real_image (b i) (beside (u i) (v i)));
          right_table = h.right_table ∙ (λ i. record_image right (c i) (beside (v i) (u i)));
          right_doubles = h.right_doubles ∙ (λ i. real_image (d i) (beside (v i) (u i)));
        }

module _ (mode : Mode) (numbers reals : ℕ) (left right : Bytes) (r : Both) (L : List ℕ) (y : List Float) (R : List ℕ) (z : List Float) (h : Again mode numbers reals left right r L y R z) where
  -- two accepted texts are read
  accepted_read : (ls rs : List Entry) → read (settings_for mode numbers reals) left ≡ accepted ls → read (settings_for mode numbers reals) right ≡ accepted rs → (s : Side) (a p : ℕ) → r ≡ Refused s a p → ⊥
  accepted_read ls rs p q s a b e = subst IsRead (sym (h.each ls rs p q).says ∙ e) tt

  pub put_none : (order : List ℕ) (out : Bytes) (c : Cursor) (s : Side) (a p : ℕ) → r ≡ Refused s a p → PutsHands mode numbers reals left right order out c out
  put_none order out c s a p e = record { size = refl; puts = λ ls rs u v w. absurd (accepted_read ls rs u v s a p e) }

  -- the first records of both tables, as many as were read
  module _ (m j n k : ℕ) (e : r ≡ Read m j n k) (F G : List ℕ) (f : F ≡ take (min m (length L / width) * width) L) (g : G ≡ take (min n (length R / width) * width) R) where
    module _ (ls rs : List Entry) (p : read (settings_for mode numbers reals) left ≡ accepted ls) (q : read (settings_for mode numbers reals) right ≡ accepted rs) where
      room : settings_for mode numbers reals ≡ settings_for mode (min numbers (1024 * width)) (min reals 4096)
      room = sym (same_room mode numbers reals (min numbers (1024 * width)) (min reals 4096) refl refl)

      left_rows_lem : F ≡ used_rows left ls
      left_rows_lem =
          let b = h.each ls rs p q in
          f ∙ used_rows_lem mode (min numbers (1024 * width)) (min reals 4096) left ls (ap (λ (s : Settings). read s left) (sym room) ∙ p) L b.left_table m (ap left_count (sym e ∙ b.says))

      right_rows_lem : G ≡ used_rows right rs
      right_rows_lem =
          let b = h.each ls rs p q in
          g ∙ used_rows_lem mode (min numbers (1024 * width)) (min reals 4096) right rs (ap (λ (s : Settings). read s right) (sym room) ∙ q) R b.right_table n (ap right_count (sym e ∙ b.says))

    pub put_both : (order : List ℕ) (out : Bytes) (c : Cursor) (out' : Bytes) → Puts out (record { at = 0; full = false }) (order_text left F right G order) c out' → PutsHands mode numbers reals left right order out c out'
    put_both order out c out' w = record {
      size = puts_length w;
      puts = λ ls rs p q o.
          let s = settings_for mode numbers reals in
          subst (λ (x : Bytes). Puts out (record { at = 0; full = false }) x c out')
          ((λ i. order_text left (left_rows_lem ls rs p q i) right (right_rows_lem ls rs p q i) order) ∙ text_meant s left right ls rs (resolved s left ls p).reads (resolved s right rs q).reads order o)
          w;
    }

-- ---- what a typed text holds

module _ (s : Settings) (few : s.records ≤ 1024) (left right typed : Bytes) (ls rs ts : List Entry) (p : read s left ≡ accepted ls) (q : read s right ≡ accepted rs) (o : read s typed ≡ accepted ts) (j k m : ℕ) where
  rows_hold : (order : List ℕ) → Numbers (length (statements ls ++ statements rs)) order → holds_rows left (used_rows left ls) (real_image j (accepted ls)) right (used_rows right rs) (real_image k (accepted rs)) typed (used_rows typed ts) (real_image m (accepted ts)) order ≡ holds (in_turn (statements ls ++ statements rs) order) (statements ts)
  unfolding holds_rows all_held holds
  rows_hold order h =
      let p' = (resolved s left ls p).reads in
      let q' = (resolved s right rs q).reads in
      let o' = (resolved s typed ts o).reads in
      let alike = equal_meant (statements ls) (statements rs) (statements ts) _ _ (rows_matched s few right rs q' k typed ts o' m) (rows_matched s few left ls p' j typed ts o' m) order h in
      λ i. once_meaning s typed ts o' few i && eqb (sym alike.1 i) (rows_count s typed ts o' i) && alike.0 i

module _ (mode : Mode) (left right typed : Bytes) (T : List ℕ) (w : List Float) (count : ℕ) (order : List ℕ) (r : Both) (L : List ℕ) (y : List Float) (R : List ℕ) (z : List Float) (h : Again mode (length T) (length w) left right r L y R z) where
  pub hold_none : (b : Bool) (s : Side) (a p : ℕ) → r ≡ Refused s a p → HoldsHands mode left right typed T w count order b
  hold_none b s a p e = record { says = λ ls rs ts u v o f g c d. absurd (accepted_read mode (length T) (length w) left right r L y R z h ls rs u v s a p e) }

  module _ (m j n k : ℕ) (e : r ≡ Read m j n k) (F G H : List ℕ) (f : F ≡ take (min m (length L / width) * width) L) (g : G ≡ take (min n (length R / width) * width) R) (t : H ≡ take (min count (length T / width) * width) T) where
    pub hold_both : (y' z' : List Float) → y' ≡ y → z' ≡ z → (b : Bool) → b ≡ holds_rows left F y' right G z' typed H w order → HoldsHands mode left right typed T w count order b
    hold_both y' z' a c b v = record { says = go }
      where
        s : Settings
        s = settings_for mode (length T) (length w)

        go : (ls rs ts : List Entry) → read s left ≡ accepted ls → read s right ≡ accepted rs → read s typed ≡ accepted ts → T ≡ record_image typed (length T) (accepted ts) → w ≡ real_image (length w) (accepted ts) → count ≡ length ts → Numbers (length (statements ls ++ statements rs)) order → b ≡ holds (in_turn (statements ls ++ statements rs) order) (statements ts)
        go ls rs ts p q o table doubles counted numbers =
            let both = h.each ls rs p q in
            let lefts = left_rows_lem mode (length T) (length w) left right r L y R z h m j n k e F G f g ls rs p q in
            let rights = right_rows_lem mode (length T) (length w) left right r L y R z h m j n k e F G f g ls rs p q in
            let typeds = t ∙ used_rows_lem mode (length T) (length w) typed ts o T table count counted in
            v
            ∙ (λ i. holds_rows left (lefts i) ((a ∙ both.left_doubles) i) right (rights i) ((c ∙ both.right_doubles) i) typed (typeds i) (doubles i) order)
            ∙ rows_hold s (omega arith) left right typed ls rs ts p q o (min (length w) 4096) (min (length w) 4096) (length w) order numbers

-- first records of tables that are no longer than a reading can use
pub rooms : (m n : ℕ) (L R F G : List ℕ) → length L ≤ 1024 * width → length R ≤ 1024 * width → F ≡ take (min m (length L / width) * width) L → G ≡ take (min n (length R / width) * width) R → RoomFor F G
rooms m n L R F G a b f g = record { lefts = few m L F a f; rights = few n R G b g }
  where
    few : (m : ℕ) (L F : List ℕ) → length L ≤ 1024 * width → F ≡ take (min m (length L / width) * width) L → length F / width ≤ 1024
    few m L F a f = let size = ap length f ∙ length-take (min m (length L / width) * width) L in omega (arith, size)
