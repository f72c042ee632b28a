-- Numbers put into a buffer one by one are put as a list.
use mathlib.Core.List.{List, [], ◌∷◌, ◌++◌, append-nil}
use mathlib.Core.Path.{◌≡◌, refl, sym, ap, ap₂, ◌∙◌}
use Prim.Native.Nat.{ℕ, zero, suc, ◌+◌, ◌≤◌, ◌<◌}
use native.Mathlib.Nat.{add-zero}
use native.Mathlib.Numerals.{add-one}
use native.Mathlib.Omega.{arith}
use lib.ListN.{length, get_or, drop, drop_of_length-le, take-append-drop}
use lib.Seq.{drop-cons, take-nil}
use Rattle.buffer.proofs.PutLaws.{Shown, length_put, put_put, behind_behind}
use Rattle.buffer.specs.Decimal.{decimal}
use Rattle.buffer.specs.Put.{put, behind}
use Rattle.laws.specs.Bytes.{Bytes, bytes}
use Rattle.shown_listing.specs.ShownLine.{joined, label}

-- a number that is not the first stands behind a comma
pub label_later : (k : ℕ) → 0 < k → label k ≡ bytes ","
label_later zero h = absurd (omega arith)
label_later (suc k) h = refl

-- a list from its first number on: that number, and then the others
joined_first : (k n : ℕ) (ns : List ℕ) → joined k (n ∷ ns) ≡ (label k ++ decimal n) ++ joined (suc k) ns
unfolding joined
joined_first k n ns = refl

-- no numbers are no bytes
joined_none : (k : ℕ) → joined k [] ≡ []
unfolding joined
joined_none k = refl

-- no bytes change no buffer
put_none : (b : Bytes) (at : ℕ) → put b at [] ≡ b
unfolding put
put_none b at = rw (take-nil, append-nil, add-zero) (take-append-drop at b)

-- a buffer and the place in it where k numbers of a list are put: with the others, the whole list is
pub record Underway (before : Bytes) (at : ℕ) (list : List ℕ) (k : ℕ) (now : Bytes) (end : ℕ) : Type 0 where
  pub text : put now end (joined k (drop k list)) ≡ put before at (joined 0 list)
  pub place : behind now end (joined k (drop k list)) ≡ behind before at (joined 0 list)

module _ {before : Bytes} {at : ℕ} {list : List ℕ} {k : ℕ} {now : Bytes} {end : ℕ} (u : Underway before at list k now end) where
  -- the next number of the list brings it one further
  pub underway_more : {later : Bytes} {next : ℕ} → k < length list → later ≡ put now end (label k ++ decimal (get_or list k 0)) → next ≡ behind now end (label k ++ decimal (get_or list k 0)) → Underway before at list (k + 1) later next
  underway_more {later} {next} h t e =
      let x = label k ++ decimal (get_or list k 0) in
      let y = joined (k + 1) (drop (k + 1) list) in
      let split : x ++ y ≡ joined k (drop k list) = rw (add-one, drop-cons list k 0 h) (sym (joined_first k (get_or list k 0) (drop (suc k) list))) in
      record {
        text = ap₂ (λ (b : Bytes) (j : ℕ). put b j y) t e ∙ put_put now end x y ∙ ap (put now end) split ∙ u.text;
        place = ap₂ (λ (b : Bytes) (j : ℕ). behind b j y) t e ∙ behind_behind now end x y ∙ ap (behind now end) split ∙ u.place;
      }

  -- the buffer keeps its length
  pub underway_length : length now ≡ length before
  underway_length = sym (length_put now end (joined k (drop k list))) ∙ ap length u.text ∙ length_put before at (joined 0 list)

  -- past the last number the list is put
  pub underway_all : length list ≤ k → Shown before at (joined 0 list) now end
  underway_all h =
      let none : joined k (drop k list) ≡ [] = ap (joined k) (drop_of_length-le list h) ∙ joined_none k in
      let stays : behind now end [] ≡ end = omega arith in
      record {
        text = sym (put_none now end) ∙ sym (ap (put now end) none) ∙ u.text;
        end = sym stays ∙ sym (ap (behind now end) none) ∙ u.place;
      }
