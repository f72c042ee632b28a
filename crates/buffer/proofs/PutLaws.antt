-- Putting one text and then another behind it is putting both.
use mathlib.Core.List.{[], ◌∷◌, ◌++◌, append_assoc, append-nil}
use mathlib.Core.Logic.{⊎_elim}
use mathlib.Core.Path.{◌≡◌, refl, sym, ap, ap₂, ◌∙◌}
use Prim.Native.Nat.{ℕ, zero, suc, ◌+◌, ◌-◌, ◌≤◌, min}
use native.Mathlib.Nat.{zero-add, zero-sub, sub-zero, suc-sub-suc}
use native.Mathlib.Omega.{arith}
use lib.ListN.{length, take, drop, length-append, length-take, length-drop, drop_of_length-le}
use lib.Seq.{paste, take_all, take_at, drop-drop, drop-append-add}
use Rattle.laws.proofs.ListLaws.{take_min, drop_min}
use Rattle.laws.proofs.NatLaws.{le_or_lt}
use Rattle.laws.specs.Bytes.{Bytes, part}
use Rattle.buffer.specs.Put.{put, behind}

take_append : (n : ℕ) (x y : Bytes) → take n (x ++ y) ≡ take n x ++ take (n - length x) y
take_append zero x y = rw zero-sub
take_append (suc n) [] y = rw sub-zero
take_append (suc n) (a ∷ x) y = rw (suc-sub-suc, take_append n x y)

module _ (b : Bytes) (at : ℕ) where
  -- the code's copy, as long as it fits
  pub pasted : (x : Bytes) (start fit : ℕ) → start ≡ min at (length b) → fit ≡ min (length x) (length b - start) → paste b start x fit ≡ put b at x
  unfolding put
  pasted x start fit d e =
      let f : fit ≡ min (length b - at) (length x) = omega arith in
      let g : start + fit ≡ min (at + length x) (length b) = omega arith in
      ap₂ (λ (r s : Bytes). r ++ s ++ drop (start + fit) b)
      (ap (λ (k : ℕ). take k b) d ∙ take_min at b)
      (ap (λ (k : ℕ). take k x) f ∙ take_min (length b - at) x)
      ∙ ap (λ (t : Bytes). take at b ++ take (length b - at) x ++ t) (ap (λ (k : ℕ). drop k b) g ∙ drop_min (at + length x) b)

  head_length : (x : Bytes) → length (take at b ++ take (length b - at) x) ≡ min (at + length x) (length b)
  head_length x = omega (arith, length-append (take at b) (take (length b - at) x), length-take at b, length-take (length b - at) x)

  pub length_put : (x : Bytes) → length (put b at x) ≡ length b
  unfolding put
  length_put x = omega (arith, head_length x, length-append (take at b ++ take (length b - at) x) (drop (at + length x) b), length-drop (at + length x) b)

  -- past the end nothing fits
  put_past : length b ≤ at → (x : Bytes) → put b at x ≡ b
  unfolding put
  put_past h x =
      let room : length b - at ≡ 0 = omega arith in
      let end : length b ≤ at + length x = omega arith in
      rw (room, take_all at b h, drop_of_length-le b end, append-nil (b ++ []), append-nil b)

  module _ (x y : Bytes) where
    put_within : at ≤ length b → put (put b at x) (behind b at x) y ≡ put b at (x ++ y)
    unfolding put
    put_within h =
        let r = behind b at x in
        let room = length b - at in
        let head = take at b ++ take room x in
        let rest = drop (at + length x) b in
        let front : length head ≡ r = head_length x ∙ omega arith in
        let here : take r (head ++ rest) ≡ head = take_at head rest r front in
        let left : length (head ++ rest) - r ≡ room - length x = omega (arith, length_put x) in
        let both : head ++ take (room - length x) y ≡ take at b ++ take room (x ++ y) =
        append_assoc (take at b) (take room x) _ ∙ ap (λ (s : Bytes). take at b ++ s) (sym (take_append room x y)) in
        let size : at + length x + length y ≡ at + length (x ++ y) = omega (arith, length-append x y) in
        let end : drop (r + length y) (head ++ rest) ≡ drop (at + length (x ++ y)) b =
        ap (λ (k : ℕ). drop (k + length y) (head ++ rest)) (sym front)
        ∙ drop-append-add head rest (length y)
        ∙ drop-drop (length y) (at + length x) b
        ∙ ap (λ (k : ℕ). drop k b) size in
        ap₂ (λ (s t : Bytes). s ++ t) (ap₂ (λ (s : Bytes) (k : ℕ). s ++ take k y) here left ∙ both) end

    put_beyond : length b ≤ at → put (put b at x) (behind b at x) y ≡ put b at (x ++ y)
    put_beyond h =
        let stays : behind b at x ≡ at = omega arith in
        (λ i. put (put_past h x i) (stays i) y) ∙ put_past h y ∙ sym (put_past h (x ++ y))

    pub put_put : put (put b at x) (behind b at x) y ≡ put b at (x ++ y)
    put_put = ⊎_elim put_within (λ l. put_beyond (omega arith)) (le_or_lt at (length b))

    pub behind_behind : behind (put b at x) (behind b at x) y ≡ behind b at (x ++ y)
    behind_behind = omega (arith, length_put x, length-append x y)

-- a buffer and the place in it after some text was put in, in one step or in many
pub record Shown (before : Bytes) (at : ℕ) (new after : Bytes) (place : ℕ) : Type 0 where
  pub text : after ≡ put before at new
  pub end : place ≡ behind before at new

module _ {b : Bytes} {at : ℕ} {x after : Bytes} {place : ℕ} where
  pub shown : after ≡ put b at x → place ≡ behind b at x → Shown b at x after place
  shown t e = record { text = t; end = e }

  pub shown_more : (y : Bytes) {later : Bytes} {next : ℕ} → Shown b at x after place → later ≡ put after place y → next ≡ behind after place y → Shown b at (x ++ y) later next
  shown_more y s t e =
      record {
        text = t ∙ ap₂ (λ (w : Bytes) (k : ℕ). put w k y) s.text s.end ∙ put_put b at x y;
        end = e ∙ ap₂ (λ (w : Bytes) (k : ℕ). behind w k y) s.text s.end ∙ behind_behind b at x y;
      }

  -- the same text in other words
  pub shown_as : {y : Bytes} → Shown b at x after place → x ≡ y → Shown b at y after place
  shown_as s e = record { text = s.text ∙ ap (put b at) e; end = s.end ∙ ap (behind b at) e }

-- from the buffer's front, the place is how many bytes stand there
pub count : {b new after : Bytes} {place : ℕ} → Shown b 0 new after place → place ≡ min (length new) (length b)
count s = omega (arith, s.end)

-- what stands at the front is what was put there
pub front : (b x : Bytes) → length x ≤ length b → part (put b 0 x) 0 (behind b 0 x) ≡ x
unfolding put
front b x h =
    let size : length x ≡ 0 + min (length x) (length b - 0) = omega arith in
    rw (← size, sub-zero, zero-add, take_all (length b) x h) (take_at x (drop (length x) b) (length x) refl)
