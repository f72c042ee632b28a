-- Bytes put into the output in one step or in many.
use mathlib.Core.Bool.{Bool, true, false, ◌||◌, or_assoc}
use mathlib.Core.List.{[], ◌++◌, append_assoc, append-nil}
use mathlib.Core.Path.{◌≡◌, refl, sym, ap, subst, ◌∙◌}
use Prim.Native.Nat.{ℕ, ◌+◌, ◌-◌, min}
use native.Mathlib.Nat.{add-zero}
use native.Mathlib.Omega.{arith}
use borrow.Author.Tests.{ltb-true, ltb-false, lt-ltb, le-ltb}
use lib.Dec.{ltb}
use lib.ListN.{length, length-append, take-append-drop}
use lib.Seq.{take-nil}
use Rattle.buffer.proofs.PutLaws.{put_put, behind_behind, length_put}
use Rattle.buffer.specs.Put.{put, behind}
use Rattle.laws.specs.Bytes.{Bytes}
use Rattle.lines.specs.Puts.{moved, Puts}
use Rattle.lines.specs.declared.Cursor.{Cursor}

-- whether the first bytes do not fit, or those behind them
fits_not : (room x y : ℕ) → (ltb room x || ltb (room - x) y) ≡ ltb room (x + y)
fits_not room x y = go (ltb room x) refl
  where
    behind : (b : Bool) → ltb (room - x) y ≡ b → ltb room x ≡ false → b ≡ ltb room (x + y)
    behind true f e = let h = ltb-false room x e in let k = ltb-true (room - x) y f in sym (lt-ltb room (x + y) (omega arith))
    behind false f e = let h = ltb-false room x e in let k = ltb-false (room - x) y f in sym (le-ltb room (x + y) (omega arith))

    go : (b : Bool) → ltb room x ≡ b → (b || ltb (room - x) y) ≡ ltb room (x + y)
    go true e = let h = ltb-true room x e in sym (lt-ltb room (x + y) (omega arith))
    go false e = behind (ltb (room - x) y) refl e

moved_moved : (out : Bytes) (c : Cursor) (x y : Bytes) → moved (put out c.at x) (moved out c x) y ≡ moved out c (x ++ y)
moved_moved out c x y =
    let room = length out - c.at in
    let left : length (put out c.at x) - behind out c.at x ≡ room - length x = omega (arith, length_put out c.at x) in
    let full : (c.full || ltb room (length x) || ltb (length (put out c.at x) - behind out c.at x) (length y)) ≡ (c.full || ltb room (length (x ++ y))) =
    or_assoc c.full _ _
    ∙ ap (λ (k : ℕ). c.full || (ltb room (length x) || ltb k (length y))) left
    ∙ ap (λ (b : Bool). c.full || b) (fits_not room (length x) (length y) ∙ ap (ltb room) (sym (length-append x y))) in
    λ i. record { at = behind_behind out c.at x y i; full = full i }

pub puts_length : {out out' x : Bytes} {c r : Cursor} → Puts out c x r out' → length out' ≡ length out
puts_length {out = out} {x = x} {c = c} p = ap length p.text ∙ length_put out c.at x

-- some bytes, and then others behind them
pub puts_more : {out out' out'' : Bytes} {c r s : Cursor} (x y : Bytes) → Puts out c x r out' → Puts out' r y s out'' → Puts out c (x ++ y) s out''
puts_more {out} {out'} {out''} {c} {r} {s} x y p q = record {
  text = q.text ∙ (λ i. put (p.text i) (p.cursor i).at y) ∙ put_put out c.at x y;
  cursor = q.cursor ∙ (λ i. moved (p.text i) (p.cursor i) y) ∙ moved_moved out c x y;
}

-- the same bytes, written another way
pub puts_as : {out out' : Bytes} {c r : Cursor} {x : Bytes} (y : Bytes) → x ≡ y → Puts out c x r out' → Puts out c y r out'
puts_as {out} {out'} {c} {r} y e p = subst (λ (z : Bytes). Puts out c z r out') e p

-- no bytes
pub puts_none : (out : Bytes) (c : Cursor) → Puts out c [] c out
unfolding put
puts_none out c = record {
  text = sym (rw (take-nil, append-nil, add-zero) (take-append-drop c.at out));
  cursor = λ i. record { at = at i; full = sym (full c.full) i };
}
  where
    at : c.at ≡ c.at + min 0 (length out - c.at)
    at = omega arith

    full : (b : Bool) → (b || ltb (length out - c.at) 0) ≡ b
    full true = refl
    full false = le-ltb (length out - c.at) 0 (omega arith)

-- all is put but the rest
pub record PutsUpTo (out : Bytes) (c : Cursor) (all rest : Bytes) (r : Cursor) (out' : Bytes) : Type 0 where
  pub done : Bytes
  pub puts : Puts out c done r out'
  pub whole : done ++ rest ≡ all

pub none_yet : (out : Bytes) (c : Cursor) (all : Bytes) → PutsUpTo out c all all c out
none_yet out c all = record { done = []; puts = puts_none out c; whole = refl }

pub some_more : {out out' out'' all rest : Bytes} {c r s : Cursor} (x left : Bytes) → rest ≡ x ++ left → PutsUpTo out c all rest r out' → Puts out' r x s out'' → PutsUpTo out c all left s out''
some_more x left e p q = record { done = p.done ++ x; puts = puts_more p.done x p.puts q; whole = append_assoc p.done x left ∙ ap (λ (y : Bytes). p.done ++ y) (sym e) ∙ p.whole }

pub all_put : {out out' all rest : Bytes} {c r : Cursor} → rest ≡ [] → PutsUpTo out c all rest r out' → Puts out c all r out'
all_put {all = all} e p = puts_as all (sym (append-nil p.done) ∙ ap (λ (y : Bytes). p.done ++ y) (sym e) ∙ p.whole) p.puts
