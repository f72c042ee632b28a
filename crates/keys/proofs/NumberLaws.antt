-- Keys, numbers and how often a name stands: which primitive each leads to.
use mathlib.Core.Bool.{Bool, true, false, cond, ◌&&◌, and-true, and-false}
use mathlib.Core.List.{List, [], ◌∷◌, ◌++◌}
use mathlib.Core.Path.{◌≡◌, refl, ap, sym, ◌∙◌}
use Prim.Native.Nat.{ℕ, zero, suc, ◌+◌, ◌≤◌, ◌<◌}
use native.Mathlib.Nat.{zero-add}
use native.Mathlib.Omega.{arith}
use borrow.Author.Tests.{leb-true, leb-false, le-leb, lt-leb, eqb-true, eqb-false, eq-eqb, ne_eqb}
use lib.Dec.{eqb, leb, leb-suc-zero}
use lib.ListN.{length, length-append}
use Rattle.laws.proofs.BytesLaws.{same_eq, same_refl}
use Rattle.laws.specs.Bytes.{Bytes, same}
use Rattle.scene.specs.Told.{Told}
use Rattle.keys.proofs.OrderLaws.{same_key_lem, key_same}
use Rattle.keys.specs.Key.{Key, times, key_over, from, same_key, found, is_found}

-- ---- how often a name stands

pub times_append : (w : Bytes) (x y : List Told) → times w (x ++ y) ≡ times w x + times w y
unfolding times
times_append w [] y = sym (zero-add (times w y))
times_append w (t ∷ x) y = go (same w t.name) (times_append w x y)
  where
    go : (b : Bool) → times w (x ++ y) ≡ times w x + times w y → cond b (suc (times w (x ++ y))) (times w (x ++ y)) ≡ cond b (suc (times w x)) (times w x) + times w y
    go true h = omega arith
    go false h = h

times_here : (t : Told) (x : List Told) → times t.name (t ∷ x) ≡ suc (times t.name x)
unfolding times
times_here t x = rw (same_refl t.name)

-- a count that is not one more is within n where it is within n + 1
leb_step : (i n : ℕ) → eqb i (suc n) ≡ false → leb i n ≡ leb i (suc n)
leb_step i n e = go (leb i n) refl
  where
    go : (b : Bool) → leb i n ≡ b → b ≡ leb i (suc n)
    go true q = sym (le-leb i (suc n) (omega (arith, leb-true i n q)))
    go false q = sym (lt-leb i (suc n) (omega (arith, leb-false i n q, eqb-false i (suc n) e)))

-- a key is found exactly where its count is from 1 to how often its name stands
pub found_times : (k : Key) (d : List Told) → is_found (found k d) ≡ (leb 1 k.nth && leb k.nth (times k.name d))
unfolding found times
found_times k [] = none k.nth
  where
    none : (n : ℕ) → false ≡ (leb 1 n && leb n 0)
    none zero = refl
    none (suc n) = rw (leb-suc-zero n, and-false)
found_times k (t ∷ d) = go (same k.name t.name) refl (found_times k d)
  where
    last : k.name ≡ t.name → (b : Bool) → eqb k.nth (suc (times t.name d)) ≡ b → is_found (found k d) ≡ (leb 1 k.nth && leb k.nth (times k.name d)) → is_found (cond b (t ∷ d) (found k d)) ≡ (leb 1 k.nth && leb k.nth (suc (times k.name d)))
    last q true e h =
        let n : k.nth ≡ suc (times k.name d) = eqb-true k.nth (suc (times t.name d)) e ∙ ap (λ (w : Bytes). suc (times w d)) (sym q) in
        rw (le-leb 1 k.nth (omega arith), le-leb k.nth (suc (times k.name d)) (omega arith))
    last q false e h = h ∙ ap (λ (b : Bool). leb 1 k.nth && b) (leb_step k.nth (times k.name d) (ap (λ (w : Bytes). eqb k.nth (suc (times w d))) q ∙ e))

    go : (b : Bool) → same k.name t.name ≡ b → is_found (found k d) ≡ (leb 1 k.nth && leb k.nth (times k.name d))
        → is_found (cond (eqb k.nth (suc (times t.name d)) && b) (t ∷ d) (found k d)) ≡ (leb 1 k.nth && leb k.nth (cond b (suc (times k.name d)) (times k.name d)))
    go true q h = rw and-true (last (same_eq k.name t.name q) (eqb k.nth (suc (times t.name d))) refl h)
    go false q h = rw and-false h

-- ---- by number

pub from_low : (x y : List Told) (n : ℕ) → n ≤ length y → from n (x ++ y) ≡ from n y
unfolding from
from_low [] y n h = refl
from_low (t ∷ x) y n h = rw (ne_eqb n (suc (length (x ++ y))) (λ e. omega (arith, length-append x y))) (from_low x y n h)

from_here : (t : Told) (x : List Told) → from (suc (length x)) (t ∷ x) ≡ t ∷ x
unfolding from
from_here t x = rw (eq-eqb (suc (length x)) (suc (length x)) refl)

pub from_above : (d : List Told) (n : ℕ) → length d < n → from n d ≡ []
unfolding from
from_above [] n h = refl
from_above (t ∷ d) n h = rw (ne_eqb n (suc (length d)) (λ e. omega arith)) (from_above d n (omega arith))

-- ---- both lead to a primitive of the list and those above it in the text

-- t and those above it are the end of d
abbrev Ends : List Told → Told → List Told → Type 0
Ends d t x = (l : List Told) × (d ≡ l ++ t ∷ x)

ends_more : (s : Told) (d : List Told) (t : Told) (x : List Told) → Ends d t x → Ends (s ∷ d) t x
ends_more s d t x (l, e) = (s ∷ l, ap {B = List Told} (λ (z : List Told). s ∷ z) e)

from_ends : (n : ℕ) (d : List Told) (t : Told) (x : List Told) → from n d ≡ t ∷ x → Ends d t x
unfolding from
from_ends n [] t x e = let z : ◌≡◌ {A = ℕ} 0 1 = cc in absurd (omega arith)
from_ends n (s ∷ d) t x e = go (eqb n (suc (length d))) e (from_ends n d t x)
  where
    go : (b : Bool) → cond b (s ∷ d) (from n d) ≡ t ∷ x → (from n d ≡ t ∷ x → Ends d t x) → Ends (s ∷ d) t x
    go true q ih = ([], q)
    go false q ih = ends_more s d t x (ih q)

found_ends : (k : Key) (d : List Told) (t : Told) (x : List Told) → found k d ≡ t ∷ x → Ends d t x × (key_over t x ≡ k)
unfolding found
found_ends k [] t x e = let z : ◌≡◌ {A = ℕ} 0 1 = cc in absurd (omega arith)
found_ends k (s ∷ d) t x e = go (same_key k (key_over s d)) refl e (found_ends k d t x)
  where
    go : (b : Bool) → same_key k (key_over s d) ≡ b → cond b (s ∷ d) (found k d) ≡ t ∷ x → (found k d ≡ t ∷ x → Ends d t x × (key_over t x ≡ k)) → Ends (s ∷ d) t x × (key_over t x ≡ k)
    go true p q ih =
        let a : s ≡ t = cc in
        let b : d ≡ x = cc in
        (([], q), (λ i. key_over (sym a i) (sym b i)) ∙ sym (same_key_lem k (key_over s d) p))
    go false p q ih = let h = ih q in (ends_more s d t x h.0, h.1)

found_here : (l : List Told) (t : Told) (x : List Told) → found (key_over t x) (l ++ t ∷ x) ≡ t ∷ x
unfolding found
found_here [] t x = rw (key_same (key_over t x))
found_here (s ∷ l) t x = go (same_key (key_over t x) (key_over s (l ++ t ∷ x))) refl (found_here l t x)
  where
    go : (b : Bool) → same_key (key_over t x) (key_over s (l ++ t ∷ x)) ≡ b → found (key_over t x) (l ++ t ∷ x) ≡ t ∷ x → cond b (s ∷ l ++ t ∷ x) (found (key_over t x) (l ++ t ∷ x)) ≡ t ∷ x
    go true p ih =
        let e = same_key_lem (key_over t x) (key_over s (l ++ t ∷ x)) p in
        let n : suc (times t.name x) ≡ suc (times t.name (l ++ t ∷ x)) = ap (λ (k : Key). k.nth) e ∙ ap (λ (w : Bytes). suc (times w (l ++ t ∷ x))) (sym (ap (λ (k : Key). k.name) e)) in
        absurd (omega (arith, n, times_append t.name l (t ∷ x), times_here t x))
    go false p ih = ih

-- what a key leads to has a number that leads there too, and what a number leads to has a key that does
pub found_from : (k : Key) (d : List Told) (t : Told) (x : List Told) → found k d ≡ t ∷ x → (from (suc (length x)) d ≡ t ∷ x) × (key_over t x ≡ k)
found_from k d t x e =
    let h = found_ends k d t x e in
    (ap (from (suc (length x))) h.0.1 ∙ from_low h.0.0 (t ∷ x) (suc (length x)) (omega arith) ∙ from_here t x, h.1)

pub from_found : (n : ℕ) (d : List Told) (t : Told) (x : List Told) → from n d ≡ t ∷ x → found (key_over t x) d ≡ t ∷ x
from_found n d t x e = let h = from_ends n d t x e in ap (found (key_over t x)) h.1 ∙ found_here h.0 t x
