-- Two neighbouring parts of a list of rows change places: where neither has a name of the other, each row keeps its key.
use mathlib.Core.Bool.{Bool, true, false, cond}
use mathlib.Core.List.{List, [], ◌∷◌, ◌++◌}
use mathlib.Core.Logic.{◌⊎◌, inl, inr}
use mathlib.Core.Path.{◌≡◌, refl, ap, sym, ◌∙◌}
use Prim.Native.Nat.{ℕ, suc, ◌+◌, ◌-◌, ◌≤◌, ◌<◌}
use native.Mathlib.Omega.{arith}
use borrow.Author.Tests.{eqb-true, eqb-false, eq-eqb, ne_eqb}
use lib.Dec.{eqb}
use lib.ListN.{length, length-append}
use Rattle.laws.proofs.NatLaws.{le_or_lt}
use Rattle.laws.specs.Bytes.{Bytes}
use Rattle.scene.proofs.SwapLaws.{shift_low, shift_first, shift_second, shift_high}
use Rattle.scene.specs.Block.{shift}
use Rattle.scene.specs.Told.{Told}
use Rattle.keys.proofs.NumberLaws.{times_append, from_low, from_above}
use Rattle.keys.specs.Key.{times, from, key_at, key_of}

-- the names of x stand as often in y as in z
abbrev Alike : List Told → List Told → List Told → Type 0
Alike [] y z = Unit {0}
Alike (t ∷ x) y z = (times t.name y ≡ times t.name z) × Alike x y z

-- the rows of x have the same keys over y as over z; none has a number above theirs
keys_over : (x y z : List Told) → Alike x y z → (k : ℕ) → key_of (x ++ y) (suc (k + length y)) ≡ key_of (x ++ z) (suc (k + length z))
unfolding from
keys_over [] y z h k = ap key_at (from_above y (suc (k + length y)) (omega arith) ∙ sym (from_above z (suc (k + length z)) (omega arith)))
keys_over (t ∷ x) y z h k = rw (test y, test z) (go (eqb k (length x)) (keys_over x y z h.1 k))
  where
    test : (w : List Told) → eqb (suc (k + length w)) (suc (length (x ++ w))) ≡ eqb k (length x)
    test w = pick (eqb k (length x)) refl
      where
        pick : (b : Bool) → eqb k (length x) ≡ b → eqb (suc (k + length w)) (suc (length (x ++ w))) ≡ b
        pick true e = eq-eqb (suc (k + length w)) (suc (length (x ++ w))) (omega (arith, length-append x w, eqb-true k (length x) e))
        pick false e = ne_eqb (suc (k + length w)) (suc (length (x ++ w))) (λ q. omega (arith, length-append x w, eqb-false k (length x) e))

    nth : times t.name (x ++ y) ≡ times t.name (x ++ z)
    nth = omega (arith, h.0, times_append t.name x y, times_append t.name x z)

    go : (b : Bool) → key_of (x ++ y) (suc (k + length y)) ≡ key_of (x ++ z) (suc (k + length z)) → key_at (cond b (t ∷ x ++ y) (from (suc (k + length y)) (x ++ y))) ≡ key_at (cond b (t ∷ x ++ z) (from (suc (k + length z)) (x ++ z)))
    go true ih = λ i. record { name = t.name; nth = suc (nth i) }
    go false ih = ih

-- no name of x stands in y
abbrev pub Apart : List Told → List Told → Type 0
Apart [] y = Unit {0}
Apart (t ∷ x) y = (times t.name y ≡ 0) × Apart x y

skip : (x y z : List Told) → Apart x y → Alike x z (y ++ z)
skip [] y z h = tt
skip (t ∷ x) y z h = (omega (arith, h.0, times_append t.name y z), skip x y z h.1)

-- the rows of both parts, in either order, have each name as often
times_turned : (w : Bytes) (a b p : List Told) → times w (b ++ (a ++ p)) ≡ times w (a ++ (b ++ p))
times_turned w a b p = omega (arith, times_append w b (a ++ p), times_append w a p, times_append w a (b ++ p), times_append w b p)

turn : (x a b p : List Told) → Alike x (b ++ (a ++ p)) (a ++ (b ++ p))
turn [] a b p = tt
turn (t ∷ x) a b p = (times_turned t.name a b p, turn x a b p)

low : (x y : List Told) (n : ℕ) → n ≤ length y → key_of (x ++ y) n ≡ key_of y n
low x y n h = ap key_at (from_low x y n h)

-- p, a, b, q in the text's order; rows stand latest first
module _ (p a b q : List Told) where
  abbrev old : List Told
  old = q ++ (b ++ (a ++ p))

  abbrev new : List Told
  new = q ++ (a ++ (b ++ p))

  pub times_kept : (w : Bytes) → times w new ≡ times w old
  times_kept w = omega (arith, times_append w q (a ++ (b ++ p)), times_append w q (b ++ (a ++ p)), times_turned w a b p)

  module _ (ab : Apart a b) (ba : Apart b a) (n : ℕ) where
    abbrev Kept : Type 0
    Kept = key_of new (shift (length p) (length a) (length b) n) ≡ key_of old n

    -- of the row that was number m and is number m'
    kept : (m m' : ℕ) → shift (length p) (length a) (length b) n ≡ m' → m ≡ n → key_of new m' ≡ key_of old m → Kept
    kept m m' e g h = ap (key_of new) e ∙ h ∙ ap (key_of old) g

    ap≡ : length (a ++ p) ≡ length a + length p
    ap≡ = length-append a p

    bp≡ : length (b ++ p) ≡ length b + length p
    bp≡ = length-append b p

    bap≡ : length (b ++ (a ++ p)) ≡ length b + length (a ++ p)
    bap≡ = length-append b (a ++ p)

    abp≡ : length (a ++ (b ++ p)) ≡ length a + length (b ++ p)
    abp≡ = length-append a (b ++ p)

    before_both : n ≤ length p → Kept
    before_both h =
        kept n n (shift_low (length p) (length a) (length b) n h) refl
        (low q (a ++ (b ++ p)) n (omega (arith, abp≡, bp≡)) ∙ low a (b ++ p) n (omega (arith, bp≡)) ∙ low b p n h
        ∙ sym (low q (b ++ (a ++ p)) n (omega (arith, bap≡, ap≡)) ∙ low b (a ++ p) n (omega (arith, ap≡)) ∙ low a p n h))

    in_first : length p < n → n ≤ length p + length a → Kept
    in_first g h =
        let k : ℕ = n - suc (length p) in
        kept (suc (k + length p)) (suc (k + length (b ++ p))) (shift_first (length p) (length a) (length b) n g h ∙ omega (arith, bp≡)) (omega arith)
        (low q (a ++ (b ++ p)) (suc (k + length (b ++ p))) (omega (arith, abp≡)) ∙ sym (keys_over a p (b ++ p) (skip a b p ab) k)
        ∙ sym (low q (b ++ (a ++ p)) (suc (k + length p)) (omega (arith, bap≡, ap≡)) ∙ low b (a ++ p) (suc (k + length p)) (omega (arith, ap≡))))

    in_second : length p + length a < n → n ≤ length p + length a + length b → Kept
    in_second g h =
        let k : ℕ = n - suc (length (a ++ p)) in
        kept (suc (k + length (a ++ p))) (suc (k + length p)) (shift_second (length p) (length a) (length b) n g h ∙ omega (arith, ap≡)) (omega (arith, ap≡))
        (low q (a ++ (b ++ p)) (suc (k + length p)) (omega (arith, ap≡, abp≡, bp≡)) ∙ low a (b ++ p) (suc (k + length p)) (omega (arith, ap≡, bp≡)) ∙ keys_over b p (a ++ p) (skip b a p ba) k
        ∙ sym (low q (b ++ (a ++ p)) (suc (k + length (a ++ p))) (omega (arith, ap≡, bap≡))))

    behind_both : length p + length a + length b < n → Kept
    behind_both h =
        let k : ℕ = n - suc (length (b ++ (a ++ p))) in
        kept (suc (k + length (b ++ (a ++ p)))) (suc (k + length (a ++ (b ++ p)))) (shift_high (length p) (length a) (length b) n h ∙ omega (arith, ap≡, bp≡, bap≡, abp≡)) (omega (arith, ap≡, bap≡))
        (sym (keys_over q (b ++ (a ++ p)) (a ++ (b ++ p)) (turn q a b p) k))

    pub keys_kept : key_of new (shift (length p) (length a) (length b) n) ≡ key_of old n
    keys_kept = go (le_or_lt n (length p)) (le_or_lt n (length p + length a)) (le_or_lt n (length p + length a + length b))
      where
        go : (n ≤ length p) ⊎ (length p < n) → (n ≤ length p + length a) ⊎ (length p + length a < n) → (n ≤ length p + length a + length b) ⊎ (length p + length a + length b < n) → Kept
        go (inl h) j k = before_both h
        go (inr g) (inl h) k = in_first g h
        go (inr g) (inr h) (inl k) = in_second h k
        go (inr g) (inr h) (inr k) = behind_both k
