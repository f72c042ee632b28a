-- `root::next_digit` meets its contract.
use mathlib.Core.Bool.{Bool, true, false, cond}
use mathlib.Core.Logic.{◌⊎◌, inl, inr}
use mathlib.Core.Path.{◌≡◌, refl, sym, ap, ◌∙◌, subst}
use Prim.Native.Nat.{ℕ, ◌+◌, ◌-◌, ◌*◌, ◌/◌, ◌%◌, ◌^◌, ◌≤◌, ◌<◌}
use native.Mathlib.Nat.{add-zero, lt_of_lt_of_le, pow-suc, sub-zero}
use native.Mathlib.Numerals.{add-one}
use native.Mathlib.Omega.{arith}
use borrow.Author.Tests.{le-leb, lt-leb}
use lib.Dec.{leb}
use lib.Pow.{pow_mono}
use Rattle.laws.proofs.BoolLaws.{cond_elim}
use Rattle.laws.proofs.NatLaws.{le_or_lt}
use Rattle.root.specs.declared.Digits.{Digits}
use Rattle.root.specs.Digits.{Found, OneMore}
use Rattle.root.proofs.RootLaws.{square_next, square_twice}
use Rattle.root.proofs.next_digit.Goals as goal

-- ---- the next digit of s, with `rest` left and two digits, `pair`, brought down
abbrev Next : (s rest pair s' rest' : ℕ) → Type 0
Next s rest pair s' rest' = (rest' ≤ s' * 2) × (s' ≤ s * 2 + 1) × (s' * s' + rest' ≡ 4 * (s * s + rest) + pair)

sum_one : (a r s x y z : ℕ) → a ≡ 4 * s + (2 * (x * 2) + 1) → r + (4 * x + 1) ≡ 4 * y + z → a + r ≡ 4 * (s + y) + z
sum_one a r s x y z e f = omega arith

one : (s rest pair s' rest' : ℕ) → s < 2 ^ 53 → rest ≤ s * 2 → pair < 4 → s * 4 % 2 ^ 64 + 1 ≤ rest * 4 % 2 ^ 64 + pair
    → s' ≡ s * 2 % 2 ^ 64 + 1 → rest' ≡ rest * 4 % 2 ^ 64 + pair - (s * 4 % 2 ^ 64 + 1) → Next s rest pair s' rest'
one s rest pair s' rest' b h p t e f =
    let d : s' ≡ s * 2 + 1 = omega arith in
    let r : rest' + (4 * s + 1) ≡ 4 * rest + pair = omega arith in
    (omega arith, omega arith, sum_one _ _ _ s _ _ (ap (λ (z : ℕ). z * z) d ∙ square_next (s * 2) ∙ ap (λ (z : ℕ). z + (2 * (s * 2) + 1)) (square_twice s)) r)

sum-none : (a r s y z : ℕ) → a ≡ 4 * s → r ≡ 4 * y + z → a + r ≡ 4 * (s + y) + z
sum-none a r s y z e f = omega arith

none : (s rest pair s' rest' : ℕ) → s < 2 ^ 53 → rest ≤ s * 2 → pair < 4 → rest * 4 % 2 ^ 64 + pair < s * 4 % 2 ^ 64 + 1
    → s' ≡ s * 2 % 2 ^ 64 → rest' ≡ rest * 4 % 2 ^ 64 + pair → Next s rest pair s' rest'
none s rest pair s' rest' b h p t e f =
    let d : s' ≡ s * 2 = omega arith in
    let r : rest' ≡ 4 * rest + pair = omega arith in
    (omega arith, omega arith, sum-none _ _ _ _ _ (ap (λ (z : ℕ). z * z) d ∙ square_twice s) r)

-- the digit and what it takes off, by whether there is room for the trial
chosen : (s rest pair g t s' rest' : ℕ) → s < 2 ^ 53 → rest ≤ s * 2 → pair < 4
    → g ≡ cond (leb (s * 4 % 2 ^ 64 + 1) (rest * 4 % 2 ^ 64 + pair)) 1 0 → t ≡ cond (leb (s * 4 % 2 ^ 64 + 1) (rest * 4 % 2 ^ 64 + pair)) (s * 4 % 2 ^ 64 + 1) 0
    → s' ≡ s * 2 % 2 ^ 64 + g → rest' ≡ rest * 4 % 2 ^ 64 + pair - t → Next s rest pair s' rest'
chosen s rest pair g t s' rest' b h p eg et e f = go (le_or_lt trial left)
  where
    trial : ℕ
    trial = s * 4 % 2 ^ 64 + 1

    left : ℕ
    left = rest * 4 % 2 ^ 64 + pair

    go : (trial ≤ left) ⊎ (left < trial) → Next s rest pair s' rest'
    go (inl l) =
        let room : leb trial left ≡ true = le-leb trial left l in
        let g1 : g ≡ 1 = eg ∙ ap (λ (c : Bool). cond c 1 0) room in
        let t1 : t ≡ trial = et ∙ ap (λ (c : Bool). cond c trial 0) room in
        one s rest pair s' rest' b h p l (e ∙ ap (λ (n : ℕ). s * 2 % 2 ^ 64 + n) g1) (f ∙ ap (λ (n : ℕ). left - n) t1)
    go (inr l) =
        let none_left : leb trial left ≡ false = lt-leb trial left l in
        let g0 : g ≡ 0 = eg ∙ ap (λ (c : Bool). cond c 1 0) none_left in
        let t0 : t ≡ 0 = et ∙ ap (λ (c : Bool). cond c trial 0) none_left in
        none s rest pair s' rest' b h p l (e ∙ ap (λ (n : ℕ). s * 2 % 2 ^ 64 + n) g0 ∙ add-zero (s * 2 % 2 ^ 64)) (f ∙ ap (λ (n : ℕ). left - n) t0 ∙ sub-zero left)

digit-most : (g : ℕ) (b : Bool) → g ≡ cond b 1 0 → g ≤ 1
digit-most g b e = omega (arith, e, cond_elim (λ (n : ℕ). n ≤ 1) b {x = 1} {y = 0} (omega arith) (omega arith))

taken-most : (t a b : ℕ) → t ≡ cond (leb a b) a 0 → t ≤ b
taken-most t a b e = go (le_or_lt a b)
  where
    go : (a ≤ b) ⊎ (b < a) → t ≤ b
    go (inl l) = let q : t ≡ a = e ∙ ap (λ (c : Bool). cond c a 0) (le-leb a b l) in omega arith
    go (inr l) = let q : t ≡ 0 = e ∙ ap (λ (c : Bool). cond c a 0) (lt-leb a b l) in omega arith

-- ---- the two leading digits of w are brought down
pair_small : (w : ℕ) → w < 2 ^ 54 → w / 2 ^ 52 < 4
pair_small w h = omega arith

shifted : (w : ℕ) → w < 2 ^ 54 → (w - w / 2 ^ 52 * 2 ^ 52 % 2 ^ 64) * 4 % 2 ^ 64 ≡ w % 2 ^ 52 * 4
shifted w h = omega arith

below : (w v : ℕ) → v ≡ w % 2 ^ 52 * 4 → v < 2 ^ 54
below w v e = omega arith

brought : (x w v y : ℕ) → v ≡ w % 2 ^ 52 * 4 → y ≡ 4 * x + w / 2 ^ 52 → y * 2 ^ 54 + v ≡ (x * 2 ^ 54 + w) * 4
brought x w v y e f = omega arith

-- ---- one digit more
doubled : (s p s' : ℕ) → s' ≤ s * 2 + 1 → s < p → s' < p * 2
doubled s p s' h k = omega arith

root-53 : (d : Digits) → Found d → d.found < 53 → d.root < 2 ^ 53
root-53 d f h = lt_of_lt_of_le f.root_small (pow_mono {i = d.found} {j = 53} (omega arith))

more : (d e : Digits) → Found d → e.found ≡ d.found + 1 → e.number ≡ (d.number - d.number / 2 ^ 52 * 2 ^ 52 % 2 ^ 64) * 4 % 2 ^ 64
    → Next d.root d.rest (d.number / 2 ^ 52) e.root e.rest → OneMore d e
more d e f k v n =
    let w : e.number ≡ d.number % 2 ^ 52 * 4 = v ∙ shifted d.number f.number_small in
    let power : 2 ^ e.found ≡ 2 ^ d.found * 2 = ap (λ (j : ℕ). 2 ^ j) (k ∙ add-one d.found) ∙ pow-suc 2 d.found in
    record {
      found = record { root_small = subst (λ (p : ℕ). e.root < p) (sym power) (doubled d.root (2 ^ d.found) e.root n.1 f.root_small); rest_small = n.0; number_small = below d.number e.number w };
      same = brought (d.root * d.root + d.rest) d.number e.number (e.root * e.root + e.rest) w n.2;
      digit = k;
    }

pub overflow_add-result : goal.overflow_add-result
overflow_add-result c =
    let d = c.args.d in
    omega (arith, digit-most _ (leb (d.root * 4 % 2 ^ 64 + 1) (d.rest * 4 % 2 ^ 64 + d.number / 2 ^ 52)) c.digit_of.ensures, root-53 d c.requires.0 c.requires.1)

pub overflow_sub-result : goal.overflow_sub-result
overflow_sub-result c = taken-most _ _ _ c.taken_off.ensures

pub returns : goal.returns
returns c =
    let d = c.args.d in
    let f = c.requires.0 in
    more d _ f refl refl (chosen d.root d.rest (d.number / 2 ^ 52) _ _ _ _ (root-53 d f c.requires.1) f.rest_small (pair_small d.number f.number_small) c.digit_of.ensures c.taken_off.ensures refl refl)
