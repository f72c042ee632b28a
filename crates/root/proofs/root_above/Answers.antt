-- `root::root_above` meets its contract.
use mathlib.Core.Bool.{true, false, not}
use mathlib.Core.Path.{◌≡◌, refl, sym, ap, ◌∙◌, subst}
use Prim.Native.Nat.{ℕ, zero, suc, ◌+◌, ◌-◌, ◌*◌, ◌/◌, ◌%◌, ◌^◌, ◌≤◌, ◌<◌}
use native.Mathlib.Nat.{mul_assoc, lt_irrefl, le_trans, le-mul_of_pos_right, mul-le-mul_right}
use native.Mathlib.Omega.{arith}
use lib.Dec.{T, ltb→lt}
use lib.Ieee.{Float, nan, inf, fin, binary64, fits, is_nan, to_bits}
use lib.Ieee.Bits.{of_bits-to_bits, to_bits-lt}
use lib.Ieee.Positive.{positive}
use lib.Pow.{pow-add, pow_pos}
use Rattle.root.specs.Root.{root_of, root_units, units_of}
use Rattle.root.proofs.PatternLaws.{Parts, parts}
use Rattle.root.proofs.root_above.Goals as goal
use Rattle.root.proofs.root_above.Goals.{Start}

number : (x : Float) → T (positive x) → T (not (is_nan x))
unfolding is_nan
number nan p = absurd p
number (inf s) p = absurd p
number (fin s m e) p = tt

-- the definition at a value above zero
root_is : (x : Float) → T (positive x) → root_of x ≡ root_units (units_of x * 2 ^ 1074)
unfolding root_of
root_is nan p = absurd p
root_is (inf s) p = absurd p
root_is (fin true m e) p = absurd p
root_is (fin false zero e) p = absurd (lt_irrefl 0 (ltb→lt 0 0 p))
root_is (fin false (suc m) e) p = refl

-- ---- the parts of the argument's pattern
known : (c : Start) → Parts c.args.x (to_bits binary64 c.args.x / 2 ^ 52) (to_bits binary64 c.args.x % 2 ^ 52)
known c = held c.args.x (subst T (sym c.well_formed.0.1) tt) c.requires
  where
    held : (x : Float) → T (fits binary64 x) → T (positive x) → Parts x (to_bits binary64 x / 2 ^ 52) (to_bits binary64 x % 2 ^ 52)
    held x f p =
        let e = of_bits-to_bits binary64 x f in
        subst (λ (y : Float). Parts y (to_bits binary64 x / 2 ^ 52) (to_bits binary64 x % 2 ^ 52)) e
        (parts (to_bits binary64 x) (to_bits-lt binary64 x f) (subst (λ (y : Float). T (positive y)) (sym e) p))

bounded : (c : Start) → to_bits binary64 c.args.x < 2 ^ 64
bounded c = to_bits-lt binary64 c.args.x (subst T (sym c.well_formed.0.1) tt)

low-is : (b : ℕ) → b < 2 ^ 64 → b - b / 2 ^ 52 * 2 ^ 52 % 2 ^ 64 ≡ b % 2 ^ 52
low-is b h = omega arith

-- ---- numbers and powers
power : (q f : ℕ) → (f ≡ 0 → ⊥) → q * 2 ^ (f + 51) * 2 ^ 1022 ≡ q * 2 ^ (f - 1) * 2 ^ 1074
power q f n =
    let e : f + 51 ≡ f - 1 + 52 = omega arith in
    ap (λ (x : ℕ). q * x * 2 ^ 1022) (ap (λ (k : ℕ). 2 ^ k) e ∙ pow-add 2 (f - 1) 52)
    ∙ ap (λ (x : ℕ). x * 2 ^ 1022) (sym (mul_assoc q (2 ^ (f - 1)) (2 ^ 52)))
    ∙ mul_assoc (q * 2 ^ (f - 1)) (2 ^ 52) (2 ^ 1022)

least : (q : ℕ) → 0 < q → 2 ^ 52 ≤ q * 2 ^ 52
least q h = mul-le-mul_right {m = 1} (2 ^ 52) h

large : (q k : ℕ) → 2 ^ 52 ≤ q → 2 ^ 52 ≤ q * 2 ^ k
large q k h = le_trans h (le-mul_of_pos_right q (pow_pos k))

pub float_to_bits-bits : goal.float_to_bits-bits
float_to_bits-bits c = number _ c.requires

pub root_of-requires : goal.root_of-requires
root_of-requires c =
    let l = low-is (to_bits binary64 c.args.x) (bounded (goal.at.root_of-requires c).Start) in
    (omega arith, least _ (omega (arith, (known (goal.at.root_of-requires c).Start).some)), omega arith)

pub overflow_add-low : goal.overflow_add-low
overflow_add-low c = omega (arith, bounded (goal.at.overflow_add-low c).Start, low-is _ (bounded (goal.at.overflow_add-low c).Start))

pub overflow_add-field : goal.overflow_add-field
overflow_add-field c = omega (arith, bounded (goal.at.overflow_add-field c).Start)

pub root_of-requires-else-field-eq0 : goal.root_of-requires-else-field-eq0
root_of-requires-else-field-eq0 c =
    let l = low-is (to_bits binary64 c.args.x) (bounded (goal.at.root_of-requires-else-field-eq0 c).Start) in
    (omega arith, large _ _ (omega arith), omega (arith, (known (goal.at.root_of-requires-else-field-eq0 c).Start).field_small))

pub returns-then-field-eq0 : goal.returns-then-field-eq0
returns-then-field-eq0 c =
    let x = c.args.x in
    let b = to_bits binary64 x in
    c.root_of.ensures
    ∙ ap root_units (mul_assoc _ (2 ^ 52) (2 ^ 1022) ∙ ap (λ (n : ℕ). n * 2 ^ 1074) (low-is b (bounded (goal.at.returns-then-field-eq0 c).Start) ∙ sym ((known (goal.at.returns-then-field-eq0 c).Start).none c.if-field-eq0.true)))
    ∙ sym (root_is x c.requires)

pub returns-else-field-eq0 : goal.returns-else-field-eq0
returns-else-field-eq0 c =
    let x = c.args.x in
    let b = to_bits binary64 x in
    c.root_of-else-field-eq0.ensures
    ∙ ap root_units (power _ (b / 2 ^ 52) c.if-field-eq0.false ∙ ap (λ (n : ℕ). (n + 2 ^ 52) * 2 ^ (b / 2 ^ 52 - 1) * 2 ^ 1074) (low-is b (bounded (goal.at.returns-else-field-eq0 c).Start)) ∙ ap (λ (n : ℕ). n * 2 ^ 1074) (sym ((known (goal.at.returns-else-field-eq0 c).Start).more c.if-field-eq0.false)))
    ∙ sym (root_is x c.requires)
