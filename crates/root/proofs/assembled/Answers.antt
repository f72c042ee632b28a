-- `root::assembled` meets its contract.
use mathlib.Core.Bool.{Bool, not}
use mathlib.Core.Path.{◌≡◌, sym, ap, ◌∙◌, subst}
use Prim.Native.Nat.{ℕ, ◌+◌, ◌*◌, ◌%◌, ◌^◌, ◌<◌}
use native.Mathlib.Omega.{arith}
use lib.Dec.{T}
use lib.Ieee.{binary64, nan_bits, of_bits}
use Rattle.root.proofs.PatternLaws.{of_pattern, of_pattern_number}
use Rattle.root.proofs.assembled.Goals as goal

unshifted : (h s : ℕ) → h < 2046 → h * 2 ^ 52 % 2 ^ 64 + s ≡ h * 2 ^ 52 + s
unshifted h s a = omega arith

pub float_from_bits-result : goal.float_from_bits-result
float_from_bits-result c =
    let a = c.args in
    subst (λ (b : Bool). T (not b)) (sym (ap (nan_bits binary64) (unshifted a.power a.digits c.requires.0) ∙ of_pattern_number a.power a.digits c.requires.0 c.requires.1 c.requires.2)) tt

pub returns : goal.returns
returns c =
    let a = c.args in
    ap (of_bits binary64) (unshifted a.power a.digits c.requires.0) ∙ of_pattern a.power a.digits c.requires.0 c.requires.1 c.requires.2
