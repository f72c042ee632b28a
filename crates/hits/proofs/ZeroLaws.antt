-- With the least distance 0 the answers are the old ones.
use mathlib.Core.Bool.{true, false, cond, and-true}
use mathlib.Core.List.{List, [], ◌∷◌}
use mathlib.Core.Path.{◌≡◌, refl}
use Prim.Native.Nat.{◌+◌, ◌*◌}
use native.Mathlib.Omega.{arith}
use borrow.Author.Tests.{le-ltb}
use lib.Ieee.{Float, nan, inf, fin, down, eq, le, lt, up}
use lib.Dec.{ltb}
use lib.IntN.{pos}
use Rattle.steps.specs.Step.{+0}
use Rattle.steps.specs.declared.Vector.{Vector}
use Rattle.hits.proofs.ShapeLaws.{hit_cond, plane_within}
use Rattle.hits.specs.Ahead.{ahead}
use Rattle.hits.specs.FromZero.{OldAnswers, above0, centre_from_zero, first_above0, plane_from_zero, ring_from_zero, solved_from_zero, sphere_from_zero}
use Rattle.hits.specs.Plane.{in_plane, plane_hit}
use Rattle.hits.specs.Ring.{on_ring, ring_hit}
use Rattle.hits.specs.Shape.{Candidate, Meets, Shape, at, fails, first_ahead, hit_above, hit_of, or_else}
use Rattle.hits.specs.Sphere.{from_centre, solved, sphere_hit}
use Rattle.hits.specs.declared.Ray.{Ray}
use Rattle.hits.specs.declared.Ring.{Ring}
use Rattle.hits.specs.declared.Sphere.{Sphere}

pub zero_allowed : le +0 +0 ≡ true
unfolding le lt eq
zero_allowed = refl

solved_old : (a b D : Float) → hit_of +0 (solved a b D) ≡ solved_from_zero a b D
unfolding solved solved_from_zero first_ahead first_above0 ahead above0
solved_old a b D = simp hit_cond

centre_old : (p d : Vector) (r : Float) → hit_of +0 (from_centre p d r) ≡ centre_from_zero p d r
unfolding from_centre centre_from_zero
centre_old p d r = simp (hit_cond, solved_old)

sphere_old : (ray : Ray) (s : Sphere) → sphere_hit +0 ray s ≡ sphere_from_zero ray s
unfolding hit_above sphere_from_zero
sphere_old ray s = simp (and-true, zero_allowed, centre_old)

pub plane_old : (ray : Ray) (c n : Vector) → plane_hit +0 ray c n ≡ plane_from_zero ray c n
unfolding in_plane plane_from_zero first_ahead ahead above0
plane_old ray c n = simp hit_cond

ring_old : (ray : Ray) (g : Ring) → ring_hit +0 ray g ≡ ring_from_zero ray g
unfolding hit_above ring_from_zero
ring_old ray g = simp (and-true, zero_allowed, plane_within +0 (on_ring ray g) ray g.centre g.normal, plane_old)

-- ---- the sign of 0

-0 : Float
-0 = fin true 0 (pos 0)

same_ahead : (t : Float) → ahead -0 t ≡ ahead +0 t
unfolding ahead lt -0
same_ahead nan = refl
same_ahead (inf s) = refl
same_ahead (fin false m e) =
    let none : 0 ≡ 0 * down e = omega arith in
    let sum : 0 * down e + m * up e * 1 ≡ m * up e * 1 = omega arith in
    λ i. ltb (none i) (sum i)
same_ahead (fin true m e) = le-ltb (m * up e * 1) (0 * down e) (omega arith)

candidates_same : (cs : List Candidate) → first_ahead -0 cs ≡ first_ahead +0 cs
unfolding first_ahead
candidates_same [] = refl
candidates_same (c ∷ cs) = λ i. cond (same_ahead c.distance i) (or_else c.there (candidates_same cs i)) (candidates_same cs i)

meets_same : (x : Meets) → hit_of -0 x ≡ hit_of +0 x
meets_same (at cs) = candidates_same cs
meets_same (fails n) = refl

minus_allowed : le +0 -0 ≡ true
unfolding le lt eq -0
minus_allowed = refl

minus_zero_lem : (s : Shape) → hit_above -0 s ≡ hit_above +0 s
unfolding hit_above -0
minus_zero_lem s = rw (minus_allowed, zero_allowed, meets_same s.meets)

pub old_answers : OldAnswers
unfolding -0
old_answers = record { sphere = sphere_old; ring = ring_old; minus_zero = minus_zero_lem }
