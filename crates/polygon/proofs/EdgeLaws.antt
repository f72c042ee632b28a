-- The corners and edges as the code goes along them.
use mathlib.Core.Bool.{Bool, true, false, beq, cond, not}
use mathlib.Core.List.{List, [], ◌∷◌}
use mathlib.Core.Option.{none, some}
use mathlib.Core.Path.{◌≡◌, refl, ap, sym, ◌∙◌}
use Prim.Native.Nat.{ℕ, suc, ◌+◌, ◌*◌, ◌≤◌, ◌<◌}
use native.Mathlib.Omega.{arith}
use lib.Ieee.{Float, nan}
use lib.ListN.{length, drop, get_or}
use lib.Seq.{drop-cons}
use Rattle.steps.specs.declared.Vector.{Vector}
use Rattle.edges.specs.Corners.{corners_of, edge, edges_from, edges_of}
use Rattle.edges.specs.Crossing.{Crossed, crossed, inside, parity}
use Rattle.edges.specs.Normal.{Axis, cross, normal_of, plus, sum_from}

-- ---- corners

pub corner_there : (l : List Float) (k : ℕ) → k * 3 + 3 ≤ length l
    → corners_of (drop (k * 3) l) ≡ record { x = get_or l (k * 3) nan; y = get_or l (k * 3 + 1) nan; z = get_or l (k * 3 + 2) nan } ∷ corners_of (drop ((k + 1) * 3) l)
unfolding corners_of
corner_there l k h =
    let at = k * 3 in
    let e1 : suc at ≡ at + 1 = omega arith in
    let e2 : suc (at + 1) ≡ at + 2 = omega arith in
    let e3 : suc (at + 2) ≡ (k + 1) * 3 = omega arith in
    let d1 : drop at l ≡ get_or l at nan ∷ drop (at + 1) l = drop-cons l at nan (omega arith) ∙ ap {B = List Float} (λ (n : ℕ). get_or l at nan ∷ drop n l) e1 in
    let d2 : drop (at + 1) l ≡ get_or l (at + 1) nan ∷ drop (at + 2) l = drop-cons l (at + 1) nan (omega arith) ∙ ap {B = List Float} (λ (n : ℕ). get_or l (at + 1) nan ∷ drop n l) e2 in
    let d3 : drop (at + 2) l ≡ get_or l (at + 2) nan ∷ drop ((k + 1) * 3) l = drop-cons l (at + 2) nan (omega arith) ∙ ap {B = List Float} (λ (n : ℕ). get_or l (at + 2) nan ∷ drop n l) e3 in
    ap corners_of d1 ∙ ap (λ (r : List Float). corners_of (get_or l at nan ∷ r)) d2 ∙ ap (λ (r : List Float). corners_of (get_or l at nan ∷ get_or l (at + 1) nan ∷ r)) d3

corners_none : (l : List Float) → length l < 3 → corners_of l ≡ []
unfolding corners_of
corners_none [] h = refl
corners_none (x ∷ []) h = refl
corners_none (x ∷ y ∷ []) h = refl
corners_none (x ∷ y ∷ z ∷ l) h = absurd (omega arith)

-- past the last corner
pub corners_end : (l : List Float) (k : ℕ) → length (drop (k * 3) l) < 3 → corners_of (drop (k * 3) l) ≡ []
corners_end l k h = corners_none (drop (k * 3) l) h

-- ---- the normal

module _ (l : List Float) (first : Vector) where
  -- what is left to add, from a corner on
  abbrev pub Adds : (from n : Vector) → (i : ℕ) → Type 0
  Adds from n i = sum_from n (edges_from first from (corners_of (drop (i * 3) l))) ≡ normal_of (edges_of (corners_of l))

  pub adds_first : (second n : Vector) → corners_of (drop (0 * 3) l) ≡ first ∷ corners_of (drop ((0 + 1) * 3) l) → corners_of (drop (1 * 3) l) ≡ second ∷ corners_of (drop ((1 + 1) * 3) l) → n ≡ cross (edge first second) → Adds second n 2
  unfolding edges_from normal_of
  adds_first second n a b e = ap (λ (z : Vector). sum_from z (edges_from first second (corners_of (drop (2 * 3) l)))) e ∙ sym (ap (λ (cs : List Vector). normal_of (edges_of cs)) (a ∙ ap {B = List Vector} (λ (cs : List Vector). first ∷ cs) b))

  pub adds_more : (from to n c m : Vector) (i : ℕ) → Adds from n i → corners_of (drop (i * 3) l) ≡ to ∷ corners_of (drop ((i + 1) * 3) l) → c ≡ cross (edge from to) → m ≡ plus n c → Adds to m (i + 1)
  unfolding edges_from sum_from
  adds_more from to n c m i A e ec em = ap (λ (z : Vector). sum_from z (edges_from first to (corners_of (drop ((i + 1) * 3) l)))) (em ∙ ap (plus n) ec) ∙ sym (ap (λ (cs : List Vector). sum_from n (edges_from first from cs)) e) ∙ A

  pub adds_last : (from n c m : Vector) (i : ℕ) → Adds from n i → corners_of (drop (i * 3) l) ≡ [] → c ≡ cross (edge from first) → m ≡ plus n c → m ≡ normal_of (edges_of (corners_of l))
  unfolding edges_from sum_from
  adds_last from n c m i A e ec em = em ∙ ap (plus n) ec ∙ sym (ap (λ (cs : List Vector). sum_from n (edges_from first from cs)) e) ∙ A

-- ---- the crossings

parity_more : (o c : Bool) (r : Crossed) → parity (some o) (parity (some c) r) ≡ parity (some (cond c (not o) o)) r
parity_more true true none = refl
parity_more true true (some true) = refl
parity_more true true (some false) = refl
parity_more true false none = refl
parity_more true false (some b) = refl
parity_more false true none = refl
parity_more false true (some b) = refl
parity_more false false none = refl
parity_more false false (some b) = refl

-- one crossing more, or none
pub flipped : (o c : Bool) → not (beq o c) ≡ cond c (not o) o
flipped true true = refl
flipped true false = refl
flipped false true = refl
flipped false false = refl

parity_none : (q : Crossed) → parity q none ≡ none
parity_none none = refl
parity_none (some true) = refl
parity_none (some false) = refl

module _ (a : Axis) (p : Vector) (l : List Float) (first : Vector) where
  -- what is left to cross, from a corner on
  abbrev pub Crosses : (from : Vector) → (odd : Bool) → (i : ℕ) → Type 0
  Crosses from odd i = parity (some odd) (inside a p (edges_from first from (corners_of (drop (i * 3) l)))) ≡ inside a p (edges_of (corners_of l))

  pub crosses_first : corners_of (drop (0 * 3) l) ≡ first ∷ corners_of (drop ((0 + 1) * 3) l) → Crosses first false 1
  crosses_first e = go (inside a p (edges_from first first (corners_of (drop (1 * 3) l)))) ∙ sym (ap (λ (cs : List Vector). inside a p (edges_of cs)) e)
    where
      go : (q : Crossed) → parity (some false) q ≡ q
      go none = refl
      go (some b) = refl

  pub crosses_more : (from to : Vector) (odd c b : Bool) (i : ℕ) → Crosses from odd i → corners_of (drop (i * 3) l) ≡ to ∷ corners_of (drop ((i + 1) * 3) l) → some c ≡ crossed a p (edge from to) → b ≡ cond c (not odd) odd → Crosses to b (i + 1)
  unfolding edges_from inside
  crosses_more from to odd c b i C e ec eb =
      let r : Crossed = inside a p (edges_from first to (corners_of (drop ((i + 1) * 3) l))) in
      ap (λ (z : Bool). parity (some z) r) eb ∙ sym (parity_more odd c r) ∙ ap (λ (z : Crossed). parity (some odd) (parity z r)) ec ∙ sym (ap (λ (cs : List Vector). parity (some odd) (inside a p (edges_from first from cs))) e) ∙ C

  pub crosses_not : (from to : Vector) (odd : Bool) (i : ℕ) → Crosses from odd i → corners_of (drop (i * 3) l) ≡ to ∷ corners_of (drop ((i + 1) * 3) l) → none ≡ crossed a p (edge from to) → none ≡ inside a p (edges_of (corners_of l))
  unfolding edges_from inside
  crosses_not from to odd i C e ec =
      let r : Crossed = inside a p (edges_from first to (corners_of (drop ((i + 1) * 3) l))) in
      sym (parity_none (some odd)) ∙ ap (λ (z : Crossed). parity (some odd) (parity z r)) ec ∙ sym (ap (λ (cs : List Vector). parity (some odd) (inside a p (edges_from first from cs))) e) ∙ C

  pub crosses_last : (from : Vector) (odd c b : Bool) (i : ℕ) → Crosses from odd i → corners_of (drop (i * 3) l) ≡ [] → some c ≡ crossed a p (edge from first) → b ≡ cond c (not odd) odd → some b ≡ inside a p (edges_of (corners_of l))
  unfolding edges_from inside
  crosses_last from odd c b i C e ec eb = ap some eb ∙ last odd c ∙ ap (λ (z : Crossed). parity (some odd) (parity z (some false))) ec ∙ sym (ap (λ (cs : List Vector). parity (some odd) (inside a p (edges_from first from cs))) e) ∙ C
    where
      last : (o c : Bool) → ◌≡◌ {A = Crossed} (some (cond c (not o) o)) (parity (some o) (parity (some c) (some false)))
      last true true = refl
      last true false = refl
      last false true = refl
      last false false = refl

  pub crosses_last_not : (from : Vector) (odd : Bool) (i : ℕ) → Crosses from odd i → corners_of (drop (i * 3) l) ≡ [] → none ≡ crossed a p (edge from first) → none ≡ inside a p (edges_of (corners_of l))
  unfolding edges_from inside
  crosses_last_not from odd i C e ec = sym (parity_none (some odd)) ∙ ap (λ (z : Crossed). parity (some odd) (parity z (some false))) ec ∙ sym (ap (λ (cs : List Vector). parity (some odd) (inside a p (edges_from first from cs))) e) ∙ C
