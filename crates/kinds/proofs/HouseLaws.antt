-- The house rules of each type, as the code tests them, are those of the list.
use mathlib.Core.Bool.{Bool, true, false, not, beq, ◌&&◌, ◌||◌}
use mathlib.Core.List.{List, [], ◌∷◌}
use mathlib.Core.Logic.{◌⊎◌, inl, inr}
use mathlib.Core.Path.{◌≡◌, refl, sym, ap, ◌∙◌}
use Prim.Native.Nat.{ℕ, ◌≤◌, ◌<◌}
use native.Mathlib.Omega.{arith}
use borrow.Author.Tests.{le-leb, lt-leb, ne_eqb}
use lib.Dec.{T, eqb, leb, leb→le}
use lib.Ieee.{Float, lt}
use lib.Ieee.Fits.{and_l, and_r}
use lib.ListN.{replicate}
use Rattle.laws.proofs.BoolLaws.{or_false_left, or_false_right}
use Rattle.laws.proofs.NatLaws.{le_or_lt}
use Rattle.laws.proofs.TableLaws.{entry}
use Rattle.laws.specs.Bytes.{same}
use Rattle.laws.specs.Runs.{all}
use Rattle.scene.specs.HouseRules.{House, breach_at, breaks, house_rules, is_above0, is_at_least0, is0}
use Rattle.scene.specs.Types.{number_from, type_number}
use Rattle.kinds.proofs.CountLaws.{between}
use Rattle.kinds.specs.Rules.{cone_breach, is_ruled, ring_breach}

-- ---- the rules of a type's number

-- the list ends with no rule: one, two and three rules before its end
pub one : (a : Bool) → a ≡ (a || false)
one true = refl
one false = refl

two : (a b : Bool) → (a || b) ≡ (a || (b || false))
two a b = ap (λ (x : Bool). a || x) (one b)

three : (a b c : Bool) → (a || (b || c)) ≡ (a || (b || (c || false)))
three a b c = ap (λ (x : Bool). a || x) (two b c)

-- a real of a cone or a ring that has none
pub no_cone_rule : (k : ℕ) (x y : Float) → (k ≡ 7 → ⊥) → (k ≡ 8 → ⊥) → false ≡ cone_breach k x y
unfolding cone_breach
no_cone_rule k x y a b = rw (ne_eqb 7 k (λ e. a (sym e)), ne_eqb 8 k (λ e. b (sym e)))

pub no_ring_rule : (k : ℕ) (x y z : Float) → (k ≡ 6 → ⊥) → (k ≡ 7 → ⊥) → (k ≡ 8 → ⊥) → false ≡ ring_breach k x y z
unfolding ring_breach
no_ring_rule k x y z a b c = rw (ne_eqb 6 k (λ e. a (sym e)), ne_eqb 7 k (λ e. b (sym e)), ne_eqb 8 k (λ e. c (sym e)))

module _ (t k : ℕ) (x y z : Float) where
  abbrev breach : ℕ → Bool
  breach n = breach_at house_rules n k x y z

  abbrev low : ℕ → Bool
  low r = eqb r k && not (is_above0 x)

  abbrev none : Bool
  none = eqb 3 k && (is0 x && is0 y && is0 z)

  pub source_rule : t ≡ 1 → none ≡ breach t
  unfolding breach_at type_number number_from same
  source_rule e = one none ∙ ap breach (sym e)

  pub sphere_rule : 2 ≤ t → t < 4 → low 4 ≡ breach t
  unfolding breach_at type_number number_from same
  sphere_rule = between breach (low 4) 2 2 (one (low 4), (one (low 4), tt)) t

  pub cone_rule : 5 ≤ t → t < 7 → cone_breach k x y ≡ breach t
  unfolding breach_at type_number number_from same cone_breach
  cone_rule =
      let rules : cone_breach k x y ≡ breach 5 = three (eqb 7 k && not (is_at_least0 x)) (eqb 8 k && not (is_at_least0 x)) (eqb 8 k && (is0 x && is0 y)) in
      between breach (cone_breach k x y) 5 2 (rules, (rules, tt)) t

  pub cylinder_rule : 7 ≤ t → t < 9 → low 7 ≡ breach t
  unfolding breach_at type_number number_from same
  cylinder_rule = between breach (low 7) 7 2 (one (low 7), (one (low 7), tt)) t

  pub ring_rule : t ≡ 9 → ring_breach k x y z ≡ breach t
  unfolding breach_at type_number number_from same ring_breach
  ring_rule e = three (eqb 7 k && not (is_at_least0 x)) (eqb 8 k && not (lt y x)) (eqb 6 k && (is0 x && is0 y && is0 z)) ∙ ap breach (sym e)

  pub rough_rule : 18 ≤ t → t < 21 → (low 5 || low 6) ≡ breach t
  unfolding breach_at type_number number_from same
  rough_rule = between breach (low 5 || low 6) 18 3 (two (low 5) (low 6), (two (low 5) (low 6), (two (low 5) (low 6), tt))) t

  pub index_rule : (t ≡ 21) ⊎ (t ≡ 23) → low 4 ≡ breach t
  unfolding breach_at type_number number_from same
  index_rule (inl e) = one (low 4) ∙ ap breach (sym e)
  index_rule (inr e) = one (low 4) ∙ ap breach (sym e)

  pub indices_rule : t ≡ 22 → (low 4 || low 8) ≡ breach t
  unfolding breach_at type_number number_from same
  indices_rule e = two (low 4) (low 8) ∙ ap breach (sym e)

  -- what is no type, a polygon, and most materials have none
  pub no_type_rule : t ≡ 0 → false ≡ breach t
  unfolding breach_at type_number number_from same
  no_type_rule e = ap breach (sym e)

  pub no_polygon_rule : t ≡ 4 → false ≡ breach t
  unfolding breach_at type_number number_from same
  no_polygon_rule e = ap breach (sym e)

  pub no_material_rule : 10 ≤ t → t < 18 → false ≡ breach t
  unfolding breach_at type_number number_from same
  no_material_rule = between breach false 10 8 (refl, (refl, (refl, (refl, (refl, (refl, (refl, (refl, tt)))))))) t

-- the rules of other types than surfaces are about one real alone
pub other_alone : (t k : ℕ) (x y z : Float) → 10 ≤ t → breach_at house_rules t k x x x ≡ breach_at house_rules t k x y z
unfolding breach_at type_number number_from same
other_alone t k x y z l = rw (ne_eqb 1 t (λ e. omega arith), ne_eqb 5 t (λ e. omega arith), ne_eqb 6 t (λ e. omega arith), ne_eqb 9 t (λ e. omega arith))

-- ---- the types that have a rule

-- a type that has none breaks none
pub unruled : (hs : List House) (t k : ℕ) (x y z : Float) → is_ruled hs t ≡ false → breach_at hs t k x y z ≡ false
unfolding breach_at is_ruled
unruled [] t k x y z e = refl
unruled (h ∷ hs) t k x y z e =
    let a = or_false_left (eqb h.type t) (is_ruled hs t) e in
    let b = unruled hs t k x y z (or_false_right (eqb h.type t) (is_ruled hs t) e) in
    λ i. a i && eqb h.real k && breaks h.rule x y z || b i

unruled_past : (hs : List House) (t n : ℕ) → T (all (λ (h : House). leb h.type n) hs) → n < t → is_ruled hs t ≡ false
unfolding is_ruled all
unruled_past [] t n h l = refl
unruled_past (h ∷ hs) t n p l =
    let a : h.type ≤ n = leb→le h.type n (and_l (leb h.type n) (all (λ (x : House). leb x.type n) hs) p) in
    let b = unruled_past hs t n (and_r (leb h.type n) (all (λ (x : House). leb x.type n) hs) p) l in
    rw (ne_eqb h.type t (λ e. omega arith)) b

-- past glass no type has a rule
pub no_later_rule : (t k : ℕ) (x y z : Float) → 21 ≤ t → ((t ≡ 21) ⊎ (t ≡ 23) → ⊥) → (t ≡ 22 → ⊥) → false ≡ breach_at house_rules t k x y z
unfolding all type_number number_from same
no_later_rule t k x y z l n m =
    let a : t ≡ 21 → ⊥ = λ e. n (inl e) in
    let b : t ≡ 23 → ⊥ = λ e. n (inr e) in
    sym (unruled house_rules t k x y z (unruled_past house_rules t 23 tt (omega arith)))

alike : (a b : Bool) → T (beq a b) → a ≡ b
alike true true h = refl
alike false true h = elim h [ ]
alike true false h = elim h [ ]
alike false false h = refl

-- the code's test
abbrev tested : ℕ → Bool
tested t = leb 1 t && leb t 9 && not (eqb t 4) || leb 18 t && leb t 23

pub ruled_is : (t : ℕ) → tested t ≡ is_ruled house_rules t
unfolding is_ruled type_number number_from same all
ruled_is t = go (le_or_lt 26 t)
  where
    go : (26 ≤ t) ⊎ (t < 26) → tested t ≡ is_ruled house_rules t
    go (inl l) = rw (le-leb 1 t (omega arith), lt-leb t 9 (omega arith), le-leb 18 t (omega arith), lt-leb t 23 (omega arith)) (sym (unruled_past house_rules t 25 tt (omega arith)))
    go (inr l) = alike (tested t) (is_ruled house_rules t) (entry (λ k u. beq (tested k) (is_ruled house_rules k)) tt (replicate {A = Unit {0}} 26 tt) tt t l)
