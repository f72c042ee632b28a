-- The least name above another: no name between the two stands in the scene.
use mathlib.Core.Bool.{Bool, true, false, cond, false≢true}
use mathlib.Core.List.{List, [], ◌∷◌}
use mathlib.Core.Option.{Option, none, some}
use mathlib.Core.Path.{◌≡◌, refl, ap, sym, ◌∙◌, subst}
use Prim.Native.Nat.{ℕ, ◌+◌, ◌<◌}
use native.Mathlib.Omega.{arith}
use Rattle.laws.proofs.BytesLaws.{same_eq, same_refl}
use Rattle.laws.specs.Bytes.{Bytes, same}
use Rattle.scene.specs.Told.{Told}
use Rattle.keys.proofs.NumberLaws.{times_append}
use Rattle.keys.proofs.OrderLaws.{lower_one, lower_irreflexive, lower_transitive}
use Rattle.keys.specs.Key.{times, lower}
use Rattle.keys.specs.Next.{lesser, above, least_above}
use Rattle.keys.specs.Properties.{OneOf, first, second, third}

-- u is the least name above w that has a count
pub record LeastOf (w : Bytes) (count : Bytes → ℕ) (u : Bytes) : Type 0 where
  pub above≡ : lower w u ≡ true
  pub there : 0 < count u
  pub least : (v : Bytes) → lower w v ≡ true → lower v u ≡ true → count v ≡ 0

-- that name, or none where no name above w has a count
abbrev pub Least : Bytes → (Bytes → ℕ) → Option Bytes → Type 0
Least w count none = (v : Bytes) → lower w v ≡ true → count v ≡ 0
Least w count (some u) = LeastOf w count u

pub least_lesser : (w : Bytes) (c d : Bytes → ℕ) (o e : Option Bytes) → Least w c o → Least w d e → Least w (λ v. c v + d v) (lesser o e)
least_lesser w c d none none h g = λ v l. omega (arith, h v l, g v l)
least_lesser w c d none (some u) h g = record { above≡ = g.above≡; there = omega (arith, g.there); least = λ v l m. omega (arith, h v l, g.least v l m) }
least_lesser w c d (some u) none h g = record { above≡ = h.above≡; there = omega (arith, h.there); least = λ v l m. omega (arith, h.least v l m, g v l) }
least_lesser w c d (some v) (some u) h g = go (lower u v) (same u v) (lower v u) (lower_one u v) refl refl refl
  where
    kept : ((x : Bytes) → lower x v ≡ true → lower x u ≡ true) → LeastOf w (λ v. c v + d v) v
    kept f = record { above≡ = h.above≡; there = omega (arith, h.there); least = λ x l m. omega (arith, h.least x l m, g.least x l (f x m)) }

    go : (x y z : Bool) → OneOf x y z → lower u v ≡ x → same u v ≡ y → lower v u ≡ z → Least w (λ v. c v + d v) (cond x (some u) (some v))
    go true false false first p q s = record { above≡ = g.above≡; there = omega (arith, g.there); least = λ x l m. omega (arith, h.least x l (lower_transitive x u v m p), g.least x l m) }
    go false true false second p q s = kept (λ x m. subst (λ (n : Bytes). lower x n ≡ true) (sym (same_eq u v q)) m)
    go false false false x15 p q s = elim x15 [ ]
    go false true true x16 p q s = elim x16 [ ]
    go true false true x16 p q s = elim x16 [ ]
    go true true z x13 p q s = elim x13 [ ]
    go false false true third p q s = kept (λ x m. lower_transitive x v u m s)

least_above_lem : (w : Bytes) (t : Told) → Least w (λ v. times v (t ∷ [])) (above w t.name)
unfolding times
least_above_lem w t = go (lower w t.name) refl
  where
    never : (v : Bytes) (b : Bool) → same v t.name ≡ b → (v ≡ t.name → ⊥) → ◌≡◌ {A = ℕ} (cond b 1 0) 0
    never v true e n = absurd (n (same_eq v t.name e))
    never v false e n = refl

    go : (b : Bool) → lower w t.name ≡ b → Least w (λ v. times v (t ∷ [])) (cond b (some t.name) none)
    go true e = record { above≡ = e; there = rw (same_refl t.name) (omega arith); least = λ v l m. never v (same v t.name) refl (λ q. false≢true (sym (lower_irreflexive t.name) ∙ subst (λ (x : Bytes). lower x t.name ≡ true) q m)) }
    go false e = λ v l. never v (same v t.name) refl (λ q. false≢true (sym e ∙ ap (lower w) (sym q) ∙ l))

pub least_scene : (w : Bytes) (d : List Told) → Least w (λ v. times v d) (least_above w d)
unfolding times least_above
least_scene w [] = λ v l. refl
least_scene w (t ∷ d) = subst (λ (c : Bytes → ℕ). Least w c (lesser (least_above w d) (above w t.name))) (λ i v. count v i) (least_lesser w (λ v. times v d) (λ v. times v (t ∷ [])) (least_above w d) (above w t.name) (least_scene w d) (least_above_lem w t))
  where
    count : (v : Bytes) → times v d + times v (t ∷ []) ≡ times v (t ∷ d)
    count v = omega (arith, times_append v (t ∷ []) d)
