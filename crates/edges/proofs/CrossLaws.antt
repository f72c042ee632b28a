-- An edge and its reverse are crossed alike, so together they change no parity.
use mathlib.Core.Bool.{Bool, true, false, cond, false≢true}
use mathlib.Core.List.{List, [], ◌∷◌, ◌++◌, append_assoc}
use mathlib.Core.Option.{none, some}
use mathlib.Core.Path.{◌≡◌, refl, ap, sym, ◌∙◌}
use Prim.Native.Nat.{ℕ, ◌*◌}
use native.Mathlib.Omega.{arith}
use borrow.Author.Tests.{le-ltb, ltb-true}
use lib.Ieee.{Float, nan, inf, fin, lt, below, up, down}
use Rattle.steps.specs.declared.Vector.{Vector}
use Rattle.edges.specs.BothWays.{BothWaysLaw, both_ways, reversed}
use Rattle.edges.specs.Corners.{Edge}
use Rattle.edges.specs.Crossing.{Crossed, between, crossed, inside, parity}
use Rattle.edges.specs.Normal.{Axis, second}

below_asym : (s : Bool) (a : ℕ) (t : Bool) (b : ℕ) → below s a t b ≡ true → below t b s a ≡ false
below_asym false a false b h = le-ltb b a (let l = ltb-true a b h in omega arith)
below_asym false a true b h = absurd (false≢true h)
below_asym true a false b h = refl
below_asym true a true b h = le-ltb a b (let l = ltb-true b a h in omega arith)

-- of two doubles one at most is the lesser
lt_asym : (x y : Float) → lt x y ≡ true → lt y x ≡ false
unfolding lt
lt_asym nan y h = absurd (false≢true h)
lt_asym (inf s) nan h = absurd (false≢true h)
lt_asym (inf true) (inf true) h = absurd (false≢true h)
lt_asym (inf true) (inf false) h = refl
lt_asym (inf false) (inf t) h = absurd (false≢true h)
lt_asym (inf true) (fin t n d) h = refl
lt_asym (inf false) (fin t n d) h = absurd (false≢true h)
lt_asym (fin s m e) nan h = absurd (false≢true h)
lt_asym (fin s m e) (inf true) h = absurd (false≢true h)
lt_asym (fin s m e) (inf false) h = refl
lt_asym (fin s m e) (fin t n d) h = below_asym s (m * up e * down d) t (n * up d * down e) h

-- ---- parity

parity_swap : (p q r : Crossed) → parity p (parity q r) ≡ parity q (parity p r)
parity_swap none none r = refl
parity_swap none (some true) r = refl
parity_swap none (some false) r = refl
parity_swap (some true) none r = refl
parity_swap (some false) none r = refl
parity_swap (some true) (some true) r = refl
parity_swap (some true) (some false) none = refl
parity_swap (some true) (some false) (some c) = refl
parity_swap (some false) (some true) none = refl
parity_swap (some false) (some true) (some c) = refl
parity_swap (some false) (some false) r = refl

parity_twice : (b : Bool) (r : Crossed) → parity (some b) (parity (some b) r) ≡ r
parity_twice true none = refl
parity_twice true (some true) = refl
parity_twice true (some false) = refl
parity_twice false none = refl
parity_twice false (some c) = refl

module _ (a : Axis) (p : Vector) where
  pub crossed_reversed : (e : Edge) → crossed a p (reversed e) ≡ crossed a p e
  unfolding crossed
  crossed_reversed e = go (lt (second a e.from) (second a e.to)) refl (lt (second a e.to) (second a e.from)) refl
    where
      rising : Crossed
      rising = between a p e.from e.to

      falling : Crossed
      falling = between a p e.to e.from

      go : (b : Bool) → lt (second a e.from) (second a e.to) ≡ b → (c : Bool) → lt (second a e.to) (second a e.from) ≡ c → cond c falling (cond b rising (some false)) ≡ cond b rising (cond c falling (some false))
      go true q true r = absurd (false≢true (sym (lt_asym (second a e.from) (second a e.to) q) ∙ r))
      go true q false r = refl
      go false q true r = refl
      go false q false r = refl

  -- an edge at any place counts as it would in front
  inside_in : (e : Edge) (xs ys : List Edge) → inside a p (xs ++ e ∷ ys) ≡ parity (crossed a p e) (inside a p (xs ++ ys))
  unfolding inside
  inside_in e [] ys = refl
  inside_in e (x ∷ xs) ys = ap (parity (crossed a p x)) (inside_in e xs ys) ∙ parity_swap (crossed a p x) (crossed a p e) (inside a p (xs ++ ys))

  both : (e : Edge) (xs ys zs : List Edge) → inside a p (both_ways e xs ys zs) ≡ parity (crossed a p e) (parity (crossed a p e) (inside a p (xs ++ ys ++ zs)))
  both e xs ys zs =
      inside_in e xs (ys ++ reversed e ∷ zs)
      ∙ ap (λ (l : List Edge). parity (crossed a p e) (inside a p l)) (sym (append_assoc xs ys (reversed e ∷ zs)))
      ∙ ap (parity (crossed a p e)) (inside_in (reversed e) (xs ++ ys) zs)
      ∙ ap (λ (q : Crossed). parity (crossed a p e) (parity q (inside a p (xs ++ ys ++ zs)))) (crossed_reversed e)

pub both_ways_lem : BothWaysLaw
both_ways_lem a p e xs ys zs = record {
  stays = λ b h. both a p e xs ys zs ∙ ap (λ (q : Crossed). parity q (parity q (inside a p (xs ++ ys ++ zs)))) h ∙ parity_twice b (inside a p (xs ++ ys ++ zs));
  fails = λ h. both a p e xs ys zs ∙ ap (λ (q : Crossed). parity q (parity q (inside a p (xs ++ ys ++ zs)))) h;
}
