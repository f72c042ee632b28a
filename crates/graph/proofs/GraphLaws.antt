-- A link leads to a primitive's modifier or to one of its sides.
use mathlib.Core.Bool.{Bool, true, false, ◌&&◌, ◌||◌, false≢true}
use mathlib.Core.List.{List, [], ◌∷◌}
use mathlib.Core.Logic.{◌⊎◌, inl, inr}
use mathlib.Core.Path.{◌≡◌, refl}
use Prim.Native.Nat.{ℕ, ◌<◌}
use borrow.Author.Tests.{le-leb, leb-true, eq-eqb, eqb-true}
use lib.Dec.{eqb, leb}
use Rattle.laws.proofs.BoolLaws.{and_left, and_right}
use Rattle.laws.specs.Bytes.{same}
use Rattle.scene.specs.Types.{number_from, type_number}
use Rattle.graph.specs.Graph.{Graph, link, links, mixture_type}

pub mixture_number : mixture_type ≡ 25
unfolding type_number number_from same
mixture_number = refl

pub or_inv : (x y : Bool) → (x || y) ≡ true → (x ≡ true) ⊎ (y ≡ true)
or_inv true y e = inl refl
or_inv false y e = inr e

pub or_right : (x y : Bool) → y ≡ true → (x || y) ≡ true
or_right true y e = refl
or_right false y e = e

pub or_left : (x y : Bool) → x ≡ true → (x || y) ≡ true
or_left true y e = refl
or_left false y e = absurd (false≢true e)

pub and_of : (x y : Bool) → x ≡ true → y ≡ true → (x && y) ≡ true
and_of true y e h = h
and_of false y e h = e

-- k is one of these
abbrev pub Among : ℕ → List ℕ → Type 0
Among k [] = ⊥
Among k (m ∷ ms) = (k ≡ m) ⊎ Among k ms

pub link_of : (g : Graph) (n m : ℕ) → 0 < m → Among m (links g n) → link g n m ≡ true
unfolding link
link_of g n m z (inl e) = rw (le-leb 1 m z, eq-eqb m (g.nodes n).modifier e)
link_of g n m z (inr (inl e)) =
    rw (le-leb 1 m z, eq-eqb m (g.sides n).foreground e) (or_right (eqb m (g.nodes n).modifier) true refl)
link_of g n m z (inr (inr (inl e))) =
    rw (le-leb 1 m z, eq-eqb m (g.sides n).background e)
    (or_right (eqb m (g.nodes n).modifier) (eqb m (g.sides n).foreground || true) (or_right (eqb m (g.sides n).foreground) true refl))
link_of g n m z (inr (inr (inr e))) = absurd e

pub link_inv : (g : Graph) (n m : ℕ) → link g n m ≡ true → (0 < m) × Among m (links g n)
unfolding link
link_inv g n m e =
    let rest = eqb m (g.nodes n).modifier || (eqb m (g.sides n).foreground || eqb m (g.sides n).background) in
    (leb-true 1 m (and_left (leb 1 m) rest e), go (or_inv (eqb m (g.nodes n).modifier) (eqb m (g.sides n).foreground || eqb m (g.sides n).background) (and_right (leb 1 m) rest e)))
  where
    side : (eqb m (g.sides n).foreground ≡ true) ⊎ (eqb m (g.sides n).background ≡ true) → Among m (links g n)
    side (inl h) = inr (inl (eqb-true m (g.sides n).foreground h))
    side (inr h) = inr (inr (inl (eqb-true m (g.sides n).background h)))

    go : (eqb m (g.nodes n).modifier ≡ true) ⊎ ((eqb m (g.sides n).foreground || eqb m (g.sides n).background) ≡ true) → Among m (links g n)
    go (inl h) = inl (eqb-true m (g.nodes n).modifier h)
    go (inr h) = side (or_inv (eqb m (g.sides n).foreground) (eqb m (g.sides n).background) h)
