-- Names and keys in order: of two, exactly one comes first or they are the same.
use mathlib.Core.Bool.{Bool, true, false, ◌&&◌, ◌||◌, and_comm, or-true, false≢true}
use mathlib.Core.List.{[], ◌∷◌}
use mathlib.Core.Logic.{◌⊎◌, inl, inr}
use mathlib.Core.Path.{◌≡◌, refl, ap, sym, ◌∙◌, subst}
use Prim.Native.Nat.{ℕ, ◌≤◌, ◌<◌}
use native.Mathlib.Omega.{arith}
use borrow.Author.Tests.{ltb-true, lt-ltb, le-ltb, eqb-true, eq-eqb, ne_eqb}
use lib.Dec.{eqb, ltb}
use Rattle.laws.proofs.BoolLaws.{and_left, and_right}
use Rattle.laws.proofs.BytesLaws.{same_eq, same_refl}
use Rattle.laws.proofs.NatLaws.{le_or_lt}
use Rattle.laws.specs.Bytes.{Bytes, same}
use Rattle.keys.specs.Key.{Key, same_key, lower, before}
use Rattle.keys.specs.Properties.{OneOf, first, second, third}

-- ---- exactly one of three

-- the middle test does not depend on the side
middle : {x y z w : Bool} → OneOf x y z → OneOf z w x → y ≡ w
middle first third = refl
middle second second = refl
middle third first = refl

-- what decides first, and where that is equal, what decides next
next : {a b c d e f : Bool} → OneOf a b c → OneOf d e f → OneOf (a || b && d) (b && e) (c || b && f)
next first o = first
next second o = o
next third o = third

-- where the middle test holds no other does
alone : {x z : Bool} → OneOf x true z → x ≡ false
alone second = refl

either : (a b c : Bool) → (a || b && c) ≡ true → (a ≡ true) ⊎ ((b ≡ true) × (c ≡ true))
either true b c e = inl refl
either false b c e = inr (and_left b c e, and_right b c e)

-- ---- numbers

number_one : (a b : ℕ) → OneOf (ltb a b) (eqb a b) (ltb b a)
number_one a b = go (le_or_lt a b) (le_or_lt b a)
  where
    go : (a ≤ b) ⊎ (b < a) → (b ≤ a) ⊎ (a < b) → OneOf (ltb a b) (eqb a b) (ltb b a)
    go (inl l) (inl m) = rw (le-ltb a b m, eq-eqb a b (omega arith), le-ltb b a l) second
    go (inl l) (inr m) = rw (lt-ltb a b m, ne_eqb a b (λ e. omega arith), le-ltb b a l) first
    go (inr l) m = rw (le-ltb a b (omega arith), ne_eqb a b (λ e. omega arith), lt-ltb b a l) third

pub eqb_sym : (a b : ℕ) → eqb a b ≡ eqb b a
eqb_sym a b = middle (number_one a b) (number_one b a)

-- ---- names

pub lower_one : (a b : Bytes) → OneOf (lower a b) (same a b) (lower b a)
unfolding lower same
lower_one [] [] = second
lower_one [] (y ∷ b) = first
lower_one (x ∷ a) [] = third
lower_one (x ∷ a) (y ∷ b) = rw (eqb_sym y x) (next (number_one x y) (lower_one a b))

pub same_sym : (a b : Bytes) → same a b ≡ same b a
same_sym a b = middle (lower_one a b) (lower_one b a)

pub lower_irreflexive : (a : Bytes) → lower a a ≡ false
lower_irreflexive a = alone (rw same_refl at (lower_one a a))

pub lower_transitive : (a b c : Bytes) → lower a b ≡ true → lower b c ≡ true → lower a c ≡ true
unfolding lower
lower_transitive [] [] c p q = absurd (false≢true p)
lower_transitive [] (y ∷ b) [] p q = q
lower_transitive [] (y ∷ b) (z ∷ c) p q = refl
lower_transitive (x ∷ a) [] c p q = absurd (false≢true p)
lower_transitive (x ∷ a) (y ∷ b) [] p q = q
lower_transitive (x ∷ a) (y ∷ b) (z ∷ c) p q = go (either (ltb x y) (eqb x y) (lower a b) p) (either (ltb y z) (eqb y z) (lower b c) q) (lower_transitive a b c)
  where
    less : x < z → (ltb x z || eqb x z && lower a c) ≡ true
    less l = rw (lt-ltb x z l)

    go : (ltb x y ≡ true) ⊎ ((eqb x y ≡ true) × (lower a b ≡ true)) → (ltb y z ≡ true) ⊎ ((eqb y z ≡ true) × (lower b c ≡ true)) → (lower a b ≡ true → lower b c ≡ true → lower a c ≡ true) → (ltb x z || eqb x z && lower a c) ≡ true
    go (inl u) (inl v) ih = less (omega (arith, ltb-true x y u, ltb-true y z v))
    go (inl u) (inr (v, w)) ih = less (omega (arith, ltb-true x y u, eqb-true y z v))
    go (inr (u, w)) (inl v) ih = less (omega (arith, eqb-true x y u, ltb-true y z v))
    go (inr (u, w)) (inr (v, t)) ih = rw (eq-eqb x z (omega (arith, eqb-true x y u, eqb-true y z v)), ih w t) (or-true (ltb x z))

-- ---- keys

pub same_key_lem : (a b : Key) → same_key a b ≡ true → a ≡ b
same_key_lem a b e = λ i. record { name = same_eq a.name b.name (and_right (eqb a.nth b.nth) (same a.name b.name) e) i; nth = eqb-true a.nth b.nth (and_left (eqb a.nth b.nth) (same a.name b.name) e) i }

pub key_same : (a : Key) → same_key a a ≡ true
key_same a = rw (eq-eqb a.nth a.nth refl) (same_refl a.name)

pub before_one : (a b : Key) → OneOf (before a b) (same_key a b) (before b a)
unfolding before
before_one a b = rw (and_comm (eqb a.nth b.nth), same_sym b.name a.name) (next (lower_one a.name b.name) (number_one a.nth b.nth))

pub key_sym : (a b : Key) → same_key a b ≡ same_key b a
key_sym a b = middle (before_one a b) (before_one b a)

-- the names decide, and where they are the same the counts do
abbrev pub Earlier : Key → Key → Type 0
Earlier a b = (lower a.name b.name ≡ true) ⊎ ((a.name ≡ b.name) × (a.nth < b.nth))

pub before_earlier : (a b : Key) → before a b ≡ true → Earlier a b
unfolding before
before_earlier a b e = go (either (lower a.name b.name) (same a.name b.name) (ltb a.nth b.nth) e)
  where
    go : (lower a.name b.name ≡ true) ⊎ ((same a.name b.name ≡ true) × (ltb a.nth b.nth ≡ true)) → Earlier a b
    go (inl u) = inl u
    go (inr (u, v)) = inr (same_eq a.name b.name u, ltb-true a.nth b.nth v)

pub earlier_before : (a b : Key) → Earlier a b → before a b ≡ true
unfolding before
earlier_before a b (inl u) = rw u
earlier_before a b (inr (u, v)) = rw (ap (same a.name) (sym u) ∙ same_refl a.name, lt-ltb a.nth b.nth v) (or-true (lower a.name b.name))

pub before_transitive : (a b c : Key) → before a b ≡ true → before b c ≡ true → before a c ≡ true
before_transitive a b c p q = earlier_before a c (go (before_earlier a b p) (before_earlier b c q))
  where
    go : Earlier a b → Earlier b c → Earlier a c
    go (inl u) (inl v) = inl (lower_transitive a.name b.name c.name u v)
    go (inl u) (inr (v, w)) = inl (subst (λ (n : Bytes). lower a.name n ≡ true) v u)
    go (inr (u, w)) (inl v) = inl (subst (λ (n : Bytes). lower n c.name ≡ true) (sym u) v)
    go (inr (u, w)) (inr (v, t)) = inr (u ∙ v, omega arith)
