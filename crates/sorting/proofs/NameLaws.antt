-- Blocks that pass others with no name of theirs: every statement keeps its key, its name and which of that name it is.
use mathlib.Core.List.{List, [], ◌∷◌, ◌++◌, map-append}
use mathlib.Core.Path.{◌≡◌, refl, ap, sym, ◌∙◌, subst}
use Prim.Native.Nat.{ℕ}
use native.Mathlib.Omega.{arith}
use lib.ListN.{length, length-map}
use Rattle.keys.proofs.NameLaws.{named, names}
use Rattle.keys.proofs.NumberLaws.{times_append}
use Rattle.keys.proofs.PartLaws.{Apart, keys_kept, times_kept}
use Rattle.keys.specs.Key.{key_of, times}
use Rattle.laws.specs.Bytes.{Bytes}
use Rattle.rearrangement.proofs.ClearLaws.{Free}
use Rattle.rearrangement.proofs.FrontLaws.{Chain}
use Rattle.rearrangement.specs.Cut.{Piece, saids}
use Rattle.scene.specs.Block.{shift}
use Rattle.scene.specs.Statement.{Statement}
use Rattle.scene.specs.Told.{Told}

-- D' has each name as often as D, and number n of D has its key in D' as number f n
pub record Kept (f : ℕ → ℕ) (D D' : List Statement) : Type 0 where
  pub often : (w : Bytes) → times w (names D') ≡ times w (names D)
  pub keys : (n : ℕ) → key_of (names D') (f n) ≡ key_of (names D) n

-- neither has a name of the other
abbrev pub Unlike : List Statement → List Statement → Type 0
Unlike a b = Apart (names a) (names b) × Apart (names b) (names a)

-- ---- unlike each of several

apart_right : (x y z : List Told) → Apart x y → Apart x z → Apart x (y ++ z)
apart_right [] y z h k = tt
apart_right (t ∷ x) y z h k = (omega (arith, times_append t.name y z, h.0, k.0), apart_right x y z h.1 k.1)

apart_left : (x y z : List Told) → Apart x z → Apart y z → Apart (x ++ y) z
apart_left [] y z h k = k
apart_left (t ∷ x) y z h k = (h.0, apart_left x y z h.1 k)

apart_none : (x : List Told) → Apart x []
unfolding times
apart_none [] = tt
apart_none (t ∷ x) = (refl, apart_none x)

names_append : (a b : List Statement) → names (a ++ b) ≡ names a ++ names b
names_append a b = map-append (λ (s : Statement). named s.name) a b

abbrev pub UnlikeBlocks : Piece → Piece → Type 0
UnlikeBlocks b c = Unlike b.said c.said

pub free_unlike : (c : Piece) (xs : List Piece) → Free UnlikeBlocks c xs → Unlike (saids xs) c.said
unfolding saids
free_unlike c [] h = (tt, apart_none (names c.said))
free_unlike c (x ∷ xs) h =
    let k = free_unlike c xs h.1 in
    let e = sym (names_append (saids xs) x.said) in (
      subst (λ (z : List Told). Apart z (names c.said)) e (apart_left (names (saids xs)) (names x.said) (names c.said) k.0 h.0.0),
      subst (Apart (names c.said)) e (apart_right (names c.said) (names (saids xs)) (names x.said) k.1 h.0.1),
    )

-- ---- one exchange, and one after the other

names_four : (a b c d : List Statement) → names (a ++ (b ++ (c ++ d))) ≡ names a ++ (names b ++ (names c ++ names d))
names_four a b c d = simp map-append

pub kept_swap : (P A B Q : List Statement) → Unlike A B → Kept (shift (length P) (length A) (length B)) (Q ++ (B ++ (A ++ P))) (Q ++ (A ++ (B ++ P)))
kept_swap P A B Q u = record {
  often = λ w. ap (times w) (names_four Q A B P) ∙ times_kept (names P) (names A) (names B) (names Q) w ∙ sym (ap (times w) (names_four Q B A P));
  keys = λ n.
      (λ i. key_of (names_four Q A B P i) (shift (many P i) (many A i) (many B i) n))
      ∙ keys_kept (names P) (names A) (names B) (names Q) u.0 u.1 n
      ∙ sym (ap (λ (d : List Told). key_of d n) (names_four Q B A P));
}
  where
    many : (d : List Statement) → length d ≡ length (names d)
    many d = sym (length-map d (λ (s : Statement). named s.name))

pub kept_chain : Chain UnlikeBlocks (λ f g D D'. Kept f D D')
kept_chain = record {
  same = λ D. record { often = λ w. refl; keys = λ n. refl };
  then = λ f g h k D D' D'' v w. record { often = λ x. w.often x ∙ v.often x; keys = λ n. w.keys (f n) ∙ v.keys n };
  swap = λ P Q c xs free. kept_swap P (saids xs) c.said Q (free_unlike c xs free);
}
