-- What two scenes say of a number of both, as the code finds it.
use mathlib.Core.Bool.{Bool, cond}
use mathlib.Core.List.{List}
use mathlib.Core.Path.{◌≡◌, ap, sym}
use Prim.Native.Nat.{ℕ, ◌+◌, ◌-◌, ◌/◌, ◌≤◌, ◌<◌}
use borrow.Author.Tests.{eq-eqb, le-leb, lt-leb, ne_eqb}
use lib.ListN.{length}
use Rattle.arranging.specs.Both.{either, kind_of, link_of, name_of, other_of, shifted}
use Rattle.laws.specs.Bytes.{Bytes}
use Rattle.scene.specs.Record.{field_in, name_in, width}
use Rattle.table.specs.Number.{number_in}

module _ {A : Type 0} (split : ℕ) (f g : ℕ → A) (n : ℕ) where
  pub either_right : n ≤ split → either split f g n ≡ f n
  either_right l = ap (λ (b : Bool). cond b (f n) (g (n - split))) (le-leb n split l)

  pub either_left : split < n → either split f g n ≡ g (n - split)
  either_left l = ap (λ (b : Bool). cond b (f n) (g (n - split))) (lt-leb n split l)

pub shifted_none : (split n : ℕ) → n ≡ 0 → 0 ≡ shifted split n
unfolding shifted
shifted_none split n e = sym (ap (λ (b : Bool). cond b 0 (split + n)) (eq-eqb n 0 e))

pub shifted_some : (split n : ℕ) → (n ≡ 0 → ⊥) → split + n ≡ shifted split n
unfolding shifted
shifted_some split n e = sym (ap (λ (b : Bool). cond b 0 (split + n)) (ne_eqb n 0 e))

module _ (left : Bytes) (L : List ℕ) (right : Bytes) (R : List ℕ) (n : ℕ) where
  pub name_right : n ≤ length R / width → name_of left L right R n ≡ name_in right R n
  unfolding name_of
  name_right l = either_right (length R / width) (name_in right R) (name_in left L) n l

  pub name_left : length R / width < n → name_of left L right R n ≡ name_in left L (n - length R / width)
  unfolding name_of
  name_left l = either_left (length R / width) (name_in right R) (name_in left L) n l

module _ (L R : List ℕ) (n : ℕ) where
  pub link_right : (k : ℕ) → n ≤ length R / width → link_of L R k n ≡ field_in R n k
  unfolding link_of
  link_right k l = either_right (length R / width) (λ m. field_in R m k) (λ m. shifted (length R / width) (field_in L m k)) n l

  pub link_left : (k : ℕ) → length R / width < n → link_of L R k n ≡ shifted (length R / width) (field_in L (n - length R / width) k)
  unfolding link_of
  link_left k l = either_left (length R / width) (λ m. field_in R m k) (λ m. shifted (length R / width) (field_in L m k)) n l

  pub kind_right : n ≤ length R / width → kind_of L R n ≡ field_in R n 0
  unfolding kind_of
  kind_right l = either_right (length R / width) (λ m. field_in R m 0) (λ m. field_in L m 0) n l

  pub kind_left : length R / width < n → kind_of L R n ≡ field_in L (n - length R / width) 0
  unfolding kind_of
  kind_left l = either_left (length R / width) (λ m. field_in R m 0) (λ m. field_in L m 0) n l

module _ (R others : List ℕ) (n : ℕ) where
  pub other_right : n ≤ length R / width → other_of R others n ≡ shifted (length R / width) (number_in others n / 2)
  unfolding other_of
  other_right l = ap (λ (b : Bool). cond b (shifted (length R / width) (number_in others n / 2)) (number_in others n / 2)) (le-leb n (length R / width) l)

  pub other_left : length R / width < n → other_of R others n ≡ number_in others n / 2
  unfolding other_of
  other_left l = ap (λ (b : Bool). cond b (shifted (length R / width) (number_in others n / 2)) (number_in others n / 2)) (lt-leb n (length R / width) l)
