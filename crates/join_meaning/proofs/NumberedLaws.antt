-- The number of the statement of a name finds that statement, and a match says it whole.
use mathlib.Core.Bool.{Bool, true, false, cond}
use mathlib.Core.List.{List, [], ◌∷◌}
use mathlib.Core.Option.{none, some}
use mathlib.Core.Path.{◌≡◌, refl, ap, sym, ◌∙◌}
use Prim.Native.Nat.{ℕ, suc, ◌+◌, ◌-◌, ◌/◌, ◌%◌}
use native.Mathlib.Omega.{arith}
use borrow.Author.Tests.{eq-eqb, ne_eqb, eqb-true, eqb-false}
use lib.Dec.{eqb}
use lib.ListN.{length}
use Rattle.joining.proofs.DefinitionLaws.{named_here, named_later, once_behind}
use Rattle.joining.specs.Definition.{named, names_once, same_definition}
use Rattle.laws.specs.Bytes.{Bytes, same}
use Rattle.scene.specs.Properties.{numbered}
use Rattle.scene.specs.Statement.{Statement}
use Rattle.match_meaning.specs.Numbered.{number_named}
use Rattle.matching.specs.Matching.{match_with}
use Rattle.picking.specs.Picking.{is_equal}

-- ---- the statement of a name

pub numbered_once : (d : List Statement) → names_once d ≡ true → (n : ℕ) (s : Statement) → numbered d n ≡ some s → named s.name d ≡ some s
unfolding numbered named
numbered_once [] o n s e = e
numbered_once (t ∷ d) o n s e = go (eqb n (suc (length d))) e (numbered_once d (once_behind t d o) n s)
  where
    go : (p : Bool) → cond p (some t) (numbered d n) ≡ some s → (numbered d n ≡ some s → named s.name d ≡ some s) → named s.name (t ∷ d) ≡ some s
    go true f ih = let q : t ≡ s = cc in ap (λ (x : Statement). named x.name (t ∷ d)) (sym q) ∙ named_here t d ∙ f
    go false f ih = named_later t d o s.name s (ih f)

module _ (w : Bytes) where
  -- it is 0 exactly where none has the name
  pub number_none : (d : List Statement) → eqb (number_named w d) 0 ≡ same_definition none (named w d)
  unfolding number_named named same_definition
  number_none [] = refl
  number_none (s ∷ d) = go (same w s.name) (number_none d)
    where
      go : (p : Bool) → eqb (number_named w d) 0 ≡ same_definition none (named w d) → eqb (cond p (suc (length d)) (number_named w d)) 0 ≡ same_definition none (cond p (some s) (named w d))
      go true h = ne_eqb (suc (length d)) 0 (λ e. omega arith)
      go false h = h

-- ---- a match

module _ (equal : Bool) where
  pub match_number : (n : ℕ) → match_with equal n / 2 ≡ n
  unfolding match_with
  match_number n = go (eqb n 0) refl equal
    where
      go : (p : Bool) → eqb n 0 ≡ p → (e : Bool) → cond p 0 (cond e (suc (n + n)) (n + n)) / 2 ≡ n
      go true q e = sym (eqb-true n 0 q)
      go false q true = omega arith
      go false q false = omega arith

  pub match_none : (n : ℕ) → eqb (match_with equal n) 0 ≡ eqb n 0
  unfolding match_with
  match_none n = go (eqb n 0) refl equal
    where
      go : (p : Bool) → eqb n 0 ≡ p → (e : Bool) → eqb (cond p 0 (cond e (suc (n + n)) (n + n))) 0 ≡ p
      go true q e = refl
      go false q true = ne_eqb (suc (n + n)) 0 (λ z. omega arith)
      go false q false = ne_eqb (n + n) 0 (λ z. eqb-false n 0 q (omega arith))

  -- none is equal to no record
  pub match_equal : (n : ℕ) → is_equal (match_with equal n) ≡ cond (eqb n 0) false equal
  unfolding match_with
  match_equal n = go (eqb n 0) equal
    where
      go : (p e : Bool) → is_equal (cond p 0 (cond e (suc (n + n)) (n + n))) ≡ cond p false e
      go true e = refl
      go false true = let m : suc (n + n) % 2 ≡ 1 = omega arith in eq-eqb (suc (n + n) % 2) 1 m
      go false false = let m : (n + n) % 2 ≡ 0 = omega arith in rw m refl
