-- Whether two records keep their order, from what the parts of the question answer.
use mathlib.Core.Bool.{Bool, true, false, ◌&&◌, ◌||◌}
use mathlib.Core.List.{List}
use mathlib.Core.Path.{◌≡◌, ap, sym, ◌∙◌}
use Prim.Native.Nat.{ℕ}
use lib.Dec.{eqb}
use Rattle.scene.specs.Record.{field_in}
use Rattle.scene.specs.Types.{is_modifier}
use Rattle.table.proofs.QuestionLaws.{modifier_field, target_field, type_field}
use Rattle.table.specs.Number.{number_in}
use Rattle.ties.specs.Ties.{bound_rows, gives_in, gives_to, held_rows, refers_in}

module _ (T : List ℕ) where
  pub gives_is : (n t : ℕ) (r : Bool) → t ≡ field_in T n 0 → r ≡ is_modifier t → r ≡ gives_in T n
  unfolding gives_in
  gives_is n t r e f = f ∙ ap (λ (k : ℕ). is_modifier k) (e ∙ type_field T n)

  module _ (C : List ℕ) where
    pub refers_is : (n k m t a b : ℕ) → m ≡ field_in T n 1 → t ≡ field_in T n 2 → a ≡ number_in C m → b ≡ number_in C t → (eqb a k || eqb b k) ≡ refers_in T C n k
    unfolding refers_in
    refers_is n k m t a b e f g h = λ i. eqb ((g ∙ ap (number_in C) (e ∙ modifier_field T n)) i) k || eqb ((h ∙ ap (number_in C) (f ∙ target_field T n)) i) k

    -- i gives none, or gives one and then j is asked
    module _ (i j : ℕ) (p : Bool) (g : p ≡ gives_in T i) where
      pub gives_none : p ≡ false → false ≡ gives_to T C i j
      unfolding gives_to
      gives_none z = sym (ap (λ (b : Bool). b && (gives_in T j && eqb (number_in C i) (number_in C j) || refers_in T C j (number_in C i))) (sym g ∙ z))

      pub gives_some : p ≡ true → (a b : ℕ) (q s : Bool) → a ≡ number_in C i → b ≡ number_in C j → q ≡ gives_in T j → s ≡ refers_in T C j a → (q && eqb a b || s) ≡ gives_to T C i j
      unfolding gives_to
      gives_some z a b q s e f h k = (λ x. sym z x && (h x && eqb (e x) (f x) || (k ∙ ap (refers_in T C j) e) x)) ∙ ap (λ (b : Bool). b && (gives_in T j && eqb (number_in C i) (number_in C j) || refers_in T C j (number_in C i))) g

    pub bound_is : (i j : ℕ) (p q : Bool) → p ≡ gives_to T C i j → q ≡ gives_to T C j i → (p || q) ≡ bound_rows T C i j
    unfolding bound_rows
    bound_is i j p q e f = λ z. e z || f z

    pub held_is : (i j a b : ℕ) (p : Bool) → a ≡ number_in C i → b ≡ number_in C j → p ≡ bound_rows T C i j → (eqb a b || p) ≡ held_rows T C i j
    unfolding held_rows
    held_is i j a b p e f g = λ z. eqb (e z) (f z) || g z
