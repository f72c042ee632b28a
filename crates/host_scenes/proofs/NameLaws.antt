-- The place and the length that a host program is given are those of the name that the name call shows.
use mathlib.Core.Bool.{Bool, true, false, cond}
use mathlib.Core.List.{List, [], ◌∷◌}
use mathlib.Core.Path.{◌≡◌, refl, sym, ap, ◌∙◌}
use Prim.Native.Nat.{ℕ}
use borrow.Author.Tests.{ne_eqb}
use lib.Dec.{eqb}
use lib.ListN.{get_or}
use Rattle.laws.specs.Bytes.{Bytes, part}
use Rattle.scene.specs.Record.{name_in, record_in}
use Rattle.finish.specs.Question.{name_refusal, shown_name}
use Rattle.host_scenes.specs.Host.{name_part}

module _ (text : Bytes) (table : List ℕ) (count n : ℕ) where
  shown : List ℕ
  shown = (record_in table n).name ∷ (record_in table n).name_length ∷ []

  pub part_refused : (r : ℕ) → r ≡ name_refusal text table count n → (r ≡ 0 → ⊥) → 0 ∷ 0 ∷ [] ≡ name_part text table count n
  unfolding name_part shown
  part_refused r e h = sym (ap (λ (b : Bool). cond b shown (0 ∷ 0 ∷ [])) (ap (λ (k : ℕ). eqb k 0) (sym e) ∙ ne_eqb r 0 h))

  pub part_shown : (r : ℕ) → r ≡ name_refusal text table count n → r ≡ 0 → (record_in table n).name ∷ (record_in table n).name_length ∷ [] ≡ name_part text table count n
  unfolding name_part shown
  part_shown r e h = sym (ap (λ (b : Bool). cond b shown (0 ∷ 0 ∷ [])) (ap (λ (k : ℕ). eqb k 0) (sym e ∙ h)))

  -- that part of the text is what the name call shows, empty on a refusal
  pub part_is_name : part text (get_or (name_part text table count n) 0 0) (get_or (name_part text table count n) 1 0) ≡ shown_name text table count n
  unfolding name_part shown_name name_in
  part_is_name = go (eqb (name_refusal text table count n) 0)
    where
      go : (b : Bool) →
          part text (get_or (cond b ((record_in table n).name ∷ (record_in table n).name_length ∷ []) (0 ∷ 0 ∷ [])) 0 0) (get_or (cond b ((record_in table n).name ∷ (record_in table n).name_length ∷ []) (0 ∷ 0 ∷ [])) 1 0)
          ≡ cond b (part text (record_in table n).name (record_in table n).name_length) []
      go true = refl
      go false = refl
