-- What is chosen by matches is what is chosen by the statements of a name.
use mathlib.Core.Bool.{Bool, true, false, cond}
use mathlib.Core.List.{List}
use mathlib.Core.Option.{Option, none, some}
use mathlib.Core.Path.{◌≡◌, refl, ap, sym, ◌∙◌}
use Prim.Native.Nat.{ℕ, ◌/◌}
use lib.Dec.{eqb}
use Rattle.joining.proofs.OnceLaws.{named_in}
use Rattle.joining.specs.Definition.{named, names_once, same_definition}
use Rattle.joining.specs.Pick.{choice_for, choose, chosen}
use Rattle.joining.specs.declared.Choice.{Choice}
use Rattle.laws.specs.Bytes.{Bytes}
use Rattle.scene.specs.Properties.{numbered}
use Rattle.scene.specs.Statement.{Statement}
use Rattle.table.specs.Number.{number_in}
use Rattle.join_meaning.proofs.NumberedLaws.{match_equal, match_none, match_number, number_none, numbered_once}
use Rattle.join_meaning.specs.Matched.{MatchedIn}
use Rattle.match_meaning.proofs.NumberLaws.{numbered_named}
use Rattle.match_meaning.specs.Numbered.{number_named}
use Rattle.picking.specs.Picking.{choice_left, choice_right, is_equal, right_kept}

-- a statement and an absent one are not equal
none_equal : (s : Statement) (x : Option Statement) → cond (same_definition none x) false (same_definition (some s) x) ≡ same_definition (some s) x
unfolding same_definition
none_equal s none = refl
none_equal s (some t) = refl

-- what the match of a statement says
module _ (here there : List Statement) (matches : List ℕ) (m : MatchedIn here there matches) (n : ℕ) (s : Statement) (e : numbered here n ≡ some s) where
  abbrev equal : Bool
  equal = same_definition (some s) (named s.name there)

  abbrev number : ℕ
  number = number_named s.name there

  matched_none : eqb (number_in matches n) 0 ≡ same_definition none (named s.name there)
  matched_none = ap (λ (x : ℕ). eqb x 0) (m.each n s e) ∙ match_none equal number ∙ number_none s.name there

  pub matched_equal : is_equal (number_in matches n) ≡ equal
  matched_equal = ap is_equal (m.each n s e) ∙ match_equal equal number ∙ ap (λ (b : Bool). cond b false equal) (number_none s.name there) ∙ none_equal s (named s.name there)

  matched_number : numbered there (number_in matches n / 2) ≡ named s.name there
  matched_number = ap (λ (x : ℕ). numbered there (x / 2)) (m.each n s e) ∙ ap (numbered there) (match_number equal number) ∙ numbered_named s.name there

module _ (base left right : List Statement) (left_right left_base right_left right_base : List ℕ) where
  -- each name stands once in a hand, and these are the hands' matches
  pub record Sound : Type 0 where
    pub once_left : names_once left ≡ true
    pub once_right : names_once right ≡ true
    pub left_in_right : MatchedIn left right left_right
    pub left_in_base : MatchedIn left base left_base
    pub right_in_left : MatchedIn right left right_left
    pub right_in_base : MatchedIn right base right_base

  module _ (h : Sound) where
    -- of left's record: right may have its name, by a record of its own
    pub choice_left_lem : (l : ℕ) (s : Statement) → numbered left l ≡ some s → choice_left left_right left_base right_base l ≡ choice_for base left right s.name
    unfolding choice_left choice_for choose right_kept same_definition
    choice_left_lem l s e =
        (λ i. chosen (matched_equal left right left_right h.left_in_right l s e i) (matched_equal left base left_base h.left_in_base l s e i) (kept i))
        ∙ ap (λ (x : Option Statement). choose (named s.name base) x (named s.name right)) (sym (numbered_once left h.once_left l s e))
      where
        other : ℕ
        other = number_in left_right l

        go : (x : Option Statement) → named s.name right ≡ x → numbered right (other / 2) ≡ x
            → cond (same_definition none x) (same_definition none (named s.name base)) (is_equal (number_in right_base (other / 2))) ≡ same_definition x (named s.name base)
        go none q k = refl
        go (some t) q k = matched_equal right base right_base h.right_in_base (other / 2) t k ∙ ap (λ (w : Bytes). same_definition (some t) (named w base)) (sym (named_in s.name right t q).1)

        kept : right_kept right_base other (number_in left_base l) ≡ same_definition (named s.name right) (named s.name base)
        kept =
            (λ i. cond (matched_none left right left_right h.left_in_right l s e i) (matched_none left base left_base h.left_in_base l s e i) (is_equal (number_in right_base (other / 2))))
            ∙ go (named s.name right) refl (matched_number left right left_right h.left_in_right l s e)

    -- of right's: a name that left has is chosen for by left's record
    pub choice_right_lem : (r : ℕ) (t : Statement) → numbered right r ≡ some t → choice_right left_right left_base right_left right_base r ≡ choice_for base left right t.name
    unfolding choice_right choice_for choose same_definition
    choice_right_lem r t e =
        ap (λ (b : Bool). cond b alone both) (matched_none right left right_left h.right_in_left r t e) ∙ go (named t.name left) refl (matched_number right left right_left h.right_in_left r t e)
      where
        other : ℕ
        other = number_in right_left r

        -- where left has not its name, and where it has
        alone : Choice
        alone = chosen false (eqb (number_in right_base r) 0) (is_equal (number_in right_base r))

        both : Choice
        both = choice_left left_right left_base right_base (other / 2)

        go : (x : Option Statement) → named t.name left ≡ x → numbered left (other / 2) ≡ x → cond (same_definition none x) alone both ≡ choice_for base left right t.name
        go none q k =
            (λ i. chosen false (matched_none right base right_base h.right_in_base r t e i) (matched_equal right base right_base h.right_in_base r t e i))
            ∙ (λ i. choose (named t.name base) (sym q i) (sym (numbered_once right h.once_right r t e) i))
        go (some s) q k = choice_left_lem (other / 2) s k ∙ ap (choice_for base left right) (sym (named_in t.name left s q).1)
