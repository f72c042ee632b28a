-- The moving call and a reading of the moved text give the same reasons.
use mathlib.Core.Bool.{Bool, true, false, cond, not}
use mathlib.Core.List.{List}
use mathlib.Core.Logic.{◌⊎◌, inl, inr}
use mathlib.Core.Path.{◌≡◌, refl, ap, sym, ◌∙◌, subst}
use Prim.Native.Nat.{ℕ, ◌≤◌, ◌<◌, min}
use borrow.Author.Tests.{le-leb, lt-leb}
use lib.Dec.{leb}
use lib.ListN.{length}
use Rattle.laws.proofs.NatLaws.{le_or_lt}
use Rattle.laws.specs.Bytes.{Bytes}
use Rattle.mover.specs.Again.{MovesAsReadLaw, moved_from, read_moved}
use Rattle.mover.specs.Answer.{moved_outcome, moved_refusal, outcome_for}
use Rattle.moving.proofs.ReadBackLaws.{reads_moved}
use Rattle.moving.specs.Moved.{moved}
use Rattle.moving.specs.ReadBack.{ReadsMoved}
use Rattle.moving.specs.declared.Direction.{Direction}
use Rattle.scene.specs.Links.{reals_used}
use Rattle.scene.specs.Reading as reading
use Rattle.scene.specs.Reading.{Entry, Reading, accepted, statements}
use Rattle.scene.specs.Record.{real_image, settings_for}
use Rattle.scene.specs.Statement.{Statement}
use Rattle.scene.specs.declared.Mode.{Mode}
use Rattle.sides.proofs.FitLaws.{reals_kept}
use Rattle.sides.specs.Read.{read}
use Rattle.tidying.specs.Tidy.{tidy}
use Rattle.writer.proofs.AgainLaws.{own_checked}
use Rattle.writer.specs.Answer.{Outcome, fitted, refused, written}

-- ---- the outcome, by the two tests

fits_as : (t : Bytes) (b : Bool) → outcome_for (cond b 0 23) t ≡ cond b (written t) (refused 23 0)
fits_as t true = refl
fits_as t false = refl

module _ (limit room : ℕ) (D : List Statement) where
  abbrev by : (long : Bool) (fits : Bool) → Outcome
  by long fits = outcome_for (cond long 1 (cond fits (cond (leb (length (tidy D)) room) 0 23) 13)) (tidy D)

  outcome_by : {a b : Bool} → leb (length (tidy D)) 65536 ≡ a → leb (reals_used D) limit ≡ b → moved_outcome limit room D ≡ by (not a) b
  unfolding moved_refusal
  outcome_by e f = λ i. by (not (e i)) (f i)

-- ---- a text and its own tables

own_moved : (mode : Mode) (m : Direction) (text : Bytes) (n k room : ℕ) (es : List Entry) → read (settings_for mode n k) text ≡ accepted es → moved_from mode m text n k room ≡ moved_outcome (min 4096 k) room (moved m (statements es))
own_moved mode m text n k room es e =
    own_checked (λ x. moved_outcome (min 4096 (length (real_image k (read (settings_for mode n k) text)))) room (moved m (statements x))) mode text n k es e
    ∙ ap (λ (l : ℕ). moved_outcome (min 4096 l) room (moved m (statements es))) (reals_kept mode n k text)

-- ---- the three ends of a reading

abbrev Ends : Reading → (accepts long full : Type 0) → Type 0
Ends (accepted es) a l f = a
Ends (reading.refused c p) a l f = ((c ≡ 1) × l) ⊎ ((c ≡ 13) × f)

module _ (mode : Mode) (m : Direction) (text : Bytes) (n k room : ℕ) (es : List Entry) (reads : read (settings_for mode n k) text ≡ accepted es) where
  abbrev D : List Statement
  D = moved m (statements es)

  abbrev made : Reading
  made = read_moved mode m n k es

  given : {a b : Bool} → leb (length (tidy D)) 65536 ≡ a → leb (reals_used D) (min 4096 k) ≡ b → moved_from mode m text n k room ≡ by (min 4096 k) room D (not a) b
  given e f = own_moved mode m text n k room es reads ∙ outcome_by (min 4096 k) room D e f

  abbrev End : Reading → Type 0
  End x = Ends x (moved_from mode m text n k room ≡ fitted room (tidy D)) (moved_from mode m text n k room ≡ refused 1 0) (moved_from mode m text n k room ≡ refused 13 0)

  law : ReadsMoved (settings_for mode n k) m (statements es)
  law = reads_moved (settings_for mode n k) text es reads m

  ends : End made
  ends = go (le_or_lt (length (tidy D)) 65536) (le_or_lt (reals_used D) (min 4096 k))
    where
      go : (length (tidy D) ≤ 65536) ⊎ (65536 < length (tidy D)) → (reals_used D ≤ min 4096 k) ⊎ (min 4096 k < reals_used D) → End made
      go (inr l) u = subst End (sym (law.long l)) (inl (refl, given (lt-leb (length (tidy D)) 65536 l) refl))
      go (inl l) (inl h) = let r = law.accepts l h in subst End (sym r.1) (given (le-leb (length (tidy D)) 65536 l) (le-leb (reals_used D) (min 4096 k) h) ∙ fits_as (tidy D) (leb (length (tidy D)) room))
      go (inl l) (inr h) = let r = law.full l h in subst End (sym r.1) (inr (refl, given (le-leb (length (tidy D)) 65536 l) (lt-leb (reals_used D) (min 4096 k) h)))

  from_end : {x : Reading} → made ≡ x → End x
  from_end e = subst End e ends

pub moves_as_read : MovesAsReadLaw
moves_as_read mode m text n k room es reads = record {
  accepts = λ fs e. from_end mode m text n k room es reads e;
  refuses = λ c p e. refuses c (from_end mode m text n k room es reads e);
  reasons = λ c p e. reasons c (from_end mode m text n k room es reads e);
}
  where
    refuses : (c : ℕ) → ((c ≡ 1) × (moved_from mode m text n k room ≡ refused 1 0)) ⊎ ((c ≡ 13) × (moved_from mode m text n k room ≡ refused 13 0)) → moved_from mode m text n k room ≡ refused c 0
    refuses c (inl h) = h.1 ∙ ap (λ (x : ℕ). refused x 0) (sym h.0)
    refuses c (inr h) = h.1 ∙ ap (λ (x : ℕ). refused x 0) (sym h.0)

    reasons : (c : ℕ) → ((c ≡ 1) × (moved_from mode m text n k room ≡ refused 1 0)) ⊎ ((c ≡ 13) × (moved_from mode m text n k room ≡ refused 13 0)) → (c ≡ 1) ⊎ (c ≡ 13)
    reasons c (inl h) = inl h.0
    reasons c (inr h) = inr h.0
