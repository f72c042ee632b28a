-- What a text that is accepted with its mixtures resolved is.
use mathlib.Core.List.{List, []}
use mathlib.Core.Option.{Option, none, some}
use mathlib.Core.Path.{◌≡◌, refl, ap, sym, ◌∙◌, subst}
use Prim.Native.Nat.{ℕ, zero, suc}
use lib.ListN.{length}
use Rattle.graph.specs.Answers.{lowest_loop}
use Rattle.laws.specs.Bytes.{Bytes}
use Rattle.scene.specs.Reading.{Entry, Reading, accepted, read_statements, refused, statements}
use Rattle.scene.specs.declared.Settings.{Settings}
use Rattle.sides.specs.Read.{first_unknown, mixed, read, settled}
use Rattle.sides.specs.Sides.{scene_graph}

-- an accepted text is accepted by the reading before it, every side is known, and there is no loop
pub record Resolved (r : Settings) (text : Bytes) (es : List Entry) : Type 0 where
  pub reads : read_statements r text ≡ accepted es
  pub known : first_unknown text (statements es) es ≡ none
  pub loopless : lowest_loop (scene_graph (statements es)) (length es) ≡ 0

abbrev entries_of : Reading → List Entry
entries_of (refused n p) = []
entries_of (accepted es) = es

abbrev Accepted : Reading → Type 0
Accepted (refused n p) = ⊥
Accepted (accepted es) = Unit

is_accepted : (x : Reading) (es : List Entry) → x ≡ accepted es → Accepted x
is_accepted x es e = subst Accepted (sym e) tt

settled_inv : (es fs : List Entry) (u : Option ℕ) (l : ℕ) → settled es u l ≡ accepted fs → (es ≡ fs) × (u ≡ none) × (l ≡ 0)
settled_inv es fs (some p) l e = absurd (is_accepted (refused 25 p) fs e)
settled_inv es fs none zero e = (ap entries_of e, refl, refl)
settled_inv es fs none (suc l) e = absurd (is_accepted (settled es none (suc l)) fs e)

pub resolved : (r : Settings) (text : Bytes) (es : List Entry) → read r text ≡ accepted es → Resolved r text es
unfolding read
resolved r text es e = go (read_statements r text) refl e
  where
    go : (x : Reading) → read_statements r text ≡ x → mixed text x ≡ accepted es → Resolved r text es
    go (refused n p) q e = absurd (is_accepted (refused n p) es e)
    go (accepted fs) q e =
        let i = settled_inv fs es (first_unknown text (statements fs) fs) (lowest_loop (scene_graph (statements fs)) (length fs)) e in
        record {
          reads = q ∙ ap accepted i.0;
          known = subst (λ (z : List Entry). first_unknown text (statements z) z ≡ none) i.0 i.1;
          loopless = subst (λ (z : List Entry). lowest_loop (scene_graph (statements z)) (length z) ≡ 0) i.0 i.2;
        }

-- and the other way round
pub resolves : (r : Settings) (text : Bytes) (es : List Entry) → Resolved r text es → read r text ≡ accepted es
unfolding read
resolves r text es h = ap (mixed text) h.reads ∙ (λ i. settled es (h.known i) (h.loopless i))

-- what was read before is what is read
pub same_reading : (r : Settings) (text : Bytes) (es : List Entry) → read r text ≡ accepted es → read_statements r text ≡ read r text
same_reading r text es e = (resolved r text es e).reads ∙ sym e

-- a text that reads as the same statements at other settings is accepted there
pub accepted_too : (r s : Settings) (text : Bytes) (es : List Entry) → read r text ≡ accepted es → read_statements s text ≡ accepted es → read s text ≡ accepted es
accepted_too r s text es e q = let h = resolved r text es e in resolves s text es (record { reads = q; known = h.known; loopless = h.loopless })
