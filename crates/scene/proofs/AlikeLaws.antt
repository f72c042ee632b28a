-- Two readings that differ at most in that the first stops with one reason.
use mathlib.Core.Bool.{Bool, true, false, cond}
use mathlib.Core.List.{[], ◌∷◌, ◌++◌}
use mathlib.Core.Logic.{◌⊎◌, inl, inr}
use mathlib.Core.Path.{◌≡◌, refl, ap, sym, ◌∙◌, subst}
use Prim.Native.Nat.{ℕ}
use lib.Dec.{leb}
use lib.ListN.{length}
use Rattle.laws.specs.Bytes.{Bytes}
use Rattle.scene.proofs.EdgeLaws.{run_stopped}
use Rattle.scene.specs.Reading.{Going, Move, State, advance, command, ended, feed, finish, first, going, initial, keep, move, newline, read_statements, refused, run, stopped}
use Rattle.scene.specs.declared.Settings.{Settings}

-- two states: the same, or the first is stopped
abbrev pub Alike : (reason : ℕ) → State → State → Type 0
Alike n X Y = (X ≡ Y) ⊎ ((p : ℕ) × (X ≡ stopped n p))

-- where that holds of every word
module _ (r s : Settings) (n : ℕ) (words : (g : Going) (w : Bytes) → Alike n (advance r g (ended w)) (advance s g (ended w))) where
  advance_alike : (g : Going) (mv : Move) → Alike n (advance r g mv) (advance s g mv)
  advance_alike g (keep m) = inl refl
  advance_alike g (first b) = inl refl
  advance_alike g command = inl refl
  advance_alike g (ended w) = words g w

  feed_alike : (X : State) (b : ℕ) → Alike n (feed r X b) (feed s X b)
  feed_alike (stopped c p) b = inl refl
  feed_alike (going g) b = advance_alike g (move g.scan g.phase b)

  run_alike : (t : Bytes) (X : State) → Alike n (run r X t) (run s X t)
  unfolding run
  run_alike [] X = inl refl
  run_alike (b ∷ t) X = go (feed_alike X b) (run_alike t (feed s X b))
    where
      go : Alike n (feed r X b) (feed s X b) → Alike n (run r (feed s X b) t) (run s (feed s X b) t) → Alike n (run r (feed r X b) t) (run s (feed s X b) t)
      go (inl e) h = subst (λ (Y : State). Alike n (run r Y t) (run s (feed s X b) t)) (sym e) h
      go (inr (p, e)) h = inr (p, ap (λ (Y : State). run r Y t) e ∙ run_stopped r n p t)

  pub read_alike : (text : Bytes) → (read_statements r text ≡ read_statements s text) ⊎ ((p : ℕ) × (read_statements r text ≡ refused n p))
  unfolding read_statements
  read_alike text = go (leb (length text) 65536) (run_alike (text ++ newline) initial)
    where
      go : (b : Bool) {X Y : State} → Alike n X Y → (cond b (finish (length text) X) (refused 1 0) ≡ cond b (finish (length text) Y) (refused 1 0)) ⊎ ((p : ℕ) × (cond b (finish (length text) X) (refused 1 0) ≡ refused n p))
      go true (inl e) = inl (ap (finish (length text)) e)
      go true (inr (p, e)) = inr (p, ap (finish (length text)) e)
      go false h = inl refl
