-- The moved text of an accepted one reads as its statements moved, or is refused with 1 or with 13.
use mathlib.Core.Bool.{Bool, true, cond}
use mathlib.Core.List.{List, ◌++◌}
use mathlib.Core.Logic.{◌⊎◌, inl, inr}
use mathlib.Core.Path.{◌≡◌, ap, sym, ◌∙◌, subst}
use Prim.Native.Nat.{ℕ, ◌≤◌, ◌<◌}
use native.Mathlib.Omega.{arith}
use borrow.Author.Tests.{lt-leb}
use lib.ListN.{length, length-map}
use Rattle.graph.specs.Answers.{lowest_loop}
use Rattle.laws.specs.Bytes.{Bytes}
use Rattle.moving.proofs.FullLaws.{only_room, with_reals}
use Rattle.moving.proofs.GlassLaws.{moved_proper}
use Rattle.moving.proofs.LinkLaws.{moved_known, moved_linked, moved_loopless}
use Rattle.moving.specs.Moved.{moved, moved_statement}
use Rattle.moving.specs.ReadBack.{ReadsMovedLaw}
use Rattle.moving.specs.declared.Direction.{Direction}
use Rattle.scene.proofs.AcceptLaws.{accept_forth}
use Rattle.scene.proofs.RoomLaws.{fit_back, fit_forth}
use Rattle.scene.proofs.SwapLaws.{Linked}
use Rattle.scene.proofs.TellsLaws.{statements_length}
use Rattle.scene.specs.Links.{reals_used}
use Rattle.scene.specs.Reading.{Entry, accepted, finish, initial, newline, read_statements, refused, run, statements}
use Rattle.scene.specs.Statement.{Statement}
use Rattle.scene.specs.declared.Settings.{Settings}
use Rattle.sides.proofs.KnownLaws.{all_known, first_known, known_first}
use Rattle.sides.proofs.MixedLaws.{resolved, resolves}
use Rattle.sides.specs.Read.{mixed, read}
use Rattle.sides.specs.Sides.{scene_graph}
use Rattle.tidying.proofs.ReadBackLaws.{accepted_proper, tidy_reads}
use Rattle.tidying.specs.Proper.{AllProper}
use Rattle.tidying.specs.Tidy.{tidy}

-- a text over the most bytes
too_long : (r : Settings) (text : Bytes) → 65536 < length text → read r text ≡ refused 1 0
unfolding read read_statements
too_long r text h = ap (λ (b : Bool). mixed text (cond b (finish (length text) (run r initial (text ++ newline))) (refused 1 0))) (lt-leb (length text) 65536 h)

-- what is said of the statements of an accepted text, but for their reals
record Accepted (r : Settings) (D : List Statement) : Type 0 where
  proper : AllProper r.mode D
  linked : Linked D
  few : length D ≤ r.records
  known : all_known D D ≡ true
  loopless : lowest_loop (scene_graph D) (length D) ≡ 0

read_accepted : (r : Settings) (text : Bytes) (es : List Entry) → read r text ≡ accepted es → Accepted r (statements es)
read_accepted r text es e =
    let h = resolved r text es e in
    let f = fit_forth r (statements es) (accept_forth r text es h.reads).2 in
    record {
      proper = accepted_proper r text es h.reads;
      linked = f.0;
      few = f.1;
      known = first_known text (statements es) es h.known;
      loopless = ap (lowest_loop (scene_graph (statements es))) (statements_length es) ∙ h.loopless;
    }

-- the same is true of them moved
accepted_moved : (r : Settings) (m : Direction) (D : List Statement) → Accepted r D → Accepted r (moved m D)
accepted_moved r m D h =
    let few = h.few in
    record {
      proper = moved_proper r.mode m D h.proper;
      linked = moved_linked m D h.linked;
      few = omega (arith, length-map D (moved_statement m));
      known = moved_known m D D ∙ h.known;
      loopless = moved_loopless m D h.loopless;
    }

module _ (r : Settings) (D : List Statement) (h : Accepted r D) (fits : length (tidy D) ≤ 65536) where
  -- read with room for so many reals
  tidied : (n : ℕ) → reals_used D ≤ n → (es : List Entry) × (read_statements (with_reals n r) (tidy D) ≡ accepted es) × (statements es ≡ D)
  tidied n u = tidy_reads (with_reals n r) D h.proper (fit_back (with_reals n r) D h.linked h.few u) fits

  -- every side is known and there is no loop
  settles : (es : List Entry) → read_statements r (tidy D) ≡ accepted es → statements es ≡ D → read r (tidy D) ≡ accepted es
  settles es e q = resolves r (tidy D) es (record {
    reads = e;
    known = known_first (tidy D) (statements es) es (subst (λ (z : List Statement). all_known z z ≡ true) (sym q) h.known);
    loopless = ap (lowest_loop (scene_graph (statements es))) (sym (statements_length es)) ∙ subst (λ (z : List Statement). lowest_loop (scene_graph z) (length z) ≡ 0) (sym q) h.loopless;
  })

  room : reals_used D ≤ r.reals → (es : List Entry) × (read r (tidy D) ≡ accepted es) × (statements es ≡ D)
  room u = let b = tidied r.reals u in (b.0, settles b.0 b.1 b.2, b.2)

  -- read with just enough room it is accepted, so with less the one thing that can come is 13
  no_room : r.reals < reals_used D → (p : ℕ) × (read r (tidy D) ≡ refused 13 p)
  unfolding read
  no_room u = go (tidied (reals_used D) (omega arith)) (only_room r (reals_used D) (omega arith) (tidy D))
    where
      go : (es : List Entry) × (read_statements (with_reals (reals_used D) r) (tidy D) ≡ accepted es) × (statements es ≡ D)
          → (read_statements r (tidy D) ≡ read_statements (with_reals (reals_used D) r) (tidy D)) ⊎ ((p : ℕ) × (read_statements r (tidy D) ≡ refused 13 p)) → (p : ℕ) × (mixed (tidy D) (read_statements r (tidy D)) ≡ refused 13 p)
      go b (inl e) =
          let f = fit_forth r (statements b.0) (accept_forth r (tidy D) b.0 (e ∙ b.1)).2 in
          absurd (omega (arith, f.2, ap reals_used b.2))
      go b (inr (p, e)) = (p, ap (mixed (tidy D)) e)

pub reads_moved : ReadsMovedLaw
reads_moved r text es e m =
    let D = moved m (statements es) in
    let h = accepted_moved r m (statements es) (read_accepted r text es e) in
    record { accepts = room r D h; long = too_long r (tidy D); full = no_room r D h }
