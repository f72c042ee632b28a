-- Whole statements: what holds between two of them, where one is entered.
use mathlib.Core.Bool.{true, false≢true}
use mathlib.Core.List.{List}
use mathlib.Core.Path.{◌≡◌, refl, ap, sym, ◌∙◌, subst}
use Prim.Native.Nat.{ℕ, suc, ◌+◌, ◌-◌, ◌/◌, ◌≤◌, ◌<◌}
use native.Mathlib.Omega.{arith}
use lib.Ieee.{Float}
use lib.ListN.{length}
use Rattle.laws.specs.Bytes.{Bytes}
use Rattle.line_numbers.proofs.LineLaws.{line_goes_on}
use Rattle.line_numbers.specs.Lines.{line_from}
use Rattle.linker.proofs.TableLaws.{behind_one}
use Rattle.linker.specs.Entered.{entered_at, indexed_in, looked_in}
use Rattle.plain.specs.Plain.{Begins, Fills, Left, Stands, idle_at, state_at, unfilled}
use Rattle.plain.specs.declared.Between.{Between}
use Rattle.plain.specs.declared.Filled.{Filled}
use Rattle.plain.specs.declared.Head.{Head}
use Rattle.progress.proofs.NextLaws.{at_is}
use Rattle.progress.proofs.PhaseLaws.{part_busy}
use Rattle.progress.proofs.ReadyLaws.{count_is}
use Rattle.progress.specs.Image.{image}
use Rattle.progress.specs.Invariant.{Inv}
use Rattle.scene.proofs.RiseLaws.{last_name, name_passed}
use Rattle.scene.proofs.TellsLaws.{statements_length}
use Rattle.scene.specs.Phase.{Phase as ScenePhase, idle, busy}
use Rattle.scene.specs.Reading.{statements}
use Rattle.scene.specs.Record.{line_at, width}
use Rattle.scene.specs.declared.Settings.{Settings}
use Rattle.statement.specs.States.{between, clipped, counted_in, is_idle}
use Rattle.statement.specs.declared.State.{State}
use Rattle.statement.specs.declared.Phase.TheVariants as is
use Rattle.plain.proofs.StepLaws.{comment_step}
use Rattle.word_scan.proofs.PassLaws.{line_most}
use Rattle.word_scan.specs.Passing.{PassesComment}
use Rattle.word_scan.specs.declared.Skipped.{Skipped}

module _ (text : Bytes) (T : List ℕ) (R : List Float) (X : List ℕ) (room : Settings) (s : State) (I : Inv text T R X room s) where
  -- the line of a place behind all names, counted on from the last one
  pub line_here : (p : ℕ) → s.at ≤ p → line_from text T s.count p ≡ line_at text p
  line_here p h =
      let at : s.at ≡ length I.done = ap (λ (z : State). z.at) I.is ∙ at_is (length X) (length I.done) (statements I.above) I.phase I.places in
      let low : last_name I.above ≤ length I.done = name_passed room I.done _ I.reach in
      (λ i. line_from text (I.stored i) ((count_is text T R X room s I ∙ statements_length I.above) i) p) ∙ line_goes_on text I.above (length T) p (omega arith)

  -- between two statements nothing is open
  pub idle_is : is_idle s.phase ≡ true → s ≡ between s.at s.count s.used s.looked
  unfolding is_idle
  idle_is h = go I.phase refl
    where
      go : (ph : ScenePhase) → I.phase ≡ ph → s ≡ between s.at s.count s.used s.looked
      go idle q = let e = I.is ∙ ap (λ (z : ScenePhase). image (length X) (length I.done) (statements I.above) z I.places) q in e ∙ (λ i. between (sym e i).at (sym e i).count (sym e i).used (sym e i).looked)
      go (busy m p) q = let e = I.is ∙ ap (λ (z : ScenePhase). image (length X) (length I.done) (statements I.above) z I.places) q in absurd (false≢true (sym (part_busy p) ∙ ap (λ (z : State). is_idle z.phase) (sym e) ∙ h))

  -- as many records have room in the table as a reading may store
  pub rows_more : s.count < room.records → s.count < length T / width
  rows_more h = omega (arith, ap (λ (z : Settings). z.records) I.settings)

  pub line_first : clipped (line_from text T s.count s.at) ≡ line_at text s.at
  line_first = let e = line_here s.at (omega arith) in omega (arith, line_most text s.at, I.short)

  -- so a reading stands there
  pub stands : is_idle s.phase ≡ true → (line : ℕ) → line ≡ clipped (line_from text T s.count s.at) → Stands text T R X room (record { at = s.at; line = line; count = s.count; used = s.used; looked = s.looked })
  stands h line e = record { inv = subst (Inv text T R X room) (idle_is h) I; line_is = e ∙ line_first }

-- a comment
module _ (text : Bytes) (T : List ℕ) (R : List Float) (X : List ℕ) (room : Settings) (b : Between) (r : Skipped) (P : PassesComment text b.at r) where
  pub comment_stands : Stands text T R X room b → Stands text T R X room (record { at = r.next; line = b.line + r.lines; count = b.count; used = b.used; looked = b.looked })
  comment_stands S = record { inv = comment_step text T R X room b.count b.used b.at b.looked r P S.inv; line_is = omega (arith, S.line_is, P.lines_on) }

-- a statement's words and reals
module _ (text : Bytes) (T : List ℕ) (R : List Float) (X : List ℕ) (room : Settings) (b : Between) (h : Head) (B : Begins text T X room (idle_at b) b.line h) (f : Filled) (D : List Float) (F : Fills text R room h.draft (unfilled h b.used) f D) where
  pub whole_further : b.at < f.at
  whole_further = omega (arith, B.further, F.further)

  pub whole_within : b.at ≤ length text
  whole_within = omega (arith, B.place_behind, B.place_within)

  pub line_bound : b.line ≤ 4294967295 + line_at text b.at → f.line ≤ 4294967295 + line_at text f.at
  line_bound l = omega (arith, B.line_on, F.line_on)

  line_kept : b.line ≡ line_at text b.at → f.line ≡ line_at text f.at
  line_kept l = omega (arith, B.line_on, F.line_on)

  module _ (I : Inv text T R X room (idle_at b)) where
    reals_left : Left text T D X room f.left (state_at b.count f.used f.at 0 h.looked is.Real h.draft)
    reals_left = F.leads T X b.count h.looked (B.leads R I)

    -- a real that is not plain
    pub stops_inside : 0 < f.left → Inv text T D X room (state_at b.count f.used f.at (f.left - 1) h.looked is.Real h.draft)
    stops_inside n =
        let one : f.left ≡ suc (f.left - 1) = omega arith in
        subst (λ (z : ℕ). Left text T D X room z (state_at b.count f.used f.at 0 h.looked is.Real h.draft)) one reals_left

    -- the line of the name is the one that it is entered with
    named_line : b.line ≡ line_at text b.at → clipped h.named ≡ clipped (line_from text T b.count h.draft.name)
    named_line l =
        let there : h.draft.name ≡ B.place = omega (arith, B.place_is, B.place_within, I.short) in
        let told : line_from text T b.count h.draft.name ≡ line_at text B.place = ap (line_from text T b.count) there ∙ line_here text T R X room (idle_at b) I B.place B.place_behind in
        let n : h.named ≡ line_at text B.place = omega (arith, B.named_on) in
        ap clipped (n ∙ sym told)

    -- the statement is entered
    goes_whole : b.line ≡ line_at text b.at → b.count < room.records → f.left ≡ 0 → (line more k : ℕ) (T' X' : List ℕ) → line ≡ clipped h.named
        → more ≡ looked_in text T X b.count h.draft → T' ≡ entered_at text T X b.count h.draft line → X' ≡ indexed_in text T X b.count h.draft
        → length T' ≡ length T → length X' ≡ length X → k ≡ clipped (h.looked + more) → Inv text T' D X' room (between f.at (b.count + 1) f.used k)
    goes_whole l few none line more k T' X' el em et ex st sx ek =
        subst (λ (z : ℕ). Left text T D X room z t) none reals_left T' X' (between f.at (b.count + 1) f.used k)
        (record {
          state = behind_one text T X t (rows_more text T R X room (idle_at b) I few) {u = counted_in t more} em refl (ap (between f.at (b.count + 1) f.used) ek);
          stored = et ∙ ap (entered_at text T X b.count h.draft) (el ∙ named_line l);
          held = ex;
          sized = st;
          spread = sx;
        })
      where
        t : State
        t = state_at b.count f.used f.at 0 h.looked is.Real h.draft

  -- so a reading stands behind it
  pub enters : Stands text T R X room b → b.count < room.records → f.left ≡ 0 → (line more k : ℕ) (T' X' : List ℕ) → line ≡ clipped h.named
      → more ≡ looked_in text T X b.count h.draft → T' ≡ entered_at text T X b.count h.draft line → X' ≡ indexed_in text T X b.count h.draft
      → length T' ≡ length T → length X' ≡ length X → k ≡ clipped (h.looked + more) → Stands text T' D X' room (record { at = f.at; line = f.line; count = b.count + 1; used = f.used; looked = k })
  enters S few none line more k T' X' el em et ex st sx ek = record { inv = goes_whole S.inv S.line_is few none line more k T' X' el em et ex st sx ek; line_is = line_kept S.line_is }
