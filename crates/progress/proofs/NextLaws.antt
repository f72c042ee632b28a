-- What stands next: its step, done to the tables, is what the definition makes of it.
use mathlib.Core.Bool.{Bool, true, false, cond, not}
use mathlib.Core.List.{List, [], ◌∷◌, ◌++◌, append-nil}
use mathlib.Core.Logic.{◌⊎◌, inl, inr}
use mathlib.Core.Path.{◌≡◌, refl, ap, sym, ◌∙◌, subst}
use Prim.Native.Nat.{ℕ, zero, suc, ◌+◌, ◌≤◌, ◌<◌}
use native.Mathlib.Omega.{arith}
use borrow.Author.Tests.{eqb-false, eqb-true}
use lib.Dec.{eqb}
use lib.Ieee.{Float}
use lib.ListN.{length, length-append, length-set, length-drop, get_or, set, drop}
use lib.Seq.{drop-cons}
use Rattle.progress.proofs.MoveLaws.{at_command, over_comment, over_blanks, ends_here}
use Rattle.progress.proofs.PhaseLaws.{part_busy}
use Rattle.progress.proofs.ReadyLaws.{stores_last, used_list, entered, steps_as, more_real, stores, count_few, count_is}
use Rattle.progress.proofs.WordLaws.{reached, goes_out, goes_on, refuses, faulty}
use Rattle.progress.specs.Goes.{On, Stepped}
use Rattle.progress.specs.Image.{open_reals, image}
use Rattle.progress.specs.Invariant.{AtWord, Entered, Inv, Ready, result}
use Rattle.laws.proofs.NatLaws.{le_or_lt}
use Rattle.laws.proofs.RunLaws.{run_more, past_least, run_length, past_most, past_fails}
use Rattle.laws.specs.Bytes.{Bytes, part}
use Rattle.laws.specs.Runs.{past, run as longest}
use Rattle.lexer.specs.Class.{is_in_line, is_blank, is_other}
use Rattle.lexer.specs.Word.{word_at, word_fault}
use Rattle.lexer.specs.declared.Word.{Word}
use Rattle.context.specs.Seen.{seen_in}
use Rattle.parser.specs.Steps.{end_of, next_step, opened_step, step_of, word_step}
use Rattle.scene.proofs.TellsLaws.{statements_length, reals_length}
use Rattle.scene.specs.HouseRules.{zero_real}
use Rattle.scene.specs.Phase.{Phase, idle, busy}
use Rattle.scene.specs.Reading.{end_in, Places, statements, refused}
use Rattle.scene.specs.Record.{filled, real_table}
use Rattle.scene.specs.Statement.{Statement}
use Rattle.scene.specs.declared.Settings.{Settings}
use Rattle.statement.specs.States.{counted_in, is_idle, moved_to, opening_of}
use Rattle.statement.specs.declared.Opening.{Opening}
use Rattle.statement.specs.declared.Phase.{Phase as CodePhase}
use Rattle.statement.specs.declared.State.{State}
use Rattle.statement.specs.Step.{Step}
use Rattle.statement.specs.declared.Opening.TheVariants as opening
use Rattle.statement.specs.Step as to

-- the text ends
module _ (text : Bytes) (table : List ℕ) (reals : List Float) (index : List ℕ) (room : Settings) (s : State) (I : Inv text table reals index room s) (h : length text ≤ s.at) where
  text_ends : Ready text table reals index room s (end_of s.phase (length text))
  unfolding is_idle
  text_ends = go I.phase refl
    where
      phase_is : (ph : Phase) → I.phase ≡ ph → s.phase ≡ (image (length index) (length I.done) (statements I.above) ph I.places).phase
      phase_is ph q = ap (λ (z : State). z.phase) I.is ∙ ap (λ (z : Phase). (image (length index) (length I.done) (statements I.above) z I.places).phase) q

      go : (ph : Phase) → I.phase ≡ ph → Ready text table reals index room s (end_of s.phase (length text))
      go idle q =
          let none_open : real_table I.above ++ open_reals I.phase ≡ real_table I.above = ap {B = List Float} (λ (z : Phase). real_table I.above ++ open_reals z) q ∙ append-nil (real_table I.above) in
          subst (λ (z : CodePhase). Ready text table reals index room s (end_of z (length text))) (sym (phase_is idle q))
          (record {
            entries = I.above;
            few = count_few text table reals index room s I;
            accepts = ends_here text table reals index room s I h ∙ ap (λ (ph : Phase). end_in ph (length text) I.above) q;
            count = count_is text table reals index room s I ∙ statements_length I.above;
            used = used_list text table reals index room s I ∙ ap length none_open;
            looked = ap (λ (z : State). z.looked) I.is ∙ ap (λ (z : Phase). (image (length index) (length I.done) (statements I.above) z I.places).looked) q;
            stored = I.stored;
            held = I.held;
            doubles = I.doubles ∙ ap (filled zero_real (length reals)) none_open;
          })
      go (busy m p) q =
          subst (Ready text table reals index room s) (sym (ap (λ (z : CodePhase). end_of z (length text)) (phase_is (busy m p) q) ∙ ap (λ (b : Bool). cond b to.Ended (to.Refused 5 (length text))) (part_busy p)))
          (ends_here text table reals index room s I h ∙ ap (λ (ph : Phase). end_in ph (length text) I.above) q)

pub at_is : (size n : ℕ) (d : List Statement) (ph : Phase) (k : Places) → (image size n d ph k).at ≡ n
at_is size n d idle k = refl
at_is size n d (busy m p) k = refl

-- ---- a step is done to the tables

module _ (text : Bytes) (table : List ℕ) (reals : List Float) (index : List ℕ) (room : Settings) (s : State) (len : ℕ) where
  abbrev Did : Step → Type 0
  Did step = Stepped text table reals index room s len step

  did_refuse : (n p : ℕ) → Did (to.Refused n p) → result text room ≡ refused n p
  did_refuse n p S = refuses text table reals index room s len S.stands n p S.goes

  -- the reals of a statement that goes on, with none more
  same_reals : (W : AtWord text table reals index room s len) → reals ≡ filled zero_real (length reals) ((real_table W.inv.above ++ open_reals W.inv.phase) ++ [])
  same_reals W = W.inv.doubles ∙ ap (filled zero_real (length reals)) (sym (append-nil (real_table W.inv.above ++ open_reals W.inv.phase)))

  -- and with one more
  one_more : (W : AtWord text table reals index room s len) (x : Float) (D : List Float) → s.used < length reals → D ≡ set reals s.used x → (length D ≡ length reals) × (D ≡ filled zero_real (length reals) ((real_table W.inv.above ++ open_reals W.inv.phase) ++ x ∷ []))
  one_more W x D h q = (ap length q ∙ simp length-set, q ∙ more_real (real_table W.inv.above ++ open_reals W.inv.phase) reals x (length reals) s.used W.inv.doubles (used_list text table reals index room s W.inv) h)

  on_further : (W : AtWord text table reals index room s len) (t : State) (xs : List Float) → On (length index) (suc (s.at + len)) W.inv.above W.inv.phase (reached text table reals index room s len W) t xs → s.at < t.at
  on_further W t xs N = omega (arith, ap (λ (z : State). z.at) N.is, at_is (length index) (suc (s.at + len)) (statements W.inv.above) N.phase N.places)

  did_go : (t : State) → Did (to.Going t) → Inv text table reals index room t × (s.at < t.at)
  did_go t S = (goes_on text table reals index room s len S.stands t [] reals S.goes refl (same_reals S.stands), on_further S.stands t [] S.goes)

  real_room : (x : Float) (t : State) → Did (to.Real t x) → s.used < length reals
  real_room x t S = stores text table reals index room s len S.stands t x S.goes

  did_real : (x : Float) (t : State) (D : List Float) → Did (to.Real t x) → D ≡ set reals s.used x → Inv text table D index room t × (s.at < t.at)
  did_real x t D S q = let m = one_more S.stands x D (real_room x t S) q in (goes_on text table reals index room s len S.stands t (x ∷ []) D S.goes m.0 m.1, on_further S.stands t (x ∷ []) S.goes)

  did_complete : (t t' : State) (T X : List ℕ) → Did (to.Complete t) → Entered text table index t T X t' → Inv text T reals X room t' × (s.at < t'.at)
  did_complete t t' T X S E =
      let e = entered text table reals index room s len S.stands t [] S.goes T X t' E in
      (goes_out text table reals index room s len S.stands t [] S.goes T reals X E.sized refl E.spread e.0 (same_reals S.stands) e.1 t' e.2, omega (arith, ap (λ (z : State). z.at) e.2, S.goes.place))

  last_room : (x : Float) (t : State) → Did (to.Last t x) → s.used < length reals
  last_room x t S = omega (arith, used_list text table reals index room s S.stands.inv, length-append (real_table S.stands.inv.above) (open_reals S.stands.inv.phase), reals_length (statements S.stands.inv.above), stores_last text table reals index room s len S.stands t (x ∷ []) S.goes, ap length S.goes.reals, length-append (open_reals S.stands.inv.phase) (x ∷ []))

  did_last : (x : Float) (t t' : State) (T : List ℕ) (D : List Float) (X : List ℕ) → Did (to.Last t x) → D ≡ set reals s.used x → Entered text table index t T X t' → Inv text T D X room t' × (s.at < t'.at)
  did_last x t t' T D X S p E =
      let m = one_more S.stands x D (last_room x t S) p in
      let e = entered text table reals index room s len S.stands t (x ∷ []) S.goes T X t' E in
      (goes_out text table reals index room s len S.stands t (x ∷ []) S.goes T D X E.sized m.0 E.spread e.0 m.1 e.1 t' e.2, omega (arith, ap (λ (z : State). z.at) e.2, S.goes.place))

  ready_done : (step : Step) → Did step → Ready text table reals index room s step
  ready_done (to.Going t) S = did_go t S
  ready_done (to.Real t x) S = (real_room x t S, λ D q. did_real x t D S q)
  ready_done (to.Last t x) S = (last_room x t S, λ T D X t' p E. did_last x t t' T D X S p E)
  ready_done (to.Complete t) S = λ T X t' E. did_complete t t' T X S E
  ready_done (to.Refused n p) S = did_refuse n p S
  ready_done to.Ended S = absurd S.goes

-- a word's step
module _ (text : Bytes) (table : List ℕ) (reals : List Float) (index : List ℕ) (room : Settings) (s : State) (len : ℕ) (W : AtWord text table reals index room s len) where
  abbrev word : Bytes
  word = part text s.at len

  abbrev behind : State
  behind = moved_to s (s.at + len + 1)

  faulty_word : (n : ℕ) → word_fault word ≡ n → (n ≡ 0 → ⊥) → result text room ≡ refused n s.at
  faulty_word zero e h = absurd (h refl)
  faulty_word (suc n) e h = faulty text table reals index room s len W n e

  word_ready : (b : Bool) → eqb (word_fault word) 0 ≡ b → Ready text table reals index room s (cond b (step_of s.phase word room (counted_in behind (seen_in text table reals index behind s.at word).looked) (seen_in text table reals index behind s.at word)) (to.Refused (word_fault word) s.at))
  word_ready true h = ready_done text table reals index room s len _ (steps_as text table reals index room s len W (eqb-true (word_fault word) 0 h))
  word_ready false h = faulty_word (word_fault word) refl (eqb-false (word_fault word) 0 h)

-- a step from a later place is one from here
later_ready : (text : Bytes) (table : List ℕ) (reals : List Float) (index : List ℕ) (room : Settings) (s : State) (n : ℕ) (step : Step) → s.at ≤ n → Ready text table reals index room (moved_to s n) step → Ready text table reals index room s step
later_ready text table reals index room s n (to.Going t) h r = (r.0, (let l = r.1 in omega arith))
later_ready text table reals index room s n (to.Real t x) h r = (r.0, λ D q. ((r.1 D q).0, (let l = (r.1 D q).1 in omega arith)))
later_ready text table reals index room s n (to.Last t x) h r = (r.0, λ T D X t' p E. ((r.1 T D X t' p E).0, (let m = (r.1 T D X t' p E).1 in omega arith)))
later_ready text table reals index room s n (to.Complete t) h r = λ T X t' E. ((r T X t' E).0, (let m = (r T X t' E).1 in omega arith))
later_ready text table reals index room s n (to.Refused c p) h r = r
later_ready text table reals index room s n to.Ended h r = r

-- ---- what stands next is the word w

module _ (text : Bytes) (table : List ℕ) (reals : List Float) (index : List ℕ) (room : Settings) (s : State) (I : Inv text table reals index room s) (w : Word) (q : w ≡ word_at text s.at) where
  place_is : w.place ≡ past is_blank text s.at
  unfolding word_at
  place_is = ap (λ (z : Word). z.place) q

  size_is : w.len ≡ longest is_other (drop w.place text)
  unfolding word_at
  size_is = ap (λ (z : Word). z.len) q ∙ ap (λ (n : ℕ). longest is_other (drop n text)) (sym place_is)

  at_least : s.at ≤ length text → s.at ≤ w.place
  at_least h = omega (arith, place_is, past_least is_blank text s.at)

  most : w.place ≤ length text
  most = omega (arith, place_is, past_most is_blank text s.at)

  at_blank : w.place < length text → is_blank (get_or text w.place 0) ≡ false
  at_blank h = subst (λ (n : ℕ). is_blank (get_or text n 0) ≡ false) (sym place_is) (past_fails is_blank text s.at 0 (omega (arith, place_is)))

  -- a word has a first byte
  word_some : w.place < length text → 0 < w.len
  unfolding is_other
  word_some h = omega (arith, size_is, ap (longest is_other) (drop-cons text w.place 0 h), run_more is_other (get_or text w.place 0) (drop (suc w.place) text) (ap not (at_blank h)))

  end_now : w.len ≡ 0 → Ready text table reals index room s (end_of s.phase (length text))
  end_now z = go (le_or_lt s.at (length text))
    where
      at_end : w.place ≡ length text
      at_end = go (le_or_lt (length text) w.place)
        where
          go : (length text ≤ w.place) ⊎ (w.place < length text) → w.place ≡ length text
          go (inl h) = omega (arith, most)
          go (inr h) = absurd (omega (arith, word_some h))

      go : (s.at ≤ length text) ⊎ (length text < s.at) → Ready text table reals index room s (end_of s.phase (length text))
      go (inl h) = later_ready text table reals index room s (past is_blank text s.at) (end_of s.phase (length text)) (omega (arith, place_is, at_least h)) (text_ends text table reals index room (moved_to s (past is_blank text s.at)) (over_blanks text table reals index room s I h) (omega (arith, place_is, at_end)))
      go (inr h) = text_ends text table reals index room s I (omega arith)

  module _ (some : 0 < w.len) where
    inside : (s.at < length text) × (w.place < length text)
    inside = (go (le_or_lt (length text) s.at), here)
      where
        here : w.place < length text
        here = go (le_or_lt (length text) w.place)
          where
            go : (length text ≤ w.place) ⊎ (w.place < length text) → w.place < length text
            go (inl h) = absurd (omega (arith, size_is, run_length is_other (drop w.place text), length-drop w.place text))
            go (inr h) = h

        go : (length text ≤ s.at) ⊎ (s.at < length text) → s.at < length text
        go (inl h) = absurd (omega (arith, here, place_is, past_least is_blank text s.at))
        go (inr h) = h

    abbrev t : State
    t = moved_to s w.place

    at_word : Inv text table reals index room t
    at_word = subst (λ (n : ℕ). Inv text table reals index room (moved_to s n)) (sym place_is) (over_blanks text table reals index room s I (omega (arith, inside.0)))

    comment_ready : opening_of s.phase (get_or text w.place 0) ≡ opening.Comment → Inv text table reals index room (moved_to s (past is_in_line text w.place + 1)) × (s.at < past is_in_line text w.place + 1)
    comment_ready o = (over_comment text table reals index room t at_word inside.1 (at_blank inside.1) o, omega (arith, past_least is_in_line text w.place, inside.1, at_least (omega (arith, inside.0))))

    command_ready : opening_of s.phase (get_or text w.place 0) ≡ opening.Command → result text room ≡ refused 4 w.place
    command_ready o = at_command text table reals index room t at_word inside.1 (at_blank inside.1) o

    next_word_ready : opening_of s.phase (get_or text w.place 0) ≡ opening.Word → Ready text table reals index room s (word_step text table reals index room s w)
    unfolding word_step
    next_word_ready o = later_ready text table reals index room s w.place (word_step text table reals index room s w) (at_least (omega (arith, inside.0))) (word_ready text table reals index room t w.len (record { inv = at_word; here = inside.1; other = at_blank inside.1; opens = o; size = size_is }) _ refl)

    opens_ready : (o : Opening) → opening_of s.phase (get_or text w.place 0) ≡ o → Ready text table reals index room s (opened_step o text table reals index room s w)
    opens_ready opening.Comment o = comment_ready o
    opens_ready opening.Command o = command_ready o
    opens_ready opening.Word o = next_word_ready o

  stands_ready : (b : Bool) → eqb w.len 0 ≡ b → Ready text table reals index room s (cond b (end_of s.phase (length text)) (opened_step (opening_of s.phase (get_or text w.place 0)) text table reals index room s w))
  stands_ready true h = end_now (eqb-true w.len 0 h)
  stands_ready false h = opens_ready (omega (arith, eqb-false w.len 0 h)) _ refl

-- the step that is taken is ready
module _ (text : Bytes) (table : List ℕ) (reals : List Float) (index : List ℕ) (room : Settings) (s : State) (I : Inv text table reals index room s) where
  pub ready : (step step' : Step) → step ≡ next_step text table reals index room s → step ≡ step' → Ready text table reals index room s step'
  unfolding next_step
  ready step step' e q = subst (Ready text table reals index room s) (sym e ∙ q) (stands_ready text table reals index room s I (word_at text s.at) refl _ refl)
