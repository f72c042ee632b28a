-- Reading goes on over blanks, over a comment, to a command and to the text's end.
use mathlib.Core.Bool.{Bool, true, false, cond}
use mathlib.Core.List.{List, [], ◌∷◌, ◌++◌, append_assoc, append-nil}
use mathlib.Core.Path.{◌≡◌, refl, ap, sym, ◌∙◌, subst}
use Prim.Native.Nat.{ℕ, zero, suc, ◌+◌, ◌-◌, ◌≤◌, ◌<◌}
use native.Mathlib.Omega.{arith}
use borrow.Author.Tests.{not-false, eqb-true}
use lib.Dec.{eqb}
use lib.Ieee.{Float}
use lib.ListN.{length, length-append, get_or, take, drop, take-append-drop}
use lib.Seq.{drop-append-add, drop-append-le, drop-append_seam, length-take-le, drop-cons}
use Rattle.progress.proofs.PhaseLaws.{part_busy}
use Rattle.progress.specs.Image.{phase_of, image}
use Rattle.progress.specs.Invariant.{Inv, result}
use Rattle.laws.proofs.RunLaws.{run_all, past_run, behind_run, Behind, run_length, run_more}
use Rattle.laws.specs.Bytes.{Bytes, byte}
use Rattle.laws.specs.Runs.{past, run as longest}
use Rattle.lexer.specs.Class.{is_in_line, is_blank}
use Rattle.scene.proofs.EdgeLaws.{run_append, run_stopped}
use Rattle.scene.proofs.TurnLaws.{run_blanks, run_comment}
use Rattle.scene.specs.Phase.{Part, Phase, idle, busy}
use Rattle.scene.specs.Reading.{run, finish, command, statements, first, initial, refused, end_in, gap, going_at, comment, newline, keep, begins, advance, Places}
use Rattle.scene.specs.Statement.{Statement}
use Rattle.scene.specs.declared.Settings.{Settings}
use Rattle.statement.specs.States.{is_idle, moved_to, opening_of}
use Rattle.statement.specs.declared.State.{State}
use Rattle.statement.specs.declared.Opening.TheVariants as opening
use Rattle.scene.specs.Reading as reading

module _ (text : Bytes) (table : List ℕ) (reals : List Float) (index : List ℕ) (room : Settings) (s : State) (I : Inv text table reals index room s) where
  abbrev r : Settings
  r = room

  pub place : s.at ≡ length I.done
  place = ap (λ (z : State). z.at) I.is ∙ at_image I.phase
    where
      at_image : (ph : Phase) → (image (length index) (length I.done) (statements I.above) ph I.places).at ≡ length I.done
      at_image idle = refl
      at_image (busy m p) = refl

  pub ahead : I.rest ≡ drop s.at (text ++ newline)
  ahead = sym (ap (λ (n : ℕ). drop n (text ++ newline)) place ∙ ap (drop (length I.done)) I.whole ∙ drop-append_seam I.done I.rest)

  within_text : s.at ≤ length text + 1
  within_text = omega (arith, place, ap length I.whole, length-append I.done I.rest, length-append text newline)

  pub gets_on : (n : ℕ) → n < s.at → length text + 1 - s.at < length text + 1 - n
  gets_on n h = omega (arith, within_text)

  -- what the bytes x make of it
  pub on : (x : Bytes) → run r initial (I.done ++ x) ≡ run r (going_at s.at gap I.phase I.places I.above) x
  on x = run_append r initial I.done x ∙ ap (λ (z : reading.State). run r z x) (I.reach ∙ ap (λ (n : ℕ). going_at n gap I.phase I.places I.above) (sym place))

  pub moved_image : (n : ℕ) → moved_to s n ≡ image (length index) n (statements I.above) I.phase I.places
  moved_image n = ap (λ (z : State). moved_to z n) I.is ∙ go I.phase
    where
      go : (ph : Phase) → moved_to (image (length index) (length I.done) (statements I.above) ph I.places) n ≡ image (length index) n (statements I.above) ph I.places
      go idle = refl
      go (busy m p) = refl

  -- the same statement, further on
  further : (x y : Bytes) (n : ℕ) → drop s.at (text ++ newline) ≡ x ++ y → n ≡ s.at + length x → run r (going_at s.at gap I.phase I.places I.above) x ≡ going_at n gap I.phase I.places I.above → Inv text table reals index room (moved_to s n)
  further x y n e h t =
      let l : n ≡ length (I.done ++ x) = omega (arith, place, length-append I.done x) in
      record {
        done = I.done ++ x;
        rest = y;
        phase = I.phase;
        places = I.places;
        above = I.above;
        whole = I.whole ∙ ap {B = Bytes} (λ (z : Bytes). I.done ++ z) (ahead ∙ e) ∙ sym (append_assoc I.done x y);
        reach = on x ∙ t ∙ ap (λ (n : ℕ). going_at n gap I.phase I.places I.above) l;
        is = moved_image n ∙ ap (λ (n : ℕ). image (length index) n (statements I.above) I.phase I.places) l;
        stored = I.stored;
        held = I.held;
        doubles = I.doubles;
        settings = I.settings;
        short = I.short;
      }

  -- over blanks
  pub over_blanks : s.at ≤ length text → Inv text table reals index room (moved_to s (past is_blank text s.at))
  unfolding run
  over_blanks fits =
      let t : Bytes = drop s.at text in
      let n : ℕ = longest is_blank t in
      let m : length (take n t) ≡ n = length-take-le n t (run_length is_blank t) in
      further (take n t) (drop n t ++ newline) (past is_blank text s.at)
      (drop-append-le s.at text newline fits ∙ ap {B = Bytes} (λ (x : Bytes). x ++ newline) (sym (take-append-drop n t)) ∙ append_assoc (take n t) (drop n t) newline)
      (past_run is_blank text s.at fits ∙ ap (λ (n : ℕ). s.at + n) (sym m))
      (ap (run r (going_at s.at gap I.phase I.places I.above)) (sym (append-nil (take n t))) ∙ run_blanks r I.phase I.above s.at I.places (take n t) [] (run_all is_blank t) ∙ ap (λ (n : ℕ). going_at n gap I.phase I.places I.above) (ap (λ (n : ℕ). s.at + n) m ∙ sym (past_run is_blank text s.at fits)))

  -- the text's end
  pub ends_here : length text ≤ s.at → result text room ≡ end_in I.phase (length text) I.above
  unfolding run is_blank
  ends_here h = ap (finish (length text)) (ap (run r initial) I.whole ∙ on I.rest ∙ ap (run r (going_at s.at gap I.phase I.places I.above)) (ahead ∙ ap (λ (n : ℕ). drop n (text ++ newline)) n ∙ drop-append-add text newline j)) ∙ go j (omega (arith, within_text))
    where
      j : ℕ
      j = s.at - length text

      n : s.at ≡ length text + j
      n = omega arith

      go : (j : ℕ) → j ≤ 1 → finish (length text) (run r (going_at s.at gap I.phase I.places I.above) (drop j newline)) ≡ end_in I.phase (length text) I.above
      go zero h = refl
      go (suc zero) h = refl
      go (suc (suc j)) h = absurd (omega arith)

-- ---- what a byte opens

part_opens : (p : Part) (b : ℕ) → opening_of (phase_of p) b ≡ opening.Word
part_opens p b = rw (part_busy p)

module _ (size n : ℕ) (d : List Statement) (k : Places) (b : ℕ) where
  pub opens_word : (ph : Phase) → opening_of (image size n d ph k).phase b ≡ opening.Word → begins ph b ≡ first b
  unfolding is_idle
  opens_word (busy m p) e = refl
  opens_word idle e = go (eqb b (byte "#")) (eqb b (byte "!")) e
    where
      go : (x y : Bool) → cond x opening.Comment (cond y opening.Command opening.Word) ≡ opening.Word → cond x (keep comment) (cond y command (first b)) ≡ first b
      go true y e = let z : ◌≡◌ {A = ℕ} 0 1 = cc in absurd (omega arith)
      go false true e = let z : ◌≡◌ {A = ℕ} 0 1 = cc in absurd (omega arith)
      go false false e = refl

  opens_comment : (ph : Phase) → opening_of (image size n d ph k).phase b ≡ opening.Comment → (ph ≡ idle) × (eqb b (byte "#") ≡ true)
  unfolding is_idle
  opens_comment (busy m p) e = let q : opening.Word ≡ opening.Comment = sym (part_opens p b) ∙ e in let z : ◌≡◌ {A = ℕ} 0 1 = cc in absurd (omega arith)
  opens_comment idle e = (refl, go (eqb b (byte "#")) (eqb b (byte "!")) e)
    where
      go : (x y : Bool) → cond x opening.Comment (cond y opening.Command opening.Word) ≡ opening.Comment → x ≡ true
      go true y e = refl
      go false true e = let z : ◌≡◌ {A = ℕ} 0 1 = cc in absurd (omega arith)
      go false false e = let z : ◌≡◌ {A = ℕ} 0 1 = cc in absurd (omega arith)

  opens_command : (ph : Phase) → opening_of (image size n d ph k).phase b ≡ opening.Command → (ph ≡ idle) × (begins idle b ≡ command)
  unfolding is_idle
  opens_command (busy m p) e = let q : opening.Word ≡ opening.Command = sym (part_opens p b) ∙ e in let z : ◌≡◌ {A = ℕ} 0 1 = cc in absurd (omega arith)
  opens_command idle e = (refl, go (eqb b (byte "#")) (eqb b (byte "!")) e)
    where
      go : (x y : Bool) → cond x opening.Comment (cond y opening.Command opening.Word) ≡ opening.Command → cond x (keep comment) (cond y command (first b)) ≡ command
      go true y e = let z : ◌≡◌ {A = ℕ} 0 1 = cc in absurd (omega arith)
      go false true e = refl
      go false false e = let z : ◌≡◌ {A = ℕ} 0 1 = cc in absurd (omega arith)

-- ---- at a byte that is no blank

module _ (text : Bytes) (table : List ℕ) (reals : List Float) (index : List ℕ) (room : Settings) (s : State) (I : Inv text table reals index room s) (fits : s.at < length text) (other : is_blank (get_or text s.at 0) ≡ false) where
  c : ℕ
  c = get_or text s.at 0

  t : Bytes
  t = drop (suc s.at) text

  cut : drop s.at text ≡ c ∷ t
  unfolding c t
  cut = drop-cons text s.at 0 fits

  bytes_ahead : drop s.at (text ++ newline) ≡ c ∷ (t ++ newline)
  bytes_ahead = drop-append-le s.at text newline (omega arith) ∙ ap {B = Bytes} (λ (x : Bytes). x ++ newline) cut

  pub over_comment : opening_of s.phase (get_or text s.at 0) ≡ opening.Comment → Inv text table reals index room (moved_to s (past is_in_line text s.at + 1))
  unfolding run is_in_line c t
  over_comment op =
      further text table reals index room s I (c ∷ (take n t ++ 10 ∷ [])) beh.rest (past is_in_line text s.at + 1)
      (bytes_ahead ∙ ap {B = Bytes} (λ (x : Bytes). c ∷ x) (ap {B = Bytes} (λ (x : Bytes). x ++ newline) (sym (take-append-drop n t)) ∙ append_assoc (take n t) (drop n t) newline ∙ ap {B = Bytes} (λ (x : Bytes). take n t ++ x) (beh.split ∙ ap {B = Bytes} (λ (b : ℕ). b ∷ beh.rest) ten) ∙ sym (append_assoc (take n t) (10 ∷ []) beh.rest)))
      (omega (arith, size, length-append (take n t) (10 ∷ []), shorter))
      (subst (λ (ph : Phase). run room (going_at s.at gap ph I.places I.above) (c ∷ (take n t ++ 10 ∷ [])) ≡ going_at (past is_in_line text s.at + 1) gap ph I.places I.above) (sym o.0)
      ((λ i. run room (advance room (record { at = s.at; scan = gap; phase = idle; places = I.places; above = I.above }) (cond (other i) (keep gap) (cond (o.1 i) (keep comment) (cond (eqb c (byte "!")) command (first c))))) (take n t ++ 10 ∷ [])) ∙
      run_comment room idle I.above (suc s.at) I.places (take n t) [] (run_all is_in_line t) ∙ ap (λ (n : ℕ). going_at n gap idle I.places I.above) num))
    where
      n : ℕ
      n = longest is_in_line t

      shorter : length (take n t) ≡ n
      shorter = length-take-le n t (run_length is_in_line t)

      beh : Behind is_in_line 10 (drop n t)
      beh = behind_run is_in_line 10 t refl

      ten : beh.first ≡ 10
      ten = eqb-true beh.first 10 (not-false (eqb beh.first 10) beh.fails)

      o : (I.phase ≡ idle) × (eqb c (byte "#") ≡ true)
      o = opens_comment (length index) (length I.done) (statements I.above) I.places c I.phase (ap (λ (z : State). opening_of z.phase c) (sym I.is) ∙ op)

      size : past is_in_line text s.at ≡ s.at + suc n
      size = past_run is_in_line text s.at (omega arith) ∙ ap (λ (n : ℕ). s.at + n) (ap (longest is_in_line) cut ∙ run_more is_in_line c t (ap (λ (x : ℕ). is_in_line x) (eqb-true c (byte "#") o.1)))

      num : suc s.at + suc (length (take n t)) ≡ past is_in_line text s.at + 1
      num = omega (arith, size, shorter)

  pub at_command : opening_of s.phase (get_or text s.at 0) ≡ opening.Command → result text room ≡ refused 4 s.at
  unfolding run c t
  at_command op =
      ap (finish (length text)) (ap (run room initial) I.whole ∙ on text table reals index room s I I.rest ∙ ap (run room (going_at s.at gap I.phase I.places I.above)) (ahead text table reals index room s I ∙ bytes_ahead) ∙
      ap (λ (ph : Phase). run room (going_at s.at gap ph I.places I.above) (c ∷ (t ++ newline))) o.0 ∙
      (λ i. run room (advance room (record { at = s.at; scan = gap; phase = idle; places = I.places; above = I.above }) (cond (other i) (keep gap) (o.1 i))) (t ++ newline)) ∙
      run_stopped room 4 s.at (t ++ newline))
    where
      o : (I.phase ≡ idle) × (begins idle c ≡ command)
      o = opens_command (length index) (length I.done) (statements I.above) I.places c I.phase (ap (λ (z : State). opening_of z.phase c) (sym I.is) ∙ op)
