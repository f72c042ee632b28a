-- Where the statements of an accepted text stand: each begins at the first word behind the one before it, and ends behind its last word.
use mathlib.Core.Bool.{Bool, true, false, cond}
use mathlib.Core.List.{List, [], ◌∷◌, ◌++◌, append-nil}
use mathlib.Core.Logic.{inr}
use mathlib.Core.Option.{Option, none, some}
use mathlib.Core.Path.{◌≡◌, refl, ap, sym, ◌∙◌, subst, subst₂}
use Prim.Native.Nat.{ℕ, zero, suc, ◌+◌, ◌-◌, ◌≤◌, ◌<◌}
use native.Mathlib.Numerals.{add-one}
use native.Mathlib.Omega.{arith}
use lib.Dec.{eqb}
use lib.ListN.{length, drop, get_or, length-append}
use lib.Seq.{drop-append_seam, get_or-append_seam}
use Rattle.laws.proofs.BoolLaws.{cond_elim}
use Rattle.laws.proofs.RunLaws.{past_run, past_step, past_stop}
use Rattle.laws.specs.Bytes.{Bytes, bytes, same}
use Rattle.laws.specs.Runs.{run as over, past}
use Rattle.lexer.specs.Class.{is_blank, is_other}
use Rattle.lexer.specs.Word.{behind_words, word_at, word_end, word_fault}
use Rattle.numeral.specs.Count.{count_of}
use Rattle.numeral.specs.Numeral.{Answer, value, refusal, numeral_of}
use Rattle.rearrangement.specs.Layout.{first_word, lead}
use Rattle.scene.proofs.AcceptLaws.{read_inv}
use Rattle.scene.proofs.EdgeLaws.{LineStart, edge, part_noted}
use Rattle.scene.proofs.KeptLaws.{more, more_length, snoc}
use Rattle.scene.specs.Block.{CutsNone}
use Rattle.scene.specs.HouseRules.{breach}
use Rattle.scene.specs.Phase.{Part, at_type, at_name, at_string_count, at_string, at_integer_count, at_real_count, at_real, at_alias_name, at_target, Phase, idle, busy, Turn, fault, onto, ends, typed, strings, string_count, integer_count, reals, real_count, real, turn, Outcome, refuse, into, done, outcome, taken, word, unless_fault}
use Rattle.scene.specs.Reading.{Scan, gap, comment, within, keep, first, command, ended, begins, move, test, Places, note_part, note, Entry, Going, State, stopped, going, statements, settle, advance, feed, run, initial, newline, accepted, read_statements}
use Rattle.scene.specs.Statement.{Literal, literal, numbers, Body, primitive, alias, void}
use Rattle.scene.specs.Types.{type_number, strings_allowed, reals_allowed, is_retired}
use Rattle.scene.specs.declared.Mode.{Mode}
use Rattle.scene.specs.declared.Settings.{Settings}

-- how many words a statement has from its name on
abbrev pub tail_words : Body → ℕ
tail_words (primitive t ss rs) = 4 + length ss + length rs
tail_words (alias x) = 2

-- the place behind the latest of some statements
abbrev pub end_of : List Entry → ℕ
end_of [] = 0
end_of (e ∷ es) = e.end

pub record Stands (text : Bytes) (e : Entry) (above : List Entry) : Type 0 where
  pub starts : first_word text (end_of above) ≡ e.places.start
  pub ends : behind_words text e.places.name (tail_words e.statement.body) ≡ e.end
  pub behind : end_of above ≤ e.places.start
  pub long : e.places.start < e.end
  pub inside : e.end < length text
  pub word : is_blank (get_or text (e.end - 1) 0) ≡ false

abbrev pub Laid : Bytes → List Entry → Type 0
Laid text [] = Unit {0}
Laid text (e ∷ es) = Stands text e es × Laid text es

-- ---- a word more

behind_last : (text : Bytes) (k n : ℕ) → behind_words text k (suc n) ≡ word_end text (behind_words text k n)
unfolding behind_words
behind_last text k zero = refl
behind_last text k (suc n) = behind_last text (word_end text k) n

-- how many words of a statement have begun from its name on, when the reading is within a part
abbrev begun : Part → ℕ
begun at_type = 0
begun (at_name t) = 1
begun (at_string_count t n) = 2
begun (at_string t n ss j) = 3 + length ss
begun (at_integer_count t n ss) = 3 + length ss
begun (at_real_count t n ss) = 4 + length ss
begun (at_real t n ss rs j) = 5 + length ss + length rs
begun at_alias_name = 1
begun (at_target n) = 2

-- n words have ended: the next begins, or they are the statement's
abbrev Counts : ℕ → Turn → Type 0
Counts n (fault r) = Unit {0}
Counts n (onto p) = begun p ≡ suc n
Counts n (ends m x) = tail_words x ≡ n

typed_counts : (m : Mode) (t : ℕ) → Counts 0 (typed m t)
typed_counts m zero = tt
typed_counts m (suc t) = cond_elim (Counts 0) (is_retired m (suc t)) tt refl

strings_count : (t : ℕ) (n : Bytes) (j : ℕ) → Counts 2 (strings t n j)
strings_count t n zero = refl
strings_count t n (suc j) = refl

string_count_counts : (t : ℕ) (n : Bytes) (j : Option ℕ) → Counts 2 (string_count t n j)
string_count_counts t n none = tt
string_count_counts t n (some j) = cond_elim (Counts 2) (strings_allowed t j) (strings_count t n j) tt

integer_count_counts : (t : ℕ) (n : Bytes) (ss : List Bytes) (j : Option ℕ) → Counts (3 + length ss) (integer_count t n ss j)
integer_count_counts t n ss none = tt
integer_count_counts t n ss (some zero) = omega arith
integer_count_counts t n ss (some (suc j)) = tt

reals_count : (t : ℕ) (n : Bytes) (ss : List Bytes) (rs : List Literal) (j m : ℕ) → 4 + length ss + length rs ≡ m → Counts m (reals t n ss rs j)
reals_count t n ss rs zero m e = e
reals_count t n ss rs (suc j) m e = omega arith

real_count_counts : (t : ℕ) (n : Bytes) (ss : List Bytes) (j : Option ℕ) → Counts (4 + length ss) (real_count t n ss j)
real_count_counts t n ss none = tt
real_count_counts t n ss (some j) = cond_elim (Counts (4 + length ss)) (reals_allowed t j) (reals_count t n ss [] j (4 + length ss) (omega arith)) tt

real_counts : (t : ℕ) (n : Bytes) (ss : List Bytes) (rs : List Literal) (j : ℕ) (w : Bytes) (a : Answer) → Counts (5 + length ss + length rs) (real t n ss rs j w a)
real_counts t n ss rs j w (refusal q) = tt
real_counts t n ss rs j w (value v) = cond_elim (Counts (5 + length ss + length rs)) (breach t (numbers (rs ++ literal w v ∷ []))) tt (reals_count t n ss (rs ++ literal w v ∷ []) j (5 + length ss + length rs) (omega (arith, length-append rs (literal w v ∷ []))))

turn_counts : (r : Settings) (p : Part) (w : Bytes) → Counts (begun p) (turn r p w)
turn_counts r at_type w = cond_elim (Counts 0) (same w (bytes "alias")) refl (typed_counts r.mode (type_number w))
turn_counts r (at_name t) w = cond_elim (Counts 1) (same w void) tt refl
turn_counts r (at_string_count t n) w = string_count_counts t n (count_of w)
turn_counts r (at_string t n ss zero) w = omega (arith, length-append ss (w ∷ []))
turn_counts r (at_string t n ss (suc j)) w = omega (arith, length-append ss (w ∷ []))
turn_counts r (at_integer_count t n ss) w = integer_count_counts t n ss (count_of w)
turn_counts r (at_real_count t n ss) w = real_count_counts t n ss (count_of w)
turn_counts r (at_real t n ss rs j) w = real_counts t n ss rs j w (numeral_of w)
turn_counts r at_alias_name w = cond_elim (Counts 1) (same w void) tt refl
turn_counts r (at_target n) w = refl

tail_some : (x : Body) → 0 < tail_words x
tail_some (primitive t ss rs) = omega arith
tail_some (alias x) = omega arith

-- ---- what holds when c has been read, whatever follows it

-- es end before this place, and from their end on blanks and comments stand up to it, the last one open or not
record Ahead (c : Bytes) (es : List Entry) (in_comment : Bool) : Type 0 where
  starts : (t : Bytes) → first_word (c ++ t) (end_of es) ≡ length c + lead in_comment t
  behind : end_of es ≤ length c

-- a statement has begun at s
record Begun (c : Bytes) (es : List Entry) (s : ℕ) : Type 0 where
  starts : (t : Bytes) → first_word (c ++ t) (end_of es) ≡ s
  behind : end_of es ≤ s
  long : s < length c

-- the last byte is of a word
abbrev InWord : Bytes → Type 0
InWord c = (t : Bytes) → is_blank (get_or (c ++ t) (length c - 1) 0) ≡ false

-- from k on the nth word comes next, or is being read
abbrev Next : Bytes → (k n : ℕ) → Type 0
Next c k n = 1 < n → (t : Bytes) → behind_words (c ++ t) k n ≡ word_end (c ++ t) (length c)

abbrev Within : Bytes → (k n : ℕ) → Type 0
Within c k n = 0 < n → (t : Bytes) → behind_words (c ++ t) k n ≡ past is_other (c ++ t) (length c)

record Stood (c : Bytes) (e : Entry) (above : List Entry) : Type 0 where
  starts : (t : Bytes) → first_word (c ++ t) (end_of above) ≡ e.places.start
  ends : (t : Bytes) → behind_words (c ++ t) e.places.name (tail_words e.statement.body) ≡ e.end
  behind : end_of above ≤ e.places.start
  long : e.places.start < e.end
  inside : e.end < length c
  word : (t : Bytes) → is_blank (get_or (c ++ t) (e.end - 1) 0) ≡ false

abbrev AllStood : Bytes → List Entry → Type 0
AllStood c [] = Unit {0}
AllStood c (e ∷ es) = Stood c e es × AllStood c es

abbrev PhaseHolds : Bytes → List Entry → Places → Phase → Scan → Type 0
PhaseHolds c es k idle gap = Ahead c es false
PhaseHolds c es k idle comment = Ahead c es true
PhaseHolds c es k idle (within w) = Begun c es k.start
PhaseHolds c es k (busy q p) gap = Begun c es k.start × Next c k.name (begun p)
PhaseHolds c es k (busy q p) comment = ⊥
PhaseHolds c es k (busy q p) (within w) = Begun c es k.start × InWord c × Within c k.name (begun p)

record Holds (c : Bytes) (g : Going) : Type 0 where
  at : length c ≡ g.at
  above : AllStood c g.above
  phase : PhaseHolds c g.above g.places g.phase g.scan

abbrev HoldsS : Bytes → State → Type 0
HoldsS c (stopped n p) = Unit {0}
HoldsS c (going g) = Holds c g

-- ---- now b is read

module _ (c : Bytes) (b : ℕ) where
  module _ (t : Bytes) where
    -- what is said of the text, and of the place behind b
    then : (P : Bytes → ℕ → Type 0) → P (c ++ b ∷ t) (suc (length c)) → P (more c b ++ t) (length (more c b))
    then P h = subst₂ P (sym (snoc c b t)) (sym (more_length c b)) h

    here : length c < length (c ++ b ∷ t)
    here = omega (arith, length-append c (b ∷ t))

    byte_here : get_or (c ++ b ∷ t) (length c) 0 ≡ b
    byte_here = get_or-append_seam c b t 0

    -- a word, and what stands before it
    over_other : is_blank b ≡ false → past is_other (c ++ b ∷ t) (length c) ≡ past is_other (c ++ b ∷ t) (suc (length c))
    unfolding is_other
    over_other e = sym (past_step is_other (c ++ b ∷ t) (length c) 0 here (rw (byte_here, e))) ∙ ap (past is_other (c ++ b ∷ t)) (add-one (length c))

    at_blank : is_blank b ≡ true → past is_other (c ++ b ∷ t) (length c) ≡ length c
    unfolding is_other
    at_blank e = past_stop is_other (c ++ b ∷ t) (length c) 0 here (rw (byte_here, e))

    end_blank : is_blank b ≡ true → word_end (c ++ b ∷ t) (length c) ≡ word_end (c ++ b ∷ t) (suc (length c))
    unfolding word_at
    end_blank e =
        let q : past is_blank (c ++ b ∷ t) (length c) ≡ past is_blank (c ++ b ∷ t) (suc (length c)) = sym (past_step is_blank (c ++ b ∷ t) (length c) 0 here (rw (byte_here, e))) ∙ ap (past is_blank (c ++ b ∷ t)) (add-one (length c)) in
        ap (λ n. n + over is_other (drop n (c ++ b ∷ t))) q

    end_other : is_blank b ≡ false → word_end (c ++ b ∷ t) (length c) ≡ past is_other (c ++ b ∷ t) (suc (length c))
    unfolding word_at
    end_other e =
        let q : past is_blank (c ++ b ∷ t) (length c) ≡ length c = past_stop is_blank (c ++ b ∷ t) (length c) 0 here (rw (byte_here, e)) in
        ap (λ n. n + over is_other (drop n (c ++ b ∷ t))) q ∙ sym (past_run is_other (c ++ b ∷ t) (length c) (let h = here in omega arith)) ∙ over_other e

    -- blanks and comments
    lead_blank : is_blank b ≡ true → lead false (b ∷ t) ≡ suc (lead false t)
    unfolding lead
    lead_blank e = rw e

    lead_opens : is_blank b ≡ false → eqb b 35 ≡ true → lead false (b ∷ t) ≡ suc (lead true t)
    unfolding lead
    lead_opens e f = rw (e, f)

    lead_none : is_blank b ≡ false → eqb b 35 ≡ false → lead false (b ∷ t) ≡ 0
    unfolding lead
    lead_none e f = rw (e, f)

    lead_closes : eqb b 10 ≡ true → lead true (b ∷ t) ≡ suc (lead false t)
    unfolding lead
    lead_closes e = rw e

    lead_inside : eqb b 10 ≡ false → lead true (b ∷ t) ≡ suc (lead true t)
    unfolding lead
    lead_inside e = rw e

  -- between statements
  ahead_on : (es : List Entry) (q q' : Bool) → ((t : Bytes) → lead q (b ∷ t) ≡ suc (lead q' t)) → Ahead c es q → Ahead (more c b) es q'
  ahead_on es q q' f h = record {
    starts = λ t. then t (λ x n. first_word x (end_of es) ≡ n + lead q' t) (h.starts (b ∷ t) ∙ omega (arith, f t));
    behind = omega (arith, more_length c b, h.behind);
  }

  -- a statement begins, and goes on
  begun_first : (es : List Entry) → ((t : Bytes) → lead false (b ∷ t) ≡ 0) → Ahead c es false → Begun (more c b) es (length c)
  begun_first es f h = record {
    starts = λ t. then t (λ x n. first_word x (end_of es) ≡ length c) (h.starts (b ∷ t) ∙ omega (arith, f t));
    behind = h.behind;
    long = omega (arith, more_length c b);
  }

  begun_on : (es : List Entry) (s : ℕ) → Begun c es s → Begun (more c b) es s
  begun_on es s h = record {
    starts = λ t. then t (λ x n. first_word x (end_of es) ≡ s) (h.starts (b ∷ t));
    behind = h.behind;
    long = omega (arith, more_length c b, h.long);
  }

  in_word : is_blank b ≡ false → InWord (more c b)
  in_word e t = then t (λ x n. is_blank (get_or x (n - 1) 0) ≡ false) (let q : suc (length c) - 1 ≡ length c = omega arith in ap (λ n. is_blank (get_or (c ++ b ∷ t) n 0)) q ∙ ap is_blank (byte_here t) ∙ e)

  -- its words
  next_on : (k n : ℕ) → is_blank b ≡ true → Next c k n → Next (more c b) k n
  next_on k n e h z t = then t (λ x m. behind_words x k n ≡ word_end x m) (h z (b ∷ t) ∙ end_blank t e)

  next_first : (k n : ℕ) → is_blank b ≡ false → 1 < n → Next c k n → Within (more c b) k n
  next_first k n e l h z t = then t (λ x m. behind_words x k n ≡ past is_other x m) (h l (b ∷ t) ∙ end_other t e)

  name_first : is_blank b ≡ false → Within (more c b) (length c) 1
  unfolding behind_words
  name_first e z t = then t (λ x m. behind_words x (length c) 1 ≡ past is_other x m) (end_other t e)

  within_on : (k n : ℕ) → is_blank b ≡ false → Within c k n → Within (more c b) k n
  within_on k n e h z t = then t (λ x m. behind_words x k n ≡ past is_other x m) (h z (b ∷ t) ∙ over_other t e)

  within_ends : (k n : ℕ) → is_blank b ≡ true → 0 < n → Within c k n → (t : Bytes) → behind_words (more c b ++ t) k n ≡ length c
  within_ends k n e z h t = then t (λ x m. behind_words x k n ≡ length c) (h z (b ∷ t) ∙ at_blank t e)

  within_next : (k n m : ℕ) → is_blank b ≡ true → m ≡ suc n → Within c k n → Next (more c b) k m
  within_next k n m e q h z t = then t (λ x i. behind_words x k m ≡ word_end x i) (ap (behind_words (c ++ b ∷ t) k) q ∙ behind_last (c ++ b ∷ t) k n ∙ ap (word_end (c ++ b ∷ t)) (h (omega arith) (b ∷ t) ∙ at_blank t e) ∙ end_blank t e)

  part_first : (k : Places) (p : Part) → is_blank b ≡ false → Next c k.name (begun p) → Within (more c b) (note_part p (length c) k).name (begun p)
  part_first k at_type e h = λ z. absurd (omega arith)
  part_first k (at_name t) e h = name_first e
  part_first k (at_string_count t n) e h = next_first k.name 2 e (omega arith) h
  part_first k (at_string t n [] j) e h = next_first k.name 3 e (omega arith) h
  part_first k (at_string t n (s ∷ ss) j) e h = next_first k.name (3 + length (s ∷ ss)) e (omega arith) h
  part_first k (at_integer_count t n ss) e h = next_first k.name (3 + length ss) e (omega arith) h
  part_first k (at_real_count t n ss) e h = next_first k.name (4 + length ss) e (omega arith) h
  part_first k (at_real t n ss rs j) e h = next_first k.name (5 + length ss + length rs) e (omega arith) h
  part_first k at_alias_name e h = name_first e
  part_first k (at_target n) e h = next_first k.name 2 e (omega arith) h

  -- finished statements
  stood_on : (e : Entry) (es : List Entry) → Stood c e es → Stood (more c b) e es
  stood_on e es h = record {
    starts = λ t. then t (λ x n. first_word x (end_of es) ≡ e.places.start) (h.starts (b ∷ t));
    ends = λ t. then t (λ x n. behind_words x e.places.name (tail_words e.statement.body) ≡ e.end) (h.ends (b ∷ t));
    behind = h.behind;
    long = h.long;
    inside = omega (arith, more_length c b, h.inside);
    word = λ t. then t (λ x n. is_blank (get_or x (e.end - 1) 0) ≡ false) (h.word (b ∷ t));
  }

  all_on : (es : List Entry) → AllStood c es → AllStood (more c b) es
  all_on [] h = tt
  all_on (e ∷ es) h = (stood_on e es h.0, all_on es h.1)

  -- a statement has ended: blanks and comments follow it
  ahead_done : (e : Entry) (es : List Entry) → is_blank b ≡ true → e.end ≡ length c → Ahead (more c b) (e ∷ es) false
  unfolding first_word
  ahead_done e es f q = record {
    starts = λ t. then t (λ x n. first_word x e.end ≡ n + lead false t) (ap (first_word (c ++ b ∷ t)) q ∙ omega (arith, here t, ap (lead false) (drop-append_seam c (b ∷ t)), lead_blank t f));
    behind = omega (arith, more_length c b);
  }

  -- what a word comes to
  module _ (es : List Entry) (k : Places) (f : is_blank b ≡ true) where
    abbrev OutcomeHolds : Outcome → Type 0
    OutcomeHolds (refuse n) = Unit {0}
    OutcomeHolds (into ph) = PhaseHolds (more c b) es k ph gap
    OutcomeHolds (done s) = Stood (more c b) (record { statement = s; places = k; end = length c }) es

    outcome_holds : (m : Bytes) (n : ℕ) (t : Turn) → Counts n t → Begun c es k.start → InWord c → Within c k.name n → OutcomeHolds (outcome m t)
    outcome_holds m n (fault r) q s i w = tt
    outcome_holds m n (onto p) q s i w = (begun_on es k.start s, within_next k.name n (begun p) f q w)
    outcome_holds m n (ends a x) q s i w = record {
      starts = λ t. then t (λ x n. first_word x (end_of es) ≡ k.start) (s.starts (b ∷ t));
      ends = λ t. ap (behind_words (more c b ++ t) k.name) q ∙ within_ends k.name n f (omega (arith, tail_some x)) w t;
      behind = s.behind;
      long = s.long;
      inside = omega (arith, more_length c b);
      word = λ t. then t (λ x n. is_blank (get_or x (length c - 1) 0) ≡ false) (i (b ∷ t));
    }

    taken_holds : (r : Settings) (w : Bytes) (ph : Phase) → PhaseHolds c es k ph (within w) → OutcomeHolds (taken r ph w)
    taken_holds r w idle h = (begun_on es k.start h, λ z. absurd (omega arith))
    taken_holds r w (busy m p) h = outcome_holds m (begun p) (turn r p w) (turn_counts r p w) h.0 h.1 h.2

    word_holds : (r : Settings) (w : Bytes) (ph : Phase) → PhaseHolds c es k ph (within w) → OutcomeHolds (word r ph w)
    word_holds r w ph h = go (word_fault w)
      where
        go : (n : ℕ) → OutcomeHolds (unless_fault n (taken r ph w))
        go (suc n) = tt
        go zero = taken_holds r w ph h

  -- a byte
  module _ (r : Settings) (k : Places) (es : List Entry) (al : AllStood c es) where
    abbrev now : Scan → Phase → Going
    now m ph = record { at = length c; scan = m; phase = ph; places = k; above = es }

    -- the next place, with the same statements above
    on : (m : Scan) (ph : Phase) (k' : Places) → PhaseHolds (more c b) es k' ph m → Holds (more c b) (record { at = suc (length c); scan = m; phase = ph; places = k'; above = es })
    on m ph k' h = record { at = more_length c b; above = all_on es al; phase = h }

    settle_holds : (f : is_blank b ≡ true) (w : Bytes) (ph : Phase) (a : Outcome) (t : ℕ) → OutcomeHolds es k f a → HoldsS (more c b) (settle (now (within w) ph) a t)
    settle_holds f w ph (refuse q) t h = tt
    settle_holds f w ph (into ph') zero h = on gap ph' k h
    settle_holds f w ph (into ph') (suc t) h = tt
    settle_holds f w ph (done s) zero h = record { at = more_length c b; above = (h, all_on es al); phase = ahead_done (record { statement = s; places = k; end = length c }) es f refl }
    settle_holds f w ph (done s) (suc t) h = tt

    begins_holds : (ph : Phase) → is_blank b ≡ false → PhaseHolds c es k ph gap → HoldsS (more c b) (advance r (now gap ph) (begins ph b))
    begins_holds idle e h = go (eqb b 35) (eqb b 33) refl
      where
        go : (x y : Bool) → eqb b 35 ≡ x → HoldsS (more c b) (advance r (now gap idle) (cond x (keep comment) (cond y command (first b))))
        go true y q = on comment idle k (ahead_on es false true (λ t. lead_opens t e q) h)
        go false true q = tt
        go false false q = on (within (b ∷ [])) idle (note idle (length c) k) (begun_first es (λ t. lead_none t e q) h)
    begins_holds (busy m p) e h = on (within (b ∷ [])) (busy m p) (note_part p (length c) k) (subst (Begun (more c b) es) (sym (part_noted p (length c) k).1) (begun_on es k.start h.0), in_word e, part_first k p e h.1)

    gap_holds : (ph : Phase) → PhaseHolds c es k ph gap → (q : Bool) → is_blank b ≡ q → HoldsS (more c b) (advance r (now gap ph) (cond q (keep gap) (begins ph b)))
    gap_holds idle h true e = on gap idle k (ahead_on es false false (λ t. lead_blank t e) h)
    gap_holds (busy m p) h true e = on gap (busy m p) k (begun_on es k.start h.0, next_on k.name (begun p) e h.1)
    gap_holds ph h false e = begins_holds ph e h

    within_holds : (w : Bytes) (ph : Phase) → PhaseHolds c es k ph (within w) → (q : Bool) → is_blank b ≡ q → HoldsS (more c b) (advance r (now (within w) ph) (cond q (ended w) (keep (within (w ++ b ∷ [])))))
    within_holds w ph h true e = settle_holds e w ph (word r ph w) (test r (statements es) ph w) (word_holds es k e r w ph h)
    within_holds w idle h false e = on (within (w ++ b ∷ [])) idle k (begun_on es k.start h)
    within_holds w (busy m p) h false e = on (within (w ++ b ∷ [])) (busy m p) k (begun_on es k.start h.0, in_word e, within_on k.name (begun p) e h.2)

    feed_holds : (m : Scan) (ph : Phase) → PhaseHolds c es k ph m → HoldsS (more c b) (advance r (now m ph) (move m ph b))
    feed_holds gap ph h = gap_holds ph h (is_blank b) refl
    feed_holds (within w) ph h = within_holds w ph h (is_blank b) refl
    feed_holds comment (busy m p) h = absurd h
    feed_holds comment idle h = go (eqb b 10) refl
      where
        go : (x : Bool) → eqb b 10 ≡ x → HoldsS (more c b) (advance r (now comment idle) (cond x (keep gap) (keep comment)))
        go true q = on gap idle k (ahead_on es true false (λ t. lead_closes t q) h)
        go false q = on comment idle k (ahead_on es true true (λ t. lead_inside t q) h)

-- ---- a text

run_holds : (r : Settings) (t c : Bytes) (X : State) → HoldsS c X → HoldsS (c ++ t) (run r X t)
unfolding run
run_holds r [] c X h = subst (λ (z : Bytes). HoldsS z X) (sym (append-nil c)) h
run_holds r (b ∷ t) c (stopped n p) h = subst (λ (z : Bytes). HoldsS z (run r (stopped n p) t)) (snoc c b t) (run_holds r t (more c b) (stopped n p) tt)
run_holds r (b ∷ t) c (going g) h =
    let now : HoldsS (more c b) (feed r (going g) b) = subst (λ n. HoldsS (more c b) (advance r (record { at = n; scan = g.scan; phase = g.phase; places = g.places; above = g.above }) (move g.scan g.phase b))) h.at (feed_holds c b r g.places g.above h.above g.scan g.phase h.phase) in
    subst (λ (z : Bytes). HoldsS z (run r (feed r (going g) b) t)) (snoc c b t) (run_holds r t (more c b) (feed r (going g) b) now)

-- what has been read holds
holds : (r : Settings) (t : Bytes) (g : Going) → run r initial t ≡ going g → AllStood t g.above
unfolding first_word
holds r t g e = (subst (HoldsS t) e (run_holds r t [] initial (record { at = refl; above = tt; phase = record { starts = λ t. omega arith; behind = omega arith } }))).above

-- no statement ends behind the text
end_cuts_none : (n : ℕ) (c : Bytes) (es : List Entry) → length c ≤ suc n → AllStood c es → CutsNone n es
end_cuts_none n c [] l h = tt
end_cuts_none n c (e ∷ es) l h = (inr (omega (arith, h.0.inside)), end_cuts_none n c es l h.1)

all_laid : (c : Bytes) (es : List Entry) → AllStood c es → Laid c es
all_laid c [] h = tt
all_laid c (e ∷ es) h =
    let q : c ++ [] ≡ c = append-nil c in (
      record {
        starts = subst (λ (x : Bytes). first_word x (end_of es) ≡ e.places.start) q (h.0.starts []);
        ends = subst (λ (x : Bytes). behind_words x e.places.name (tail_words e.statement.body) ≡ e.end) q (h.0.ends []);
        behind = h.0.behind;
        long = h.0.long;
        inside = h.0.inside;
        word = subst (λ (x : Bytes). is_blank (get_or x (e.end - 1) 0) ≡ false) q (h.0.word []);
      },
      all_laid c es h.1,
    )

-- a line's end that is read in a gap leaves the statements
line_above : (r : Settings) (k g : Going) → gap ≡ k.scan → run r (going k) newline ≡ going g → k.above ≡ g.above
unfolding run is_blank
line_above r k g m e =
    let q : advance r k (move gap k.phase 10) ≡ going g = subst (λ (x : Scan). advance r k (move x k.phase 10) ≡ going g) (sym m) e in
    cc

pub laid : (r : Settings) (text : Bytes) (es : List Entry) → read_statements r text ≡ accepted es → LineStart text → Laid text es
laid r text es e l =
    let i = (read_inv r text es e).1 in
    let g : Going = i.0 in
    let n : length (text ++ newline) ≤ suc (length text) = omega (arith, length-append text newline) in
    let k = edge r text newline g i.1 i.2 l (end_cuts_none (length text) (text ++ newline) g.above n (holds r (text ++ newline) g i.1)) in
    subst (Laid text) (line_above r k.state g k.scan k.on ∙ i.3) (all_laid text k.state.above (holds r text k.state k.here))
