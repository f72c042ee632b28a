-- Reading with no look at what stands above and at no place: the syntax alone. A text is accepted exactly when its syntax is and its statements are sound.
use mathlib.Core.Bool.{cond}
use mathlib.Core.List.{List, [], ◌∷◌, ◌++◌, append_assoc, append-nil}
use mathlib.Core.Logic.{◌↔◌}
use mathlib.Core.Option.{Option, none, some}
use mathlib.Core.Path.{◌≡◌, refl, ap, sym, ◌∙◌, subst, subst₂}
use Prim.Native.Nat.{ℕ, zero, suc, ◌+◌}
use native.Mathlib.Nat.{zero-add, add-zero}
use native.Mathlib.Omega.{arith}
use lib.Dec.{leb}
use lib.ListN.{length, length-append}
use Rattle.laws.proofs.BoolLaws.{cond_elim}
use Rattle.laws.specs.Bytes.{Bytes, same, bytes}
use Rattle.lexer.specs.Word.{word_fault}
use Rattle.numeral.specs.Count.{count_of}
use Rattle.numeral.specs.Numeral.{numeral_of, Answer, value, refusal}
use Rattle.scene.specs.HouseRules.{breach}
use Rattle.scene.specs.Links.{definition, reals_used}
use Rattle.scene.specs.Phase.{Part, at_type, at_name, at_string_count, at_string, at_integer_count, at_real_count, at_real, at_alias_name, at_target, Phase, idle, busy, Turn, fault, onto, ends, typed, strings, string_count, integer_count, reals, real_count, real, turn, Outcome, refuse, into, done, outcome, taken, word, unless_fault}
use Rattle.scene.specs.Reading.{Scan, gap, within, Move, keep, first, command, ended, move, target_test, room_test, part_test, test, Going, State, stopped, going, statements, settle, advance, run}
use Rattle.scene.specs.declared.Settings.{Settings}
use Rattle.scene.specs.Types.{type_number, strings_allowed, reals_allowed, is_retired}
use Rattle.scene.specs.Statement.{void, Literal, literal, numbers, Body, primitive, alias, Statement}

-- ---- the syntax as a machine of its own. The finished statements stand latest first.

pub data Step : Type 0 where
  halt : Step
  pass : Scan → Phase → List Statement → Step

abbrev pub after : Outcome → Step
after (refuse n) = halt
after (into ph) = pass gap ph []
after (done s) = pass gap idle (s ∷ [])

abbrev pub step : Settings → Phase → Move → Step
step r ph (keep m) = pass m ph []
step r ph (first b) = pass (within (b ∷ [])) ph []
step r ph command = halt
step r ph (ended w) = after (word r ph w)

abbrev pub on_top : List Statement → Step → Step
on_top l halt = halt
on_top l (pass m ph k) = pass m ph (k ++ l)

abbrev pub chain : Step → (Scan → Phase → Step) → Step
chain halt k = halt
chain (pass m ph l) k = on_top l (k m ph)

unfoldable pub parse : Settings → Scan → Phase → Bytes → Step
parse r m ph [] = pass m ph []
parse r m ph (b ∷ t) = chain (step r ph (move m ph b)) (λ m' ph'. parse r m' ph' t)

-- ---- two texts one after the other

pub on_top_nil : (s : Step) → on_top [] s ≡ s
on_top_nil halt = refl
on_top_nil (pass m ph l) = ap (pass m ph) (append-nil l)

on_top_chain : (l : List Statement) (s : Step) (k : Scan → Phase → Step) → chain (on_top l s) k ≡ on_top l (chain s k)
on_top_chain l halt k = refl
on_top_chain l (pass m ph x) k = go (k m ph)
  where
    go : (z : Step) → on_top (x ++ l) z ≡ on_top l (on_top x z)
    go halt = refl
    go (pass m ph y) = ap (pass m ph) (sym (append_assoc y x l))

pub parse_append : (r : Settings) (m : Scan) (ph : Phase) (a b : Bytes) → parse r m ph (a ++ b) ≡ chain (parse r m ph a) (λ m' ph'. parse r m' ph' b)
unfolding parse
parse_append r m ph [] b = sym (on_top_nil (parse r m ph b))
parse_append r m ph (x ∷ a) b = go (λ m' ph'. parse_append r m' ph' a b) (step r ph (move m ph x))
  where
    go : ((m' : Scan) (ph' : Phase) → parse r m' ph' (a ++ b) ≡ chain (parse r m' ph' a) (λ m'' ph''. parse r m'' ph'' b)) → (s : Step) → chain s (λ m' ph'. parse r m' ph' (a ++ b)) ≡ chain (chain s (λ m' ph'. parse r m' ph' a)) (λ m'' ph''. parse r m'' ph'' b)
    go ih halt = refl
    go ih (pass m' ph' l) = ap (on_top l) (ih m' ph') ∙ sym (on_top_chain l (parse r m' ph' a) (λ m'' ph''. parse r m'' ph'' b))

-- ---- the reading goes as the syntax does, as long as it goes

abbrev pub agree : List Statement → State → Step → Type 0
agree d (stopped n p) s = Unit {0}
agree d (going g) halt = ⊥
agree d (going g) (pass m ph l) = (g.scan ≡ m) × (g.phase ≡ ph) × (statements g.above ≡ l ++ d)

settle_agree : (g : Going) (a : Outcome) (t : ℕ) → agree (statements g.above) (settle g a t) (after a)
unfolding statements
settle_agree g (refuse n) t = tt
settle_agree g (into ph) zero = (refl, refl, refl)
settle_agree g (into ph) (suc t) = tt
settle_agree g (done s) zero = (refl, refl, refl)
settle_agree g (done s) (suc t) = tt

advance_agree : (r : Settings) (g : Going) (mv : Move) → agree (statements g.above) (advance r g mv) (step r g.phase mv)
advance_agree r g (keep m) = (refl, refl, refl)
advance_agree r g (first b) = (refl, refl, refl)
advance_agree r g command = tt
advance_agree r g (ended w) = settle_agree g (word r g.phase w) (test r (statements g.above) g.phase w)

refused_agree : (r : Settings) (n p : ℕ) (t : Bytes) (d : List Statement) (s : Step) → agree d (run r (stopped n p) t) s
unfolding run
refused_agree r n p [] d s = tt
refused_agree r n p (b ∷ t) d s = refused_agree r n p t d s

on_top_agree : (l d : List Statement) (X : State) (s : Step) → agree (l ++ d) X s → agree d X (on_top l s)
on_top_agree l d (stopped n p) s h = tt
on_top_agree l d (going g) halt h = h
on_top_agree l d (going g) (pass m ph k) h = (h.0, h.1, h.2 ∙ sym (append_assoc k l d))

pub run_agree : (r : Settings) (t : Bytes) (d : List Statement) (X : State) (s : Step) → agree d X s → agree d (run r X t) (chain s (λ m ph. parse r m ph t))
unfolding run parse
run_agree r [] d (stopped n p) s h = tt
run_agree r [] d (going g) halt h = h
run_agree r [] d (going g) (pass m ph l) h = h
run_agree r (b ∷ t) d (stopped n p) s h = refused_agree r n p t d (chain s (λ m ph. parse r m ph (b ∷ t)))
run_agree r (b ∷ t) d (going g) halt h = absurd h
run_agree r (b ∷ t) d (going g) (pass m ph l) h =
    on_top_agree l d (run r (advance r g (move g.scan g.phase b)) t) (parse r m ph (b ∷ t))
    (subst₂ (λ (m : Scan) (ph : Phase). agree (l ++ d) (run r (advance r g (move g.scan g.phase b)) t) (parse r m ph (b ∷ t))) h.0 h.1
    (run_agree r t (l ++ d) (advance r g (move g.scan g.phase b)) (step r g.phase (move g.scan g.phase b))
    (subst (λ (x : List Statement). agree x (advance r g (move g.scan g.phase b)) (step r g.phase (move g.scan g.phase b))) h.2 (advance_agree r g (move g.scan g.phase b)))))

-- ---- sound: what is said of a statement by those above it

abbrev pub room_for : ℕ → ℕ → ℕ
room_for n room = cond (leb n room) 0 13

abbrev pub body_test : Settings → List Statement → Body → ℕ
body_test r d (primitive t ss rs) = room_for (reals_used d + length rs) r.reals
body_test r d (alias x) = target_test (definition x d)

pub record Fine (r : Settings) (d : List Statement) (s : Statement) : Type 0 where
  pub modifier : test r d idle s.modifier ≡ 0
  pub body : body_test r d s.body ≡ 0

abbrev pub Sound : Settings → List Statement → Type 0
Sound r [] = Unit {0}
Sound r (s ∷ d) = Fine r d s × Sound r d

-- what holds at a part, at a phase, of a turn, of an outcome
abbrev pub AtPart : Settings → List Statement → Part → Type 0
AtPart r d at_type = Unit {0}
AtPart r d (at_name t) = Unit {0}
AtPart r d (at_string_count t n) = Unit {0}
AtPart r d (at_string t n ss k) = Unit {0}
AtPart r d (at_integer_count t n ss) = Unit {0}
AtPart r d (at_real_count t n ss) = Unit {0}
AtPart r d (at_real t n ss rs k) = room_for (reals_used d + (length rs + suc k)) r.reals ≡ 0
AtPart r d at_alias_name = Unit {0}
AtPart r d (at_target n) = Unit {0}

abbrev pub AtPhase : Settings → List Statement → Phase → Type 0
AtPhase r d idle = Sound r d
AtPhase r d (busy m p) = Sound r d × (test r d idle m ≡ 0) × AtPart r d p

-- F stands for a fault: Unit on the way forth, ⊥ on the way back
abbrev pub OfTurn : Type 0 → Settings → List Statement → Turn → Type 0
OfTurn F r d (fault n) = F
OfTurn F r d (onto p) = AtPart r d p
OfTurn F r d (ends n b) = body_test r d b ≡ 0

abbrev pub OfOutcome : Type 0 → Settings → List Statement → Outcome → Type 0
OfOutcome F r d (refuse n) = F
OfOutcome F r d (into ph) = AtPhase r d ph
OfOutcome F r d (done s) = Sound r (s ∷ d)

grown : (u n k : ℕ) (rs : List Literal) (v : Literal) → n ≡ suc k → u + (length (rs ++ v ∷ []) + k) ≡ u + (length rs + n)
grown u n k rs v e = simp length-append (omega arith)

module _ (r : Settings) (d : List Statement) where
  -- forth: a word that passes its test keeps what holds
  typed_forth : (n : ℕ) → OfTurn (Unit {0}) r d (typed r.mode n)
  typed_forth zero = tt
  typed_forth (suc n) = cond_elim (OfTurn (Unit {0}) r d) (is_retired r.mode (suc n)) tt tt

  strings_forth : (t : ℕ) (n : Bytes) (k : ℕ) → OfTurn (Unit {0}) r d (strings t n k)
  strings_forth t n zero = tt
  strings_forth t n (suc k) = tt

  string_count_forth : (t : ℕ) (n : Bytes) (c : Option ℕ) → OfTurn (Unit {0}) r d (string_count t n c)
  string_count_forth t n none = tt
  string_count_forth t n (some k) = cond_elim (OfTurn (Unit {0}) r d) (strings_allowed t k) (strings_forth t n k) tt

  integer_count_forth : (t : ℕ) (n : Bytes) (ss : List Bytes) (c : Option ℕ) → OfTurn (Unit {0}) r d (integer_count t n ss c)
  integer_count_forth t n ss none = tt
  integer_count_forth t n ss (some zero) = tt
  integer_count_forth t n ss (some (suc k)) = tt

  reals_iff : (t : ℕ) (n : Bytes) (ss : List Bytes) (rs : List Literal) (k : ℕ) → (room_for (reals_used d + (length rs + k)) r.reals ≡ 0) ↔ OfTurn ⊥ r d (reals t n ss rs k)
  reals_iff t n ss rs zero = (λ h. rw add-zero at h, λ h. rw add-zero h)
  reals_iff t n ss rs (suc k) = (λ h. h, λ h. h)

  loosen : (τ : Turn) → OfTurn ⊥ r d τ → OfTurn (Unit {0}) r d τ
  loosen (fault n) h = tt
  loosen (onto p) h = h
  loosen (ends n b) h = h

  real_count_forth : (t : ℕ) (n : Bytes) (ss : List Bytes) (c : Option ℕ) → room_test r.reals (reals_used d) c ≡ 0 → OfTurn (Unit {0}) r d (real_count t n ss c)
  real_count_forth t n ss none h = tt
  real_count_forth t n ss (some k) h = cond_elim (OfTurn (Unit {0}) r d) (reals_allowed t k) (loosen (reals t n ss [] k) ((reals_iff t n ss [] k).0 (rw zero-add h))) tt

  real_forth : (t : ℕ) (n : Bytes) (ss : List Bytes) (rs : List Literal) (k : ℕ) (w : Bytes) (x : Answer) → AtPart r d (at_real t n ss rs k) → OfTurn (Unit {0}) r d (real t n ss rs k w x)
  real_forth t n ss rs k w (refusal c) h = tt
  real_forth t n ss rs k w (value v) h = cond_elim (OfTurn (Unit {0}) r d) (breach t (numbers (rs ++ literal w v ∷ []))) tt (loosen (reals t n ss (rs ++ literal w v ∷ []) k) ((reals_iff t n ss (rs ++ literal w v ∷ []) k).0 (rw (grown (reals_used d) (suc k) k rs (literal w v) refl) h)))

  turn_forth : (p : Part) (w : Bytes) → part_test r d p w ≡ 0 → AtPart r d p → OfTurn (Unit {0}) r d (turn r p w)
  turn_forth at_type w h i = cond_elim (OfTurn (Unit {0}) r d) (same w (bytes "alias")) tt (typed_forth (type_number w))
  turn_forth (at_name t) w h i = cond_elim (OfTurn (Unit {0}) r d) (same w void) tt tt
  turn_forth (at_string_count t n) w h i = string_count_forth t n (count_of w)
  turn_forth (at_string t n ss zero) w h i = tt
  turn_forth (at_string t n ss (suc k)) w h i = tt
  turn_forth (at_integer_count t n ss) w h i = integer_count_forth t n ss (count_of w)
  turn_forth (at_real_count t n ss) w h i = real_count_forth t n ss (count_of w) h
  turn_forth (at_real t n ss rs k) w h i = real_forth t n ss rs k w (numeral_of w) i
  turn_forth at_alias_name w h i = cond_elim (OfTurn (Unit {0}) r d) (same w void) tt tt
  turn_forth (at_target n) w h i = h

  outcome_forth : (m : Bytes) (τ : Turn) → Sound r d → test r d idle m ≡ 0 → OfTurn (Unit {0}) r d τ → OfOutcome (Unit {0}) r d (outcome m τ)
  outcome_forth m (fault n) s h i = tt
  outcome_forth m (onto p) s h i = (s, h, i)
  outcome_forth m (ends n b) s h i = (record { modifier = h; body = i }, s)

  fault_elim : (P : Outcome → Type 0) (n : ℕ) (o : Outcome) → ((n : ℕ) → P (refuse n)) → P o → P (unless_fault n o)
  fault_elim P zero o h k = k
  fault_elim P (suc n) o h k = h (suc n)

  taken_forth : (ph : Phase) (w : Bytes) → test r d ph w ≡ 0 → AtPhase r d ph → OfOutcome (Unit {0}) r d (taken r ph w)
  taken_forth idle w h i = (i, h, tt)
  taken_forth (busy m p) w h i = outcome_forth m (turn r p w) i.0 i.1 (turn_forth p w h i.2)

  pub word_forth : (ph : Phase) (w : Bytes) → test r d ph w ≡ 0 → AtPhase r d ph → OfOutcome (Unit {0}) r d (word r ph w)
  word_forth ph w h i = fault_elim (OfOutcome (Unit {0}) r d) (word_fault w) (taken r ph w) (λ n. tt) (taken_forth ph w h i)

  -- back: what holds after a word held before it, and the word's test passed
  real_count_back : (t : ℕ) (n : Bytes) (ss : List Bytes) (c : Option ℕ) → OfTurn ⊥ r d (real_count t n ss c) → room_test r.reals (reals_used d) c ≡ 0
  real_count_back t n ss none h = refl
  real_count_back t n ss (some k) h = cond_elim (λ (τ : Turn). OfTurn ⊥ r d τ → room_test r.reals (reals_used d) (some k) ≡ 0) (reals_allowed t k) (λ i. rw zero-add at ((reals_iff t n ss [] k).1 i)) (λ i. absurd i) h

  real_back : (t : ℕ) (n : Bytes) (ss : List Bytes) (rs : List Literal) (k : ℕ) (w : Bytes) (x : Answer) → OfTurn ⊥ r d (real t n ss rs k w x) → AtPart r d (at_real t n ss rs k)
  real_back t n ss rs k w (refusal c) h = absurd h
  real_back t n ss rs k w (value v) h = cond_elim (λ (τ : Turn). OfTurn ⊥ r d τ → AtPart r d (at_real t n ss rs k)) (breach t (numbers (rs ++ literal w v ∷ []))) (λ i. absurd i) (λ i. rw (grown (reals_used d) (suc k) k rs (literal w v) refl) at ((reals_iff t n ss (rs ++ literal w v ∷ []) k).1 i)) h

  turn_back : (p : Part) (w : Bytes) → OfTurn ⊥ r d (turn r p w) → (part_test r d p w ≡ 0) × AtPart r d p
  turn_back at_type w h = (refl, tt)
  turn_back (at_name t) w h = (refl, tt)
  turn_back (at_string_count t n) w h = (refl, tt)
  turn_back (at_string t n ss k) w h = (refl, tt)
  turn_back (at_integer_count t n ss) w h = (refl, tt)
  turn_back (at_real_count t n ss) w h = (real_count_back t n ss (count_of w) h, tt)
  turn_back (at_real t n ss rs k) w h = (refl, real_back t n ss rs k w (numeral_of w) h)
  turn_back at_alias_name w h = (refl, tt)
  turn_back (at_target n) w h = (h, tt)

  outcome_back : (m : Bytes) (τ : Turn) → OfOutcome ⊥ r d (outcome m τ) → Sound r d × (test r d idle m ≡ 0) × OfTurn ⊥ r d τ
  outcome_back m (fault n) h = absurd h
  outcome_back m (onto p) h = h
  outcome_back m (ends n b) h = (h.1, h.0.modifier, h.0.body)

  taken_back : (ph : Phase) (w : Bytes) → OfOutcome ⊥ r d (taken r ph w) → (test r d ph w ≡ 0) × AtPhase r d ph
  taken_back idle w h = (h.1, h.0)
  taken_back (busy m p) w h =
      let k = outcome_back m (turn r p w) h in
      let i = turn_back p w k.2 in
      (i.0, (k.0, k.1, i.1))

  pub word_back : (ph : Phase) (w : Bytes) → OfOutcome ⊥ r d (word r ph w) → (test r d ph w ≡ 0) × AtPhase r d ph
  word_back ph w = fault_elim (λ (a : Outcome). OfOutcome ⊥ r d a → (test r d ph w ≡ 0) × AtPhase r d ph) (word_fault w) (taken r ph w) (λ n h. absurd h) (taken_back ph w)
