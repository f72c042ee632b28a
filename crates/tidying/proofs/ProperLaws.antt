-- Everything read is proper.
use mathlib.Core.Bool.{Bool, true, false, cond}
use mathlib.Core.List.{List, [], ◌∷◌, ◌++◌, append_assoc, append-nil}
use mathlib.Core.Option.{Option, none, some}
use mathlib.Core.Path.{◌≡◌, refl, sym, subst}
use Prim.Native.Nat.{ℕ, zero, suc, ◌+◌, ◌^◌, ◌≤◌, ◌<◌}
use native.Mathlib.Nat.{zero-add, add-zero}
use native.Mathlib.Omega.{arith}
use borrow.Author.Tests.{le-leb}
use lib.Dec.{eqb}
use lib.ListN.{length, length-append}
use Rattle.laws.proofs.BoolLaws.{cond_cases, cond_elim}
use Rattle.laws.specs.Bytes.{Bytes, byte, bytes, same}
use Rattle.lexer.specs.Class.{is_blank}
use Rattle.numeral.specs.Count.{count_of}
use Rattle.numeral.specs.Numeral.{Answer, value, refusal, numeral_of}
use Rattle.scene.proofs.SyntaxLaws.{Step, halt, pass, after, step, on_top, chain, parse}
use Rattle.scene.specs.HouseRules.{breach}
use Rattle.scene.specs.Phase.{Part, at_type, at_name, at_string_count, at_string, at_integer_count, at_real_count, at_real, at_alias_name, at_target, Phase, idle, busy, Turn, fault, onto, ends, typed, strings, string_count, integer_count, reals, real_count, real, turn, Outcome, outcome, taken, word}
use Rattle.scene.specs.Reading.{Scan, gap, comment, within, Move, keep, first, command, begins, move}
use Rattle.scene.specs.declared.Settings.{Settings}
use Rattle.scene.specs.Statement.{Literal, literal, numbers, Statement, void}
use Rattle.scene.specs.Types.{Kind, types, number_from, type_number, is_type, is_retired, strings_allowed, reals_allowed}
use Rattle.tidying.proofs.CountLaws.{count_below}
use Rattle.tidying.proofs.WordLaws.{starts_filled, statement, word_cases}
use Rattle.tidying.specs.Proper.{Good, Words, Modifier, Literals, Partly, Proper, AllProper, starts}

-- ---- lists that grow

words_snoc : (ws : List Bytes) (w : Bytes) → Words ws → Good w → Words (ws ++ w ∷ [])
words_snoc [] w h g = (g, tt)
words_snoc (v ∷ ws) w h g = (h.0, words_snoc ws w h.1 g)

literals_snoc : (t : ℕ) (before ls : List Literal) (l : Literal) → Literals t before ls → Good l.word → numeral_of l.word ≡ value l.number → breach t (numbers (before ++ ls ++ l ∷ [])) ≡ false → Literals t before (ls ++ l ∷ [])
literals_snoc t before [] l h g v b = (g, v, rw append-nil at b, tt)
literals_snoc t before (k ∷ ls) l h g v b =
    (h.0, h.1, h.2, literals_snoc t (before ++ k ∷ []) ls l h.3 g v (subst (λ (x : List Literal). breach t (numbers (x ++ l ∷ [])) ≡ false) (sym (append_assoc before (k ∷ []) ls)) b))

-- ---- a type that was read

number_most : (n : ℕ) (w : Bytes) (ts : List Kind) → number_from (suc n) w ts ≤ n + length ts
unfolding number_from
number_most n w [] = omega arith
number_most n w (t ∷ ts) = let h = number_most (suc n) w ts in cond_elim (λ (k : ℕ). k ≤ n + suc (length ts)) (same w t.name) (omega arith) (omega arith)

is_type_lem : (w : Bytes) (k : ℕ) → type_number w ≡ suc k → is_type (suc k) ≡ true
unfolding type_number
is_type_lem w k e = rw (le-leb 1 (suc k) (omega arith), le-leb (suc k) 25 (omega (arith, number_most 0 w types)))

-- ---- a word keeps the open statement proper

module _ (r : Settings) (m : Bytes) where
  abbrev pub OfTurn : Turn → Type 0
  OfTurn (fault n) = Unit {0}
  OfTurn (onto p) = Partly r.mode m p
  OfTurn (ends n b) = Proper r.mode (statement m n b)

  typed_keeps : (w : Bytes) → Modifier m → (t : ℕ) → type_number w ≡ t → OfTurn (typed r.mode t)
  typed_keeps w h zero e = tt
  typed_keeps w h (suc k) e = cond_cases OfTurn (is_retired r.mode (suc k)) (λ o. tt) (λ o. (h, (is_type_lem w k e, o)))

  strings_keep : (t : ℕ) (n : Bytes) (k : ℕ) → Partly r.mode m (at_string_count t n) → strings_allowed t k ≡ true → k < 10 ^ 5 → OfTurn (strings t n k)
  strings_keep t n zero h a l = (h.0, h.1, h.2, record { allowed = a; few = l; words = tt })
  strings_keep t n (suc k) h a l = (h.0, h.1, h.2, rw zero-add a, rw zero-add l, tt)

  string_count_keeps : (t : ℕ) (n w : Bytes) → Partly r.mode m (at_string_count t n) → (c : Option ℕ) → count_of w ≡ c → OfTurn (string_count t n c)
  string_count_keeps t n w h none e = tt
  string_count_keeps t n w h (some k) e = cond_cases OfTurn (strings_allowed t k) (λ a. strings_keep t n k h a (count_below w k e)) (λ a. tt)

  integer_count_keeps : (t : ℕ) (n : Bytes) (ss : List Bytes) → Partly r.mode m (at_integer_count t n ss) → (c : Option ℕ) → OfTurn (integer_count t n ss c)
  integer_count_keeps t n ss h none = tt
  integer_count_keeps t n ss h (some zero) = h
  integer_count_keeps t n ss h (some (suc k)) = tt

  reals_keep : (t : ℕ) (n : Bytes) (ss : List Bytes) (rs : List Literal) (k : ℕ) → Partly r.mode m (at_real_count t n ss) → reals_allowed t (length rs + k) ≡ true → length rs + k < 10 ^ 5 → Literals t [] rs → OfTurn (reals t n ss rs k)
  reals_keep t n ss rs zero h a l f = record { modifier = h.0; name = h.2; body = (h.1, h.3, record { allowed = rw add-zero at a; few = omega arith; literals = f }) }
  reals_keep t n ss rs (suc k) h a l f = (h.0, h.1, h.2, h.3, a, l, f)

  real_count_keeps : (t : ℕ) (n : Bytes) (ss : List Bytes) (w : Bytes) → Partly r.mode m (at_real_count t n ss) → (c : Option ℕ) → count_of w ≡ c → OfTurn (real_count t n ss c)
  real_count_keeps t n ss w h none e = tt
  real_count_keeps t n ss w h (some k) e = cond_cases OfTurn (reals_allowed t k) (λ a. reals_keep t n ss [] k h (rw zero-add a) (rw zero-add (count_below w k e)) tt) (λ a. tt)

  literal_keeps : (t : ℕ) (n : Bytes) (ss : List Bytes) (rs : List Literal) (k : ℕ) (l : Literal) → Partly r.mode m (at_real t n ss rs k) → Good l.word → numeral_of l.word ≡ value l.number → breach t (numbers (rs ++ l ∷ [])) ≡ false → OfTurn (reals t n ss (rs ++ l ∷ []) k)
  literal_keeps t n ss rs k l h g v b =
      let q : length rs + suc k ≡ length (rs ++ l ∷ []) + k = omega (arith, length-append rs (l ∷ [])) in
      let f = h.5 in
      reals_keep t n ss (rs ++ l ∷ []) k (h.0, h.1, h.2, h.3) (subst (λ (j : ℕ). reals_allowed t j ≡ true) q h.4) (omega arith) (literals_snoc t [] rs l h.6 g v b)

  real_keeps : (t : ℕ) (n : Bytes) (ss : List Bytes) (rs : List Literal) (k : ℕ) (w : Bytes) → Partly r.mode m (at_real t n ss rs k) → Good w → (x : Answer) → numeral_of w ≡ x → OfTurn (real t n ss rs k w x)
  real_keeps t n ss rs k w h g (refusal c) e = tt
  real_keeps t n ss rs k w h g (value v) e = cond_cases OfTurn (breach t (numbers (rs ++ literal w v ∷ []))) (λ b. tt) (λ b. literal_keeps t n ss rs k (literal w v) h g e b)

  pub turn_keeps : (p : Part) (w : Bytes) → Good w → Partly r.mode m p → OfTurn (turn r p w)
  turn_keeps at_type w g h = cond_cases OfTurn (same w (bytes "alias")) (λ s. h) (λ s. typed_keeps w h (type_number w) refl)
  turn_keeps (at_name t) w g h = cond_cases OfTurn (same w void) (λ v. tt) (λ v. (h.0, h.1, (g, v)))
  turn_keeps (at_string_count t n) w g h = string_count_keeps t n w h (count_of w) refl
  turn_keeps (at_string t n ss zero) w g h =
      let q : length ss + 1 ≡ length (ss ++ w ∷ []) = sym (length-append ss (w ∷ [])) in
      let l = h.4 in
      (h.0, h.1, h.2, record { allowed = subst (λ (j : ℕ). strings_allowed t j ≡ true) q h.3; few = omega arith; words = words_snoc ss w h.5 g })
  turn_keeps (at_string t n ss (suc k)) w g h =
      let q : length ss + suc (suc k) ≡ length (ss ++ w ∷ []) + suc k = omega (arith, length-append ss (w ∷ [])) in
      let l = h.4 in
      (h.0, h.1, h.2, subst (λ (j : ℕ). strings_allowed t j ≡ true) q h.3, omega arith, words_snoc ss w h.5 g)
  turn_keeps (at_integer_count t n ss) w g h = integer_count_keeps t n ss h (count_of w)
  turn_keeps (at_real_count t n ss) w g h = real_count_keeps t n ss w h (count_of w) refl
  turn_keeps (at_real t n ss rs k) w g h = real_keeps t n ss rs k w h g (numeral_of w) refl
  turn_keeps at_alias_name w g h = cond_cases OfTurn (same w void) (λ v. tt) (λ v. (h, (g, v)))
  turn_keeps (at_target n) w g h = record { modifier = h.0; name = h.1; body = g }

-- ---- everything read is proper

abbrev PhaseProper : Settings → Phase → Type 0
PhaseProper r idle = Unit {0}
PhaseProper r (busy m p) = Partly r.mode m p

abbrev ScanProper : Phase → Scan → Type 0
ScanProper ph gap = Unit {0}
ScanProper ph comment = Unit {0}
ScanProper ph (within w) = starts ph w ≡ true

abbrev pub StepProper : Settings → Step → Type 0
StepProper r halt = Unit {0}
StepProper r (pass m ph l) = ScanProper ph m × PhaseProper r ph × AllProper r.mode l

module _ (r : Settings) where
  outcome_proper : (m : Bytes) (τ : Turn) → OfTurn r m τ → StepProper r (after (outcome m τ))
  outcome_proper m (fault n) h = tt
  outcome_proper m (onto p) h = (tt, h, tt)
  outcome_proper m (ends n b) h = (tt, tt, (h, tt))

  taken_proper : (ph : Phase) (w : Bytes) → starts ph w ≡ true → PhaseProper r ph → Good w → StepProper r (after (taken r ph w))
  taken_proper idle w s h g = (tt, (g, s), tt)
  taken_proper (busy m p) w s h g = outcome_proper m (turn r p w) (turn_keeps r m p w g h)

  word_proper : (ph : Phase) (w : Bytes) → starts ph w ≡ true → PhaseProper r ph → StepProper r (after (word r ph w))
  word_proper ph w s h = word_cases (λ (o : Outcome). StepProper r (after o)) r ph w s (λ n. tt) (λ g. taken_proper ph w s h g)

  begins_proper : (ph : Phase) (b : ℕ) → PhaseProper r ph → StepProper r (step r ph (begins ph b))
  begins_proper idle b h = go (eqb b (byte "#")) (eqb b (byte "!")) refl refl
    where
      go : (x y : Bool) → eqb b (byte "#") ≡ x → eqb b (byte "!") ≡ y → StepProper r (step r idle (cond x (keep comment) (cond y command (first b))))
      go true y p q = (tt, tt, tt)
      go false true p q = tt
      go false false p q = (rw (p, q), tt, tt)
  begins_proper (busy m p) b h = (refl, h, tt)

  pub starts_snoc : (ph : Phase) (w : Bytes) (b : ℕ) → starts ph w ≡ true → starts ph (w ++ b ∷ []) ≡ true
  starts_snoc ph [] b s = absurd (omega (arith, starts_filled ph [] s))
  starts_snoc idle (c ∷ w) b s = s
  starts_snoc (busy m p) (c ∷ w) b s = refl

  move_proper : (m : Scan) (ph : Phase) (b : ℕ) → ScanProper ph m → PhaseProper r ph → StepProper r (step r ph (move m ph b))
  move_proper gap ph b s h = cond_elim (λ (v : Move). StepProper r (step r ph v)) (is_blank b) (tt, h, tt) (begins_proper ph b h)
  move_proper comment ph b s h = cond_elim (λ (v : Move). StepProper r (step r ph v)) (eqb b 10) (tt, h, tt) (tt, h, tt)
  move_proper (within w) ph b s h = cond_elim (λ (v : Move). StepProper r (step r ph v)) (is_blank b) (word_proper ph w s h) (starts_snoc ph w b s, h, tt)

  proper_append : (x y : List Statement) → AllProper r.mode x → AllProper r.mode y → AllProper r.mode (x ++ y)
  proper_append [] y h k = k
  proper_append (s ∷ x) y h k = (h.0, proper_append x y h.1 k)

  on_top_proper : (l : List Statement) (s : Step) → AllProper r.mode l → StepProper r s → StepProper r (on_top l s)
  on_top_proper l halt h k = tt
  on_top_proper l (pass m ph x) h k = (k.0, k.1, proper_append x l k.2 h)

  chain_proper : (s : Step) (k : Scan → Phase → Step) → StepProper r s → ((m : Scan) (ph : Phase) → ScanProper ph m → PhaseProper r ph → StepProper r (k m ph)) → StepProper r (chain s k)
  chain_proper halt k h f = tt
  chain_proper (pass m ph l) k h f = on_top_proper l (k m ph) h.2 (f m ph h.0 h.1)

  pub parse_proper : (t : Bytes) (m : Scan) (ph : Phase) → ScanProper ph m → PhaseProper r ph → StepProper r (parse r m ph t)
  unfolding parse
  parse_proper [] m ph s h = (s, h, tt)
  parse_proper (b ∷ t) m ph s h = chain_proper (step r ph (move m ph b)) (λ m ph. parse r m ph t) (move_proper m ph b s h) (λ m ph s h. parse_proper t m ph s h)
