-- A word that an open statement takes goes on with the words before it.
use mathlib.Core.Bool.{true}
use mathlib.Core.List.{List, [], ◌∷◌, ◌++◌, append_assoc}
use mathlib.Core.Option.{Option, none, some}
use mathlib.Core.Path.{◌≡◌, refl, sym, ap, subst, ◌∙◌}
use Prim.Native.Nat.{ℕ, zero, suc, ◌+◌}
use native.Mathlib.Nat.{zero-add, add-zero}
use native.Mathlib.Omega.{arith}
use lib.Ieee.{Float}
use lib.ListN.{get_or, length, length-append}
use Rattle.grammar.specs.Grammar.{PrimitiveWords, WordsOf, Writes}
use Rattle.grammar.specs.Refusal.{Before, Open}
use Rattle.laws.proofs.BoolLaws.{cond_cases, cond_elim}
use Rattle.laws.proofs.BytesLaws.{same_eq}
use Rattle.laws.specs.Bytes.{Bytes, bytes, same}
use Rattle.numeral.specs.Count.{count_of}
use Rattle.numeral.specs.Numeral.{Answer, numeral_of, refusal, value}
use Rattle.scene.proofs.SpellingLaws.{numerals_snoc}
use Rattle.scene.specs.HouseRules.{breach}
use Rattle.scene.specs.Phase.{Outcome, Part, Phase, Turn, at_alias_name, at_integer_count, at_name, at_real, at_real_count, at_string, at_string_count, at_target, at_type, busy, done, ends, fault, idle, integer_count, into, onto, outcome, real, real_count, reals, refuse, string_count, strings, taken, turn, typed, word}
use Rattle.scene.specs.Statement.{Literal, literal, numbers, numeral_words, void}
use Rattle.scene.specs.Types.{Kind, is_retired, kind_of, no_type, number_from, reals_allowed, strings_allowed, type_name, type_number, types}
use Rattle.scene.specs.declared.Mode.{Mode}
use Rattle.scene.specs.declared.Settings.{Settings}
use Rattle.tidying.proofs.ProperLaws.{OfTurn, turn_keeps}
use Rattle.tidying.proofs.WordLaws.{word_cases}
use Rattle.tidying.specs.Proper.{Good, starts}

-- what a word makes of the words before it
abbrev pub Goes : Mode → List Bytes → Bytes → Outcome → Type 0
Goes mode ws w (refuse n) = Unit {0}
Goes mode ws w (into ph) = Open mode ph (ws ++ w ∷ [])
Goes mode ws w (done s) = Writes mode s (ws ++ w ∷ [])

-- ---- a word with a type's number is the type's name

-- by rows of which the first has the number n + 1
row_named : (n : ℕ) (w : Bytes) (ts : List Kind) (k : ℕ) → number_from (suc n) w ts ≡ suc k → (i : ℕ) × (k ≡ n + i) × (w ≡ (get_or ts i no_type).name)
unfolding number_from
row_named n w [] k e = absurd (omega arith)
row_named n w (t ∷ ts) k e =
    cond_cases (λ (j : ℕ). j ≡ suc k → (i : ℕ) × (k ≡ n + i) × (w ≡ (get_or (t ∷ ts) i no_type).name)) (same w t.name)
    (λ s q. (0, omega arith, same_eq w t.name s))
    (λ s q. let h = row_named (suc n) w ts k q in let l = h.1 in (suc h.0, omega arith, h.2))
    e

type_named : (w : Bytes) (k : ℕ) → type_number w ≡ suc k → w ≡ type_name (suc k)
unfolding type_number type_name kind_of
type_named w k e =
    let h = row_named 0 w types k e in
    h.2 ∙ ap (λ (i : ℕ). (get_or types i no_type).name) (sym (h.1 ∙ zero-add h.0))

-- ---- the words ws of an open statement with modifier m, and w behind them

-- one of those that are still to come is read
one_more : {A : Type 0} (xs : List A) (x : A) (k : ℕ) → length xs + suc k ≡ length (xs ++ x ∷ []) + k
one_more xs x k = omega (arith, length-append xs (x ∷ []))

module _ (m : Bytes) (ws : List Bytes) (w : Bytes) where
  abbrev After : Turn → Type 0
  After (fault n) = Unit {0}
  After (onto p) = Before m p (ws ++ w ∷ [])
  After (ends n b) = WordsOf m n b (ws ++ w ∷ [])

  more : {vs : List Bytes} → ws ≡ vs → ws ++ w ∷ [] ≡ vs ++ w ∷ []
  more h i = h i ++ w ∷ []

  typed_after : (mode : Mode) → Before m at_type ws → (t : ℕ) → type_number w ≡ t → After (typed mode t)
  typed_after mode h zero e = tt
  typed_after mode h (suc k) e = cond_elim After (is_retired mode (suc k)) tt (λ i. h i ++ type_named w k e i ∷ [])

  module _ (t : ℕ) (n : Bytes) where
    strings_after : (k : ℕ) → Before m (at_string_count t n) ws → count_of w ≡ some k → After (strings t n k)
    strings_after zero h e = (w, e, more h)
    strings_after (suc k) h e = (w, e ∙ ap some (sym (zero-add (suc k))), more h)

    string_count_after : Before m (at_string_count t n) ws → (c : Option ℕ) → count_of w ≡ c → After (string_count t n c)
    string_count_after h none e = tt
    string_count_after h (some k) e = cond_elim After (strings_allowed t k) (strings_after k h e) tt

    module _ (ss : List Bytes) where
      integer_count_after : Before m (at_integer_count t n ss) ws → (c : Option ℕ) → count_of w ≡ c → After (integer_count t n ss c)
      integer_count_after h none e = tt
      integer_count_after (x, many, h) (some zero) e = (x, w, many, e, more h)
      integer_count_after h (some (suc k)) e = tt

      reals_after : (rs : List Literal) (k : ℕ) → PrimitiveWords m n t ss rs (length rs + k) (ws ++ w ∷ []) → After (reals t n ss rs k)
      reals_after rs zero h = subst (λ (j : ℕ). PrimitiveWords m n t ss rs j (ws ++ w ∷ [])) (add-zero (length rs)) h
      reals_after rs (suc k) h = h

      counts_after : (k : ℕ) → Before m (at_real_count t n ss) ws → count_of w ≡ some k → PrimitiveWords m n t ss [] (length {A = Literal} [] + k) (ws ++ w ∷ [])
      counts_after k (x, y, many, nought, h) e = record {
        string_count = x;
        integer_count = y;
        real_count = w;
        words = more h ∙ append_assoc (m ∷ type_name t ∷ n ∷ x ∷ ss) (y ∷ []) (w ∷ []);
        many_strings = many;
        no_integers = nought;
        many_reals = e ∙ ap some (sym (zero-add k));
      }

      real_count_after : Before m (at_real_count t n ss) ws → (c : Option ℕ) → count_of w ≡ c → After (real_count t n ss c)
      real_count_after h none e = tt
      real_count_after h (some k) e = cond_elim After (reals_allowed t k) (reals_after [] k (counts_after k h e)) tt

      numeral_after : (rs : List Literal) (k : ℕ) (x : Float) → Before m (at_real t n ss rs k) ws → PrimitiveWords m n t ss (rs ++ literal w x ∷ []) (length (rs ++ literal w x ∷ []) + k) (ws ++ w ∷ [])
      numeral_after rs k x h =
          let before : List Bytes = m ∷ type_name t ∷ n ∷ h.string_count ∷ ss in
          record {
            string_count = h.string_count;
            integer_count = h.integer_count;
            real_count = h.real_count;
            words = more h.words ∙ append_assoc before (h.integer_count ∷ h.real_count ∷ numeral_words rs) (w ∷ []) ∙ ap (λ (z : List Bytes). before ++ h.integer_count ∷ h.real_count ∷ z) (sym (numerals_snoc rs (literal w x)));
            many_strings = h.many_strings;
            no_integers = h.no_integers;
            many_reals = h.many_reals ∙ ap some (one_more rs (literal w x) k);
          }

      real_after : (rs : List Literal) (k : ℕ) → Before m (at_real t n ss rs k) ws → (x : Answer) → After (real t n ss rs k w x)
      real_after rs k h (refusal c) = tt
      real_after rs k h (value x) = cond_elim After (breach t (numbers (rs ++ literal w x ∷ []))) tt (reals_after (rs ++ literal w x ∷ []) k (numeral_after rs k x h))

  turn_after : (r : Settings) (p : Part) → Before m p ws → After (turn r p w)
  turn_after r at_type h = cond_cases After (same w (bytes "alias")) (λ s i. h i ++ same_eq w (bytes "alias") s i ∷ []) (λ s. typed_after r.mode h (type_number w) refl)
  turn_after r (at_name t) h = cond_elim After (same w void) tt (more h)
  turn_after r (at_string_count t n) h = string_count_after t n h (count_of w) refl
  turn_after r (at_string t n ss zero) (x, many, h) = (x, many ∙ ap some (sym (length-append ss (w ∷ []))), more h)
  turn_after r (at_string t n ss (suc k)) (x, many, h) = (x, many ∙ ap some (one_more ss w (suc k)), more h)
  turn_after r (at_integer_count t n ss) h = integer_count_after t n ss h (count_of w) refl
  turn_after r (at_real_count t n ss) h = real_count_after t n ss h (count_of w) refl
  turn_after r (at_real t n ss rs k) h = real_after t n ss rs k h (numeral_of w)
  turn_after r at_alias_name h = cond_elim After (same w void) tt (more h)
  turn_after r (at_target n) h = more h

-- ---- and with each word right by itself

outcome_goes : (r : Settings) (m : Bytes) (ws : List Bytes) (w : Bytes) (τ : Turn) → OfTurn r m τ → After m ws w τ → Goes r.mode ws w (outcome m τ)
outcome_goes r m ws w (fault n) h k = tt
outcome_goes r m ws w (onto p) h k = (h, k)
outcome_goes r m ws w (ends n b) h k = record { words = k; proper = h }

taken_goes : (r : Settings) (ph : Phase) (ws : List Bytes) (w : Bytes) → starts ph w ≡ true → Open r.mode ph ws → Good w → Goes r.mode ws w (taken r ph w)
taken_goes r idle ws w s h g = ((g, s), λ i. h i ++ w ∷ [])
taken_goes r (busy m p) ws w s h g = outcome_goes r m ws w (turn r p w) (turn_keeps r m p w g h.0) (turn_after m ws w r p h.1)

pub word_goes : (r : Settings) (ph : Phase) (ws : List Bytes) (w : Bytes) → starts ph w ≡ true → Open r.mode ph ws → Goes r.mode ws w (word r ph w)
word_goes r ph ws w s h = word_cases (Goes r.mode ws w) r ph w s (λ n. tt) (λ g. taken_goes r ph ws w s h g)
