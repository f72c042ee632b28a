-- What the reading makes of a word is the lowest of the tests that fail.
use mathlib.Core.Bool.{Bool, true, false, cond, not, ◌&&◌, false≢true}
use mathlib.Core.List.{List, [], ◌∷◌, ◌++◌}
use mathlib.Core.Logic.{inl, inr}
use mathlib.Core.Option.{Option, none, some}
use mathlib.Core.Path.{◌≡◌, refl, ap, sym, subst, ◌∙◌}
use Prim.Native.Nat.{ℕ, zero, suc, ◌+◌, ◌≤◌, ◌<◌}
use native.Mathlib.Omega.{arith}
use borrow.Author.Tests.{ltb-true}
use lib.Dec.{eqb, eqb-suc-zero, leb, ltb}
use lib.Ieee.{Float}
use lib.ListN.{length}
use Rattle.grammar.specs.Refusal.{Fails, Test, completes, next_tests, not_allowed, over, part_tests, undefined, word_tests}
use Rattle.laws.proofs.BoolLaws.{and_left, and_right, cond_cases, cond_elim}
use Rattle.laws.proofs.BytesLaws.{same_eq}
use Rattle.laws.proofs.NatLaws.{ltb_not}
use Rattle.laws.specs.Bytes.{Bytes, bytes, same}
use Rattle.laws.specs.Runs.{all}
use Rattle.lexer.specs.Class.{is_good}
use Rattle.lexer.specs.Word.{word_fault}
use Rattle.numeral.specs.Count.{count_of}
use Rattle.numeral.specs.Numeral.{Answer, coefficient, down, in_range, nearest, number_of, numeral_of, reason, up, value, well_formed}
use Rattle.numeral_parts.specs.Parts.{negative}
use Rattle.scene.specs.HouseRules.{breach}
use Rattle.scene.specs.Links.{found, head, reals_used}
use Rattle.scene.specs.Phase.{Outcome, Part, Phase, Turn, at_alias_name, at_integer_count, at_name, at_real, at_real_count, at_string, at_string_count, at_target, at_type, busy, done, fault, idle, integer_count, into, named, onto, outcome, real, real_count, reals, refuse, string_count, strings, taken, turn, typed, unless_fault, word}
use Rattle.scene.specs.Reading.{modifier_test, part_test, room_test, target_test, test}
use Rattle.scene.specs.Statement.{Literal, Statement, literal, numbers, void}
use Rattle.scene.specs.Types.{is_retired, number_from, reals_allowed, strings_allowed, type_number}
use Rattle.scene.specs.declared.Mode.{Mode}
use Rattle.scene.specs.declared.Mode.TheVariants.{Archive, New}
use Rattle.scene.specs.declared.Settings.{Settings}

-- the number that a word is refused with, if it is: what the syntax says, else what the statements above say, 0 if they take it
abbrev told : ℕ → Option ℕ
told zero = none
told (suc n) = some (suc n)

abbrev pub verdict : Outcome → (tested : ℕ) → Option ℕ
verdict (refuse n) t = some n
verdict (into ph) t = told t
verdict (done s) t = told t

-- the lowest of the tests that fail, if one does
abbrev pub Lowest : Option ℕ → List Test → Type 0
Lowest none xs = (m : ℕ) → Fails m xs → ⊥
Lowest (some n) xs = Fails n xs × ((m : ℕ) → Fails m xs → n ≤ m)

-- ---- of tests whose numbers rise, the first that fails

abbrev first_failing : List Test → Option ℕ
first_failing [] = none
first_failing (x ∷ xs) = cond x.holds (some x.reason) (first_failing xs)

-- whether the numbers rise, all above n
abbrev rising : ℕ → List Test → Bool
rising n [] = true
rising n (x ∷ xs) = ltb n x.reason && rising x.reason xs

rising_first : (n : ℕ) (x : Test) (xs : List Test) → rising n (x ∷ xs) ≡ true → n < x.reason
rising_first n x xs h = ltb-true n x.reason (and_left (ltb n x.reason) (rising x.reason xs) h)

rising_rest : (n : ℕ) (x : Test) (xs : List Test) → rising n (x ∷ xs) ≡ true → rising x.reason xs ≡ true
rising_rest n x xs h = and_right (ltb n x.reason) (rising x.reason xs) h

fails_above : (n : ℕ) (xs : List Test) → rising n xs ≡ true → (m : ℕ) → Fails m xs → n < m
fails_above n [] h m f = absurd f
fails_above n (x ∷ xs) h m (inl (e, b)) = omega (arith, rising_first n x xs h)
fails_above n (x ∷ xs) h m (inr f) = omega (arith, rising_first n x xs h, fails_above x.reason xs (rising_rest n x xs h) m f)

-- a test that fails in front of ones with greater numbers
lowest_here : (n : ℕ) (x : Test) (xs : List Test) → rising n (x ∷ xs) ≡ true → x.holds ≡ true → Lowest (some x.reason) (x ∷ xs)
lowest_here n x xs h b = (inl (refl, b), least)
  where
    least : (m : ℕ) → Fails m (x ∷ xs) → x.reason ≤ m
    least m (inl (e, c)) = omega arith
    least m (inr f) = omega (arith, fails_above x.reason xs (rising_rest n x xs h) m f)

-- a test that does not fail in front of any
passed : (x : Test) (xs : List Test) → x.holds ≡ false → (m : ℕ) → Fails m (x ∷ xs) → Fails m xs
passed x xs b m (inl f) = absurd (false≢true (sym b ∙ f.1))
passed x xs b m (inr f) = f

lowest_on : (k : Option ℕ) (x : Test) (xs : List Test) → x.holds ≡ false → Lowest k xs → Lowest k (x ∷ xs)
lowest_on none x xs b l = λ m f. l m (passed x xs b m f)
lowest_on (some k) x xs b l = (inr l.0, λ m f. l.1 m (passed x xs b m f))

first_lowest : (n : ℕ) (xs : List Test) → rising n xs ≡ true → Lowest (first_failing xs) xs
first_lowest n [] h = λ m f. f
first_lowest n (x ∷ xs) h =
    cond_cases (λ (k : Option ℕ). Lowest k (x ∷ xs)) x.holds
    (λ b. lowest_here n x xs h b)
    (λ b. lowest_on (first_failing xs) x xs b (first_lowest x.reason xs (rising_rest n x xs h)))

-- ---- the numbers of the tests rise

part_rising : (r : Settings) (d : List Statement) (p : Part) (w : Bytes) → rising 3 (part_tests r d p w) ≡ true
part_rising r d at_type w = refl
part_rising r d (at_name t) w = refl
part_rising r d (at_string_count t n) w = refl
part_rising r d (at_string t n ss k) w = refl
part_rising r d (at_integer_count t n ss) w = refl
part_rising r d (at_real_count t n ss) w = refl
part_rising r d (at_real t n ss rs k) w = refl
part_rising r d at_alias_name w = refl
part_rising r d (at_target n) w = refl

word_rising : (r : Settings) (d : List Statement) (ph : Phase) (w : Bytes) → rising 0 (word_tests r d ph w) ≡ true
word_rising r d idle w = refl
word_rising r d (busy m p) w = part_rising r d p w

-- ---- the verdict is the first test that fails

-- a test by what a name leads to: the reading looks at the statement, the reason at the number
look_up_first : (f : Option Statement → ℕ) → ((s : Statement) → f (some s) ≡ 0) → (l : List Statement) → told (f (head l)) ≡ cond (eqb (length l) 0) (told (f none)) none
look_up_first f h [] = refl
look_up_first f h (s ∷ l) = rw eqb-suc-zero (ap told (h s))

idle_first : (r : Settings) (d : List Statement) (w : Bytes) → told (test r d idle w) ≡ first_failing (next_tests r d idle w)
idle_first r d w = rw ltb_not (go (leb r.records (length d)) (same w void))
  where
    go : (a b : Bool) → told (cond (not a) (cond b 0 (modifier_test (head (found w d)))) 6) ≡ cond {A = Option ℕ} a (some 6) (cond (not b && undefined w d) (some 7) none)
    go true b = refl
    go false true = refl
    go false false = look_up_first modifier_test (λ s. refl) (found w d)

-- `alias` is no type, so no type that is retired
alias_kept : (mode : Mode) (w : Bytes) → same w (bytes "alias") ≡ true → is_retired mode (type_number w) ≡ false
unfolding type_number number_from same
alias_kept New w e = rw (same_eq w (bytes "alias") e)
alias_kept Archive w e = refl

module _ (m : Bytes) where
  -- what a turn is refused with, t being what the statements above say
  abbrev said : Turn → (tested : ℕ) → Option ℕ
  said τ t = verdict (outcome m τ) t

  -- a fault where a test holds, and where it does not, instead of a turn that is none
  unless_first : (b : Bool) (n t : ℕ) (τ : Turn) → said τ t ≡ told t → said (cond b (fault n) τ) t ≡ cond b (some n) (told t)
  unless_first true n t τ h = refl
  unless_first false n t τ h = h

  where_first : (b : Bool) (n t : ℕ) (τ : Turn) → said τ t ≡ told t → said (cond b τ (fault n)) t ≡ cond (not b) (some n) (told t)
  where_first true n t τ h = h
  where_first false n t τ h = refl

  typed_first : (mode : Mode) (t : ℕ) → said (typed mode t) 0 ≡ cond (eqb t 0) (some 8) (cond (is_retired mode t) (some 28) none)
  typed_first mode zero = refl
  typed_first mode (suc t) = rw eqb-suc-zero (unless_first (is_retired mode (suc t)) 28 0 (onto (at_name (suc t))) refl)

  type_first : (r : Settings) (d : List Statement) (w : Bytes) → said (turn r at_type w) 0 ≡ first_failing (part_tests r d at_type w)
  type_first r d w = go (same w (bytes "alias")) refl
    where
      go : (b : Bool) → same w (bytes "alias") ≡ b → said (cond b (onto at_alias_name) (typed r.mode (type_number w))) 0 ≡ cond (not b && eqb (type_number w) 0) (some 8) (cond (is_retired r.mode (type_number w)) (some 28) none)
      go true e = rw (alias_kept r.mode w e)
      go false e = typed_first r.mode (type_number w)

  named_first : (w : Bytes) (next : Part) → said (named w next) 0 ≡ cond (same w void) (some 9) none
  named_first w next = unless_first (same w void) 9 0 (onto next) refl

  strings_pass : (t : ℕ) (n : Bytes) (k : ℕ) → said (strings t n k) 0 ≡ none
  strings_pass t n zero = refl
  strings_pass t n (suc k) = refl

  strings_first : (t : ℕ) (n : Bytes) (c : Option ℕ) → said (string_count t n c) 0 ≡ cond (not_allowed (strings_allowed t) c) (some 12) none
  strings_first t n none = refl
  strings_first t n (some k) = where_first (strings_allowed t k) 12 0 (strings t n k) (strings_pass t n k)

  integers_first : (t : ℕ) (n : Bytes) (ss : List Bytes) (c : Option ℕ) → said (integer_count t n ss c) 0 ≡ cond (not_allowed (λ k. eqb k 0) c) (some 12) none
  integers_first t n ss none = refl
  integers_first t n ss (some zero) = refl
  integers_first t n ss (some (suc k)) = rw eqb-suc-zero

  reals_pass : (t : ℕ) (n : Bytes) (ss : List Bytes) (rs : List Literal) (k tested : ℕ) → said (reals t n ss rs k) tested ≡ told tested
  reals_pass t n ss rs zero tested = refl
  reals_pass t n ss rs (suc k) tested = refl

  reals_first : (room used t : ℕ) (n : Bytes) (ss : List Bytes) (c : Option ℕ) → said (real_count t n ss c) (room_test room used c) ≡ cond (not_allowed (reals_allowed t) c) (some 12) (cond (over room used c) (some 13) none)
  reals_first room used t n ss none = refl
  reals_first room used t n ss (some k) = rw ltb_not (go (leb (used + k) room))
    where
      go : (b : Bool) → said (real_count t n ss (some k)) (cond b 0 13) ≡ cond (not (reals_allowed t k)) (some 12) (cond (not b) (some 13) none)
      go true = where_first (reals_allowed t k) 12 0 (reals t n ss [] k) (reals_pass t n ss [] k 0)
      go false = where_first (reals_allowed t k) 12 13 (reals t n ss [] k) (reals_pass t n ss [] k 13)

  module _ (t : ℕ) (n : Bytes) (ss : List Bytes) (rs : List Literal) (k : ℕ) (w : Bytes) where
    abbrev AnswerFirst : Answer → Type 0
    AnswerFirst x = said (real t n ss rs k w x) 0 ≡ cond (eqb (reason x) 14) (some 14) (cond (eqb (reason x) 15) (some 15) (cond (completes t rs w x) (some 16) none))

    value_first : (x : Float) → AnswerFirst (value x)
    value_first x =
        let read : List Literal = rs ++ literal w x ∷ [] in
        unless_first (breach t (numbers read)) 16 0 (reals t n ss read k) (reals_pass t n ss read k 0)

    -- a numeral is refused for 14 or 15 only
    real_first : AnswerFirst (numeral_of w)
    unfolding numeral_of number_of
    real_first = cond_elim AnswerFirst (well_formed w) (cond_elim AnswerFirst (in_range (coefficient w) (up w) (down w)) (value_first (nearest (negative w) (coefficient w) (up w) (down w))) refl) refl

  part_first : (r : Settings) (d : List Statement) (p : Part) (w : Bytes) → said (turn r p w) (part_test r d p w) ≡ first_failing (part_tests r d p w)
  part_first r d at_type w = type_first r d w
  part_first r d (at_name t) w = named_first w (at_string_count t w)
  part_first r d (at_string_count t n) w = strings_first t n (count_of w)
  part_first r d (at_string t n ss zero) w = refl
  part_first r d (at_string t n ss (suc k)) w = refl
  part_first r d (at_integer_count t n ss) w = integers_first t n ss (count_of w)
  part_first r d (at_real_count t n ss) w = reals_first r.reals (reals_used d) t n ss (count_of w)
  part_first r d (at_real t n ss rs k) w = real_first t n ss rs k w
  part_first r d at_alias_name w = named_first w (at_target w)
  part_first r d (at_target n) w = look_up_first target_test (λ s. refl) (found w d)

taken_first : (r : Settings) (d : List Statement) (ph : Phase) (w : Bytes) → verdict (taken r ph w) (test r d ph w) ≡ first_failing (next_tests r d ph w)
taken_first r d idle w = idle_first r d w
taken_first r d (busy m p) w = part_first m r d p w

verdict_first : (r : Settings) (d : List Statement) (ph : Phase) (w : Bytes) → verdict (word r ph w) (test r d ph w) ≡ first_failing (word_tests r d ph w)
unfolding word_fault
verdict_first r d ph w = rw ltb_not (go (all is_good w) (leb (length w) 64))
  where
    go : (a b : Bool) → verdict (unless_fault (cond a (cond b 0 3) 2) (taken r ph w)) (test r d ph w) ≡ cond (not a) (some 2) (cond (not b) (some 3) (first_failing (next_tests r d ph w)))
    go true true = taken_first r d ph w
    go true false = refl
    go false b = refl

-- reasons are numbered from 1
pub reason_counts : (r : Settings) (d : List Statement) (ph : Phase) (w : Bytes) (m : ℕ) → Fails m (word_tests r d ph w) → 0 < m
reason_counts r d ph w = fails_above 0 (word_tests r d ph w) (word_rising r d ph w)

pub verdict_lowest : (r : Settings) (d : List Statement) (ph : Phase) (w : Bytes) → Lowest (verdict (word r ph w) (test r d ph w)) (word_tests r d ph w)
verdict_lowest r d ph w =
    subst (λ (n : Option ℕ). Lowest n (word_tests r d ph w)) (sym (verdict_first r d ph w)) (first_lowest 0 (word_tests r d ph w) (word_rising r d ph w))
