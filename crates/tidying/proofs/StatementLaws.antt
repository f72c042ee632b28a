-- The tidy text of a proper statement reads as the statement.
use mathlib.Core.Bool.{Bool, true, false, not, ◌&&◌, false≢true}
use mathlib.Core.List.{List, [], ◌∷◌, ◌++◌, append_assoc}
use mathlib.Core.Path.{◌≡◌, refl, ap, ◌∙◌}
use Prim.Native.Nat.{ℕ, zero, suc, ◌^◌, ◌<◌}
use native.Mathlib.Omega.{arith}
use borrow.Author.Tests.{leb-true, eqb-true, not-true}
use lib.Dec.{T, lit<, leb, eqb}
use lib.Ieee.Bits.{is_true}
use lib.ListN.{length, get_or}
use Rattle.laws.proofs.BoolLaws.{and_left, and_right}
use Rattle.laws.proofs.TableLaws.{entry}
use Rattle.laws.specs.Table.{ruled}
use Rattle.buffer.specs.Decimal.{decimal}
use Rattle.laws.specs.Bytes.{Bytes, bytes, same}
use Rattle.laws.specs.Runs.{all}
use Rattle.lexer.specs.Class.{is_good}
use Rattle.scene.proofs.SyntaxLaws.{Step, pass, parse}
use Rattle.scene.specs.Phase.{onto, typed, at_type, at_name, at_string_count, at_string, at_integer_count, at_real_count, at_real, at_alias_name, at_target, idle, busy}
use Rattle.scene.specs.Reading.{gap, newline}
use Rattle.scene.specs.declared.Mode.{Mode}
use Rattle.scene.specs.declared.Settings.{Settings}
use Rattle.scene.proofs.SpellingLaws.{numerals_length}
use Rattle.scene.specs.Statement.{Literal, numeral_words, Body, primitive, alias, Statement}
use Rattle.scene.specs.Types.{Kind, no_type, types, number_from, type_number, kind_of, type_name, is_type}
use Rattle.tidying.proofs.CountLaws.{count_good, count_reads}
use Rattle.tidying.proofs.WordLaws.{line_append, from_first, to_word, to_line, to_end, statement}
use Rattle.tidying.specs.Proper.{Good, Words, Modifier, Name, Literals, Strings, Reals, TypeIn, ProperBody, Proper}
use Rattle.tidying.specs.Tidy.{spaced, line, counted, body_text, statement_text}

-- ---- types

-- a good word, not `alias`, that reads as a type's number
pub record TypeWord (t : ℕ) (w : Bytes) : Type 0 where
  pub good : Good w
  pub other : same w (bytes "alias") ≡ false
  pub number : type_number w ≡ t

-- the tests that say so of the name in a row
abbrev named : ℕ → Kind → Bool
named k t = leb 1 (length t.name) && (leb (length t.name) 64 && (all is_good t.name && (not (same t.name (bytes "alias")) && eqb (type_number t.name) (suc k))))

all_named : T (ruled named 0 types)
unfolding all is_good same type_number number_from
all_named = tt

named_word : (k : ℕ) (t : Kind) → named k t ≡ true → TypeWord (suc k) t.name
named_word k t h =
    let w = t.name in
    let other = not (same w (bytes "alias")) in
    let number = eqb (type_number w) (suc k) in
    let short = and_right (leb 1 (length w)) (leb (length w) 64 && (all is_good w && (other && number))) h in
    let good = and_right (leb (length w) 64) (all is_good w && (other && number)) short in
    let last = and_right (all is_good w) (other && number) good in
    record {
      good = record { filled = leb-true 1 (length w) (and_left _ _ h); good = and_left _ _ good; short = leb-true (length w) 64 (and_left _ _ short) };
      other = not-true (same w (bytes "alias")) (and_left other number last);
      number = eqb-true (type_number w) (suc k) (and_right other number last);
    }

pub type_word : (t : ℕ) → is_type t ≡ true → TypeWord t (type_name t)
unfolding type_name kind_of
type_word zero h = absurd (false≢true h)
type_word (suc t) h =
    let most = leb-true (suc t) 25 (and_right (leb 1 (suc t)) (leb (suc t) 25) h) in
    named_word t (get_or types t no_type) (is_true _ (entry named no_type types all_named t (omega arith)))

-- a type that the mode accepts
pub typed_onto : (mode : Mode) (t : ℕ) → TypeIn mode t → typed mode t ≡ onto (at_name t)
typed_onto mode zero h = absurd (false≢true h.0)
typed_onto mode (suc t) h = rw h.1

module _ (r : Settings) (m : Bytes) where
  -- ---- strings

  strings_read : (t : ℕ) (n : Bytes) (before : List Bytes) (w : Bytes) (ws : List Bytes) (rest : Bytes) → Good w → Words ws → parse r gap (busy m (at_string t n before (length ws))) (w ++ (spaced ws ++ 10 ∷ rest)) ≡ parse r gap (busy m (at_integer_count t n (before ++ w ∷ ws))) rest
  strings_read t n before w [] rest g h = to_line r m (at_string t n before 0) (at_integer_count t n (before ++ w ∷ [])) w g refl rest
  strings_read t n before w (v ∷ vs) rest g h =
      to_word r m (at_string t n before (suc (length vs))) (at_string t n (before ++ w ∷ []) (length vs)) w g refl v vs (10 ∷ rest)
      ∙ strings_read t n (before ++ w ∷ []) v vs rest h.0 h.1
      ∙ ap (λ (x : List Bytes). parse r gap (busy m (at_integer_count t n x)) rest) (append_assoc before (w ∷ []) (v ∷ vs))

  strings_line : (t : ℕ) (n : Bytes) (ss : List Bytes) (rest : Bytes) → Strings t ss → parse r gap (busy m (at_string_count t n)) (counted ss ++ rest) ≡ parse r gap (busy m (at_integer_count t n ss)) rest
  strings_line t n [] rest h =
      ap (parse r gap (busy m (at_string_count t n))) (line_append (decimal 0) [] rest)
      ∙ to_line r m (at_string_count t n) (at_integer_count t n []) (decimal 0) (count_good 0 h.few) (rw (count_reads 0 h.few, h.allowed)) rest
  strings_line t n (w ∷ ws) rest h =
      let k = suc (length ws) in
      ap (parse r gap (busy m (at_string_count t n))) (line_append (decimal k) (w ∷ ws) rest)
      ∙ to_word r m (at_string_count t n) (at_string t n [] (length ws)) (decimal k) (count_good k h.few) (rw (count_reads k h.few, h.allowed)) w ws (10 ∷ rest)
      ∙ strings_read t n [] w ws rest h.words.0 h.words.1

  -- ---- integers

  integers_line : (t : ℕ) (n : Bytes) (ss : List Bytes) (rest : Bytes) → parse r gap (busy m (at_integer_count t n ss)) (counted [] ++ rest) ≡ parse r gap (busy m (at_real_count t n ss)) rest
  integers_line t n ss rest =
      let few : 0 < 10 ^ 5 = lit< tt in
      ap (parse r gap (busy m (at_integer_count t n ss))) (line_append (decimal 0) [] rest)
      ∙ to_line r m (at_integer_count t n ss) (at_real_count t n ss) (decimal 0) (count_good 0 few) (rw (count_reads 0 few)) rest

  -- ---- reals

  abbrev Read : ℕ → Bytes → List Bytes → List Literal → Step
  Read t n ss rs = pass gap idle (statement m n (primitive t ss rs) ∷ [])

  reals_read : (t : ℕ) (n : Bytes) (ss : List Bytes) (before : List Literal) (l : Literal) (ls : List Literal) → Literals t before (l ∷ ls) → parse r gap (busy m (at_real t n ss before (length ls))) (l.word ++ (spaced (numeral_words ls) ++ newline)) ≡ Read t n ss (before ++ l ∷ ls)
  reals_read t n ss before l [] h = to_end r m (at_real t n ss before 0) l.word n (primitive t ss (before ++ l ∷ [])) h.0 (rw (h.1, h.2))
  reals_read t n ss before l (k ∷ ls) h =
      to_word r m (at_real t n ss before (suc (length ls))) (at_real t n ss (before ++ l ∷ []) (length ls)) l.word h.0 (rw (h.1, h.2)) k.word (numeral_words ls) newline
      ∙ reals_read t n ss (before ++ l ∷ []) k ls h.3
      ∙ ap (Read t n ss) (append_assoc before (l ∷ []) (k ∷ ls))

  -- the last line, its count written for the reals themselves
  reals_counted : (t : ℕ) (n : Bytes) (ss : List Bytes) (rs : List Literal) → Reals t rs → parse r gap (busy m (at_real_count t n ss)) (decimal (length rs) ++ (spaced (numeral_words rs) ++ newline)) ≡ Read t n ss rs
  reals_counted t n ss [] h = to_end r m (at_real_count t n ss) (decimal 0) n (primitive t ss []) (count_good 0 h.few) (rw (count_reads 0 h.few, h.allowed))
  reals_counted t n ss (l ∷ ls) h =
      let k = suc (length ls) in
      to_word r m (at_real_count t n ss) (at_real t n ss [] (length ls)) (decimal k) (count_good k h.few) (rw (count_reads k h.few, h.allowed)) l.word (numeral_words ls) newline
      ∙ reals_read t n ss [] l ls h.literals

  reals_line : (t : ℕ) (n : Bytes) (ss : List Bytes) (rs : List Literal) → Reals t rs → parse r gap (busy m (at_real_count t n ss)) (counted (numeral_words rs)) ≡ Read t n ss rs
  reals_line t n ss rs h =
      ap (λ (k : ℕ). parse r gap (busy m (at_real_count t n ss)) (line (decimal k) (numeral_words rs))) (numerals_length rs)
      ∙ ap (parse r gap (busy m (at_real_count t n ss))) (append_assoc (decimal (length rs)) (spaced (numeral_words rs)) newline)
      ∙ reals_counted t n ss rs h

  -- ---- a statement

  alias_good : Good (bytes "alias")
  unfolding all is_good
  alias_good = record { filled = omega arith; good = refl; short = omega arith }

  body_read : (n : Bytes) (b : Body) → Modifier m → Name n → ProperBody r.mode b → parse r gap idle (body_text m n b) ≡ pass gap idle (statement m n b ∷ [])
  unfolding same
  body_read n (primitive t ss rs) o a h =
      let word = type_word t h.0.0 in
      let strings = counted ss in
      let reals = counted (numeral_words rs) in
      let rest = strings ++ (counted [] ++ reals) in
      let text : body_text m n (primitive t ss rs) ≡ m ++ (spaced (type_name t ∷ n ∷ []) ++ 10 ∷ rest) =
      append_assoc (line m (type_name t ∷ n ∷ []) ++ strings) (counted []) reals
      ∙ append_assoc (line m (type_name t ∷ n ∷ [])) strings (counted [] ++ reals)
      ∙ line_append m (type_name t ∷ n ∷ []) rest in
      ap (parse r gap idle) text
      ∙ from_first r m o.1 o.0 (type_name t) (n ∷ []) (10 ∷ rest)
      ∙ to_word r m at_type (at_name t) (type_name t) word.good (rw (word.other, word.number) (typed_onto r.mode t h.0)) n [] (10 ∷ rest)
      ∙ to_line r m (at_name t) (at_string_count t n) n a.0 (rw a.1) rest
      ∙ strings_line t n ss (counted [] ++ reals) h.1
      ∙ integers_line t n ss reals
      ∙ reals_line t n ss rs h.2
  body_read n (alias x) o a h =
      ap (parse r gap idle) (append_assoc m (spaced (bytes "alias" ∷ n ∷ x ∷ [])) newline)
      ∙ from_first r m o.1 o.0 (bytes "alias") (n ∷ x ∷ []) newline
      ∙ to_word r m at_type at_alias_name (bytes "alias") alias_good refl n (x ∷ []) newline
      ∙ to_word r m at_alias_name (at_target n) n a.0 (rw a.1) x [] newline
      ∙ to_end r m (at_target n) x n (alias x) h refl

pub statement_read : (r : Settings) (s : Statement) → Proper r.mode s → parse r gap idle (statement_text s) ≡ pass gap idle (s ∷ [])
statement_read r s h = body_read r s.modifier s.name s.body h.modifier h.name h.body
