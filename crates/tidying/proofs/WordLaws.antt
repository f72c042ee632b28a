-- A good word read where a blank stands behind it, and the words of a line one after the other.
use mathlib.Core.Bool.{Bool, true, false, cond, not, ◌&&◌, and-false, false≢true}
use mathlib.Core.List.{List, [], ◌∷◌, ◌++◌, append_assoc, append-nil}
use mathlib.Core.Path.{◌≡◌, refl, ap, ◌∙◌}
use Prim.Native.Nat.{ℕ, ◌<◌}
use native.Mathlib.Omega.{arith}
use borrow.Author.Tests.{leb-true, lt-leb, ne_eqb}
use lib.Dec.{leb, eqb}
use lib.ListN.{length}
use Rattle.laws.proofs.BoolLaws.{and_left, and_right, cond_cases}
use Rattle.laws.specs.Bytes.{Bytes, byte}
use Rattle.laws.specs.Runs.{all}
use Rattle.lexer.proofs.WordLaws.{fault_none}
use Rattle.lexer.specs.Class.{is_blank, is_good}
use Rattle.lexer.specs.Word.{word_fault}
use Rattle.scene.proofs.SyntaxLaws.{pass, after, on_top_nil, chain, parse}
use Rattle.scene.specs.Phase.{Outcome, Part, at_type, Phase, idle, busy, onto, ends, refuse, turn, taken, unless_fault, word}
use Rattle.scene.specs.Reading.{gap, comment, within, keep, first, command, begins, newline}
use Rattle.scene.specs.declared.Settings.{Settings}
use Rattle.scene.specs.Statement.{Body, Statement}
use Rattle.tidying.specs.Proper.{Good, starts}
use Rattle.tidying.specs.Tidy.{spaced, line}

pub starts_filled : (ph : Phase) (w : Bytes) → starts ph w ≡ true → 0 < length w
starts_filled idle [] s = absurd (false≢true s)
starts_filled (busy m p) [] s = absurd (false≢true s)
starts_filled ph (b ∷ w) s = omega arith

pub starts_within : (m : Bytes) (p : Part) (w : Bytes) → Good w → starts (busy m p) w ≡ true
starts_within m p [] g = absurd (omega (arith, g.filled))
starts_within m p (b ∷ w) g = refl

-- ---- the bytes of a word

pub good_other : (b : ℕ) → is_good b ≡ true → is_blank b ≡ false
unfolding is_good is_blank
good_other b e =
    let h = leb-true 33 b (and_left (leb 33 b) (leb b 126) e) in
    rw (ne_eqb b 32 (λ q. absurd (omega arith)), lt-leb b 13 (omega arith), and-false)

pub first_byte : (ph : Phase) (b : ℕ) (w : Bytes) → starts ph (b ∷ w) ≡ true → begins ph b ≡ first b
first_byte idle b w e = go (eqb b (byte "#")) (eqb b (byte "!")) e
  where
    go : (x y : Bool) → (not x && not y) ≡ true → cond x (keep comment) (cond y command (first b)) ≡ first b
    go true y e = absurd (false≢true e)
    go false true e = absurd (false≢true e)
    go false false e = refl
first_byte (busy m p) b w e = refl

-- a word is refused for a fault of its own, or taken
pub word_cases : (P : Outcome → Type 0) (r : Settings) (ph : Phase) (w : Bytes) → starts ph w ≡ true → ((n : ℕ) → P (refuse n)) → (Good w → P (taken r ph w)) → P (word r ph w)
unfolding word_fault
word_cases P r ph w s f g =
    cond_cases (λ (n : ℕ). P (unless_fault n (taken r ph w))) (all is_good w)
    (λ good. cond_cases (λ (n : ℕ). P (unless_fault n (taken r ph w))) (leb (length w) 64) (λ short. g (record { filled = starts_filled ph w s; good = good; short = leb-true (length w) 64 short })) (λ long. f 3))
    (λ bad. f 2)

module _ (r : Settings) (b : ℕ) (rest : Bytes) (blank : is_blank b ≡ true) where
  -- what is left of a word, behind its bytes so far
  pub rest_parse : (ph : Phase) (v w : Bytes) → all is_good w ≡ true → parse r (within v) ph (w ++ b ∷ rest) ≡ chain (after (word r ph (v ++ w))) (λ m ph'. parse r m ph' rest)
  unfolding parse all
  rest_parse ph v [] g = rw (blank, append-nil)
  rest_parse ph v (c ∷ w) g =
      rw (good_other c (and_left (is_good c) (all is_good w) g))
      (on_top_nil (parse r (within (v ++ c ∷ [])) ph (w ++ b ∷ rest))
      ∙ rest_parse ph (v ++ c ∷ []) w (and_right (is_good c) (all is_good w) g)
      ∙ ap (λ (x : Bytes). chain (after (word r ph x)) (λ m ph'. parse r m ph' rest)) (append_assoc v (c ∷ []) w))

  -- a whole word
  pub word_parse : (ph : Phase) (w : Bytes) → starts ph w ≡ true → all is_good w ≡ true → parse r gap ph (w ++ b ∷ rest) ≡ chain (after (word r ph w)) (λ m ph'. parse r m ph' rest)
  unfolding parse all
  word_parse ph [] s g = absurd (omega (arith, starts_filled ph [] s))
  word_parse ph (c ∷ w) s g =
      rw (good_other c (and_left (is_good c) (all is_good w) g), first_byte ph c w s)
      (on_top_nil (parse r (within (c ∷ [])) ph (w ++ b ∷ rest)) ∙ rest_parse ph (c ∷ []) w (and_right (is_good c) (all is_good w) g))

  -- a good word is taken
  pub taken_parse : (ph : Phase) (w : Bytes) → starts ph w ≡ true → Good w → parse r gap ph (w ++ b ∷ rest) ≡ chain (after (taken r ph w)) (λ m ph'. parse r m ph' rest)
  taken_parse ph w s g = word_parse ph w s g.good ∙ rw (fault_none w g.good g.short)

  -- a word that opens a statement
  opened : (m : Bytes) → starts idle m ≡ true → Good m → parse r gap idle (m ++ b ∷ rest) ≡ parse r gap (busy m at_type) rest
  opened m s g = taken_parse idle m s g ∙ on_top_nil (parse r gap (busy m at_type) rest)

  -- a word that leads from one part of a statement to another
  leads : (m : Bytes) (p q : Part) (w : Bytes) → Good w → turn r p w ≡ onto q → parse r gap (busy m p) (w ++ b ∷ rest) ≡ parse r gap (busy m q) rest
  leads m p q w g e = taken_parse (busy m p) w (starts_within m p w g) g ∙ rw e (on_top_nil (parse r gap (busy m q) rest))

-- ---- the words of a line

-- a line and what stands behind it
pub line_append : (w : Bytes) (ws : List Bytes) (rest : Bytes) → line w ws ++ rest ≡ w ++ (spaced ws ++ 10 ∷ rest)
line_append w ws rest = append_assoc (w ++ spaced ws) newline rest ∙ append_assoc w (spaced ws) (10 ∷ rest)

module _ (r : Settings) (m : Bytes) (p q : Part) (w : Bytes) (g : Good w) (e : turn r p w ≡ onto q) where
  -- to the next word of the line, or to the next line
  pub to_word : (v : Bytes) (vs : List Bytes) (end : Bytes) → parse r gap (busy m p) (w ++ (spaced (v ∷ vs) ++ end)) ≡ parse r gap (busy m q) (v ++ (spaced vs ++ end))
  unfolding spaced is_blank
  to_word v vs end = leads r 32 ((v ++ spaced vs) ++ end) refl m p q w g e ∙ ap (parse r gap (busy m q)) (append_assoc v (spaced vs) end)

  pub to_line : (rest : Bytes) → parse r gap (busy m p) (w ++ (spaced [] ++ 10 ∷ rest)) ≡ parse r gap (busy m q) rest
  unfolding spaced is_blank
  to_line rest = leads r 10 rest refl m p q w g e

-- a statement's first word
pub from_first : (r : Settings) (m : Bytes) → starts idle m ≡ true → Good m → (v : Bytes) (vs : List Bytes) (end : Bytes) → parse r gap idle (m ++ (spaced (v ∷ vs) ++ end)) ≡ parse r gap (busy m at_type) (v ++ (spaced vs ++ end))
unfolding spaced is_blank
from_first r m s g v vs end = opened r 32 ((v ++ spaced vs) ++ end) refl m s g ∙ ap (parse r gap (busy m at_type)) (append_assoc v (spaced vs) end)

abbrev pub statement : (modifier name : Bytes) → Body → Statement
statement m n b = record { modifier = m; name = n; body = b }

-- a statement's last word
pub to_end : (r : Settings) (m : Bytes) (p : Part) (w n : Bytes) (b : Body) → Good w → turn r p w ≡ ends n b → parse r gap (busy m p) (w ++ (spaced [] ++ newline)) ≡ pass gap idle (statement m n b ∷ [])
unfolding spaced is_blank parse
to_end r m p w n b g e = taken_parse r 10 [] refl (busy m p) w (starts_within m p w g) g ∙ rw e
