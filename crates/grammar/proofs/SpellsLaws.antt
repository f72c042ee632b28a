-- What a text spells is what it parses as. The machine runs over words first, with no text; then a text runs as its words do.
use mathlib.Core.Bool.{Bool, true, false, false≢true}
use mathlib.Core.List.{List, [], ◌∷◌, ◌++◌, append_assoc, append-nil}
use mathlib.Core.Option.{some}
use mathlib.Core.Path.{◌≡◌, refl, ap, sym, ◌∙◌, subst}
use Prim.Native.Nat.{ℕ, zero, suc, ◌+◌, ◌<◌}
use native.Mathlib.Nat.{add-zero, suc-add, zero-add}
use native.Mathlib.Omega.{arith}
use lib.Dec.{eqb}
use lib.ListN.{length}
use Rattle.grammar.specs.Grammar.{Between, PrimitiveWords, Spells, WordThen, Words, WordsOf, Writes, between, blank, comment, empty, nothing, statement}
use Rattle.grammar.specs.Laws.{OnceLaw}
use Rattle.grammar.specs.Refusal.{Before, Begun, Open}
use Rattle.laws.proofs.BoolLaws.{and_left, and_right, not_true}
use Rattle.laws.specs.Bytes.{Bytes, byte, bytes, same}
use Rattle.laws.specs.Runs.{all}
use Rattle.lexer.specs.Class.{is_blank, is_in_line}
use Rattle.numeral.specs.Count.{count_of}
use Rattle.scene.proofs.BlockLaws.{join}
use Rattle.scene.proofs.SyntaxLaws.{Step, after, chain, on_top, on_top_nil, parse, parse_append, pass}
use Rattle.scene.specs.Phase.{Outcome, Part, Phase, Turn, at_alias_name, at_integer_count, at_name, at_real, at_real_count, at_string, at_string_count, at_target, at_type, busy, done, ends, fault, idle, into, onto, outcome, reals, refuse, taken, turn}
use Rattle.scene.specs.Reading as reading
use Rattle.scene.specs.Reading.{Scan, gap, keep, move, newline}
use Rattle.scene.specs.Statement.{Body, Literal, Statement, alias, numeral_words, primitive}
use Rattle.scene.specs.Types.{reals_allowed, strings_allowed, type_name}
use Rattle.scene.specs.declared.Settings.{Settings}
use Rattle.tidying.proofs.StatementLaws.{type_word, typed_onto}
use Rattle.tidying.proofs.WordLaws.{starts_within, taken_parse}
use Rattle.tidying.specs.Proper.{Literals, Modifier, Name, Partly, ProperBody, Strings, TypeIn, starts}

-- ---- turns

-- a turn, and behind it those of other words; behind a statement's end there are none
abbrev follow : Turn → List Bytes → (Part → Turn) → Turn
follow (fault n) ws k = fault n
follow (onto p) ws k = k p
follow (ends n b) [] k = ends n b
follow (ends n b) (w ∷ ws) k = fault 0

follow_nil : (τ : Turn) → follow τ [] onto ≡ τ
follow_nil (fault n) = refl
follow_nil (onto p) = refl
follow_nil (ends n b) = refl

abbrev Passes : Turn → Type 0
Passes (fault n) = ⊥
Passes (onto p) = Unit {0}
Passes (ends n b) = Unit {0}

-- the part at which so many more strings are to come
abbrev strings_to : ℕ → Bytes → List Bytes → ℕ → Part
strings_to t n ss zero = at_integer_count t n ss
strings_to t n ss (suc k) = at_string t n ss k

module _ (r : Settings) where
  -- what the words of one statement make of a part
  unfoldable turns : Part → List Bytes → Turn
  turns p [] = onto p
  turns p (w ∷ ws) = follow (turn r p w) ws (λ q. turns q ws)

  -- ---- the words of a primitive

  type_turn : (t : ℕ) (ws : List Bytes) → TypeIn r.mode t → turns at_type (type_name t ∷ ws) ≡ turns (at_name t) ws
  unfolding turns
  type_turn t ws h =
      let w = type_word t h.0 in
      rw (w.other, w.number, typed_onto r.mode t h)

  name_turn : (t : ℕ) (n : Bytes) (ws : List Bytes) → Name n → turns (at_name t) (n ∷ ws) ≡ turns (at_string_count t n) ws
  unfolding turns
  name_turn t n ws h = rw h.1

  string_count_turn : (t : ℕ) (n c : Bytes) (k : ℕ) (ws : List Bytes) → count_of c ≡ some k → strings_allowed t k ≡ true → turns (at_string_count t n) (c ∷ ws) ≡ turns (strings_to t n [] k) ws
  unfolding turns
  string_count_turn t n c zero ws e a = rw (e, a)
  string_count_turn t n c (suc k) ws e a = rw (e, a)

  string_turn : (t : ℕ) (n : Bytes) (ss : List Bytes) (k : ℕ) (w : Bytes) → turn r (at_string t n ss k) w ≡ onto (strings_to t n (ss ++ w ∷ []) k)
  string_turn t n ss zero w = refl
  string_turn t n ss (suc k) w = refl

  string_turns : (t : ℕ) (n : Bytes) (before ss : List Bytes) (k : ℕ) (ws : List Bytes) → turns (strings_to t n before (length ss + k)) (ss ++ ws) ≡ turns (strings_to t n (before ++ ss) k) ws
  unfolding turns
  string_turns t n before [] k ws = rw (zero-add, append-nil)
  string_turns t n before (s ∷ ss) k ws =
      rw (suc-add (length ss) k, string_turn t n before (length ss + k) s)
      (string_turns t n (before ++ s ∷ []) ss k ws ∙ ap (λ (x : List Bytes). turns (strings_to t n x k) ws) (append_assoc before (s ∷ []) ss))

  integer_count_turn : (t : ℕ) (n : Bytes) (ss : List Bytes) (c : Bytes) (ws : List Bytes) → count_of c ≡ some 0 → turns (at_integer_count t n ss) (c ∷ ws) ≡ turns (at_real_count t n ss) ws
  unfolding turns
  integer_count_turn t n ss c ws e = rw e

  real_turns : (t : ℕ) (n : Bytes) (ss : List Bytes) (before rs : List Literal) (k : ℕ) → Literals t before rs → follow (reals t n ss before (length rs + k)) (numeral_words rs) (λ p. turns p (numeral_words rs)) ≡ reals t n ss (before ++ rs) k
  unfolding turns
  real_turns t n ss before [] k h = rw (zero-add, append-nil) (follow_nil (reals t n ss before k))
  real_turns t n ss before (l ∷ ls) k h =
      rw (suc-add (length ls) k, h.1, h.2)
      (real_turns t n ss (before ++ l ∷ []) ls k h.3 ∙ ap (λ (x : List Literal). reals t n ss x k) (append_assoc before (l ∷ []) ls))

  real_count_turn : (t : ℕ) (n : Bytes) (ss : List Bytes) (c : Bytes) (rs : List Literal) (k : ℕ) → count_of c ≡ some (length rs + k) → reals_allowed t (length rs + k) ≡ true → Literals t [] rs → turns (at_real_count t n ss) (c ∷ numeral_words rs) ≡ reals t n ss rs k
  unfolding turns
  real_count_turn t n ss c rs k e a h = rw (e, a) (real_turns t n ss [] rs k h)

  -- up to the first strings, where more are to come
  first_strings : (t : ℕ) (n c : Bytes) (ss : List Bytes) (k : ℕ) (ws : List Bytes) → TypeIn r.mode t → Name n → count_of c ≡ some (length ss + k) → strings_allowed t (length ss + k) ≡ true
      → turns at_type (type_name t ∷ n ∷ c ∷ ss ++ ws) ≡ turns (strings_to t n ss k) ws
  first_strings t n c ss k ws h a e l =
      type_turn t (n ∷ c ∷ ss ++ ws) h
      ∙ name_turn t n (c ∷ ss ++ ws) a
      ∙ string_count_turn t n c (length ss + k) (ss ++ ws) e l
      ∙ string_turns t n [] ss k ws

  all_strings : (t : ℕ) (n c : Bytes) (ss : List Bytes) (ws : List Bytes) → TypeIn r.mode t → Name n → count_of c ≡ some (length ss) → Strings t ss → turns at_type (type_name t ∷ n ∷ c ∷ ss ++ ws) ≡ turns (at_integer_count t n ss) ws
  all_strings t n c ss ws h a e s = first_strings t n c ss 0 ws h a (rw add-zero e) (rw add-zero s.allowed)

  -- ---- the words of a statement, whole or open

  -- a modifier and words behind it that make a turn
  record Makes (m : Bytes) (ws : List Bytes) (τ : Turn) : Type 0 where
    modifier : Modifier m
    tail : List Bytes
    split : ws ≡ m ∷ tail
    makes : turns at_type tail ≡ τ

  primitive_makes : (m n : Bytes) (t : ℕ) (ss : List Bytes) (rs : List Literal) (k : ℕ) (ws : List Bytes) → PrimitiveWords m n t ss rs (length rs + k) ws → Modifier m → TypeIn r.mode t → Name n → Strings t ss → reals_allowed t (length rs + k) ≡ true → Literals t [] rs → Makes m ws (reals t n ss rs k)
  primitive_makes m n t ss rs k ws w o h a s l f =
      let ending = w.integer_count ∷ w.real_count ∷ numeral_words rs in
      record {
        modifier = o;
        tail = type_name t ∷ n ∷ w.string_count ∷ ss ++ ending;
        split = w.words;
        makes =
            all_strings t n w.string_count ss ending h a w.many_strings s
            ∙ integer_count_turn t n ss w.integer_count (w.real_count ∷ numeral_words rs) w.no_integers
            ∙ real_count_turn t n ss w.real_count rs k w.many_reals l f;
      }

  body_makes : (m n : Bytes) (b : Body) (ws : List Bytes) → WordsOf m n b ws → Modifier m → Name n → ProperBody r.mode b → Makes m ws (ends n b)
  unfolding turns same
  body_makes m n (primitive t ss rs) ws w o a h = primitive_makes m n t ss rs 0 ws (rw add-zero w) o h.0 a h.1 (rw add-zero h.2.allowed) h.2.literals
  body_makes m n (alias x) ws w o a h = record { modifier = o; tail = bytes "alias" ∷ n ∷ x ∷ []; split = w; makes = rw a.1 }

  part_makes : (m : Bytes) (p : Part) (ws : List Bytes) → Partly r.mode m p → Before m p ws → Makes m ws (onto p)
  unfolding turns same
  part_makes m at_type ws h w = record { modifier = h; tail = []; split = w; makes = refl }
  part_makes m (at_name t) ws h w = record { modifier = h.0; tail = type_name t ∷ []; split = w; makes = type_turn t [] h.1 }
  part_makes m (at_string_count t n) ws h w = record { modifier = h.0; tail = type_name t ∷ n ∷ []; split = w; makes = type_turn t (n ∷ []) h.1 ∙ name_turn t n [] h.2 }
  part_makes m (at_string t n ss k) ws h w = record { modifier = h.0; tail = type_name t ∷ n ∷ w.0 ∷ ss ++ []; split = rw append-nil w.2; makes = first_strings t n w.0 ss (suc k) [] h.1 h.2 w.1 h.3 }
  part_makes m (at_integer_count t n ss) ws h w = record { modifier = h.0; tail = type_name t ∷ n ∷ w.0 ∷ ss ++ []; split = rw append-nil w.2; makes = all_strings t n w.0 ss [] h.1 h.2 w.1 h.3 }
  part_makes m (at_real_count t n ss) ws h w =
      record {
        modifier = h.0;
        tail = type_name t ∷ n ∷ w.0 ∷ ss ++ w.1 ∷ [];
        split = w.4;
        makes = all_strings t n w.0 ss (w.1 ∷ []) h.1 h.2 w.2 h.3 ∙ integer_count_turn t n ss w.1 [] w.3;
      }
  part_makes m (at_real t n ss rs k) ws h w = primitive_makes m n t ss rs (suc k) ws w h.0 h.1 h.2 h.3 h.4 h.6
  part_makes m at_alias_name ws h w = record { modifier = h; tail = bytes "alias" ∷ []; split = w; makes = refl }
  part_makes m (at_target n) ws h w = record { modifier = h.0; tail = bytes "alias" ∷ n ∷ []; split = w; makes = rw h.1.1 }

  -- ---- a text runs as its words do

  -- bytes that change nothing, as those of a comment's line
  kept_parse : (test : ℕ → Bool) (m : Scan) (ph : Phase) → ((b : ℕ) → test b ≡ true → move m ph b ≡ keep m) → (bs rest : Bytes) → all test bs ≡ true → parse r m ph (bs ++ rest) ≡ parse r m ph rest
  unfolding parse all
  kept_parse test m ph k [] rest h = refl
  kept_parse test m ph k (b ∷ bs) rest h =
      rw (k b (and_left (test b) (all test bs) h))
      (on_top_nil (parse r m ph (bs ++ rest)) ∙ kept_parse test m ph k bs rest (and_right (test b) (all test bs) h))

  -- c: whether comments may stand there, which is where no statement is open
  between_parse : (c : Bool) (ph : Phase) → (c ≡ true → ph ≡ idle) → (bs rest : Bytes) → Between c bs → parse r gap ph (bs ++ rest) ≡ parse r gap ph rest
  unfolding parse is_blank is_in_line
  between_parse c ph f bs rest empty = refl
  between_parse c ph f bs rest (blank {t = u} b e h) = rw e (on_top_nil (parse r gap ph (u ++ rest)) ∙ between_parse c ph f u rest h)
  between_parse c ph f bs rest (comment {t = u} line z e h) =
      let tail = u ++ rest in
      ap (λ (x : Phase). parse r gap x (byte "#" ∷ line ++ newline ++ u ++ rest)) (f z)
      ∙ ap (parse r gap idle) (append_assoc (byte "#" ∷ line ++ newline) u rest ∙ append_assoc (byte "#" ∷ line) newline tail)
      ∙ on_top_nil (parse r reading.comment idle (line ++ 10 ∷ tail))
      ∙ kept_parse is_in_line reading.comment idle (λ b e. rw (not_true (eqb b 10) e)) line (10 ∷ tail) e
      ∙ on_top_nil (parse r gap idle tail)
      ∙ ap (λ (x : Phase). parse r gap x tail) (sym (f z))
      ∙ between_parse c ph f u rest h

  blanks_parse : (ph : Phase) (bs rest : Bytes) → Between false bs → parse r gap ph (bs ++ rest) ≡ parse r gap ph rest
  blanks_parse ph = between_parse false ph (λ z. absurd (false≢true z))

  blanks_after : (o : Outcome) (bs rest : Bytes) → Between false bs → chain (after o) (λ m ph. parse r m ph (bs ++ rest)) ≡ chain (after o) (λ m ph. parse r m ph rest)
  blanks_after (refuse n) bs rest h = refl
  blanks_after (into ph) bs rest h = ap (on_top []) (blanks_parse ph bs rest h)
  blanks_after (done s) bs rest h = ap (on_top (s ∷ [])) (blanks_parse idle bs rest h)

  word_then_parse : (ph : Phase) (w : Bytes) (Behind : Bytes → Type 0) (t : Bytes) (h : WordThen w Behind t) → starts ph w ≡ true → parse r gap ph t ≡ chain (after (taken r ph w)) (λ m ph'. parse r m ph' h.rest)
  word_then_parse ph w Behind t h s = ap (parse r gap ph) h.split ∙ go h.gap h.some h.between
    where
      go : (bs : Bytes) → 0 < length bs → Between false bs → parse r gap ph (w ++ (bs ++ h.rest)) ≡ chain (after (taken r ph w)) (λ m ph'. parse r m ph' h.rest)
      go bs l empty = absurd (omega arith)
      go bs l (comment line z e k) = absurd (false≢true z)
      go bs l (blank {t = u} b e k) = taken_parse r b (u ++ h.rest) e ph w s h.good ∙ blanks_after (taken r ph w) u h.rest k

  turns_parse : (m : Bytes) (p : Part) (ws : List Bytes) (own : Bytes) → Words ws own → Passes (turns p ws) → parse r gap (busy m p) own ≡ after (outcome m (turns p ws))
  unfolding parse turns
  turns_parse m p [] own h k = ap (parse r gap (busy m p)) h
  turns_parse m p (w ∷ ws) own h k =
      word_then_parse (busy m p) w (Words ws) own h (starts_within m p w h.good)
      ∙ go ws (λ q. turns_parse m q ws h.rest h.behind) (turn r p w) h.behind k
    where
      go : (vs : List Bytes) → ((q : Part) → Passes (turns q vs) → parse r gap (busy m q) h.rest ≡ after (outcome m (turns q vs)))
          → (τ : Turn) → Words vs h.rest → Passes (follow τ vs (λ q. turns q vs)) → chain (after (outcome m τ)) (λ m' ph. parse r m' ph h.rest) ≡ after (outcome m (follow τ vs (λ q. turns q vs)))
      go vs ih (fault n) e k = refl
      go vs ih (onto q) e k = on_top_nil (parse r gap (busy m q) h.rest) ∙ ih q k
      go [] ih (ends n b) e k = ap (λ (t : Bytes). chain (after (outcome m (ends n b))) (λ m' ph. parse r m' ph t)) e
      go (v ∷ vs) ih (ends n b) e k = absurd k

  makes_parse : (m : Bytes) (ws : List Bytes) (own : Bytes) (τ : Turn) → Makes m ws τ → Passes τ → Words ws own → parse r gap idle own ≡ after (outcome m τ)
  makes_parse m ws own τ c k h =
      let g : Words (m ∷ c.tail) own = subst (λ (x : List Bytes). Words x own) c.split h in
      word_then_parse idle m (Words c.tail) own g c.modifier.1
      ∙ on_top_nil (parse r gap (busy m at_type) g.rest)
      ∙ turns_parse m at_type c.tail g.rest g.behind (subst Passes (sym c.makes) k)
      ∙ ap (λ (x : Turn). after (outcome m x)) c.makes

-- the words of an open statement leave the machine at the phase they say
pub open_parse : (r : Settings) (ph : Phase) (ws : List Bytes) (own : Bytes) → Open r.mode ph ws → Words ws own → parse r gap idle own ≡ pass gap ph []
unfolding parse
open_parse r idle ws own o h = ap (parse r gap idle) (subst (λ (x : List Bytes). Words x own) o h)
open_parse r (busy m p) ws own o h = makes_parse r m ws own (onto p) (part_makes r m p ws o.0 o.1) tt h

pub writes_parse : (r : Settings) (s : Statement) (ws : List Bytes) (own : Bytes) → Writes r.mode s ws → Words ws own → parse r gap idle own ≡ pass gap idle (s ∷ [])
writes_parse r s ws own w h =
    let p = w.proper in
    makes_parse r s.modifier ws own (ends s.name s.body) (body_makes r s.modifier s.name s.body ws w.words p.modifier p.name p.body) tt h

-- ---- whole texts

-- what a text spells is what it parses as
pub spells_parse : (r : Settings) (d : List Statement) (t : Bytes) → Spells r.mode d t → parse r gap idle t ≡ pass gap idle d
unfolding parse
spells_parse r d t nothing = refl
spells_parse r d t (between {t = above} own k h) =
    join r above own d [] (spells_parse r d above h) (ap (parse r gap idle) (sym (append-nil own)) ∙ between_parse r true idle (λ z. refl) own [] k)
spells_parse r d t (statement {d = earlier} {t = above} s ws own w k h) = join r above own earlier (s ∷ []) (spells_parse r earlier above h) (writes_parse r s ws own w k)

pub begun_parse : (r : Settings) (d : List Statement) (ph : Phase) (t : Bytes) → Begun r.mode d ph t → parse r gap idle t ≡ pass gap ph d
begun_parse r d ph t b =
    ap (parse r gap idle) b.split
    ∙ parse_append r gap idle b.above b.own
    ∙ ap (λ (s : Step). chain s (λ m ph'. parse r m ph' b.own)) (spells_parse r d b.above b.spells)
    ∙ ap (on_top d) (open_parse r ph b.words b.own b.opened b.spelt)

-- no text spells two lists
pub spelt_once : OnceLaw
spelt_once r text d e h k = cc (spells_parse r d (text ++ newline) h, spells_parse r e (text ++ newline) k)
