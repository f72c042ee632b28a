-- From a primitive's name on the words of the text are the name, the string count, the strings, the two other counts and the numerals.
use mathlib.Core.Bool.{true, false}
use mathlib.Core.List.{List, [], ◌∷◌, ◌++◌, append_assoc, append-nil}
use mathlib.Core.Option.{Option, none, some}
use mathlib.Core.Path.{◌≡◌, refl, ap, sym, ◌∙◌, subst}
use Prim.Native.Nat.{ℕ, zero, suc}
use lib.Ieee.{Float}
use lib.ListN.{length}
use Rattle.laws.proofs.BoolLaws.{cond_elim}
use Rattle.laws.specs.Bytes.{Bytes, same, bytes}
use Rattle.lexer.specs.Class.{is_blank}
use Rattle.numeral.specs.Count.{count_of}
use Rattle.numeral.specs.Numeral.{numeral_of, Answer, value, refusal}
use Rattle.scene.proofs.AcceptLaws.{read_inv}
use Rattle.scene.proofs.KeptLaws.{more, Each, TurnHolds, Kept, run_read}
use Rattle.scene.proofs.PlaceLaws.{Spelt, Spelling, spelling_start, spelt_more, spelling_more, spelling_blank, spelling_first, spelling_within, spelling_spelt}
use Rattle.scene.proofs.WordsLaws.{Spot, between, inside}
use Rattle.scene.specs.HouseRules.{breach}
use Rattle.scene.specs.Phase.{Part, at_type, at_name, at_string_count, at_string, at_integer_count, at_real_count, at_real, at_alias_name, at_target, Turn, typed, strings, string_count, integer_count, reals, real_count, real, turn}
use Rattle.scene.specs.Reading.{Places, note_part, Entry, newline, accepted, read_statements}
use Rattle.scene.specs.declared.Mode.{Mode}
use Rattle.scene.specs.declared.Settings.{Settings}
use Rattle.scene.specs.Statement.{Literal, literal, numbers, numeral_words, Body, primitive, alias, void}
use Rattle.scene.specs.Types.{type_number, strings_allowed, reals_allowed, is_retired}

-- ---- the words of a primitive from its name on

pub numerals_length : (ls : List Literal) → length (numeral_words ls) ≡ length ls
numerals_length [] = refl
numerals_length (l ∷ ls) = ap suc (numerals_length ls)

pub numerals_snoc : (ls : List Literal) (l : Literal) → numeral_words (ls ++ l ∷ []) ≡ numeral_words ls ++ l.word ∷ []
numerals_snoc [] l = refl
numerals_snoc (k ∷ ls) l = ap {B = List Bytes} (λ (z : List Bytes). k.word ∷ z) (numerals_snoc ls l)

-- up to the real count; x, y and z are the counts
abbrev pub head_words : Bytes → List Bytes → (x y z : Bytes) → List Bytes
head_words n ss x y z = n ∷ x ∷ ss ++ y ∷ z ∷ []

-- c has been read, and these words stand in it from k on
pub record PrimitiveRead (c : Bytes) (k : ℕ) (n : Bytes) (ss : List Bytes) (rs : List Literal) : Type 0 where
  pub string_count : Bytes
  pub integer_count : Bytes
  pub real_count : Bytes
  pub words : Spelt c k (head_words n ss string_count integer_count real_count ++ numeral_words rs)

abbrev pub BodyRead : Bytes → Places → Bytes → Body → Type 0
BodyRead c k n (primitive t ss rs) = PrimitiveRead c k.name n ss rs
BodyRead c k n (alias x) = Unit {0}

-- ---- what holds of the open part when c has been read

-- its words so far from the name's place k on, and whether a word is open behind them; x, y and z are the counts
abbrev RealsHeard : Bytes → ℕ → Spot → Bytes → List Bytes → List Literal → Type 0
RealsHeard c k m n ss rs = (x : Bytes) × (y : Bytes) × (z : Bytes) × Spelling c k (head_words n ss x y z ++ numeral_words rs) m

abbrev NameHeard : Bytes → ℕ → Spot → Type 0
NameHeard c k between = Unit {0}
NameHeard c k (inside w) = Spelling c k [] (inside w)

abbrev Heard : Bytes → ℕ → Spot → Part → Type 0
Heard c k m at_type = Unit {0}
Heard c k m (at_name t) = NameHeard c k m
Heard c k m (at_string_count t n) = Spelling c k (n ∷ []) m
Heard c k m (at_string t n ss j) = (x : Bytes) × Spelling c k (n ∷ x ∷ ss) m
Heard c k m (at_integer_count t n ss) = (x : Bytes) × Spelling c k (n ∷ x ∷ ss) m
Heard c k m (at_real_count t n ss) = (x : Bytes) × (y : Bytes) × Spelling c k (n ∷ x ∷ ss ++ y ∷ []) m
Heard c k m (at_real t n ss rs j) = RealsHeard c k m n ss rs
Heard c k m at_alias_name = Unit {0}
Heard c k m (at_target n) = Unit {0}

abbrev GapHeard : Bytes → Places → Part → Type 0
GapHeard c k p = Heard c k.name between p

abbrev WithinHeard : Bytes → Places → Bytes → Part → Type 0
WithinHeard c k w p = Heard c k.name (inside w) p

abbrev TurnHeard : Bytes → Places → Turn → Type 0
TurnHeard c k t = TurnHolds GapHeard BodyRead c k t

-- ---- the words that a part can turn to

module _ (c : Bytes) (k : Places) where
  typed_heard : (m : Mode) (t : ℕ) → TurnHeard c k (typed m t)
  typed_heard m zero = tt
  typed_heard m (suc t) = cond_elim (TurnHeard c k) (is_retired m (suc t)) tt tt

  module _ (t : ℕ) (n : Bytes) where
    strings_heard : (x : Bytes) (j : ℕ) → Spelling c k.name (n ∷ x ∷ []) between → TurnHeard c k (strings t n j)
    strings_heard x zero h = (x, h)
    strings_heard x (suc j) h = (x, h)

    string_count_heard : (x : Bytes) (j : Option ℕ) → Spelling c k.name (n ∷ x ∷ []) between → TurnHeard c k (string_count t n j)
    string_count_heard x none h = tt
    string_count_heard x (some j) h = cond_elim (TurnHeard c k) (strings_allowed t j) (strings_heard x j h) tt

    module _ (ss : List Bytes) where
      integer_count_heard : (x y : Bytes) (j : Option ℕ) → Spelling c k.name (n ∷ x ∷ ss ++ y ∷ []) between → TurnHeard c k (integer_count t n ss j)
      integer_count_heard x y none h = tt
      integer_count_heard x y (some zero) h = (x, y, h)
      integer_count_heard x y (some (suc j)) h = tt

      reals_heard : (rs : List Literal) (j : ℕ) → RealsHeard c k.name between n ss rs → TurnHeard c k (reals t n ss rs j)
      reals_heard rs zero (x, y, z, h) = record { string_count = x; integer_count = y; real_count = z; words = spelling_spelt c k.name (head_words n ss x y z ++ numeral_words rs) between h }
      reals_heard rs (suc j) h = h

      real_count_heard : (j : Option ℕ) → RealsHeard c k.name between n ss [] → TurnHeard c k (real_count t n ss j)
      real_count_heard none h = tt
      real_count_heard (some j) h = cond_elim (TurnHeard c k) (reals_allowed t j) (reals_heard [] j h) tt

      real_heard : (rs : List Literal) (j : ℕ) (w : Bytes) (a : Answer) → ((v : Float) → RealsHeard c k.name between n ss (rs ++ literal w v ∷ [])) → TurnHeard c k (real t n ss rs j w a)
      real_heard rs j w (refusal q) h = tt
      real_heard rs j w (value v) h = cond_elim (TurnHeard c k) (breach t (numbers (rs ++ literal w v ∷ []))) tt (reals_heard (rs ++ literal w v ∷ []) j (h v))

-- ---- one more byte

module _ (c : Bytes) (b : ℕ) where
  body_more : (k : Places) (n : Bytes) (x : Body) → BodyRead c k n x → BodyRead (more c b) k n x
  body_more k n (primitive t ss rs) h = record {
    string_count = h.string_count;
    integer_count = h.integer_count;
    real_count = h.real_count;
    words = spelt_more c b k.name (head_words n ss h.string_count h.integer_count h.real_count ++ numeral_words rs) h.words;
  }
  body_more k n (alias x) h = tt

  -- a step that keeps all words keeps a part's
  part_more : (k : ℕ) (m m' : Spot) → (NameHeard c k m → NameHeard (more c b) k m') → ((ws : List Bytes) → Spelling c k ws m → Spelling (more c b) k ws m') → (p : Part) → Heard c k m p → Heard (more c b) k m' p
  part_more k m m' f g at_type h = tt
  part_more k m m' f g (at_name t) h = f h
  part_more k m m' f g (at_string_count t n) h = g (n ∷ []) h
  part_more k m m' f g (at_string t n ss j) (x, h) = (x, g (n ∷ x ∷ ss) h)
  part_more k m m' f g (at_integer_count t n ss) (x, h) = (x, g (n ∷ x ∷ ss) h)
  part_more k m m' f g (at_real_count t n ss) (x, y, h) = (x, y, g (n ∷ x ∷ ss ++ y ∷ []) h)
  part_more k m m' f g (at_real t n ss rs j) (x, y, z, h) = (x, y, z, g (head_words n ss x y z ++ numeral_words rs) h)
  part_more k m m' f g at_alias_name h = tt
  part_more k m m' f g (at_target n) h = tt

  -- the name's place is noted at the name's first byte, and stays
  part_first : (n₀ : ℕ) (k : Places) (p : Part) → length c ≡ n₀ → is_blank b ≡ false → GapHeard c k p → WithinHeard (more c b) (note_part p n₀ k) (b ∷ []) p
  part_first n₀ k at_type l e h = tt
  part_first n₀ k (at_name t) l e h = spelling_first c b n₀ [] e (spelling_start c n₀ l)
  part_first n₀ k (at_string_count t n) l e h = spelling_first c b k.name (n ∷ []) e h
  part_first n₀ k (at_string t n [] j) l e (x, h) = (x, spelling_first c b k.name (n ∷ x ∷ []) e h)
  part_first n₀ k (at_string t n (s ∷ ss) j) l e (x, h) = (x, spelling_first c b k.name (n ∷ x ∷ s ∷ ss) e h)
  part_first n₀ k (at_integer_count t n ss) l e (x, h) = (x, spelling_first c b k.name (n ∷ x ∷ ss) e h)
  part_first n₀ k (at_real_count t n ss) l e (x, y, h) = (x, y, spelling_first c b k.name (n ∷ x ∷ ss ++ y ∷ []) e h)
  part_first n₀ k (at_real t n ss rs j) l e (x, y, z, h) = (x, y, z, spelling_first c b k.name (head_words n ss x y z ++ numeral_words rs) e h)
  part_first n₀ k at_alias_name l e h = tt
  part_first n₀ k (at_target n) l e h = tt

  -- a word has ended
  module _ (k : Places) (w : Bytes) (e : is_blank b ≡ true) where
    end_more : (ws : List Bytes) → Spelling c k.name ws (inside w) → Spelling (more c b) k.name (ws ++ w ∷ []) between
    end_more ws h = spelling_more c b k.name ws (inside w) true e h

    counts_end : (n : Bytes) (ss : List Bytes) (x y : Bytes) → Spelling c k.name (n ∷ x ∷ ss ++ y ∷ []) (inside w) → RealsHeard (more c b) k.name between n ss []
    counts_end n ss x y h =
        let q : n ∷ x ∷ ss ++ y ∷ [] ++ w ∷ [] ≡ head_words n ss x y w ++ [] = append_assoc (n ∷ x ∷ ss) (y ∷ []) (w ∷ []) ∙ sym (append-nil (head_words n ss x y w)) in
        (x, y, w, subst (λ (l : List Bytes). Spelling (more c b) k.name l between) q (end_more (n ∷ x ∷ ss ++ y ∷ []) h))

    numeral_end : (n : Bytes) (ss : List Bytes) (rs : List Literal) → RealsHeard c k.name (inside w) n ss rs → (v : Float) → RealsHeard (more c b) k.name between n ss (rs ++ literal w v ∷ [])
    numeral_end n ss rs (x, y, z, h) v =
        let u : List Bytes = head_words n ss x y z in
        let q : u ++ numeral_words rs ++ w ∷ [] ≡ u ++ numeral_words (rs ++ literal w v ∷ []) = append_assoc u (numeral_words rs) (w ∷ []) ∙ ap {B = List Bytes} (λ (a : List Bytes). u ++ a) (sym (numerals_snoc rs (literal w v))) in
        (x, y, z, subst (λ (l : List Bytes). Spelling (more c b) k.name l between) q (end_more (u ++ numeral_words rs) h))

    turn_heard : (r : Settings) (p : Part) → WithinHeard c k w p → TurnHeard (more c b) k (turn r p w)
    turn_heard r at_type h = cond_elim (TurnHeard (more c b) k) (same w (bytes "alias")) tt (typed_heard (more c b) k r.mode (type_number w))
    turn_heard r (at_name t) h = cond_elim (TurnHeard (more c b) k) (same w void) tt (end_more [] h)
    turn_heard r (at_string_count t n) h = string_count_heard (more c b) k t n w (count_of w) (end_more (n ∷ []) h)
    turn_heard r (at_string t n ss zero) (x, h) = (x, end_more (n ∷ x ∷ ss) h)
    turn_heard r (at_string t n ss (suc j)) (x, h) = (x, end_more (n ∷ x ∷ ss) h)
    turn_heard r (at_integer_count t n ss) (x, h) = integer_count_heard (more c b) k t n ss x w (count_of w) (end_more (n ∷ x ∷ ss) h)
    turn_heard r (at_real_count t n ss) (x, y, h) = real_count_heard (more c b) k t n ss (count_of w) (counts_end n ss x y h)
    turn_heard r (at_real t n ss rs j) h = real_heard (more c b) k t n ss rs j w (numeral_of w) (numeral_end n ss rs h)
    turn_heard r at_alias_name h = cond_elim (TurnHeard (more c b) k) (same w void) tt tt
    turn_heard r (at_target n) h = tt

kept : (r : Settings) → Kept GapHeard WithinHeard BodyRead r
kept r = record {
  opened = λ c k. tt;
  blank = λ c b k p e h. part_more c b k.name between between (λ z. z) (λ ws s. spelling_blank c b k.name ws e s) p h;
  begun = part_first;
  longer = λ c b k w p e h. part_more c b k.name (inside w) (inside (w ++ b ∷ [])) (λ s. spelling_within c b k.name [] w e s) (λ ws s. spelling_within c b k.name ws w e s) p h;
  turned = λ c b k w p e h. turn_heard c b k w e r p h;
  read = body_more;
}

pub bodies_read : (r : Settings) (text : Bytes) (es : List Entry) → read_statements r text ≡ accepted es → Each BodyRead (text ++ newline) es
bodies_read r text es e =
    let i = (read_inv r text es e).1 in
    subst (Each BodyRead (text ++ newline)) i.3 (run_read GapHeard WithinHeard BodyRead r (kept r) (text ++ newline) i.0 i.1)
