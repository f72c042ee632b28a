-- What has been read of a text is what it spells: the statements, and behind them the words of an open one.
use mathlib.Core.Bool.{Bool, true, false, cond}
use mathlib.Core.List.{List, [], ◌∷◌, ◌++◌, append_assoc, append-nil}
use mathlib.Core.Path.{◌≡◌, refl, ap, sym, ◌∙◌, subst}
use Prim.Native.Nat.{ℕ}
use native.Mathlib.Omega.{arith}
use borrow.Author.Tests.{eqb-true}
use lib.Dec.{eqb}
use lib.ListN.{length-append}
use Rattle.grammar.proofs.WordLaws.{Goes, word_goes}
use Rattle.grammar.specs.Grammar.{Between, Spells, Words, between, blank, comment as remark, empty, nothing, statement}
use Rattle.grammar.specs.Refusal.{Before, Begun}
use Rattle.laws.specs.Bytes.{Bytes, byte}
use Rattle.laws.specs.Runs.{all}
use Rattle.lexer.specs.Class.{is_blank, is_in_line, is_other}
use Rattle.scene.proofs.SyntaxLaws.{Step, after, chain, halt, on_top, parse, pass, step}
use Rattle.scene.specs.Phase.{Outcome, Part, Phase, at_alias_name, at_integer_count, at_name, at_real, at_real_count, at_string, at_string_count, at_target, at_type, busy, done, idle, into, refuse, taken, word}
use Rattle.scene.specs.Reading.{Scan, begins, command, comment, ended, first, gap, keep, move, newline, within}
use Rattle.scene.specs.Statement.{Statement}
use Rattle.scene.specs.declared.Mode.{Mode}
use Rattle.scene.specs.declared.Settings.{Settings}
use Rattle.tidying.proofs.CountLaws.{all_snoc}
use Rattle.tidying.proofs.ProperLaws.{starts_snoc}
use Rattle.tidying.proofs.WordLaws.{word_cases}
use Rattle.tidying.specs.Proper.{Good, starts}

-- ---- what stands where the machine is

pub record InComment (mode : Mode) (d : List Statement) (t : Bytes) : Type 0 where
  pub above : Bytes
  pub line : Bytes
  pub split : t ≡ above ++ byte "#" ∷ line
  pub in_line : all is_in_line line ≡ true
  pub spells : Spells mode d above

pub record InWord (mode : Mode) (d : List Statement) (ph : Phase) (w t : Bytes) : Type 0 where
  pub before : Bytes
  pub split : t ≡ before ++ w
  pub begun : Begun mode d ph before
  pub begins : starts ph w ≡ true
  pub others : all is_other w ≡ true

abbrev pub Stands : Mode → List Statement → Scan → Phase → Bytes → Type 0
Stands mode d gap ph t = Begun mode d ph t
Stands mode d comment idle t = InComment mode d t
Stands mode d comment (busy m p) t = ⊥
Stands mode d (within w) ph t = InWord mode d ph w t

-- ---- words that grow

snoc_assoc : (x y : Bytes) (b : ℕ) → x ++ y ++ b ∷ [] ≡ x ++ (y ++ b ∷ [])
snoc_assoc x y b = append_assoc x y (b ∷ [])

between_blank : (c : Bool) (b : ℕ) → is_blank b ≡ true → (t : Bytes) → Between c t → Between c (t ++ b ∷ [])
between_blank c b e t empty = blank b e empty
between_blank c b e t (blank {t = u} a f h) = blank a f (between_blank c b e u h)
between_blank c b e t (remark {t = u} line z f h) = subst (Between c) (sym (snoc_assoc (byte "#" ∷ line ++ newline) u b)) (remark line z f (between_blank c b e u h))

words_blank : (b : ℕ) → is_blank b ≡ true → (w : Bytes) (ws : List Bytes) (t : Bytes) → Words (w ∷ ws) t → Words (w ∷ ws) (t ++ b ∷ [])
words_blank b e w [] t h =
    record {
      gap = h.gap ++ b ∷ [];
      rest = [];
      split = ap {B = Bytes} (λ (x : Bytes). x ++ b ∷ []) (h.split ∙ ap {B = Bytes} (λ (x : Bytes). w ++ (h.gap ++ x)) h.behind ∙ ap {B = Bytes} (λ (x : Bytes). w ++ x) (append-nil h.gap)) ∙ snoc_assoc w h.gap b ∙ ap {B = Bytes} (λ (x : Bytes). w ++ x) (sym (append-nil (h.gap ++ b ∷ [])));
      good = h.good;
      some = (let l = length-append h.gap (b ∷ []) in omega arith);
      between = between_blank false b e h.gap h.between;
      behind = refl;
    }
words_blank b e w (v ∷ ws) t h =
    record {
      gap = h.gap;
      rest = h.rest ++ b ∷ [];
      split = ap {B = Bytes} (λ (x : Bytes). x ++ b ∷ []) h.split ∙ snoc_assoc w (h.gap ++ h.rest) b ∙ ap {B = Bytes} (λ (x : Bytes). w ++ x) (snoc_assoc h.gap h.rest b);
      good = h.good;
      some = h.some;
      between = h.between;
      behind = words_blank b e v ws h.rest h.behind;
    }

words_word : (w : Bytes) (b : ℕ) → Good w → is_blank b ≡ true → (ws : List Bytes) (t : Bytes) → Words ws t → Words (ws ++ w ∷ []) (t ++ (w ++ b ∷ []))
unfolding all
words_word w b g e [] t h = record { gap = b ∷ []; rest = []; split = ap {B = Bytes} (λ (x : Bytes). x ++ (w ++ b ∷ [])) h; good = g; some = omega arith; between = blank b e empty; behind = refl }
words_word w b g e (v ∷ ws) t h =
    record {
      gap = h.gap;
      rest = h.rest ++ (w ++ b ∷ []);
      split = ap {B = Bytes} (λ (x : Bytes). x ++ (w ++ b ∷ [])) h.split ∙ append_assoc v (h.gap ++ h.rest) (w ++ b ∷ []) ∙ ap {B = Bytes} (λ (x : Bytes). v ++ x) (append_assoc h.gap h.rest (w ++ b ∷ []));
      good = h.good;
      some = h.some;
      between = h.between;
      behind = words_word w b g e ws h.rest h.behind;
    }

-- ---- where a statement may begin, and where one is open

begun_idle : (mode : Mode) (d : List Statement) (t : Bytes) → Spells mode d t → Begun mode d idle t
begun_idle mode d t h = record { above = t; own = []; words = []; split = sym (append-nil t); spells = h; spelt = refl; opened = refl }

pub idle_spells : (mode : Mode) (d : List Statement) (t : Bytes) → Begun mode d idle t → Spells mode d t
idle_spells mode d t h =
    let none : h.own ≡ [] = subst (λ (ws : List Bytes). Words ws h.own) h.opened h.spelt in
    subst (Spells mode d) (sym (h.split ∙ ap {B = Bytes} (λ (x : Bytes). h.above ++ x) none ∙ append-nil h.above)) h.spells

-- an open statement has a word
before_filled : (m : Bytes) (p : Part) (ws : List Bytes) → Before m p ws → (vs : List Bytes) × (ws ≡ m ∷ vs)
before_filled m at_type ws h = (_, h)
before_filled m (at_name t) ws h = (_, h)
before_filled m (at_string_count t n) ws h = (_, h)
before_filled m (at_string t n ss k) ws h = (_, h.2)
before_filled m (at_integer_count t n ss) ws h = (_, h.2)
before_filled m (at_real_count t n ss) ws h = (_, h.4)
before_filled m (at_real t n ss rs k) ws h = (_, h.words)
before_filled m at_alias_name ws h = (_, h)
before_filled m (at_target n) ws h = (_, h)

-- ---- one more byte

module _ (r : Settings) (d : List Statement) (t : Bytes) (b : ℕ) where
  abbrev more : Bytes
  more = t ++ b ∷ []

  abbrev OfStep : Step → Type 0
  OfStep halt = Unit {0}
  OfStep (pass m ph l) = Stands r.mode (l ++ d) m ph more

  gap_blank : (ph : Phase) → is_blank b ≡ true → Begun r.mode d ph t → Begun r.mode d ph more
  gap_blank idle e h = begun_idle r.mode d more (between (b ∷ []) (blank b e empty) (idle_spells r.mode d t h))
  gap_blank (busy m p) e h =
      let f = before_filled m p h.words h.opened.1 in
      record {
        above = h.above;
        own = h.own ++ b ∷ [];
        words = h.words;
        split = ap {B = Bytes} (λ (x : Bytes). x ++ b ∷ []) h.split ∙ snoc_assoc h.above h.own b;
        spells = h.spells;
        spelt = subst (λ (ws : List Bytes). Words ws (h.own ++ b ∷ [])) (sym f.1) (words_blank b e m f.0 h.own (subst (λ (ws : List Bytes). Words ws h.own) f.1 h.spelt));
        opened = h.opened;
      }

  word_begins : (ph : Phase) → is_blank b ≡ false → starts ph (b ∷ []) ≡ true → Begun r.mode d ph t → InWord r.mode d ph (b ∷ []) more
  unfolding all is_other
  word_begins ph e s h = record { before = t; split = refl; begun = h; begins = s; others = rw e }

  gap_begins : (ph : Phase) → is_blank b ≡ false → Begun r.mode d ph t → OfStep (step r ph (begins ph b))
  unfolding all
  gap_begins idle e h = go (eqb b (byte "#")) (eqb b (byte "!")) refl refl
    where
      go : (x y : Bool) → eqb b (byte "#") ≡ x → eqb b (byte "!") ≡ y → OfStep (step r idle (cond x (keep comment) (cond y command (first b))))
      go true y p q = record { above = t; line = []; split = ap {B = Bytes} (λ (n : ℕ). t ++ n ∷ []) (eqb-true b (byte "#") p); in_line = refl; spells = idle_spells r.mode d t h }
      go false true p q = tt
      go false false p q = word_begins idle e (rw (p, q)) h
  gap_begins (busy m p) e h = word_begins (busy m p) e refl h

  -- a word that is taken has no fault of its own
  abbrev Sane : Bytes → Outcome → Type 0
  Sane w (refuse n) = Unit {0}
  Sane w (into ph) = Good w
  Sane w (done s) = Good w

  word_sane : (ph : Phase) (w : Bytes) → starts ph w ≡ true → Sane w (word r ph w)
  word_sane ph w s = word_cases (Sane w) r ph w s (λ n. tt) (λ g. any g (taken r ph w))
    where
      any : Good w → (o : Outcome) → Sane w o
      any g (refuse n) = tt
      any g (into ph) = g
      any g (done s) = g

  word_ends : (ph : Phase) (w : Bytes) → is_blank b ≡ true → InWord r.mode d ph w t → OfStep (after (word r ph w))
  word_ends ph w e h = go (word r ph w) (word_sane ph w h.begins) (word_goes r ph g.words w h.begins g.opened)
    where
      g : Begun r.mode d ph h.before
      g = h.begun

      own : Bytes
      own = g.own ++ (w ++ b ∷ [])

      whole : more ≡ g.above ++ own
      whole = ap {B = Bytes} (λ (x : Bytes). x ++ b ∷ []) h.split ∙ snoc_assoc h.before w b ∙ ap {B = Bytes} (λ (x : Bytes). x ++ (w ++ b ∷ [])) g.split ∙ append_assoc g.above g.own (w ++ b ∷ [])

      go : (o : Outcome) → Sane w o → Goes r.mode g.words w o → OfStep (after o)
      go (refuse n) s k = tt
      go (into ph') s k = record { above = g.above; own = own; words = g.words ++ w ∷ []; split = whole; spells = g.spells; spelt = words_word w b s e g.words g.own g.spelt; opened = k }
      go (done x) s k = begun_idle r.mode (x ∷ d) more (subst (Spells r.mode (x ∷ d)) (sym whole) (statement x (g.words ++ w ∷ []) own k (words_word w b s e g.words g.own g.spelt) g.spells))

  byte_stands : (m : Scan) (ph : Phase) → Stands r.mode d m ph t → OfStep (step r ph (move m ph b))
  unfolding is_in_line is_other
  byte_stands gap ph h = go (is_blank b) refl
    where
      go : (x : Bool) → is_blank b ≡ x → OfStep (step r ph (cond x (keep gap) (begins ph b)))
      go true e = gap_blank ph e h
      go false e = gap_begins ph e h
  byte_stands comment (busy m p) h = absurd h
  byte_stands comment idle h = go (eqb b 10) refl
    where
      a_comment : Between true (byte "#" ∷ h.line ++ newline)
      a_comment = subst (Between true) (append-nil (byte "#" ∷ h.line ++ newline)) (remark h.line refl h.in_line empty)

      go : (x : Bool) → eqb b 10 ≡ x → OfStep (step r idle (cond x (keep gap) (keep comment)))
      go true e =
          begun_idle r.mode d more
          (subst (Spells r.mode d) (sym ((λ i. h.split i ++ eqb-true b 10 e i ∷ []) ∙ append_assoc h.above (byte "#" ∷ h.line) newline)) (between (byte "#" ∷ h.line ++ newline) a_comment h.spells))
      go false e = record { above = h.above; line = h.line ++ b ∷ []; split = ap {B = Bytes} (λ (x : Bytes). x ++ b ∷ []) h.split ∙ snoc_assoc h.above (byte "#" ∷ h.line) b; in_line = all_snoc is_in_line h.line b h.in_line (rw e); spells = h.spells }
  byte_stands (within w) ph h = go (is_blank b) refl
    where
      go : (x : Bool) → is_blank b ≡ x → OfStep (step r ph (cond x (ended w) (keep (within (w ++ b ∷ [])))))
      go true e = word_ends ph w e h
      go false e = record { before = h.before; split = ap {B = Bytes} (λ (x : Bytes). x ++ b ∷ []) h.split ∙ snoc_assoc h.before w b; begun = h.begun; begins = starts_snoc r ph w b h.begins; others = all_snoc is_other w b h.others (rw e) }

-- ---- a whole text

abbrev OfText : Mode → List Statement → Bytes → Step → Type 0
OfText mode d t halt = Unit {0}
OfText mode d t (pass m ph l) = Stands mode (l ++ d) m ph t

on_top_text : (mode : Mode) (d l : List Statement) (t : Bytes) (s : Step) → OfText mode (l ++ d) t s → OfText mode d t (on_top l s)
on_top_text mode d l t halt h = tt
on_top_text mode d l t (pass m ph k) h = subst (λ (x : List Statement). Stands mode x m ph t) (sym (append_assoc k l d)) h

text_stands : (r : Settings) (u : Bytes) (d : List Statement) (m : Scan) (ph : Phase) (t : Bytes) → Stands r.mode d m ph t → OfText r.mode d (t ++ u) (parse r m ph u)
unfolding parse
text_stands r [] d m ph t h = subst (Stands r.mode d m ph) (sym (append-nil t)) h
text_stands r (b ∷ u) d m ph t h = go (step r ph (move m ph b)) (byte_stands r d t b m ph h) (λ d m ph. text_stands r u d m ph (t ++ b ∷ []))
  where
    go : (s : Step) → OfStep r d t b s → ((d : List Statement) (m : Scan) (ph : Phase) → Stands r.mode d m ph (t ++ b ∷ []) → OfText r.mode d (t ++ b ∷ [] ++ u) (parse r m ph u)) → OfText r.mode d (t ++ b ∷ u) (chain s (λ m ph. parse r m ph u))
    go halt h ih = tt
    go (pass m ph l) h ih = on_top_text r.mode d l (t ++ b ∷ u) (parse r m ph u) (subst (λ (x : Bytes). OfText r.mode (l ++ d) x (parse r m ph u)) (append_assoc t (b ∷ []) u) (ih (l ++ d) m ph h))

pub parse_stands : (r : Settings) (t : Bytes) (m : Scan) (ph : Phase) (d : List Statement) → parse r gap idle t ≡ pass m ph d → Stands r.mode d m ph t
parse_stands r t m ph d e = subst (λ (x : List Statement). Stands r.mode x m ph t) (append-nil d) (subst (OfText r.mode [] t) e (text_stands r t [] gap idle [] (begun_idle r.mode [] [] nothing)))
