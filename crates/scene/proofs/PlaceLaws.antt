-- What the places say is in the text: the name stands at its place, and the strings are the words from their place on.
use mathlib.Core.Bool.{Bool, true, false}
use mathlib.Core.List.{List, [], ◌∷◌, ◌++◌, append_assoc, append-nil}
use mathlib.Core.Option.{Option, none, some}
use mathlib.Core.Path.{◌≡◌, refl, ap, sym, ◌∙◌, subst}
use Prim.Native.Nat.{ℕ, zero, suc, ◌+◌, ◌<◌}
use native.Mathlib.Omega.{arith}
use lib.ListN.{length, length-append, take, drop}
use lib.Seq.{take-append_seam, drop-append_seam}
use Rattle.laws.proofs.BoolLaws.{cond_elim}
use Rattle.laws.specs.Bytes.{Bytes, same, bytes}
use Rattle.lexer.specs.Class.{is_blank}
use Rattle.numeral.specs.Count.{count_of}
use Rattle.numeral.specs.Numeral.{numeral_of, Answer, value, refusal}
use Rattle.scene.proofs.EdgeLaws.{part_noted}
use Rattle.scene.proofs.KeptLaws.{more, more_length, snoc, Each, each_more, TurnHolds, Kept, run_read}
use Rattle.scene.proofs.WordsLaws.{Spot, between, words_step, words_in, words_from_lem}
use Rattle.scene.specs.HouseRules.{breach}
use Rattle.scene.specs.Links.{strings_in}
use Rattle.scene.specs.Phase.{Part, at_type, at_name, at_string_count, at_string, at_integer_count, at_real_count, at_real, at_alias_name, at_target, Turn, typed, strings, string_count, integer_count, reals, real_count, real, turn}
use Rattle.scene.specs.Reading.{Places, note_part, Entry, Going, going, run, initial, newline}
use Rattle.scene.specs.declared.Mode.{Mode}
use Rattle.scene.specs.declared.Settings.{Settings}
use Rattle.scene.specs.Told.{words_from}
use Rattle.scene.specs.Types.{type_number, strings_allowed, reals_allowed, is_retired}
use Rattle.scene.specs.Statement.{Literal, literal, numbers, Body, void}

-- ---- words of a text in two pieces

spot_after : Spot → Bytes → Spot
spot_after m [] = m
spot_after m (b ∷ t) = spot_after (words_step (is_blank b) m b).1 t

words_append : (m : Spot) (x y : Bytes) → words_in m (x ++ y) ≡ words_in m x ++ words_in (spot_after m x) y
unfolding words_in spot_after
words_append m [] y = refl
words_append m (b ∷ x) y = ap {B = List Bytes} (λ (l : List Bytes). (words_step (is_blank b) m b).0 ++ l) (words_append (words_step (is_blank b) m b).1 x y) ∙ sym (append_assoc (words_step (is_blank b) m b).0 (words_in (words_step (is_blank b) m b).1 x) (words_in (spot_after (words_step (is_blank b) m b).1 x) y))

spot_append : (m : Spot) (x y : Bytes) → spot_after m (x ++ y) ≡ spot_after (spot_after m x) y
unfolding spot_after
spot_append m [] y = refl
spot_append m (b ∷ x) y = spot_append (words_step (is_blank b) m b).1 x y

-- ---- c has been read. A word of it, and words of it, at a place

pub record Says (c : Bytes) (k : ℕ) (n : Bytes) : Type 0 where
  pub fits : k + length n < length c
  pub says : (t : Bytes) → take (length n) (drop k (c ++ t)) ≡ n

abbrev pub Spelt : Bytes → ℕ → List Bytes → Type 0
Spelt c k ss = (t : Bytes) → take (length ss) (words_in between (drop k (c ++ t))) ≡ ss

abbrev Ends : Bytes → ℕ → Bytes → Type 0
Ends c k w = (x : Bytes) × (c ≡ x ++ w) × (length x ≡ k)

pub record Spelling (c : Bytes) (k : ℕ) (ss : List Bytes) (m : Spot) : Type 0 where
  x : Bytes
  y : Bytes
  whole : c ≡ x ++ y
  place : length x ≡ k
  words : words_in between y ≡ ss
  spot : spot_after between y ≡ m

-- at the end of what has been read no word has begun
pub spelling_start : (c : Bytes) (k : ℕ) → length c ≡ k → Spelling c k [] between
unfolding words_in spot_after
spelling_start c k l = record { x = c; y = []; whole = sym (append-nil c); place = l; words = refl; spot = refl }

module _ (c : Bytes) (b : ℕ) where
  says_more : (k : ℕ) (n : Bytes) → Says c k n → Says (more c b) k n
  says_more k n h = record { fits = (let f = h.fits in omega (arith, more_length c b)); says = λ t. ap (λ (z : Bytes). take (length n) (drop k z)) (snoc c b t) ∙ h.says (b ∷ t) }

  pub spelt_more : (k : ℕ) (ss : List Bytes) → Spelt c k ss → Spelt (more c b) k ss
  spelt_more k ss h t = ap (λ (z : Bytes). take (length ss) (words_in between (drop k z))) (snoc c b t) ∙ h (b ∷ t)

  ends_says : (k : ℕ) (w : Bytes) → Ends c k w → Says (more c b) k w
  ends_says k w (x, e, l) = record {
    fits = omega (arith, more_length c b, ap length e, length-append x w);
    says = λ t. (λ i. take (length w) (drop (sym l i) (((ap {B = Bytes} (λ (z : Bytes). z ++ b ∷ [] ++ t) e) ∙ append_assoc (x ++ w) (b ∷ []) t ∙ append_assoc x w (b ∷ t)) i))) ∙ ap (take (length w)) (drop-append_seam x (w ++ b ∷ t)) ∙ take-append_seam w (b ∷ t);
  }

  ends_more : (k : ℕ) (w : Bytes) → Ends c k w → Ends (more c b) k (w ++ b ∷ [])
  ends_more k w (x, e, l) = (x, ap {B = Bytes} (λ (z : Bytes). z ++ b ∷ []) e ∙ append_assoc x w (b ∷ []), l)

  pub spelling_more : (k : ℕ) (ss : List Bytes) (m : Spot) (q : Bool) → is_blank b ≡ q → Spelling c k ss m → Spelling (more c b) k (ss ++ (words_step q m b).0) (words_step q m b).1
  unfolding words_in spot_after
  spelling_more k ss m q e h = record {
    x = h.x;
    y = h.y ++ b ∷ [];
    whole = ap {B = Bytes} (λ (z : Bytes). z ++ b ∷ []) h.whole ∙ append_assoc h.x h.y (b ∷ []);
    place = h.place;
    words = words_append between h.y (b ∷ []) ∙ (λ i. (h.words i) ++ ((words_step (e i) (h.spot i) b).0 ++ [])) ∙ ap {B = List Bytes} (λ (z : List Bytes). ss ++ z) (append-nil (words_step q m b).0);
    spot = spot_append between h.y (b ∷ []) ∙ (λ i. (words_step (e i) (h.spot i) b).1);
  }

-- a byte that ends no word: a blank between words, a word's first byte, a byte within it
module _ (c : Bytes) (b : ℕ) (k : ℕ) (ss : List Bytes) where
  pub spelling_blank : is_blank b ≡ true → Spelling c k ss between → Spelling (more c b) k ss between
  spelling_blank e h = subst (λ (l : List Bytes). Spelling (more c b) k l between) (append-nil ss) (spelling_more c b k ss between true e h)

  pub spelling_first : is_blank b ≡ false → Spelling c k ss between → Spelling (more c b) k ss (Spot.inside (b ∷ []))
  spelling_first e h = subst (λ (l : List Bytes). Spelling (more c b) k l (Spot.inside (b ∷ []))) (append-nil ss) (spelling_more c b k ss between false e h)

  pub spelling_within : (w : Bytes) → is_blank b ≡ false → Spelling c k ss (Spot.inside w) → Spelling (more c b) k ss (Spot.inside (w ++ b ∷ []))
  spelling_within w e h = subst (λ (l : List Bytes). Spelling (more c b) k l (Spot.inside (w ++ b ∷ []))) (append-nil ss) (spelling_more c b k ss (Spot.inside w) false e h)

pub spelling_spelt : (c : Bytes) (k : ℕ) (ss : List Bytes) (m : Spot) → Spelling c k ss m → Spelt c k ss
spelling_spelt c k ss m h t =
    (λ i. take (length ss) (words_in between (drop (sym h.place i) ((ap {B = Bytes} (λ (z : Bytes). z ++ t) h.whole ∙ append_assoc h.x h.y t) i)))) ∙
    ap (λ (z : Bytes). take (length ss) (words_in between z)) (drop-append_seam h.x (h.y ++ t)) ∙
    ap (take (length ss)) (words_append between h.y t) ∙
    (λ i. take (length ss) (h.words i ++ words_in (spot_after between h.y) t)) ∙
    take-append_seam ss (words_in (spot_after between h.y) t)

-- words spelt by a whole text are the lexer's
pub spelt_words : (text : Bytes) (k : ℕ) (ss : List Bytes) → Spelt (text ++ newline) k ss → words_from text k (length ss) ≡ ss
spelt_words text k ss h = words_from_lem text k ss (ap (λ (z : Bytes). take (length ss) (words_in between (drop k z))) (sym (append-nil (text ++ newline))) ∙ h [])

-- ---- what holds of a state when c has been read

pub record EntryRead (c : Bytes) (k : Places) (n : Bytes) (x : Body) : Type 0 where
  pub name : Says c k.name n
  pub strings : Spelt c k.string (strings_in x)

abbrev pub AllRead : Bytes → List Entry → Type 0
AllRead c es = Each EntryRead c es

abbrev PartGap : Bytes → Places → Part → Type 0
PartGap c k at_type = Unit {0}
PartGap c k (at_name t) = Unit {0}
PartGap c k (at_string_count t n) = Says c k.name n
PartGap c k (at_string t n [] j) = Says c k.name n
PartGap c k (at_string t n (s ∷ ss) j) = Says c k.name n × Spelling c k.string (s ∷ ss) between
PartGap c k (at_integer_count t n ss) = Says c k.name n × Spelt c k.string ss
PartGap c k (at_real_count t n ss) = Says c k.name n × Spelt c k.string ss
PartGap c k (at_real t n ss rs j) = Says c k.name n × Spelt c k.string ss
PartGap c k at_alias_name = Unit {0}
PartGap c k (at_target n) = Says c k.name n

abbrev PartWithin : Bytes → Places → Bytes → Part → Type 0
PartWithin c k w at_type = Unit {0}
PartWithin c k w (at_name t) = k.name ≡ k.word
PartWithin c k w (at_string_count t n) = Says c k.name n
PartWithin c k w (at_string t n ss j) = Says c k.name n × Spelling c k.string ss (Spot.inside w)
PartWithin c k w (at_integer_count t n ss) = Says c k.name n × Spelt c k.string ss
PartWithin c k w (at_real_count t n ss) = Says c k.name n × Spelt c k.string ss
PartWithin c k w (at_real t n ss rs j) = Says c k.name n × Spelt c k.string ss
PartWithin c k w at_alias_name = k.name ≡ k.word
PartWithin c k w (at_target n) = Says c k.name n

abbrev WordWithin : Bytes → Places → Bytes → Part → Type 0
WordWithin c k w p = Ends c k.word w × PartWithin c k w p

abbrev TurnRead : Bytes → Places → Turn → Type 0
TurnRead c k t = TurnHolds PartGap EntryRead c k t

string_gap : (c : Bytes) (k : Places) (t : ℕ) (n : Bytes) (ss : List Bytes) (j : ℕ) → Says c k.name n → Spelling c k.string ss between → PartGap c k (at_string t n ss j)
string_gap c k t n [] j s h = s
string_gap c k t n (x ∷ ss) j s h = (s, h)

-- the words that a part can turn to
strings_hold : (c : Bytes) (k : Places) (t : ℕ) (n : Bytes) (j : ℕ) → Says c k.name n → TurnRead c k (strings t n j)
strings_hold c k t n zero s = (s, λ z. refl)
strings_hold c k t n (suc j) s = s

string_count_hold : (c : Bytes) (k : Places) (t : ℕ) (n : Bytes) (x : Option ℕ) → Says c k.name n → TurnRead c k (string_count t n x)
string_count_hold c k t n none s = tt
string_count_hold c k t n (some j) s = cond_elim (TurnRead c k) (strings_allowed t j) (strings_hold c k t n j s) tt

module _ (c : Bytes) (k : Places) (t : ℕ) (n : Bytes) (ss : List Bytes) (h : Says c k.name n × Spelt c k.string ss) where
  integer_count_hold : (x : Option ℕ) → TurnRead c k (integer_count t n ss x)
  integer_count_hold none = tt
  integer_count_hold (some zero) = h
  integer_count_hold (some (suc j)) = tt

  reals_hold : (rs : List Literal) (j : ℕ) → TurnRead c k (reals t n ss rs j)
  reals_hold rs zero = record { name = h.0; strings = h.1 }
  reals_hold rs (suc j) = h

  real_count_hold : (x : Option ℕ) → TurnRead c k (real_count t n ss x)
  real_count_hold none = tt
  real_count_hold (some j) = cond_elim (TurnRead c k) (reals_allowed t j) (reals_hold [] j) tt

  real_hold : (rs : List Literal) (j : ℕ) (w : Bytes) (x : Answer) → TurnRead c k (real t n ss rs j w x)
  real_hold rs j w (refusal c) = tt
  real_hold rs j w (value v) = cond_elim (TurnRead c k) (breach t (numbers (rs ++ literal w v ∷ []))) tt (reals_hold (rs ++ literal w v ∷ []) j)

typed_hold : (c : Bytes) (k : Places) (m : Mode) (t : ℕ) → TurnRead c k (typed m t)
typed_hold c k m zero = tt
typed_hold c k m (suc t) = cond_elim (TurnRead c k) (is_retired m (suc t)) tt tt

module _ (c : Bytes) (b : ℕ) where
  both_more : (k : ℕ) (n : Bytes) (l : ℕ) (ss : List Bytes) → Says c k n × Spelt c l ss → Says (more c b) k n × Spelt (more c b) l ss
  both_more k n l ss h = (says_more c b k n h.0, spelt_more c b l ss h.1)

  entry_more : (k : Places) (n : Bytes) (x : Body) → EntryRead c k n x → EntryRead (more c b) k n x
  entry_more k n x h = record { name = says_more c b k.name n h.name; strings = spelt_more c b k.string (strings_in x) h.strings }

  gap_more : (k : Places) (p : Part) → is_blank b ≡ true → PartGap c k p → PartGap (more c b) k p
  gap_more k at_type e h = tt
  gap_more k (at_name t) e h = tt
  gap_more k (at_string_count t n) e h = says_more c b k.name n h
  gap_more k (at_string t n [] j) e h = says_more c b k.name n h
  gap_more k (at_string t n (s ∷ ss) j) e h = (says_more c b k.name n h.0, spelling_blank c b k.string (s ∷ ss) e h.1)
  gap_more k (at_integer_count t n ss) e h = both_more k.name n k.string ss h
  gap_more k (at_real_count t n ss) e h = both_more k.name n k.string ss h
  gap_more k (at_real t n ss rs j) e h = both_more k.name n k.string ss h
  gap_more k at_alias_name e h = tt
  gap_more k (at_target n) e h = says_more c b k.name n h

  first_more : (n₀ : ℕ) (k : Places) (p : Part) → length c ≡ n₀ → is_blank b ≡ false → PartGap c k p → PartWithin (more c b) (note_part p n₀ k) (b ∷ []) p
  first_more n₀ k at_type l e h = tt
  first_more n₀ k (at_name t) l e h = refl
  first_more n₀ k (at_string_count t n) l e h = says_more c b k.name n h
  first_more n₀ k (at_string t n [] j) l e h = (says_more c b k.name n h, spelling_first c b n₀ [] e (spelling_start c n₀ l))
  first_more n₀ k (at_string t n (s ∷ ss) j) l e h = (says_more c b k.name n h.0, spelling_first c b k.string (s ∷ ss) e h.1)
  first_more n₀ k (at_integer_count t n ss) l e h = both_more k.name n k.string ss h
  first_more n₀ k (at_real_count t n ss) l e h = both_more k.name n k.string ss h
  first_more n₀ k (at_real t n ss rs j) l e h = both_more k.name n k.string ss h
  first_more n₀ k at_alias_name l e h = refl
  first_more n₀ k (at_target n) l e h = says_more c b k.name n h

  within_more : (k : Places) (w : Bytes) (p : Part) → is_blank b ≡ false → PartWithin c k w p → PartWithin (more c b) k (w ++ b ∷ []) p
  within_more k w at_type e h = tt
  within_more k w (at_name t) e h = h
  within_more k w (at_string_count t n) e h = says_more c b k.name n h
  within_more k w (at_string t n ss j) e h = (says_more c b k.name n h.0, spelling_within c b k.string ss w e h.1)
  within_more k w (at_integer_count t n ss) e h = both_more k.name n k.string ss h
  within_more k w (at_real_count t n ss) e h = both_more k.name n k.string ss h
  within_more k w (at_real t n ss rs j) e h = both_more k.name n k.string ss h
  within_more k w at_alias_name e h = h
  within_more k w (at_target n) e h = says_more c b k.name n h

  name_ends : (k : Places) (w : Bytes) → k.name ≡ k.word → Ends c k.word w → Says (more c b) k.name w
  name_ends k w q h = subst (λ n. Says (more c b) n w) (sym q) (ends_says c b k.word w h)

  end_more : (r : Settings) (k : Places) (w : Bytes) (p : Part) → is_blank b ≡ true → Ends c k.word w → PartWithin c k w p → TurnRead (more c b) k (turn r p w)
  end_more r k w at_type e x h = cond_elim (TurnRead (more c b) k) (same w (bytes "alias")) tt (typed_hold (more c b) k r.mode (type_number w))
  end_more r k w (at_name t) e x h = cond_elim (TurnRead (more c b) k) (same w void) tt (name_ends k w h x)
  end_more r k w (at_string_count t n) e x h = string_count_hold (more c b) k t n (count_of w) (says_more c b k.name n h)
  end_more r k w (at_string t n ss zero) e x h = (says_more c b k.name n h.0, spelling_spelt (more c b) k.string (ss ++ w ∷ []) between (spelling_more c b k.string ss (Spot.inside w) true e h.1))
  end_more r k w (at_string t n ss (suc j)) e x h = string_gap (more c b) k t n (ss ++ w ∷ []) j (says_more c b k.name n h.0) (spelling_more c b k.string ss (Spot.inside w) true e h.1)
  end_more r k w (at_integer_count t n ss) e x h = integer_count_hold (more c b) k t n ss (both_more k.name n k.string ss h) (count_of w)
  end_more r k w (at_real_count t n ss) e x h = real_count_hold (more c b) k t n ss (both_more k.name n k.string ss h) (count_of w)
  end_more r k w (at_real t n ss rs j) e x h = real_hold (more c b) k t n ss (both_more k.name n k.string ss h) rs j w (numeral_of w)
  end_more r k w at_alias_name e x h = cond_elim (TurnRead (more c b) k) (same w void) tt (name_ends k w h x)
  end_more r k w (at_target n) e x h = record { name = says_more c b k.name n h; strings = λ z. refl }

kept : (r : Settings) → Kept PartGap WordWithin EntryRead r
kept r = record {
  opened = λ c k. tt;
  blank = gap_more;
  begun = λ c b n k p l e h. ((c, refl, l ∙ sym (part_noted p n k).0), first_more c b n k p l e h);
  longer = λ c b k w p e h. (ends_more c b k.word w h.0, within_more c b k w p e h.1);
  turned = λ c b k w p e h. end_more c b r k w p e h.0 h.1;
  read = entry_more;
}

pub all_read : (r : Settings) (t : Bytes) (g : Going) → run r initial t ≡ going g → AllRead t g.above
all_read r t g e = run_read PartGap WordWithin EntryRead r (kept r) t g e

-- what has been read stays read
pub all_on : (t c : Bytes) (es : List Entry) → AllRead c es → AllRead (c ++ t) es
all_on [] c es h = subst (λ (z : Bytes). AllRead z es) (sym (append-nil c)) h
all_on (b ∷ t) c es h = subst (λ (z : Bytes). AllRead z es) (snoc c b t) (all_on t (more c b) es (each_more EntryRead entry_more c b es h))
