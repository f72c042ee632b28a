-- A reading is an acceptance or a refusal; where it is in a text; and a refusal's place lies in the text or at its end.
use mathlib.Core.Bool.{Bool, true, false, cond}
use mathlib.Core.List.{List, [], ◌∷◌, ◌++◌, append_assoc, append-nil}
use mathlib.Core.Logic.{◌⊎◌, inl, inr}
use mathlib.Core.Path.{◌≡◌, refl, sym, subst}
use Prim.Native.Nat.{ℕ, zero, suc, ◌+◌, ◌≤◌, ◌<◌}
use native.Mathlib.Omega.{arith}
use lib.Dec.{eqb, leb}
use lib.ListN.{length, length-append}
use Rattle.laws.specs.Bytes.{Bytes, byte}
use Rattle.lexer.specs.Class.{is_blank}
use Rattle.scene.proofs.EdgeLaws.{part_noted, run_stopped}
use Rattle.scene.specs.Phase.{Outcome, Phase, busy, done, idle, into, refuse, word}
use Rattle.scene.specs.Reading.{Entry, Going, Places, Reading, Scan, State, accepted, advance, begins, command, comment, end_in, ended, feed, finish, first, gap, going, initial, keep, move, newline, note, read_statements, refused, run, settle, statements, stopped, test, within}
use Rattle.scene.specs.declared.Settings.{Settings}

-- every text is accepted or refused
pub read_or_refused : (r : Settings) (text : Bytes) → ((es : List Entry) × (read_statements r text ≡ accepted es)) ⊎ ((n p : ℕ) × (read_statements r text ≡ refused n p))
read_or_refused r text = go (read_statements r text) refl
  where
    go : (x : Reading) → read_statements r text ≡ x → ((es : List Entry) × (read_statements r text ≡ accepted es)) ⊎ ((n p : ℕ) × (read_statements r text ≡ refused n p))
    go (accepted es) e = inl (es, e)
    go (refused n p) e = inr (n, p, e)

-- ---- where the reading is: so many bytes in, in a word that began so many bytes ago; and a place where it stopped is behind it

abbrev WordPlace : Scan → (at word : ℕ) → Type 0
WordPlace gap at p = Unit {0}
WordPlace comment at p = Unit {0}
WordPlace (within w) at p = (p + length w ≡ at) × (0 < length w)

pub record Located (t : Bytes) (g : Going) : Type 0 where
  pub at : g.at ≡ length t
  pub word : WordPlace g.scan g.at g.places.word

abbrev LocatedS : Bytes → State → Type 0
LocatedS t (stopped n p) = p < length t
LocatedS t (going g) = Located t g

-- a word's place is noted at its first byte
pub noted : (ph : Phase) (n : ℕ) (k : Places) → (note ph n k).word ≡ n
noted idle n k = refl
noted (busy m p) n k = (part_noted p n k).0

module _ (r : Settings) (t : Bytes) (b : ℕ) (g : Going) (at : g.at ≡ length t) where
  more : length (t ++ b ∷ []) ≡ suc g.at
  more = let l = length-append t (b ∷ []) in omega (arith, at)

  kept : (m : Scan) → WordPlace m (suc g.at) g.places.word → LocatedS (t ++ b ∷ []) (advance r g (keep m))
  kept m h = record { at = sym more; word = h }

  starting : LocatedS (t ++ b ∷ []) (advance r g (first b))
  starting = record { at = sym more; word = ((let n = noted g.phase g.at g.places in omega (arith, n)), omega arith) }

  begun : (ph : Phase) → LocatedS (t ++ b ∷ []) (advance r g (begins ph b))
  begun (busy m p) = starting
  begun idle = go (eqb b (byte "#")) (eqb b (byte "!"))
    where
      go : (x y : Bool) → LocatedS (t ++ b ∷ []) (advance r g (cond x (keep comment) (cond y command (first b))))
      go true y = kept comment tt
      go false true = omega (arith, more)
      go false false = starting

  settled : (o : Outcome) (n : ℕ) → g.places.word < suc g.at → LocatedS (t ++ b ∷ []) (settle g o n)
  settled (refuse c) n h = omega (arith, more)
  settled (into ph) zero h = record { at = sym more; word = tt }
  settled (into ph) (suc n) h = omega (arith, more)
  settled (done s) zero h = record { at = sym more; word = tt }
  settled (done s) (suc n) h = omega (arith, more)

  moved : (m : Scan) → WordPlace m g.at g.places.word → LocatedS (t ++ b ∷ []) (advance r g (move m g.phase b))
  moved gap h = go (is_blank b)
    where
      go : (x : Bool) → LocatedS (t ++ b ∷ []) (advance r g (cond x (keep gap) (begins g.phase b)))
      go true = kept gap tt
      go false = begun g.phase
  moved comment h = go (eqb b 10)
    where
      go : (x : Bool) → LocatedS (t ++ b ∷ []) (advance r g (cond x (keep gap) (keep comment)))
      go true = kept gap tt
      go false = kept comment tt
  moved (within w) h = go (is_blank b)
    where
      go : (x : Bool) → LocatedS (t ++ b ∷ []) (advance r g (cond x (ended w) (keep (within (w ++ b ∷ [])))))
      go true = settled (word r g.phase w) (test r (statements g.above) g.phase w) (omega (arith, h.0))
      go false = let l = length-append w (b ∷ []) in kept (within (w ++ b ∷ [])) (omega (arith, h.0), omega arith)

located_on : (r : Settings) (u t : Bytes) (X : State) → LocatedS t X → LocatedS (t ++ u) (run r X u)
unfolding run
located_on r [] t X h = subst (λ (z : Bytes). LocatedS z X) (sym (append-nil t)) h
located_on r (b ∷ u) t (stopped n p) h = subst (LocatedS (t ++ b ∷ u)) (sym (run_stopped r n p u)) (let l = length-append t (b ∷ u) in omega arith)
located_on r (b ∷ u) t (going g) h = subst (λ (z : Bytes). LocatedS z (run r (feed r (going g) b) u)) (append_assoc t (b ∷ []) u) (located_on r u (t ++ b ∷ []) (feed r (going g) b) (moved r t b g h.at g.scan h.word))

located : (r : Settings) (t : Bytes) → LocatedS t (run r initial t)
located r t = located_on r t [] initial (record { at = refl; word = tt })

pub going_located : (r : Settings) (t : Bytes) (g : Going) → run r initial t ≡ going g → Located t g
going_located r t g e = subst (LocatedS t) e (located r t)

-- a word has a byte, and began that many bytes ago
pub word_located : (t : Bytes) (g : Going) (w : Bytes) → Located t g → g.scan ≡ within w → (g.places.word + length w ≡ g.at) × (0 < length w)
word_located t g w h e = subst (λ (m : Scan). WordPlace m g.at g.places.word) e h.word

pub stopped_within : (r : Settings) (t : Bytes) (n p : ℕ) → run r initial t ≡ stopped n p → p < length t
stopped_within r t n p e = subst (LocatedS t) e (located r t)

pub refused_place : (r : Settings) (text : Bytes) (n p : ℕ) → read_statements r text ≡ refused n p → p ≤ length text
unfolding read_statements
refused_place r text n p = go (leb (length text) 65536)
  where
    last : (ph : Phase) (es : List Entry) → end_in ph (length text) es ≡ refused n p → p ≤ length text
    last idle es e = let z : ◌≡◌ {A = ℕ} 0 1 = cc in absurd (omega arith)
    last (busy m q) es e = let z : length text ≡ p = cc in omega arith

    end : (X : State) → run r initial (text ++ newline) ≡ X → finish (length text) X ≡ refused n p → p ≤ length text
    end (stopped m q) h e =
        let z : q ≡ p = cc in
        let l = stopped_within r (text ++ newline) m q h in
        omega (arith, length-append text newline)
    end (going g) h e = last g.phase g.above e

    go : (b : Bool) → cond b (finish (length text) (run r initial (text ++ newline))) (refused 1 0) ≡ refused n p → p ≤ length text
    go true e = end (run r initial (text ++ newline)) refl e
    go false e = let z : 0 ≡ p = cc in omega arith
