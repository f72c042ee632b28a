-- Where statements stand: a block's edge that cuts no statement finds the reading idle, and what is read from there on stands behind it.
use mathlib.Core.List.{List, [], ◌∷◌, ◌++◌, append-nil}
use mathlib.Core.Logic.{◌⊎◌, inl, inr}
use mathlib.Core.Path.{◌≡◌, refl, ap, sym, ◌∙◌, subst, subst₂}
use Prim.Native.Nat.{ℕ, zero, suc, ◌+◌, ◌≤◌, ◌<◌}
use native.Mathlib.Nat.{zero-add, add-zero}
use native.Mathlib.Omega.{arith}
use lib.Dec.{eqb}
use lib.ListN.{length}
use Rattle.laws.proofs.BoolLaws.{cond_elim}
use Rattle.laws.specs.Bytes.{Bytes}
use Rattle.lexer.specs.Class.{is_blank}
use Rattle.lexer.specs.Word.{word_fault}
use Rattle.scene.proofs.AcceptLaws.{Gap, lines_gap, going_parse}
use Rattle.scene.proofs.SyntaxLaws.{parse}
use Rattle.scene.specs.Block.{CutsNone, EndsLine}
use Rattle.scene.specs.Phase.{Part, at_type, at_name, at_string_count, at_string, at_integer_count, at_real_count, at_real, at_alias_name, at_target, Phase, idle, busy, Turn, fault, onto, ends, turn, Outcome, refuse, into, done, outcome, word, unless_fault}
use Rattle.scene.specs.Reading.{Scan, gap, comment, within, Move, keep, first, command, ended, begins, move, test, Places, note_part, note, Entry, Going, State, stopped, going, statements, settle, advance, feed, run, initial}
use Rattle.scene.specs.declared.Settings.{Settings}

-- ---- runs

pub run_append : (r : Settings) (X : State) (a b : Bytes) → run r X (a ++ b) ≡ run r (run r X a) b
unfolding run
run_append r X [] b = refl
run_append r X (c ∷ a) b = run_append r (feed r X c) a b

pub run_stopped : (r : Settings) (n p : ℕ) (t : Bytes) → run r (stopped n p) t ≡ stopped n p
unfolding run
run_stopped r n p [] = refl
run_stopped r n p (b ∷ t) = run_stopped r n p t

run_first : (r : Settings) (X : State) (a b : Bytes) (g : Going) → run r X (a ++ b) ≡ going g → (k : Going) × (run r X a ≡ going k) × (run r (going k) b ≡ going g)
run_first r X a b g e = go (run r X a) refl
  where
    go : (Y : State) → run r X a ≡ Y → (k : Going) × (run r X a ≡ going k) × (run r (going k) b ≡ going g)
    go (stopped n p) q = let z : stopped n p ≡ going g = sym (run_stopped r n p b) ∙ ap (λ (Y : State). run r Y b) (sym q) ∙ sym (run_append r X a b) ∙ e in let w : ◌≡◌ {A = ℕ} 0 1 = cc in absurd (omega arith)
    go (going k) q = (k, q, ap (λ (Y : State). run r Y b) (sym q) ∙ sym (run_append r X a b) ∙ e)

-- ---- moves that a scan allows

abbrev pub IsWithin : Scan → Type 0
IsWithin gap = ⊥
IsWithin comment = ⊥
IsWithin (within w) = Unit {0}

abbrev pub OkScan : Scan → Scan → Type 0
OkScan m gap = Unit {0}
OkScan m comment = Unit {0}
OkScan m (within w) = IsWithin m

abbrev pub OkMove : Scan → Move → Type 0
OkMove m (keep m') = OkScan m m'
OkMove m (first b) = Unit {0}
OkMove m command = Unit {0}
OkMove m (ended w) = IsWithin m

begins_ok : (ph : Phase) (b : ℕ) → OkMove gap (begins ph b)
begins_ok idle b = cond_elim (OkMove gap) (eqb b 35) tt (cond_elim (OkMove gap) (eqb b 33) tt tt)
begins_ok (busy m p) b = tt

pub move_ok : (m : Scan) (ph : Phase) (b : ℕ) → OkMove m (move m ph b)
move_ok gap ph b = cond_elim (OkMove gap) (is_blank b) tt (begins_ok ph b)
move_ok comment ph b = cond_elim (OkMove comment) (eqb b 10) tt tt
move_ok (within w) ph b = cond_elim (OkMove (within w)) (is_blank b) tt tt

-- a predicate that every allowed move keeps holds along a run
module _ (r : Settings) (I : State → Type 0) (dead : (n p : ℕ) → I (stopped n p)) (one : (g : Going) (mv : Move) → OkMove g.scan mv → I (going g) → I (advance r g mv)) where
  pub along : (t : Bytes) (X : State) → I X → I (run r X t)
  unfolding run
  along [] X h = h
  along (b ∷ t) (stopped n p) h = along t (stopped n p) h
  along (b ∷ t) (going g) h = along t (advance r g (move g.scan g.phase b)) (one g (move g.scan g.phase b) (move_ok g.scan g.phase b) h)

-- ---- the place

abbrev Far : ℕ → State → Type 0
Far k (stopped n p) = Unit {0}
Far k (going g) = g.at ≡ k

settle_far : (g : Going) (a : Outcome) (n : ℕ) → Far (suc g.at) (settle g a n)
settle_far g (refuse c) n = tt
settle_far g (into ph) zero = refl
settle_far g (into ph) (suc n) = tt
settle_far g (done s) zero = refl
settle_far g (done s) (suc n) = tt

advance_far : (r : Settings) (g : Going) (mv : Move) → Far (suc g.at) (advance r g mv)
advance_far r g (keep m) = refl
advance_far r g (first b) = refl
advance_far r g command = tt
advance_far r g (ended w) = settle_far g (word r g.phase w) (test r (statements g.above) g.phase w)

run_far : (r : Settings) (t : Bytes) (X : State) (k : ℕ) → Far k X → Far (k + length t) (run r X t)
unfolding run
run_far r [] X k h = subst (λ n. Far n X) (sym (add-zero k)) h
run_far r (b ∷ t) (stopped n p) k h = run_far_refused t
  where
    run_far_refused : (t : Bytes) → Far (k + length (b ∷ t)) (run r (stopped n p) t)
    run_far_refused t = subst (Far (k + length (b ∷ t))) (sym (run_stopped r n p t)) tt
run_far r (b ∷ t) (going g) k h =
    let e : suc k + length t ≡ k + suc (length t) = omega arith in
    subst (λ n. Far n (run r (advance r g (move g.scan g.phase b)) t)) e (run_far r t (advance r g (move g.scan g.phase b)) (suc k) (subst (λ n. Far (suc n) (advance r g (move g.scan g.phase b))) h (advance_far r g (move g.scan g.phase b))))

-- ---- a word that begins in a statement is noted, and leaves the statement's own start

pub part_noted : (p : Part) (n : ℕ) (k : Places) → ((note_part p n k).word ≡ n) × ((note_part p n k).start ≡ k.start)
part_noted at_type n k = (refl, refl)
part_noted (at_name t) n k = (refl, refl)
part_noted (at_string_count t s) n k = (refl, refl)
part_noted (at_string t s [] c) n k = (refl, refl)
part_noted (at_string t s (x ∷ ss) c) n k = (refl, refl)
part_noted (at_integer_count t s ss) n k = (refl, refl)
part_noted (at_real_count t s ss) n k = (refl, refl)
part_noted (at_real t s ss rs c) n k = (refl, refl)
part_noted at_alias_name n k = (refl, refl)
part_noted (at_target s) n k = (refl, refl)

-- ---- what has been read since a place

abbrev pub Range : ℕ → ℕ → List Entry → Type 0
Range lo hi [] = Unit {0}
Range lo hi (e ∷ es) = (lo ≤ e.places.start) × (e.places.start < hi) × Range lo hi es

range_up : (lo hi : ℕ) (es : List Entry) → Range lo hi es → Range lo (suc hi) es
range_up lo hi [] h = tt
range_up lo hi (e ∷ es) h = (h.0, omega arith, range_up lo hi es h.2)

abbrev pub Bounds : ℕ → ℕ → ℕ → Type 0
Bounds lo hi st = (lo ≤ st) × (st < hi)

abbrev pub Began : ℕ → ℕ → ℕ → Phase → Scan → Type 0
Began lo hi st (busy m p) md = Bounds lo hi st
Began lo hi st idle gap = Unit {0}
Began lo hi st idle comment = Unit {0}
Began lo hi st idle (within w) = Bounds lo hi st

pub record Since (lo : ℕ) (d : List Entry) (g : Going) : Type 0 where
  pub new : List Entry
  pub above : g.above ≡ new ++ d
  pub range : Range lo g.at new
  pub began : Began lo g.at g.places.start g.phase g.scan
  pub low : lo ≤ g.at

abbrev pub SinceS : ℕ → List Entry → State → Type 0
SinceS lo d (stopped n p) = Unit {0}
SinceS lo d (going g) = Since lo d g

in_word : (lo hi st : ℕ) (ph : Phase) (m : Scan) → IsWithin m → Began lo hi st ph m → Bounds lo hi st
in_word lo hi st (busy md p) m w h = h
in_word lo hi st idle gap w h = absurd w
in_word lo hi st idle comment w h = absurd w
in_word lo hi st idle (within x) w h = h

began_keep : (lo hi st : ℕ) (ph : Phase) (m m' : Scan) → OkScan m m' → Began lo hi st ph m → Began lo (suc hi) st ph m'
began_keep lo hi st (busy md p) m m' o h = (h.0, omega arith)
began_keep lo hi st idle m gap o h = tt
began_keep lo hi st idle m comment o h = tt
began_keep lo hi st idle m (within w) o h = let b = in_word lo hi st idle m o h in (b.0, omega arith)

began_first : (lo hi : ℕ) (k : Places) (ph : Phase) (m : Scan) (w : Bytes) → lo ≤ hi → Began lo hi k.start ph m → Began lo (suc hi) (note ph hi k).start ph (within w)
began_first lo hi k idle m w l h = (l, omega arith)
began_first lo hi k (busy md p) m w l h = subst (Bounds lo (suc hi)) (sym ((part_noted p hi k).1)) (h.0, omega arith)

began_into : (lo hi st : ℕ) (ph : Phase) → Bounds lo hi st → Began lo (suc hi) st ph gap
began_into lo hi st idle h = tt
began_into lo hi st (busy m p) h = (h.0, omega arith)

settle_since : (lo : ℕ) (d : List Entry) (g : Going) → Since lo d g → IsWithin g.scan → (a : Outcome) (n : ℕ) → SinceS lo d (settle g a n)
settle_since lo d g h w (refuse c) n = tt
settle_since lo d g h w (into ph) zero = record { new = h.new; above = h.above; range = range_up lo g.at h.new h.range; began = began_into lo g.at g.places.start ph (in_word lo g.at g.places.start g.phase g.scan w h.began); low = (let l = h.low in omega arith) }
settle_since lo d g h w (into ph) (suc n) = tt
settle_since lo d g h w (done s) zero =
    let b = in_word lo g.at g.places.start g.phase g.scan w h.began in
    let l = h.low in
    record { new = record { statement = s; places = g.places; end = g.at } ∷ h.new; above = ap {B = List Entry} (λ (x : List Entry). record { statement = s; places = g.places; end = g.at } ∷ x) h.above; range = (b.0, omega arith, range_up lo g.at h.new h.range); began = tt; low = omega arith }
settle_since lo d g h w (done s) (suc n) = tt

advance_since : (lo : ℕ) (d : List Entry) (r : Settings) (g : Going) (mv : Move) → OkMove g.scan mv → Since lo d g → SinceS lo d (advance r g mv)
advance_since lo d r g (keep m) o h = record { new = h.new; above = h.above; range = range_up lo g.at h.new h.range; began = began_keep lo g.at g.places.start g.phase g.scan m o h.began; low = (let l = h.low in omega arith) }
advance_since lo d r g (first b) o h = record { new = h.new; above = h.above; range = range_up lo g.at h.new h.range; began = began_first lo g.at g.places g.phase g.scan (b ∷ []) h.low h.began; low = (let l = h.low in omega arith) }
advance_since lo d r g command o h = tt
advance_since lo d r g (ended w) o h = settle_since lo d g h o (word r g.phase w) (test r (statements g.above) g.phase w)

run_since : (r : Settings) (lo : ℕ) (d : List Entry) (t : Bytes) (X : State) → SinceS lo d X → SinceS lo d (run r X t)
run_since r lo d = along r (SinceS lo d) (λ n p. tt) (advance_since lo d r)

-- ---- statements that an edge cuts

abbrev Cuts : ℕ → List Entry → Type 0
Cuts k [] = ⊥
Cuts k (e ∷ es) = ((e.places.start < k) × (k < e.end)) ⊎ Cuts k es

whole_cuts : (k : ℕ) (es : List Entry) → CutsNone k es → Cuts k es → ⊥
whole_cuts k [] h c = c
whole_cuts k (e ∷ es) h (inr c) = whole_cuts k es h.1 c
whole_cuts k (e ∷ es) h (inl c) = go h.0
  where
    go : (k ≤ e.places.start) ⊎ (e.end ≤ k) → ⊥
    go (inl l) = omega arith
    go (inr l) = omega arith

abbrev IsOpen : Phase → Type 0
IsOpen idle = ⊥
IsOpen (busy m p) = Unit {0}

record Pending (k : ℕ) (g : Going) : Type 0 where
  phase : IsOpen g.phase
  start : g.places.start < k
  low : k ≤ g.at
  word : IsWithin g.scan → k < g.at

abbrev PendingS : ℕ → State → Type 0
PendingS k (stopped n p) = Unit {0}
PendingS k (going g) = Cuts k g.above ⊎ Pending k g

abbrev StillOpen : Outcome → Type 0
StillOpen (refuse n) = Unit {0}
StillOpen (into ph) = IsOpen ph
StillOpen (done s) = Unit {0}

open_outcome : (r : Settings) (ph : Phase) (w : Bytes) → IsOpen ph → StillOpen (word r ph w)
open_outcome r idle w h = absurd h
open_outcome r (busy m p) w h = go (word_fault w) (turn r p w)
  where
    go : (n : ℕ) (t : Turn) → StillOpen (unless_fault n (outcome m t))
    go (suc n) t = tt
    go zero (fault n) = tt
    go zero (onto p) = tt
    go zero (ends n b) = tt

note_start : (ph : Phase) (n : ℕ) (k : Places) → IsOpen ph → (note ph n k).start ≡ k.start
note_start idle n k h = absurd h
note_start (busy m p) n k h = (part_noted p n k).1

settle_pending : (k : ℕ) (g : Going) → IsWithin g.scan → Cuts k g.above ⊎ Pending k g → (a : Outcome) → (IsOpen g.phase → StillOpen a) → (n : ℕ) → PendingS k (settle g a n)
settle_pending k g w h (refuse c) o n = tt
settle_pending k g w h (into ph) o (suc n) = tt
settle_pending k g w h (done s) o (suc n) = tt
settle_pending k g w (inl c) (into ph) o zero = inl c
settle_pending k g w (inr p) (into ph) o zero = let l = p.low in inr (record { phase = o p.phase; start = p.start; low = omega arith; word = λ z. absurd z })
settle_pending k g w (inl c) (done s) o zero = inl (inr c)
settle_pending k g w (inr p) (done s) o zero = inl (inl (p.start, p.word w))

advance_pending : (k : ℕ) (r : Settings) (g : Going) (mv : Move) → OkMove g.scan mv → Cuts k g.above ⊎ Pending k g → PendingS k (advance r g mv)
advance_pending k r g (keep m) o (inl c) = inl c
advance_pending k r g (keep m) o (inr p) = let l = p.low in inr (record { phase = p.phase; start = p.start; low = omega arith; word = λ z. omega arith })
advance_pending k r g (first b) o (inl c) = inl c
advance_pending k r g (first b) o (inr p) = let l = p.low in inr (record { phase = p.phase; start = rw (note_start g.phase g.at g.places p.phase) p.start; low = omega arith; word = λ z. omega arith })
advance_pending k r g command o h = tt
advance_pending k r g (ended w) o h = settle_pending k g o h (word r g.phase w) (open_outcome r g.phase w) (test r (statements g.above) g.phase w)

run_pending : (r : Settings) (k : ℕ) (t : Bytes) (X : State) → PendingS k X → PendingS k (run r X t)
run_pending r k = along r (PendingS k) (λ n p. tt) (advance_pending k r)

-- ---- an edge

abbrev pub LineStart : Bytes → Type 0
LineStart t = (t ≡ []) ⊎ EndsLine t

pub record Edge (r : Settings) (p rest : Bytes) (g : Going) : Type 0 where
  pub state : Going
  pub here : run r initial p ≡ going state
  pub on : run r (going state) rest ≡ going g
  pub phase : state.phase ≡ idle
  pub scan : gap ≡ state.scan
  pub at : state.at ≡ length p

pub edge : (r : Settings) (p rest : Bytes) (g : Going) → run r initial (p ++ rest) ≡ going g → g.phase ≡ idle → LineStart p → CutsNone (length p) g.above → Edge r p rest g
unfolding run parse
edge r p rest g e f l wh = record { state = k; here = i.1; on = i.2; phase = closed k.phase refl; scan = between l; at = far }
  where
    i : (k : Going) × (run r initial p ≡ going k) × (run r (going k) rest ≡ going g)
    i = run_first r initial p rest g e

    k : Going
    k = i.0

    far : k.at ≡ length p
    far = subst (Far (length p)) i.1 (subst (λ n. Far n (run r initial p)) (zero-add (length p)) (run_far r p initial 0 refl))

    between : LineStart p → gap ≡ k.scan
    between (inl z) = subst Gap (going_parse r p k i.1) (subst (λ (t : Bytes). Gap (parse r gap idle t)) (sym z) refl)
    between (inr (x, z)) = subst Gap (going_parse r p k i.1) (subst (λ (t : Bytes). Gap (parse r gap idle t)) (sym z) (lines_gap r x gap idle))

    since : Since 0 [] k
    since = subst (SinceS 0 []) i.1 (run_since r 0 [] p initial (record { new = []; above = refl; range = tt; began = tt; low = omega arith }))

    closed : (ph : Phase) → k.phase ≡ ph → k.phase ≡ idle
    closed idle q = q
    closed (busy m part) q = absurd (done (subst (PendingS (length p)) i.2 (run_pending r (length p) rest (going k) (inr pend))))
      where
        b : Bounds 0 k.at k.places.start
        b = subst (λ (ph : Phase). Began 0 k.at k.places.start ph k.scan) q since.began

        pend : Pending (length p) k
        pend = record { phase = subst IsOpen (sym q) tt; start = omega (arith, b.1, far); low = omega (arith, far); word = λ w. absurd (subst IsWithin (sym (between l)) w) }

        done : Cuts (length p) g.above ⊎ Pending (length p) g → ⊥
        done (inl c) = whole_cuts (length p) g.above wh c
        done (inr c) = subst IsOpen f c.phase

-- from an edge to the next: what is read between stands between
pub since_edge : (r : Settings) (p a : Bytes) (rest : Bytes) (g k : Going) (e : Edge r p rest g) → run r initial (p ++ a) ≡ going k → Since (length p) e.state.above k
since_edge r p a rest g k e q =
    subst (SinceS (length p) e.state.above) (ap (λ (Y : State). run r Y a) (sym e.here) ∙ sym (run_append r initial p a) ∙ q)
    (run_since r (length p) e.state.above a (going e.state) (record {
      new = [];
      above = refl;
      range = tt;
      began = subst₂ (λ (ph : Phase) (m : Scan). Began (length p) e.state.at e.state.places.start ph m) (sym e.phase) e.scan tt;
      low = omega (arith, e.at);
    }))

pub since_start : (r : Settings) (p : Bytes) (k : Going) → run r initial p ≡ going k → Range 0 k.at k.above
since_start r p k q = let s : Since 0 [] k = subst (SinceS 0 []) q (run_since r 0 [] p initial (record { new = []; above = refl; range = tt; began = tt; low = omega arith })) in subst (Range 0 k.at) (sym (append-nil s.new) ∙ sym s.above) s.range
