-- A text is accepted exactly when its syntax is and its statements are sound.
use mathlib.Core.Bool.{Bool, true, false, cond}
use mathlib.Core.List.{List, [], ◌∷◌, ◌++◌, append_assoc, append-nil}
use mathlib.Core.Path.{◌≡◌, refl, ap, sym, ◌∙◌, subst}
use Prim.Native.Nat.{ℕ, zero, suc}
use native.Mathlib.Omega.{arith}
use lib.Dec.{leb}
use lib.ListN.{length}
use Rattle.laws.specs.Bytes.{Bytes}
use Rattle.lexer.specs.Class.{is_blank}
use Rattle.scene.proofs.SyntaxLaws.{Step, halt, pass, after, step, on_top, chain, parse, parse_append, on_top_nil, agree, run_agree, Sound, AtPhase, OfOutcome, word_forth, word_back}
use Rattle.scene.specs.Phase.{Phase, idle, busy, Outcome, refuse, into, done, word}
use Rattle.scene.specs.Reading.{Scan, gap, comment, within, Move, keep, first, command, ended, move, test, Entry, Going, State, stopped, going, statements, settle, advance, run, initial, refused, accepted, finish, end_in, newline, read_statements}
use Rattle.scene.specs.declared.Settings.{Settings}
use Rattle.scene.specs.Statement.{Statement}

-- ---- forth

abbrev Holds : Settings → State → Type 0
Holds r (stopped n p) = Unit {0}
Holds r (going g) = AtPhase r (statements g.above) g.phase

settle_holds : (r : Settings) (g : Going) (a : Outcome) (t : ℕ) → (t ≡ 0 → OfOutcome (Unit {0}) r (statements g.above) a) → Holds r (settle g a t)
unfolding statements
settle_holds r g (refuse n) t h = tt
settle_holds r g (into ph) zero h = h refl
settle_holds r g (into ph) (suc t) h = tt
settle_holds r g (done s) zero h = h refl
settle_holds r g (done s) (suc t) h = tt

advance_holds : (r : Settings) (g : Going) (mv : Move) → AtPhase r (statements g.above) g.phase → Holds r (advance r g mv)
advance_holds r g (keep m) i = i
advance_holds r g (first b) i = i
advance_holds r g command i = tt
advance_holds r g (ended w) i = settle_holds r g (word r g.phase w) (test r (statements g.above) g.phase w) (λ e. word_forth r (statements g.above) g.phase w e i)

run_holds : (r : Settings) (t : Bytes) (X : State) → Holds r X → Holds r (run r X t)
unfolding run
run_holds r [] X h = h
run_holds r (b ∷ t) (stopped n p) h = run_holds r t (stopped n p) tt
run_holds r (b ∷ t) (going g) h = run_holds r t (advance r g (move g.scan g.phase b)) (advance_holds r g (move g.scan g.phase b) h)

-- ---- back

pub on_top_inv : (l : List Statement) (s : Step) (m : Scan) (ph : Phase) (k : List Statement) → on_top l s ≡ pass m ph k → (x : List Statement) × (s ≡ pass m ph x) × (k ≡ x ++ l)
on_top_inv l halt m ph k e = let z : ◌≡◌ {A = ℕ} 0 1 = cc in absurd (omega arith)
on_top_inv l (pass m' ph' x) m ph k e = (x, cc, cc)

abbrev OfStep : Settings → List Statement → Step → Type 0
OfStep r d halt = ⊥
OfStep r d (pass m ph l) = AtPhase r (l ++ d) ph

after_back : (r : Settings) (d : List Statement) (a : Outcome) → OfStep r d (after a) → OfOutcome ⊥ r d a
after_back r d (refuse n) h = h
after_back r d (into ph) h = h
after_back r d (done s) h = h

move_back : (r : Settings) (d : List Statement) (ph : Phase) (mv : Move) → OfStep r d (step r ph mv) → AtPhase r d ph
move_back r d ph (keep m) h = h
move_back r d ph (first b) h = h
move_back r d ph command h = absurd h
move_back r d ph (ended w) h = (word_back r d ph w (after_back r d (word r ph w) h)).1

chain_back : (r : Settings) (t : Bytes) → ((m : Scan) (ph : Phase) (l d : List Statement) → parse r m ph t ≡ pass gap idle l → Sound r (l ++ d) → AtPhase r d ph)
    → (s : Step) (l d : List Statement) → chain s (λ m ph. parse r m ph t) ≡ pass gap idle l → Sound r (l ++ d) → OfStep r d s
chain_back r t ih halt l d e h = let z : ◌≡◌ {A = ℕ} 0 1 = cc in absurd (omega arith)
chain_back r t ih (pass m ph l₀) l d e h =
    let i = on_top_inv l₀ (parse r m ph t) gap idle l e in
    ih m ph i.0 (l₀ ++ d) i.1 (subst (Sound r) (ap (λ (x : List Statement). x ++ d) i.2 ∙ append_assoc i.0 l₀ d) h)

parse_back : (r : Settings) (t : Bytes) (m : Scan) (ph : Phase) (l d : List Statement) → parse r m ph t ≡ pass gap idle l → Sound r (l ++ d) → AtPhase r d ph
unfolding parse
parse_back r [] m ph l d e h =
    let p : idle ≡ ph = cc in
    let q : l ≡ [] = cc in
    subst (AtPhase r d) p (subst (λ (x : List Statement). Sound r (x ++ d)) q h)
parse_back r (b ∷ t) m ph l d e h = move_back r d ph (move m ph b) (chain_back r t (λ m ph l d. parse_back r t m ph l d) (step r ph (move m ph b)) l d e h)

abbrev Alive : State → Type 0
Alive (stopped n p) = ⊥
Alive (going g) = Unit {0}

module _ (r : Settings) (t : Bytes) (ih : (g : Going) (l : List Statement) → parse r g.scan g.phase t ≡ pass gap idle l → Sound r (l ++ statements g.above) → Alive (run r (going g) t)) where
  next_alive : (g : Going) (l₀ l d : List Statement) → statements g.above ≡ l₀ ++ d → on_top l₀ (parse r g.scan g.phase t) ≡ pass gap idle l → Sound r (l ++ d) → Alive (run r (going g) t)
  next_alive g l₀ l d q e h =
      let i = on_top_inv l₀ (parse r g.scan g.phase t) gap idle l e in
      ih g i.0 i.1 (subst (Sound r) (ap (λ (x : List Statement). x ++ d) i.2 ∙ append_assoc i.0 l₀ d ∙ ap {B = List Statement} (λ (x : List Statement). i.0 ++ x) (sym q)) h)

  settle_alive : (g : Going) (a : Outcome) (n : ℕ) (l : List Statement) → n ≡ 0 → chain (after a) (λ m ph. parse r m ph t) ≡ pass gap idle l → Sound r (l ++ statements g.above) → Alive (run r (settle g a n) t)
  unfolding statements
  settle_alive g (refuse c) n l z e h = let z : ◌≡◌ {A = ℕ} 0 1 = cc in absurd (omega arith)
  settle_alive g (into ph) zero l z e h = next_alive (record { at = suc g.at; scan = gap; phase = ph; places = g.places; above = g.above }) [] l (statements g.above) refl e h
  settle_alive g (into ph) (suc n) l z e h = absurd (omega arith)
  settle_alive g (done s) zero l z e h = next_alive (record { at = suc g.at; scan = gap; phase = idle; places = g.places; above = record { statement = s; places = g.places; end = g.at } ∷ g.above }) (s ∷ []) l (statements g.above) refl e h
  settle_alive g (done s) (suc n) l z e h = absurd (omega arith)

  advance_alive : (g : Going) (mv : Move) (l : List Statement) → chain (step r g.phase mv) (λ m ph. parse r m ph t) ≡ pass gap idle l → Sound r (l ++ statements g.above) → Alive (run r (advance r g mv) t)
  advance_alive g (keep m) l e h = next_alive (record { at = suc g.at; scan = m; phase = g.phase; places = g.places; above = g.above }) [] l (statements g.above) refl e h
  advance_alive g (first b) l e h = next_alive (record { at = suc g.at; scan = within (b ∷ []); phase = g.phase; places = _; above = g.above }) [] l (statements g.above) refl e h
  advance_alive g command l e h = let z : ◌≡◌ {A = ℕ} 0 1 = cc in absurd (omega arith)
  advance_alive g (ended w) l e h =
      settle_alive g (word r g.phase w) (test r (statements g.above) g.phase w) l
      (word_back r (statements g.above) g.phase w (after_back r (statements g.above) (word r g.phase w) (chain_back r t (λ m ph l d. parse_back r t m ph l d) (after (word r g.phase w)) l (statements g.above) e h))).0
      e h

run_alive : (r : Settings) (t : Bytes) (g : Going) (l : List Statement) → parse r g.scan g.phase t ≡ pass gap idle l → Sound r (l ++ statements g.above) → Alive (run r (going g) t)
unfolding run parse
run_alive r [] g l e h = tt
run_alive r (b ∷ t) g l e h = advance_alive r t (λ g l. run_alive r t g l) g (move g.scan g.phase b) l e h

-- ---- a line's end leaves a gap

abbrev pub Gap : Step → Type 0
Gap halt = Unit {0}
Gap (pass m ph l) = gap ≡ m

after_gap : (a : Outcome) → Gap (chain (after a) (λ m ph. pass m ph []))
after_gap (refuse n) = tt
after_gap (into ph) = refl
after_gap (done s) = refl

line_gap : (r : Settings) (m : Scan) (ph : Phase) → Gap (parse r m ph (10 ∷ []))
unfolding parse is_blank
line_gap r gap ph = refl
line_gap r comment ph = refl
line_gap r (within w) ph = after_gap (word r ph w)

on_top_gap : (l : List Statement) (s : Step) → Gap s → Gap (on_top l s)
on_top_gap l halt h = tt
on_top_gap l (pass m ph k) h = h

pub lines_gap : (r : Settings) (t : Bytes) (m : Scan) (ph : Phase) → Gap (parse r m ph (t ++ newline))
lines_gap r t m ph = subst Gap (sym (parse_append r m ph t newline)) (go (parse r m ph t))
  where
    go : (s : Step) → Gap (chain s (λ m ph. parse r m ph newline))
    go halt = tt
    go (pass m ph l) = on_top_gap l (parse r m ph newline) (line_gap r m ph)

-- ---- the two halves

finish_inv : (len : ℕ) (X : State) (es : List Entry) → finish len X ≡ accepted es → (g : Going) × (X ≡ going g) × (g.phase ≡ idle) × (g.above ≡ es)
finish_inv len (stopped n p) es e = let z : ◌≡◌ {A = ℕ} 0 1 = cc in absurd (omega arith)
finish_inv len (going g) es e = go g.phase refl e
  where
    go : (ph : Phase) → g.phase ≡ ph → end_in ph len g.above ≡ accepted es → (k : Going) × (going g ≡ going k) × (k.phase ≡ idle) × (k.above ≡ es)
    go idle p q = (g, refl, p, cc)
    go (busy m part) p q = let z : ◌≡◌ {A = ℕ} 0 1 = cc in absurd (omega arith)

pub read_inv : (r : Settings) (text : Bytes) (es : List Entry) → read_statements r text ≡ accepted es → (leb (length text) 65536 ≡ true) × ((g : Going) × (run r initial (text ++ newline) ≡ going g) × (g.phase ≡ idle) × (g.above ≡ es))
unfolding read_statements
read_inv r text es e = go (leb (length text) 65536) e
  where
    go : (b : Bool) → cond b (finish (length text) (run r initial (text ++ newline))) (refused 1 0) ≡ accepted es → (b ≡ true) × ((g : Going) × (run r initial (text ++ newline) ≡ going g) × (g.phase ≡ idle) × (g.above ≡ es))
    go true q = (refl, finish_inv (length text) (run r initial (text ++ newline)) es q)
    go false q = let z : ◌≡◌ {A = ℕ} 0 1 = cc in absurd (omega arith)

read_of : (r : Settings) (text : Bytes) (g : Going) → leb (length text) 65536 ≡ true → run r initial (text ++ newline) ≡ going g → g.phase ≡ idle → read_statements r text ≡ accepted g.above
unfolding read_statements
read_of r text g f e p = rw (f, e, p)

-- what the machine's state says of the syntax
pub going_parse : (r : Settings) (t : Bytes) (g : Going) → run r initial t ≡ going g → parse r gap idle t ≡ pass g.scan g.phase (statements g.above)
unfolding statements
going_parse r t g e = go (parse r gap idle t) (on_top_nil (parse r gap idle t)) (subst (λ (X : State). agree [] X (on_top [] (parse r gap idle t))) e (run_agree r t [] initial (pass gap idle []) (refl, refl, refl)))
  where
    go : (s : Step) → on_top [] s ≡ s → agree [] (going g) (on_top [] s) → s ≡ pass g.scan g.phase (statements g.above)
    go halt q h = absurd h
    go (pass m ph l) q h = cc (h.0, h.1, h.2, append-nil l, append-nil (l ++ []))

pub going_sound : (r : Settings) (t : Bytes) (g : Going) → run r initial t ≡ going g → AtPhase r (statements g.above) g.phase
unfolding statements
going_sound r t g e = subst (Holds r) e (run_holds r t initial tt)

pub accept_forth : (r : Settings) (text : Bytes) (es : List Entry) → read_statements r text ≡ accepted es → (leb (length text) 65536 ≡ true) × (parse r gap idle (text ++ newline) ≡ pass gap idle (statements es)) × Sound r (statements es)
accept_forth r text es e =
    let i = read_inv r text es e in
    let g : Going = i.1.0 in
    let p : parse r gap idle (text ++ newline) ≡ pass g.scan g.phase (statements g.above) = going_parse r (text ++ newline) g i.1.1 in
    let m : gap ≡ g.scan = subst Gap p (lines_gap r text gap idle) in
    let q : statements g.above ≡ statements es = ap statements i.1.3 in
    (i.0, cc (p, m, i.1.2, q), subst (Sound r) q (subst (AtPhase r (statements g.above)) i.1.2 (going_sound r (text ++ newline) g i.1.1)))

pub accept_back : (r : Settings) (text : Bytes) (l : List Statement) → leb (length text) 65536 ≡ true → parse r gap idle (text ++ newline) ≡ pass gap idle l → Sound r l → (es : List Entry) × (read_statements r text ≡ accepted es) × (statements es ≡ l)
unfolding statements
accept_back r text l f p h = go (run r initial (text ++ newline)) refl (run_alive r (text ++ newline) _ l p (subst (Sound r) (sym (append-nil l)) h))
  where
    go : (X : State) → run r initial (text ++ newline) ≡ X → Alive X → (es : List Entry) × (read_statements r text ≡ accepted es) × (statements es ≡ l)
    go (stopped n k) e a = absurd a
    go (going g) e a =
        let q : parse r gap idle (text ++ newline) ≡ pass g.scan g.phase (statements g.above) = going_parse r (text ++ newline) g e in
        (g.above, read_of r text g f e (cc (p, q)), cc (p, q))
