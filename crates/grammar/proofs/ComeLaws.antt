-- Where a reason holds, the reading stops there or before, or ends inside a statement.
use mathlib.Core.Bool.{Bool, true, cond}
use mathlib.Core.List.{List, [], ◌∷◌, ◌++◌, append_assoc, append-nil}
use mathlib.Core.Logic.{◌⊎◌, inl, inr}
use mathlib.Core.Path.{◌≡◌, refl, ap, sym, ◌∙◌, subst}
use Prim.Native.Nat.{ℕ, zero, suc, ◌+◌, ◌≤◌, ◌<◌}
use native.Mathlib.Nat.{add-zero}
use native.Mathlib.Omega.{arith}
use lib.ListN.{length}
use Rattle.grammar.proofs.SpellsLaws.{begun_parse, spells_parse}
use Rattle.grammar.proofs.StopLaws.{run_snoc}
use Rattle.grammar.proofs.VerdictLaws.{Lowest, verdict, verdict_lowest}
use Rattle.grammar.specs.Grammar.{Spells}
use Rattle.grammar.specs.Refusal.{Begun, Fails, Holds, Test, WordAt, command as commanded, long, unfinished, word_tests, wrong}
use Rattle.laws.proofs.BoolLaws.{and_left, and_right, not_true}
use Rattle.laws.specs.Bytes.{Bytes, byte}
use Rattle.laws.specs.Runs.{all}
use Rattle.lexer.specs.Class.{is_blank, is_other}
use Rattle.scene.proofs.AcceptLaws.{going_parse}
use Rattle.scene.proofs.EdgeLaws.{run_append, run_stopped}
use Rattle.scene.proofs.ReadingLaws.{Located, going_located, noted, stopped_within, word_located}
use Rattle.scene.proofs.SyntaxLaws.{parse, pass}
use Rattle.scene.specs.Phase.{Outcome, Part, Phase, busy, done, idle, into, refuse, word}
use Rattle.scene.specs.Reading.{Entry, Going, Places, Scan, State, advance, at_end, begins, comment, ended, feed, gap, going, going_at, initial, keep, move, newline, note, run, settle, statements, stopped, test, within}
use Rattle.scene.specs.Statement.{Statement}
use Rattle.scene.specs.declared.Settings.{Settings}
use Rattle.tidying.proofs.WordLaws.{first_byte, starts_filled}
use Rattle.tidying.specs.Proper.{starts}

-- of a text in two pieces, the second is read from where the first leaves off
stays : (r : Settings) (t u : Bytes) (X : State) → run r initial t ≡ X → run r initial (t ++ u) ≡ run r X u
stays r t u X e = run_append r initial t u ∙ ap (λ (Y : State). run r Y u) e

-- what the reading of a text has come to where a reason m holds at q
abbrev pub Come : Bytes → (m q : ℕ) → State → Type 0
Come text m q (stopped n p) = (p < q) ⊎ ((p ≡ q) × (n ≤ m))
Come text m q (going g) = (m ≡ 5) × (q ≡ length text) × ((g.phase ≡ idle) → ⊥)

-- the state by what has been read
record Reached (d : List Statement) (ph : Phase) (g : Going) : Type 0 where
  scan : g.scan ≡ gap
  phase : g.phase ≡ ph
  statements : statements g.above ≡ d

reached : (r : Settings) (t : Bytes) (d : List Statement) (ph : Phase) (g : Going) → parse r gap idle t ≡ pass gap ph d → run r initial t ≡ going g → Reached d ph g
reached r t d ph g p e = let q = going_parse r t g e in record { scan = cc (p, q); phase = cc (p, q); statements = cc (p, q) }

-- ---- a whole word

rest_run : (r : Settings) (w : Bytes) (n : ℕ) (v : Bytes) (ph : Phase) (k : Places) (es : List Entry) → all is_other w ≡ true → run r (going_at n (within v) ph k es) w ≡ going_at (n + length w) (within (v ++ w)) ph k es
unfolding run all is_other
rest_run r [] n v ph k es o = λ i. going_at (sym (add-zero n) i) (within (sym (append-nil v) i)) ph k es
rest_run r (c ∷ w) n v ph k es o =
    rw (not_true (is_blank c) (and_left (is_other c) (all is_other w) o))
    (rest_run r w (suc n) (v ++ c ∷ []) ph k es (and_right (is_other c) (all is_other w) o)
    ∙ (λ i. going_at ((let q : suc n + length w ≡ n + suc (length w) = omega arith in q) i) (within (append_assoc v (c ∷ []) w i)) ph k es))

word_run : (r : Settings) (w : Bytes) (n : ℕ) (ph : Phase) (k : Places) (es : List Entry) → starts ph w ≡ true → all is_other w ≡ true → run r (going_at n gap ph k es) w ≡ going (at_end n w ph k es)
unfolding run all is_other
word_run r [] n ph k es s o = absurd (omega (arith, starts_filled ph [] s))
word_run r (c ∷ w) n ph k es s o =
    rw (not_true (is_blank c) (and_left (is_other c) (all is_other w) o), first_byte ph c w s)
    (rest_run r w (suc n) (c ∷ []) ph (note ph n k) es (and_right (is_other c) (all is_other w) o)
    ∙ (λ i. going_at ((let q : suc n + length w ≡ n + suc (length w) = omega arith in q) i) (within (c ∷ w)) ph (note ph n k) es))

-- ---- each kind of reason

module _ (r : Settings) (text : Bytes) where
  -- the word that a reason is about ends the reading where that has not stopped before
  settle_comes : (xs : List Test) (g : Going) (o : Outcome) (t m q : ℕ) (u : Bytes) → Lowest (verdict o t) xs → Fails m xs → g.places.word ≡ q → Come text m q (run r (settle g o t) u)
  settle_comes xs g o t m q u l f e = go o t l
    where
      halted : (n : ℕ) → n ≤ m → Come text m q (run r (stopped n g.places.word) u)
      halted n h = subst (Come text m q) (sym (run_stopped r n g.places.word u)) (inr (e, h))

      go : (o : Outcome) (t : ℕ) → Lowest (verdict o t) xs → Come text m q (run r (settle g o t) u)
      go (refuse n) t l = halted n (l.1 m f)
      go (into ph) zero l = absurd (l m f)
      go (into ph) (suc t) l = halted (suc t) (l.1 m f)
      go (done s) zero l = absurd (l m f)
      go (done s) (suc t) l = halted (suc t) (l.1 m f)

  -- a reading that stops before q has come to an earlier reason
  before_comes : (t u : Bytes) (n p m q : ℕ) → run r initial t ≡ stopped n p → length t ≡ q → Come text m q (run r initial (t ++ u))
  before_comes t u n p m q e l = subst (Come text m q) (sym (stays r t u (stopped n p) e ∙ run_stopped r n p u)) (inl (let k = stopped_within r t n p e in omega arith))

  word_comes : (m q : ℕ) (d : List Statement) (ph : Phase) (w : Bytes) → WordAt r.mode text q d ph w → Fails m (word_tests r d ph w) → Come text m q (run r initial (text ++ newline))
  unfolding run
  word_comes m q d ph w h f = subst (λ (t : Bytes). Come text m q (run r initial t)) (sym h.split) (go (run r initial h.before) refl)
    where
      tail : Bytes
      tail = w ++ h.end ∷ h.rest

      on : (g : Going) → Reached d ph g → run r (going g) tail ≡ run r (settle (at_end g.at w ph g.places g.above) (word r ph w) (test r d ph w)) h.rest
      on g c =
          (λ i. run r (going_at g.at (c.scan i) (c.phase i) g.places g.above) tail)
          ∙ run_append r (going_at g.at gap ph g.places g.above) w (h.end ∷ h.rest)
          ∙ ap (λ (X : State). run r X (h.end ∷ h.rest)) (word_run r w g.at ph g.places g.above h.begins h.others)
          ∙ ap (λ (x : Bool). run r (advance r (at_end g.at w ph g.places g.above) (cond x (ended w) (keep (within (w ++ h.end ∷ []))))) h.rest) h.ends
          ∙ ap (λ (z : List Statement). run r (settle (at_end g.at w ph g.places g.above) (word r ph w) (test r z ph w)) h.rest) c.statements

      go : (X : State) → run r initial h.before ≡ X → Come text m q (run r initial (h.before ++ tail))
      go (stopped n p) e = before_comes h.before tail n p m q e h.at
      go (going g) e =
          let c = reached r h.before d ph g (begun_parse r d ph h.before h.begun) e in
          subst (Come text m q) (sym (stays r h.before tail (going g) e ∙ on g c))
          (settle_comes (word_tests r d ph w) (at_end g.at w ph g.places g.above) (word r ph w) (test r d ph w) m q h.rest (verdict_lowest r d ph w) f
          (noted ph g.at g.places ∙ (going_located r h.before g e).at ∙ h.at))

  command_comes : (d : List Statement) (t u : Bytes) → text ++ newline ≡ t ++ byte "!" ∷ u → Spells r.mode d t → Come text 4 (length t) (run r initial (text ++ newline))
  unfolding run is_blank
  command_comes d t u q s = subst (λ (x : Bytes). Come text 4 (length t) (run r initial x)) (sym q) (go (run r initial t) refl)
    where
      go : (X : State) → run r initial t ≡ X → Come text 4 (length t) (run r initial (t ++ byte "!" ∷ u))
      go (stopped n p) e = before_comes t (byte "!" ∷ u) n p 4 (length t) e refl
      go (going g) e =
          let c = reached r t d idle g (spells_parse r d t s) e in
          let stop : run r (going g) (byte "!" ∷ u) ≡ stopped 4 g.at = (λ i. run r (going_at g.at (c.scan i) (c.phase i) g.places g.above) (byte "!" ∷ u)) ∙ run_stopped r 4 g.at u in
          subst (Come text 4 (length t)) (sym (stays r t (byte "!" ∷ u) (going g) e ∙ stop)) (inr ((going_located r t g e).at, omega arith))

  -- the byte 10 behind a text is the place of nothing
  ended_before : (g : Going) (n p : ℕ) → run r initial text ≡ going g → feed r (going g) 10 ≡ stopped n p → p < length text
  unfolding is_blank
  ended_before g n p e f = go g.scan refl f
    where
      l : Located text g
      l = going_located r text g e

      Early : State → Type 0
      Early (stopped n p) = p < length text
      Early (going k) = Unit {0}

      settled : (o : Outcome) (t : ℕ) → g.places.word < length text → Early (settle g o t)
      settled (refuse c) t h = h
      settled (into ph) zero h = tt
      settled (into ph) (suc t) h = h
      settled (done s) zero h = tt
      settled (done s) (suc t) h = h

      go : (m : Scan) → g.scan ≡ m → advance r g (move m g.phase 10) ≡ stopped n p → p < length text
      go gap s f = subst Early f tt
      go comment s f = subst Early f tt
      go (within w) s f = let k = word_located text g w l s in subst Early f (settled (word r g.phase w) (test r (statements g.above) g.phase w) (omega (arith, k.0, k.1, l.at)))

  end_comes : (d : List Statement) (m : Bytes) (p : Part) → Begun r.mode d (busy m p) (text ++ newline) → Come text 5 (length text) (run r initial (text ++ newline))
  end_comes d m p h = go (run r initial (text ++ newline)) refl
    where
      early : (n q : ℕ) → run r initial (text ++ newline) ≡ stopped n q → (X : State) → run r initial text ≡ X → q < length text
      early n q e (stopped n' q') f =
          let k = stopped_within r text n' q' f in
          let z : stopped n' q' ≡ stopped n q = sym (stays r text newline (stopped n' q') f ∙ run_stopped r n' q' newline) ∙ e in
          let s : q' ≡ q = cc in
          omega arith
      early n q e (going g) f = ended_before g n q f (sym (run_snoc r text 10 g f) ∙ e)

      go : (X : State) → run r initial (text ++ newline) ≡ X → Come text 5 (length text) X
      go (stopped n q) e = inl (early n q e (run r initial text) refl)
      go (going g) e = (refl, refl, λ z. no_phase (sym (reached r (text ++ newline) d (busy m p) g (begun_parse r d (busy m p) (text ++ newline) h) e).phase ∙ z))
        where
          IsBusy : Phase → Type 0
          IsBusy idle = ⊥
          IsBusy (busy m p) = Unit {0}

          no_phase : busy m p ≡ idle → ⊥
          no_phase z = subst IsBusy z tt

  pub holds_comes : (m q : ℕ) → length text ≤ 65536 → Holds r text m q → Come text m q (run r initial (text ++ newline))
  holds_comes m q l (long h) = absurd (omega arith)
  holds_comes m q l (commanded d t u e s) = command_comes d t u e s
  holds_comes m q l (unfinished d n p h) = end_comes d n p h
  holds_comes m q l (wrong d ph w a f) = word_comes m q d ph w a f
