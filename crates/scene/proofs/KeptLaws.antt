-- What each byte keeps of the open part and of the finished statements holds along a run.
use mathlib.Core.Bool.{Bool, true, false, cond}
use mathlib.Core.List.{List, [], ◌∷◌, ◌++◌, append_assoc, append-nil}
use mathlib.Core.Path.{◌≡◌, refl, ap, sym, ◌∙◌, subst}
use Prim.Native.Nat.{ℕ, zero, suc}
use native.Mathlib.Omega.{arith}
use lib.Dec.{eqb}
use lib.ListN.{length, length-append}
use Rattle.laws.specs.Bytes.{Bytes}
use Rattle.lexer.specs.Class.{is_blank}
use Rattle.lexer.specs.Word.{word_fault}
use Rattle.scene.specs.Phase.{Part, at_type, Phase, idle, busy, Turn, fault, onto, ends, turn, Outcome, refuse, into, done, outcome, taken, word, unless_fault}
use Rattle.scene.specs.Reading.{Scan, gap, comment, within, keep, first, command, ended, begins, move, test, Places, note_part, note, Entry, Going, State, stopped, going, statements, settle, advance, feed, run, initial}
use Rattle.scene.specs.declared.Settings.{Settings}
use Rattle.scene.specs.Statement.{Body}

-- c has been read, and now b
module _ (c : Bytes) (b : ℕ) where
  abbrev pub more : Bytes
  more = c ++ b ∷ []

  pub more_length : length more ≡ suc (length c)
  more_length = length-append c (b ∷ []) ∙ omega arith

  pub snoc : (t : Bytes) → more ++ t ≡ c ++ b ∷ t
  snoc t = append_assoc c (b ∷ []) t

-- what is said of a statement's places, name and body, said of all
abbrev pub Each : (Bytes → Places → Bytes → Body → Type 0) → Bytes → List Entry → Type 0
Each Read c [] = Unit {0}
Each Read c (e ∷ es) = Read c e.places e.statement.name e.statement.body × Each Read c es

pub each_tail : (Read : Bytes → Places → Bytes → Body → Type 0) (c : Bytes) (y x : List Entry) → Each Read c (y ++ x) → Each Read c x
each_tail Read c [] x h = h
each_tail Read c (e ∷ y) x h = each_tail Read c y x h.1

pub each_more : (Read : Bytes → Places → Bytes → Body → Type 0) → ((c : Bytes) (b : ℕ) (k : Places) (n : Bytes) (x : Body) → Read c k n x → Read (more c b) k n x) → (c : Bytes) (b : ℕ) (es : List Entry) → Each Read c es → Each Read (more c b) es
each_more Read f c b [] h = tt
each_more Read f c b (e ∷ es) h = (f c b e.places e.statement.name e.statement.body h.0, each_more Read f c b es h.1)

-- what holds before a part and of a finished statement, said of what a word makes of a part
abbrev pub TurnHolds : (Bytes → Places → Part → Type 0) → (Bytes → Places → Bytes → Body → Type 0) → Bytes → Places → Turn → Type 0
TurnHolds Gap Read c k (fault n) = Unit {0}
TurnHolds Gap Read c k (onto p) = Gap c k p
TurnHolds Gap Read c k (ends n x) = Read c k n x

-- what holds in the gap before a part, within a word of it, and of a finished statement
module _ (Gap : Bytes → Places → Part → Type 0) (Within : Bytes → Places → Bytes → Part → Type 0) (Read : Bytes → Places → Bytes → Body → Type 0) where
  -- a statement opens, a blank comes before a word, a word begins, goes on, and ends; what is finished stays
  pub record Kept (r : Settings) : Type 0 where
    pub opened : (c : Bytes) (k : Places) → Gap c k at_type
    pub blank : (c : Bytes) (b : ℕ) (k : Places) (p : Part) → is_blank b ≡ true → Gap c k p → Gap (more c b) k p
    pub begun : (c : Bytes) (b : ℕ) (n : ℕ) (k : Places) (p : Part) → length c ≡ n → is_blank b ≡ false → Gap c k p → Within (more c b) (note_part p n k) (b ∷ []) p
    pub longer : (c : Bytes) (b : ℕ) (k : Places) (w : Bytes) (p : Part) → is_blank b ≡ false → Within c k w p → Within (more c b) k (w ++ b ∷ []) p
    pub turned : (c : Bytes) (b : ℕ) (k : Places) (w : Bytes) (p : Part) → is_blank b ≡ true → Within c k w p → TurnHolds Gap Read (more c b) k (turn r p w)
    pub read : (c : Bytes) (b : ℕ) (k : Places) (n : Bytes) (x : Body) → Read c k n x → Read (more c b) k n x

  abbrev ScanHolds : Bytes → Places → Scan → Part → Type 0
  ScanHolds c k gap p = Gap c k p
  ScanHolds c k comment p = ⊥
  ScanHolds c k (within w) p = Within c k w p

  abbrev PhaseHolds : Bytes → Places → Scan → Phase → Type 0
  PhaseHolds c k m idle = Unit {0}
  PhaseHolds c k m (busy q p) = ScanHolds c k m p

  record Holds (c : Bytes) (g : Going) : Type 0 where
    at : length c ≡ g.at
    above : Each Read c g.above
    phase : PhaseHolds c g.places g.scan g.phase

  abbrev HoldsS : Bytes → State → Type 0
  HoldsS c (stopped n p) = Unit {0}
  HoldsS c (going g) = Holds c g

  module _ (r : Settings) (kept : Kept r) where
    module _ (c : Bytes) (b : ℕ) where
      -- what a word comes to
      abbrev OutcomeHolds : Places → Outcome → Type 0
      OutcomeHolds k (refuse n) = Unit {0}
      OutcomeHolds k (into ph) = PhaseHolds (more c b) k gap ph
      OutcomeHolds k (done s) = Read (more c b) k s.name s.body

      outcome_holds : (k : Places) (m : Bytes) (t : Turn) → TurnHolds Gap Read (more c b) k t → OutcomeHolds k (outcome m t)
      outcome_holds k m (fault n) h = tt
      outcome_holds k m (onto p) h = h
      outcome_holds k m (ends n x) h = h

      taken_holds : (k : Places) (w : Bytes) (ph : Phase) → is_blank b ≡ true → PhaseHolds c k (within w) ph → OutcomeHolds k (taken r ph w)
      taken_holds k w idle e h = kept.opened (more c b) k
      taken_holds k w (busy m p) e h = outcome_holds k m (turn r p w) (kept.turned c b k w p e h)

      word_holds : (k : Places) (w : Bytes) (ph : Phase) → is_blank b ≡ true → PhaseHolds c k (within w) ph → OutcomeHolds k (word r ph w)
      word_holds k w ph e h = go (word_fault w)
        where
          go : (n : ℕ) → OutcomeHolds k (unless_fault n (taken r ph w))
          go (suc n) = tt
          go zero = taken_holds k w ph e h

      -- a byte
      module _ (n : ℕ) (k : Places) (es : List Entry) (l : length c ≡ n) (al : Each Read c es) where
        abbrev here : Scan → Phase → Going
        here m ph = record { at = n; scan = m; phase = ph; places = k; above = es }

        -- the next place, with the same statements above
        on : (m : Scan) (ph : Phase) (k' : Places) → PhaseHolds (more c b) k' m ph → Holds (more c b) (record { at = suc n; scan = m; phase = ph; places = k'; above = es })
        on m ph k' h = record { at = more_length c b ∙ ap suc l; above = each_more Read kept.read c b es al; phase = h }

        settle_holds : (w : Bytes) (ph : Phase) (a : Outcome) (t : ℕ) → OutcomeHolds k a → HoldsS (more c b) (settle (here (within w) ph) a t)
        settle_holds w ph (refuse q) t h = tt
        settle_holds w ph (into ph') zero h = on gap ph' k h
        settle_holds w ph (into ph') (suc t) h = tt
        settle_holds w ph (done s) zero h = record { at = more_length c b ∙ ap suc l; above = (h, each_more Read kept.read c b es al); phase = tt }
        settle_holds w ph (done s) (suc t) h = tt

        begins_holds : (ph : Phase) → is_blank b ≡ false → PhaseHolds c k gap ph → HoldsS (more c b) (advance r (here gap ph) (begins ph b))
        begins_holds idle e h = go (eqb b 35) (eqb b 33)
          where
            go : (x y : Bool) → HoldsS (more c b) (advance r (here gap idle) (cond x (keep comment) (cond y command (first b))))
            go true y = on comment idle k tt
            go false true = tt
            go false false = on (within (b ∷ [])) idle (note idle n k) tt
        begins_holds (busy m p) e h = on (within (b ∷ [])) (busy m p) (note_part p n k) (kept.begun c b n k p l e h)

        gap_holds : (ph : Phase) → PhaseHolds c k gap ph → (q : Bool) → is_blank b ≡ q → HoldsS (more c b) (advance r (here gap ph) (cond q (keep gap) (begins ph b)))
        gap_holds idle h true e = on gap idle k tt
        gap_holds (busy m p) h true e = on gap (busy m p) k (kept.blank c b k p e h)
        gap_holds ph h false e = begins_holds ph e h

        within_holds : (w : Bytes) (ph : Phase) → PhaseHolds c k (within w) ph → (q : Bool) → is_blank b ≡ q → HoldsS (more c b) (advance r (here (within w) ph) (cond q (ended w) (keep (within (w ++ b ∷ [])))))
        within_holds w ph h true e = settle_holds w ph (word r ph w) (test r (statements es) ph w) (word_holds k w ph e h)
        within_holds w idle h false e = on (within (w ++ b ∷ [])) idle k tt
        within_holds w (busy m p) h false e = on (within (w ++ b ∷ [])) (busy m p) k (kept.longer c b k w p e h)

        feed_holds : (m : Scan) (ph : Phase) → PhaseHolds c k m ph → HoldsS (more c b) (advance r (here m ph) (move m ph b))
        feed_holds gap ph h = gap_holds ph h (is_blank b) refl
        feed_holds (within w) ph h = within_holds w ph h (is_blank b) refl
        feed_holds comment (busy m p) h = absurd h
        feed_holds comment idle h = go (eqb b 10)
          where
            go : (x : Bool) → HoldsS (more c b) (advance r (here comment idle) (cond x (keep gap) (keep comment)))
            go true = on gap idle k tt
            go false = on comment idle k tt

    run_holds : (t c : Bytes) (X : State) → HoldsS c X → HoldsS (c ++ t) (run r X t)
    unfolding run
    run_holds [] c X h = subst (λ (z : Bytes). HoldsS z X) (sym (append-nil c)) h
    run_holds (b ∷ t) c (stopped n p) h = subst (λ (z : Bytes). HoldsS z (run r (stopped n p) t)) (snoc c b t) (run_holds t (more c b) (stopped n p) tt)
    run_holds (b ∷ t) c (going g) h = subst (λ (z : Bytes). HoldsS z (run r (feed r (going g) b) t)) (snoc c b t) (run_holds t (more c b) (feed r (going g) b) (feed_holds c b g.at g.places g.above h.at h.above g.scan g.phase h.phase))

    pub run_read : (t : Bytes) (g : Going) → run r initial t ≡ going g → Each Read t g.above
    run_read t g e = (subst (HoldsS t) e (run_holds t [] initial (record { at = refl; above = tt; phase = tt }))).above
