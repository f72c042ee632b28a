-- Names stand in the order of their statements: each behind the name of the statement before.
use mathlib.Core.Bool.{Bool, true, false, false≢true}
use mathlib.Core.List.{List, [], ◌∷◌}
use mathlib.Core.Path.{◌≡◌, refl, subst}
use Prim.Native.Nat.{ℕ, zero, suc, ◌≤◌}
use native.Mathlib.Omega.{arith}
use Rattle.laws.proofs.BoolLaws.{cond_elim}
use Rattle.laws.specs.Bytes.{Bytes, bytes, same}
use Rattle.lexer.specs.Word.{word_fault}
use Rattle.scene.proofs.EdgeLaws.{IsWithin, OkScan, OkMove, along}
use Rattle.scene.specs.Phase.{Part, at_type, at_name, at_string_count, at_string, at_integer_count, at_real_count, at_real, at_alias_name, at_target, Phase, idle, busy, Turn, fault, onto, ends, typed, turn, Outcome, refuse, into, done, outcome, taken, unless_fault, word}
use Rattle.scene.specs.Reading.{Scan, gap, comment, within, Move, keep, first, command, ended, test, Places, note_part, note, Entry, Going, State, stopped, going, statements, settle, advance, run, initial}
use Rattle.scene.specs.Types.{type_number, is_retired}
use Rattle.scene.specs.declared.Mode.{Mode}
use Rattle.scene.specs.declared.Settings.{Settings}

-- the place of the latest name, 0 where there is none
abbrev pub last_name : List Entry → ℕ
last_name [] = 0
last_name (e ∷ es) = e.places.name

abbrev pub Rising : List Entry → Type 0
Rising [] = Unit {0}
Rising (e ∷ es) = (last_name es ≤ e.places.name) × Rising es

-- whether the name has been read before a part, and whether it has been begun within a word of it
abbrev past : Part → Bool
past at_type = false
past (at_name t) = false
past (at_string_count t n) = true
past (at_string t n ss k) = true
past (at_integer_count t n ss) = true
past (at_real_count t n ss) = true
past (at_real t n ss rs k) = true
past at_alias_name = false
past (at_target n) = true

abbrev begun : Part → Bool
begun at_type = false
begun (at_name t) = true
begun (at_string_count t n) = true
begun (at_string t n ss k) = true
begun (at_integer_count t n ss) = true
begun (at_real_count t n ss) = true
begun (at_real t n ss rs k) = true
begun at_alias_name = true
begun (at_target n) = true

past_begun : (p : Part) → past p ≡ true → begun p ≡ true
past_begun at_type e = e
past_begun (at_name t) e = refl
past_begun (at_string_count t n) e = refl
past_begun (at_string t n ss k) e = refl
past_begun (at_integer_count t n ss) e = refl
past_begun (at_real_count t n ss) e = refl
past_begun (at_real t n ss rs k) e = refl
past_begun at_alias_name e = refl
past_begun (at_target n) e = refl

-- a name from the last one on, up to the place reached
abbrev Between : ℕ → ℕ → ℕ → Type 0
Between last at name = (last ≤ name) × (name ≤ at)

module _ (r : Settings) (last : ℕ) where
  abbrev AtPart : ℕ → Places → Scan → Part → Type 0
  AtPart at k gap p = past p ≡ true → Between last at k.name
  AtPart at k comment p = past p ≡ true → Between last at k.name
  AtPart at k (within w) p = begun p ≡ true → Between last at k.name

  abbrev AtPhase : ℕ → Places → Scan → Phase → Type 0
  AtPhase at k m idle = Unit {0}
  AtPhase at k m (busy q p) = AtPart at k m p

  -- in every scan what holds in a gap does
  in_gap : (at : ℕ) (k : Places) (m : Scan) (p : Part) → AtPart at k m p → past p ≡ true → Between last at k.name
  in_gap at k gap p h = h
  in_gap at k comment p h = h
  in_gap at k (within w) p h = λ e. h (past_begun p e)

  further : (at : ℕ) (n : ℕ) → Between last at n → Between last (suc at) n
  further at n h = let l = h.1 in (h.0, omega arith)

  kept_part : (at : ℕ) (k : Places) (m m' : Scan) (p : Part) → OkScan m m' → AtPart at k m p → AtPart (suc at) k m' p
  kept_part at k m gap p o h = λ e. further at k.name (in_gap at k m p h e)
  kept_part at k m comment p o h = λ e. further at k.name (in_gap at k m p h e)
  kept_part at k gap (within w) p o h = absurd o
  kept_part at k comment (within w) p o h = absurd o
  kept_part at k (within v) (within w) p o h = λ e. further at k.name (h e)

  begun_part : (at : ℕ) (k : Places) (p : Part) → last ≤ at → (past p ≡ true → Between last at k.name) → begun p ≡ true → Between last (suc at) (note_part p at k).name
  begun_part at k at_type l h e = absurd (false≢true e)
  begun_part at k (at_name t) l h e = (l, omega arith)
  begun_part at k (at_string_count t n) l h e = further at k.name (h refl)
  begun_part at k (at_string t n [] c) l h e = further at k.name (h refl)
  begun_part at k (at_string t n (s ∷ ss) c) l h e = further at k.name (h refl)
  begun_part at k (at_integer_count t n ss) l h e = further at k.name (h refl)
  begun_part at k (at_real_count t n ss) l h e = further at k.name (h refl)
  begun_part at k (at_real t n ss rs c) l h e = further at k.name (h refl)
  begun_part at k at_alias_name l h e = (l, omega arith)
  begun_part at k (at_target n) l h e = further at k.name (h refl)

  -- ---- a word ends

  abbrev OfTurn : ℕ → Places → Turn → Type 0
  OfTurn at k (fault n) = Unit {0}
  OfTurn at k (onto p) = AtPart at k gap p
  OfTurn at k (ends n b) = Between last at k.name

  any_turn : (at : ℕ) (k : Places) → Between last at k.name → (t : Turn) → OfTurn at k t
  any_turn at k h (fault n) = tt
  any_turn at k h (onto p) = λ e. h
  any_turn at k h (ends n b) = h

  typed_turn : (at : ℕ) (k : Places) (m : Mode) (t : ℕ) → OfTurn at k (typed m t)
  typed_turn at k m zero = tt
  typed_turn at k m (suc t) = cond_elim (OfTurn at k) (is_retired m (suc t)) tt (λ e. absurd (false≢true e))

  part_turn : (at : ℕ) (k : Places) (p : Part) (w : Bytes) → (begun p ≡ true → Between last at k.name) → OfTurn at k (turn r p w)
  part_turn at k at_type w h = cond_elim (OfTurn at k) (same w (bytes "alias")) (λ e. absurd (false≢true e)) (typed_turn at k r.mode (type_number w))
  part_turn at k (at_name t) w h = any_turn at k (h refl) (turn r (at_name t) w)
  part_turn at k (at_string_count t n) w h = any_turn at k (h refl) (turn r (at_string_count t n) w)
  part_turn at k (at_string t n ss c) w h = any_turn at k (h refl) (turn r (at_string t n ss c) w)
  part_turn at k (at_integer_count t n ss) w h = any_turn at k (h refl) (turn r (at_integer_count t n ss) w)
  part_turn at k (at_real_count t n ss) w h = any_turn at k (h refl) (turn r (at_real_count t n ss) w)
  part_turn at k (at_real t n ss rs c) w h = any_turn at k (h refl) (turn r (at_real t n ss rs c) w)
  part_turn at k at_alias_name w h = any_turn at k (h refl) (turn r at_alias_name w)
  part_turn at k (at_target n) w h = any_turn at k (h refl) (turn r (at_target n) w)

  abbrev OfOutcome : ℕ → Places → Outcome → Type 0
  OfOutcome at k (refuse n) = Unit {0}
  OfOutcome at k (into ph) = AtPhase at k gap ph
  OfOutcome at k (done s) = Between last at k.name

  turn_outcome : (at : ℕ) (k : Places) (m : Bytes) (t : Turn) → OfTurn at k t → OfOutcome at k (outcome m t)
  turn_outcome at k m (fault n) h = tt
  turn_outcome at k m (onto p) h = h
  turn_outcome at k m (ends n b) h = h

  word_outcome : (at : ℕ) (k : Places) (m : Scan) (ph : Phase) (w : Bytes) → IsWithin m → AtPhase at k m ph → OfOutcome at k (word r ph w)
  word_outcome at k m ph w i h = go (word_fault w) (taken_outcome m ph i h)
    where
      taken_outcome : (m : Scan) (ph : Phase) → IsWithin m → AtPhase at k m ph → OfOutcome at k (taken r ph w)
      taken_outcome m idle i h = λ e. absurd (false≢true e)
      taken_outcome (within v) (busy q p) i h = turn_outcome at k q (turn r p w) (part_turn at k p w h)
      taken_outcome gap (busy q p) i h = absurd i
      taken_outcome comment (busy q p) i h = absurd i

      go : (n : ℕ) → OfOutcome at k (taken r ph w) → OfOutcome at k (unless_fault n (taken r ph w))
      go zero x = x
      go (suc n) x = tt

-- ---- along a run

record Rise (r : Settings) (g : Going) : Type 0 where
  rising : Rising g.above
  low : last_name g.above ≤ g.at
  phase : AtPhase r (last_name g.above) g.at g.places g.scan g.phase

abbrev RiseS : Settings → State → Type 0
RiseS r (stopped n p) = Unit {0}
RiseS r (going g) = Rise r g

settle_rise : (r : Settings) (g : Going) → Rise r g → (o : Outcome) → OfOutcome r (last_name g.above) g.at g.places o → (t : ℕ) → RiseS r (settle g o t)
settle_rise r g h (refuse n) x t = tt
settle_rise r g h (into idle) x zero = let l = h.low in record { rising = h.rising; low = omega arith; phase = tt }
settle_rise r g h (into (busy m p)) x zero = let l = h.low in record { rising = h.rising; low = omega arith; phase = λ e. further r (last_name g.above) g.at g.places.name (x e) }
settle_rise r g h (into ph) x (suc t) = tt
settle_rise r g h (done s) x zero = let l = x.1 in record { rising = (x.0, h.rising); low = omega arith; phase = tt }
settle_rise r g h (done s) x (suc t) = tt

advance_rise : (r : Settings) (g : Going) (mv : Move) → OkMove g.scan mv → Rise r g → RiseS r (advance r g mv)
advance_rise r g (keep m) o h = let l = h.low in record { rising = h.rising; low = omega arith; phase = go g.phase h.phase }
  where
    go : (ph : Phase) → AtPhase r (last_name g.above) g.at g.places g.scan ph → AtPhase r (last_name g.above) (suc g.at) g.places m ph
    go idle x = tt
    go (busy q p) x = kept_part r (last_name g.above) g.at g.places g.scan m p o x
advance_rise r g (first b) o h = let l = h.low in record { rising = h.rising; low = omega arith; phase = go g.phase h.phase }
  where
    go : (ph : Phase) → AtPhase r (last_name g.above) g.at g.places g.scan ph → AtPhase r (last_name g.above) (suc g.at) (note ph g.at g.places) (within (b ∷ [])) ph
    go idle x = tt
    go (busy q p) x = begun_part r (last_name g.above) g.at g.places p h.low (in_gap r (last_name g.above) g.at g.places g.scan p x)
advance_rise r g command o h = tt
advance_rise r g (ended w) o h = settle_rise r g h (word r g.phase w) (word_outcome r (last_name g.above) g.at g.places g.scan g.phase w o h.phase) (test r (statements g.above) g.phase w)

rise_along : (r : Settings) (t : Bytes) (g : Going) → run r initial t ≡ going g → Rise r g
rise_along r t g e = subst (RiseS r) e (along r (RiseS r) (λ n p. tt) (advance_rise r) t initial (record { rising = tt; low = omega arith; phase = tt }))

pub names_rise : (r : Settings) (t : Bytes) (g : Going) → run r initial t ≡ going g → Rising g.above
names_rise r t g e = (rise_along r t g e).rising

-- the latest name stands before the place reached
pub name_passed : (r : Settings) (t : Bytes) (g : Going) → run r initial t ≡ going g → last_name g.above ≤ g.at
name_passed r t g e = (rise_along r t g e).low
