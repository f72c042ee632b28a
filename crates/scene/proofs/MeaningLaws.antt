-- What every statement of an accepted text has: a type from 1 to 25, numerals with their own values, and an alias a type that is
-- no surface's.
use mathlib.Core.Bool.{Bool, true, false, cond, ◌&&◌, true≢false}
use mathlib.Core.List.{List, [], ◌∷◌, ◌++◌}
use mathlib.Core.Logic.{◌⊎◌, inl, inr}
use mathlib.Core.Option.{Option, none, some}
use mathlib.Core.Path.{◌≡◌, refl, ap, sym, ◌∙◌, subst}
use Prim.Native.Nat.{ℕ, zero, suc, ◌+◌, ◌≤◌, ◌<◌}
use native.Mathlib.Omega.{arith}
use borrow.Author.Tests.{leb-false, le-leb}
use lib.Dec.{T, leb}
use lib.Ieee.{Float}
use lib.Ieee.Scale.{finite}
use lib.ListN.{length}
use Rattle.laws.proofs.BoolLaws.{cond_elim}
use Rattle.laws.specs.Bytes.{Bytes, bytes, same}
use Rattle.lexer.specs.Word.{word_fault}
use Rattle.numeral.proofs.FiniteLaws.{numeral_finite}
use Rattle.numeral.specs.Count.{count_of}
use Rattle.numeral.specs.Numeral.{numeral_of, Answer, value, refusal}
use Rattle.scene.proofs.AcceptLaws.{read_inv}
use Rattle.scene.proofs.EdgeLaws.{OkMove, along}
use Rattle.scene.proofs.GivesLaws.{resolved_no_surface}
use Rattle.scene.proofs.PropertyLaws.{accepted_linked}
use Rattle.scene.proofs.SwapLaws.{Linked, linked_split, BodyLink}
use Rattle.scene.specs.HouseRules.{breach}
use Rattle.scene.specs.Links.{hits, found, head, definition, resolve, through, body_of, own_body, type_in, reals_in}
use Rattle.scene.specs.Phase.{Part, at_type, at_name, at_string_count, at_string, at_integer_count, at_real_count, at_real, at_alias_name, at_target, Phase, idle, busy, Turn, fault, onto, ends, typed, strings, string_count, integer_count, reals, real_count, real, turn, Outcome, refuse, into, done, outcome, taken, unless_fault, word}
use Rattle.scene.specs.Reading.{Move, keep, first, command, ended, target_test, test, Entry, Going, State, stopped, going, statements, settle, advance, initial, accepted, newline, read_statements}
use Rattle.scene.specs.Record.{real_table}
use Rattle.scene.specs.declared.Mode.{Mode}
use Rattle.scene.specs.declared.Settings.{Settings}
use Rattle.scene.specs.Types.{Kind, types, type_number, number_from, strings_allowed, reals_allowed, is_retired, is_surface}
use Rattle.scene.specs.Statement.{Literal, literal, numbers, Body, primitive, alias, Statement, void}
use Rattle.scene.specs.Record as record·

-- ---- what is meant by a body

abbrev pub IsType : ℕ → Type 0
IsType t = (1 ≤ t) × (t ≤ 25)

-- each number is its word's value
abbrev pub Valued : List Literal → Type 0
Valued [] = Unit {0}
Valued (l ∷ ls) = (value l.number ≡ numeral_of l.word) × Valued ls

abbrev pub Meant : Body → Type 0
Meant (primitive t ss rs) = IsType t × Valued rs
Meant (alias x) = Unit {0}

abbrev pub AllMeant : List Statement → Type 0
AllMeant [] = Unit {0}
AllMeant (s ∷ d) = Meant s.body × AllMeant d

-- ---- a type's number is a row's

number_range : (w : Bytes) (n : ℕ) (ts : List Kind) → (number_from n w ts ≡ 0) ⊎ ((n ≤ number_from n w ts) × (number_from n w ts < n + length ts))
unfolding number_from
number_range w n [] = inl refl
number_range w n (t ∷ ts) = go (same w t.name) (number_range w (suc n) ts)
  where
    go : (b : Bool) → (number_from (suc n) w ts ≡ 0) ⊎ ((suc n ≤ number_from (suc n) w ts) × (number_from (suc n) w ts < suc n + length ts)) → (cond b n (number_from (suc n) w ts) ≡ 0) ⊎ ((n ≤ cond b n (number_from (suc n) w ts)) × (cond b n (number_from (suc n) w ts) < n + suc (length ts)))
    go true h = inr (omega arith, omega arith)
    go false (inl z) = inl z
    go false (inr (a, b)) = inr (omega arith, omega arith)

type_range : (w : Bytes) (k : ℕ) → type_number w ≡ suc k → IsType (suc k)
unfolding type_number
type_range w k e = go (number_range w 1 types)
  where
    go : (number_from 1 w types ≡ 0) ⊎ ((1 ≤ number_from 1 w types) × (number_from 1 w types < 1 + length types)) → IsType (suc k)
    go (inl z) = absurd (omega arith)
    go (inr (a, b)) = (omega arith, omega arith)

-- ---- along a reading

abbrev AtPart : Part → Type 0
AtPart at_type = Unit {0}
AtPart (at_name t) = IsType t
AtPart (at_string_count t n) = IsType t
AtPart (at_string t n ss k) = IsType t
AtPart (at_integer_count t n ss) = IsType t
AtPart (at_real_count t n ss) = IsType t
AtPart (at_real t n ss rs k) = IsType t × Valued rs
AtPart at_alias_name = Unit {0}
AtPart (at_target n) = Unit {0}

abbrev OfTurn : Turn → Type 0
OfTurn (fault n) = Unit {0}
OfTurn (onto p) = AtPart p
OfTurn (ends n b) = Meant b

typed_meant : (m : Mode) (w : Bytes) (k : ℕ) → type_number w ≡ k → OfTurn (typed m k)
typed_meant m w zero e = tt
typed_meant m w (suc k) e = cond_elim OfTurn (is_retired m (suc k)) tt (type_range w k e)

strings_meant : (t : ℕ) (n : Bytes) (k : ℕ) → IsType t → OfTurn (strings t n k)
strings_meant t n zero h = h
strings_meant t n (suc k) h = h

string_count_meant : (t : ℕ) (n : Bytes) (c : Option ℕ) → IsType t → OfTurn (string_count t n c)
string_count_meant t n none h = tt
string_count_meant t n (some k) h = cond_elim OfTurn (strings_allowed t k) (strings_meant t n k h) tt

integer_count_meant : (t : ℕ) (n : Bytes) (ss : List Bytes) (c : Option ℕ) → IsType t → OfTurn (integer_count t n ss c)
integer_count_meant t n ss none h = tt
integer_count_meant t n ss (some zero) h = h
integer_count_meant t n ss (some (suc k)) h = tt

reals_meant : (t : ℕ) (n : Bytes) (ss : List Bytes) (rs : List Literal) (k : ℕ) → IsType t → Valued rs → OfTurn (reals t n ss rs k)
reals_meant t n ss rs zero h v = (h, v)
reals_meant t n ss rs (suc k) h v = (h, v)

real_count_meant : (t : ℕ) (n : Bytes) (ss : List Bytes) (c : Option ℕ) → IsType t → OfTurn (real_count t n ss c)
real_count_meant t n ss none h = tt
real_count_meant t n ss (some k) h = cond_elim OfTurn (reals_allowed t k) (reals_meant t n ss [] k h tt) tt

valued_more : (rs : List Literal) (w : Bytes) (x : Float) → Valued rs → value x ≡ numeral_of w → Valued (rs ++ literal w x ∷ [])
valued_more [] w x v e = (e, tt)
valued_more (l ∷ rs) w x v e = (v.0, valued_more rs w x v.1 e)

real_meant : (t : ℕ) (n : Bytes) (ss : List Bytes) (rs : List Literal) (k : ℕ) (w : Bytes) (a : Answer) → a ≡ numeral_of w → IsType t → Valued rs → OfTurn (real t n ss rs k w a)
real_meant t n ss rs k w (refusal c) e h v = tt
real_meant t n ss rs k w (value x) e h v = cond_elim OfTurn (breach t (numbers (rs ++ literal w x ∷ []))) tt (reals_meant t n ss (rs ++ literal w x ∷ []) k h (valued_more rs w x v e))

turn_meant : (r : Settings) (p : Part) (w : Bytes) → AtPart p → OfTurn (turn r p w)
turn_meant r at_type w h = cond_elim OfTurn (same w (bytes "alias")) tt (typed_meant r.mode w (type_number w) refl)
turn_meant r (at_name t) w h = cond_elim OfTurn (same w void) tt h
turn_meant r (at_string_count t n) w h = string_count_meant t n (count_of w) h
turn_meant r (at_string t n ss zero) w h = h
turn_meant r (at_string t n ss (suc k)) w h = h
turn_meant r (at_integer_count t n ss) w h = integer_count_meant t n ss (count_of w) h
turn_meant r (at_real_count t n ss) w h = real_count_meant t n ss (count_of w) h
turn_meant r (at_real t n ss rs k) w h = real_meant t n ss rs k w (numeral_of w) refl h.0 h.1
turn_meant r at_alias_name w h = cond_elim OfTurn (same w void) tt tt
turn_meant r (at_target n) w h = tt

abbrev AtPhase : Phase → Type 0
AtPhase idle = Unit {0}
AtPhase (busy m p) = AtPart p

abbrev OfOutcome : Outcome → Type 0
OfOutcome (refuse n) = Unit {0}
OfOutcome (into ph) = AtPhase ph
OfOutcome (done s) = Meant s.body

outcome_meant : (m : Bytes) (t : Turn) → OfTurn t → OfOutcome (outcome m t)
outcome_meant m (fault n) h = tt
outcome_meant m (onto p) h = h
outcome_meant m (ends n b) h = h

taken_meant : (r : Settings) (ph : Phase) (w : Bytes) → AtPhase ph → OfOutcome (taken r ph w)
taken_meant r idle w h = tt
taken_meant r (busy m p) w h = outcome_meant m (turn r p w) (turn_meant r p w h)

word_meant : (r : Settings) (ph : Phase) (w : Bytes) → AtPhase ph → OfOutcome (word r ph w)
word_meant r ph w h = go (word_fault w)
  where
    go : (n : ℕ) → OfOutcome (unless_fault n (taken r ph w))
    go zero = taken_meant r ph w h
    go (suc n) = tt

abbrev InState : State → Type 0
InState (stopped n p) = Unit {0}
InState (going g) = AtPhase g.phase × AllMeant (statements g.above)

settle_meant : (g : Going) (o : Outcome) (t : ℕ) → InState (going g) → OfOutcome o → InState (settle g o t)
unfolding statements
settle_meant g (refuse n) t h k = tt
settle_meant g (into ph) zero h k = (k, h.1)
settle_meant g (into ph) (suc t) h k = tt
settle_meant g (done s) zero h k = (tt, (k, h.1))
settle_meant g (done s) (suc t) h k = tt

advance_meant : (r : Settings) (g : Going) (mv : Move) → OkMove g.scan mv → InState (going g) → InState (advance r g mv)
advance_meant r g (keep m) o h = h
advance_meant r g (first b) o h = h
advance_meant r g command o h = tt
advance_meant r g (ended w) o h = settle_meant g (word r g.phase w) (test r (statements g.above) g.phase w) h (word_meant r g.phase w h.0)

pub accepted_meant : (r : Settings) (text : Bytes) (es : List Entry) → read_statements r text ≡ accepted es → AllMeant (statements es)
unfolding statements
accepted_meant r text es e =
    let i = (read_inv r text es e).1 in
    let h : InState (going i.0) = subst InState i.1 (along r InState (λ n p. tt) (advance_meant r) (text ++ newline) initial (tt, tt)) in
    subst (λ (x : List Entry). AllMeant (statements x)) i.3 h.1

-- ---- every real of the table is finite

abbrev pub AllFinite : List Float → Type 0
AllFinite [] = Unit {0}
AllFinite (x ∷ xs) = T (finite x) × AllFinite xs

finite_append : (xs ys : List Float) → AllFinite xs → AllFinite ys → AllFinite (xs ++ ys)
finite_append [] ys h k = k
finite_append (x ∷ xs) ys h k = (h.0, finite_append xs ys h.1 k)

finite_numbers : (rs : List Literal) → Valued rs → AllFinite (numbers rs)
finite_numbers [] v = tt
finite_numbers (l ∷ rs) v = (numeral_finite l.word l.number v.0, finite_numbers rs v.1)

finite_body : (b : Body) → Meant b → AllFinite (reals_in b)
finite_body (primitive t ss rs) m = finite_numbers rs m.1
finite_body (alias x) m = tt

finite_reals : (d : List Statement) → AllMeant d → AllFinite (record·.reals d)
unfolding record·.reals
finite_reals [] m = tt
finite_reals (s ∷ d) m = finite_append (record·.reals d) (reals_in s.body) (finite_reals d m.1) (finite_body s.body m.0)

pub accepted_finite : (r : Settings) (text : Bytes) (es : List Entry) → read_statements r text ≡ accepted es → AllFinite (real_table es)
accepted_finite r text es e = finite_reals (statements es) (accepted_meant r text es e)

-- ---- every alias's type is from 10 to 25

abbrev pub NoSurface : ℕ → Type 0
NoSurface t = (10 ≤ t) × (t ≤ 25)

pub not_surface : (t : ℕ) → IsType t → is_surface t ≡ false → NoSurface t
not_surface t i e = go (leb t 9) refl (sym (ap (λ (b : Bool). b && leb t 9) (le-leb 1 t i.0)) ∙ e)
  where
    go : (b : Bool) → leb t 9 ≡ b → b ≡ false → NoSurface t
    go true q e = absurd (true≢false e)
    go false q e = let l = leb-false t 9 q in let h = i.1 in (omega arith, omega arith)

resolved_type : (d : List Statement) → Linked d → AllMeant d → (x : Bytes) → target_test (definition x d) ≡ 0 → IsType (type_in (body_of (resolve x d)))
unfolding found resolve
resolved_type [] l m x e = absurd (omega arith)
resolved_type (s ∷ d) l m x e = go (hits x s) e (resolved_type d l.1 m.1)
  where
    own : (b : Body) → s.body ≡ b → ((y : Bytes) → target_test (definition y d) ≡ 0 → IsType (type_in (body_of (resolve y d)))) → IsType (type_in (body_of (through b (s ∷ d) (λ y. resolve y d))))
    own (primitive t ss rs) q ih = subst (λ (b : Body). IsType (type_in b)) (sym q) (subst Meant q m.0).0
    own (alias y) q ih = ih y (subst (BodyLink d) q l.0.body)

    go : (b : Bool) → target_test (head (cond b (s ∷ d) (found x d))) ≡ 0 → ((y : Bytes) → target_test (definition y d) ≡ 0 → IsType (type_in (body_of (resolve y d)))) → IsType (type_in (body_of (cond b (through s.body (s ∷ d) (λ y. resolve y d)) (resolve x d))))
    go true e ih = own s.body refl ih
    go false e ih = ih x e

pub meant_split : (l : List Statement) (s : Statement) (d : List Statement) → AllMeant (l ++ s ∷ d) → Meant s.body × AllMeant d
meant_split [] s d h = h
meant_split (x ∷ l) s d h = meant_split l s d h.1

pub alias_type : (r : Settings) (text : Bytes) (es : List Entry) → read_statements r text ≡ accepted es → (later : List Statement) (s : Statement) (earlier : List Statement) → statements es ≡ later ++ s ∷ earlier → (x : Bytes) → s.body ≡ alias x → NoSurface (type_in (own_body s.body earlier))
alias_type r text es e later s earlier q x b =
    let l = (linked_split later (s ∷ earlier) (subst Linked q (accepted_linked r text es e))).1 in
    let m = meant_split later s earlier (subst AllMeant q (accepted_meant r text es e)) in
    subst (λ (y : Body). NoSurface (type_in (own_body y earlier))) (sym b) (not_surface (type_in (body_of (resolve x earlier))) (resolved_type earlier l.1 m.1 x (subst (BodyLink earlier) b l.0.body)) (resolved_no_surface x earlier))

-- every statement's type, its target's if it is an alias, is one of the 25
pub own_type : (r : Settings) (text : Bytes) (es : List Entry) → read_statements r text ≡ accepted es → (later : List Statement) (s : Statement) (earlier : List Statement) → statements es ≡ later ++ s ∷ earlier → IsType (type_in (own_body s.body earlier))
own_type r text es reads later s earlier q = go s.body refl
  where
    go : (b : Body) → s.body ≡ b → IsType (type_in (own_body b earlier))
    go (primitive t ss rs) b = (subst Meant b (meant_split later s earlier (subst AllMeant q (accepted_meant r text es reads))).0).0
    go (alias x) b = let h = subst (λ (z : Body). NoSurface (type_in (own_body z earlier))) b (alias_type r text es reads later s earlier q x b) in (omega (arith, h.0), h.1)
