-- Every primitive of an accepted text has as many strings as its type allows: a mixture has those for both its sides.
use mathlib.Core.Bool.{Bool, true, false, cond}
use mathlib.Core.List.{List, [], ◌∷◌, ◌++◌}
use mathlib.Core.Option.{Option, none, some}
use mathlib.Core.Path.{◌≡◌, refl, sym, subst}
use Prim.Native.Nat.{ℕ, zero, suc, ◌+◌, ◌≤◌}
use native.Mathlib.Nat.{zero-add}
use native.Mathlib.Omega.{arith}
use borrow.Author.Tests.{leb-true}
use lib.ListN.{length, length-append}
use Rattle.graph.specs.Graph.{mixture_type}
use Rattle.laws.proofs.BoolLaws.{cond_elim}
use Rattle.laws.specs.Bytes.{Bytes, bytes, same}
use Rattle.numeral.specs.Count.{count_of}
use Rattle.numeral.specs.Numeral.{Answer, numeral_of, refusal, value}
use Rattle.scene.proofs.AcceptLaws.{read_inv}
use Rattle.scene.proofs.KeptLaws.{Each, Kept, TurnHolds, run_read}
use Rattle.scene.proofs.TellsLaws.{Tail, own, source_tail}
use Rattle.scene.specs.HouseRules.{breach}
use Rattle.scene.specs.Links.{body_of, own_body, source, strings_in, type_in}
use Rattle.scene.specs.Phase.{Part, at_type, at_name, at_string_count, at_string, at_integer_count, at_real_count, at_real, at_alias_name, at_target, Turn, fault, typed, strings, string_count, integer_count, reals, real_count, real, turn}
use Rattle.scene.specs.Reading.{Entry, Places, accepted, newline, read_statements, statements}
use Rattle.scene.specs.Statement.{Body, Literal, Statement, alias, literal, numbers, primitive, void}
use Rattle.scene.specs.Types.{is_retired, kind_of, number_from, reals_allowed, strings_allowed, type_number}
use Rattle.scene.specs.declared.Mode.{Mode}
use Rattle.scene.specs.declared.Settings.{Settings}

abbrev pub Counted : Body → Type 0
Counted (primitive t ss rs) = strings_allowed t (length ss) ≡ true
Counted (alias x) = Unit {0}

abbrev pub AllCounted : List Statement → Type 0
AllCounted [] = Unit {0}
AllCounted (s ∷ d) = Counted s.body × AllCounted d

-- ---- along a reading: what is known at a part, and of a finished statement

abbrev AtPart : Part → Type 0
AtPart at_type = Unit {0}
AtPart (at_name t) = Unit {0}
AtPart (at_string_count t n) = Unit {0}
AtPart (at_string t n ss j) = strings_allowed t (length ss + suc j) ≡ true
AtPart (at_integer_count t n ss) = strings_allowed t (length ss) ≡ true
AtPart (at_real_count t n ss) = strings_allowed t (length ss) ≡ true
AtPart (at_real t n ss rs j) = strings_allowed t (length ss) ≡ true
AtPart at_alias_name = Unit {0}
AtPart (at_target n) = Unit {0}

abbrev ReadCounted : Bytes → Places → Bytes → Body → Type 0
ReadCounted c k n x = Counted x

module _ (c : Bytes) (k : Places) where
  abbrev OfTurn : Turn → Type 0
  OfTurn t = TurnHolds (λ c k p. AtPart p) ReadCounted c k t

  typed_counted : (m : Mode) (t : ℕ) → OfTurn (typed m t)
  typed_counted m zero = tt
  typed_counted m (suc t) = cond_elim OfTurn (is_retired m (suc t)) tt tt

  strings_counted : (t : ℕ) (n : Bytes) (j : ℕ) → strings_allowed t j ≡ true → OfTurn (strings t n j)
  strings_counted t n zero h = h
  strings_counted t n (suc j) h = rw zero-add h

  string_count_counted : (t : ℕ) (n : Bytes) (x : Option ℕ) → OfTurn (string_count t n x)
  string_count_counted t n none = tt
  string_count_counted t n (some j) = go (strings_allowed t j) refl
    where
      go : (b : Bool) → strings_allowed t j ≡ b → OfTurn (cond b (strings t n j) (fault 12))
      go true e = strings_counted t n j e
      go false e = tt

  module _ (t : ℕ) (n : Bytes) (ss : List Bytes) (h : strings_allowed t (length ss) ≡ true) where
    integer_count_counted : (x : Option ℕ) → OfTurn (integer_count t n ss x)
    integer_count_counted none = tt
    integer_count_counted (some zero) = h
    integer_count_counted (some (suc j)) = tt

    reals_counted : (rs : List Literal) (j : ℕ) → OfTurn (reals t n ss rs j)
    reals_counted rs zero = h
    reals_counted rs (suc j) = h

    real_count_counted : (x : Option ℕ) → OfTurn (real_count t n ss x)
    real_count_counted none = tt
    real_count_counted (some j) = cond_elim OfTurn (reals_allowed t j) (reals_counted [] j) tt

    real_counted : (rs : List Literal) (j : ℕ) (w : Bytes) (x : Answer) → OfTurn (real t n ss rs j w x)
    real_counted rs j w (refusal q) = tt
    real_counted rs j w (value v) = cond_elim OfTurn (breach t (numbers (rs ++ literal w v ∷ []))) tt (reals_counted (rs ++ literal w v ∷ []) j)

  turn_counted : (r : Settings) (w : Bytes) (p : Part) → AtPart p → OfTurn (turn r p w)
  turn_counted r w at_type h = cond_elim OfTurn (same w (bytes "alias")) tt (typed_counted r.mode (type_number w))
  turn_counted r w (at_name t) h = cond_elim OfTurn (same w void) tt tt
  turn_counted r w (at_string_count t n) h = string_count_counted t n (count_of w)
  turn_counted r w (at_string t n ss zero) h =
      let q : length ss + 1 ≡ length (ss ++ w ∷ []) = sym (length-append ss (w ∷ [])) in
      subst (λ (j : ℕ). strings_allowed t j ≡ true) q h
  turn_counted r w (at_string t n ss (suc j)) h =
      let q : length ss + suc (suc j) ≡ length (ss ++ w ∷ []) + suc j = omega (arith, length-append ss (w ∷ [])) in
      subst (λ (j : ℕ). strings_allowed t j ≡ true) q h
  turn_counted r w (at_integer_count t n ss) h = integer_count_counted t n ss h (count_of w)
  turn_counted r w (at_real_count t n ss) h = real_count_counted t n ss h (count_of w)
  turn_counted r w (at_real t n ss rs j) h = real_counted t n ss h rs j w (numeral_of w)
  turn_counted r w at_alias_name h = cond_elim OfTurn (same w void) tt tt
  turn_counted r w (at_target n) h = tt

kept : (r : Settings) → Kept (λ c k p. AtPart p) (λ c k w p. AtPart p) ReadCounted r
kept r = record {
  opened = λ c k. tt;
  blank = λ c b k p e h. h;
  begun = λ c b n k p l e h. h;
  longer = λ c b k w p e h. h;
  turned = λ c b k w p e h. turn_counted (c ++ b ∷ []) k r w p h;
  read = λ c b k n x h. h;
}

all_counted : (c : Bytes) (es : List Entry) → Each ReadCounted c es → AllCounted (statements es)
unfolding statements
all_counted c [] h = tt
all_counted c (e ∷ es) h = (h.0, all_counted c es h.1)

pub accepted_counted : (r : Settings) (text : Bytes) (es : List Entry) → read_statements r text ≡ accepted es → AllCounted (statements es)
accepted_counted r text es e =
    let i = (read_inv r text es e).1 in
    let c : Bytes = text ++ newline in
    let h : Each ReadCounted c i.0.above = run_read (λ c k p. AtPart p) (λ c k w p. AtPart p) ReadCounted r (kept r) c i.0 i.1 in
    all_counted c es (subst (Each ReadCounted c) i.3 h)

-- ---- a mixture has at least four

pub mixture_count : (b : Body) → Counted b → type_in b ≡ mixture_type → 4 ≤ length (strings_in b)
unfolding strings_allowed kind_of type_number number_from same
mixture_count (primitive t ss rs) h e = leb-true 4 (length ss) (subst (λ (k : ℕ). strings_allowed k (length ss) ≡ true) e h)
mixture_count (alias x) h e = absurd (omega (arith, e))

-- ---- the body that a statement has, its own or its source's, is counted too

bare_counted : Counted (body_of [])
unfolding strings_allowed kind_of
bare_counted = refl

tail_counted : (l d : List Statement) → AllCounted (l ++ d) → AllCounted d
tail_counted [] d h = h
tail_counted (s ∷ l) d h = tail_counted l d h.1

body_counted : (x D : List Statement) → AllCounted D → Tail x D → Counted (body_of x)
body_counted [] D h t = bare_counted
body_counted (s ∷ x) D h (l, q) = (tail_counted l (s ∷ x) (subst AllCounted q h)).0

pub own_counted : (l : List Statement) (s : Statement) (d : List Statement) → AllCounted (l ++ s ∷ d) → Counted (own_body s.body d)
own_counted l s d h = subst Counted (own s d) (body_counted (source s d) (s ∷ d) (tail_counted l (s ∷ d) h) (source_tail s d))
