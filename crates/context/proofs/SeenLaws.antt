-- What a step sees of the tables: the record of a name is what the name leads to, and the two reals before are the statement's.
use mathlib.Core.Bool.{Bool, true, false, cond, and-false}
use mathlib.Core.List.{List, [], ◌∷◌, ◌++◌, append_assoc}
use mathlib.Core.Option.{Option, none}
use mathlib.Core.Path.{◌≡◌, refl, ap, sym, ◌∙◌, subst}
use Prim.Native.Nat.{ℕ, zero, suc, ◌+◌, ◌-◌, ◌≤◌, ◌<◌}
use native.Mathlib.Omega.{arith}
use borrow.Author.Tests.{le-leb}
use lib.Ieee.{Float}
use lib.ListN.{length, length-append, get_or, replicate, get_or-append}
use lib.Seq.{get_or-append-add, get_or_at}
use Rattle.laws.specs.Bytes.{Bytes}
use Rattle.context.specs.Seen.{back, draft_of, draft_in}
use Rattle.statement.specs.declared.Draft.{Draft}
use Rattle.scene.proofs.FlatLaws.{record_in_lem}
use Rattle.scene.proofs.TellsLaws.{records_at, tail_length, own, statements_length, source_tail, string_below}
use Rattle.scene.specs.HouseRules.{zero_real, real_at, breach_at, breach, house_rules}
use Rattle.scene.specs.Links.{strings_in, body_of, own_body, head, reals_in, source, found, definition, type_in, latest, hits, resolve}
use Rattle.scene.specs.Reading.{target_test, Entry, statements, modifier_test}
use Rattle.scene.specs.Record.{filled, record_of, records, flat, first_real, records_from, string_place, nothing, nth, record_in}
use Rattle.scene.specs.Statement.{Statement}

-- type, strings and reals as a name leads to them
abbrev pub source_draft : List Entry → List Statement → Draft
source_draft es S = record { kind = type_in (body_of S); modifier = 0; target = 0; name = 0; size = 0; string = string_place es (length S); strings = length (strings_in (body_of S)); real = first_real S; reals = length (reals_in (body_of S)) }

-- what is known of the number x that a name w leads to, and of its record's draft
abbrev pub FoundAs : List Entry → Bytes → Draft → ℕ → Type 0
FoundAs es w o zero = definition w (statements es) ≡ none
FoundAs es w o (suc j) = (modifier_test (definition w (statements es)) ≡ 0) × (target_test (definition w (statements es)) ≡ 0) × (o ≡ source_draft es (resolve w (statements es)))

-- ---- the record looked up

-- the same over the records of es, for a lookup in a tail of them
abbrev Known : List Entry → Option Statement → List Statement → ℕ → Type 0
Known es K S zero = K ≡ none
Known es K S (suc j) = (modifier_test K ≡ 0) × (target_test K ≡ 0) × (draft_of (get_or (records es) j nothing) ≡ source_draft es S)

abbrev KnownIn : List Entry → List Statement → Bytes → Type 0
KnownIn es D w = Known es (definition w D) (resolve w D) (latest w D)

string_within : (l x : List Entry) (n : ℕ) → n ≤ length x → string_place (l ++ x) n ≡ string_place x n
string_within [] x n h = refl
string_within (y ∷ l) x n h = string_below y (l ++ x) n (omega (arith, statements_length (l ++ x), length-append l x)) ∙ string_within l x n h

record_at : (es l : List Entry) (e : Entry) (d : List Entry) → es ≡ l ++ e ∷ d → draft_of (get_or (records es) (length (statements d)) nothing) ≡ source_draft es (source e.statement (statements d))
unfolding records record_of
record_at es l e d q = (λ i. draft_of (get_or (records_from [] (q i)) (statements_length d i) nothing)) ∙ ap draft_of (records_at [] l e d)
    ∙ (λ i. record { kind = type_in (body i); modifier = 0; target = 0; name = 0; size = 0; string = place i; strings = length (strings_in (body i)); real = first_real S; reals = length (reals_in (body i)) })
  where
    S : List Statement
    S = source e.statement (statements d)

    body : own_body e.statement.body (statements d) ≡ body_of S
    body = sym (own e.statement (statements d))

    place : string_place (e ∷ d) (length S) ≡ string_place es (length S)
    place = sym (string_within l (e ∷ d) (length S) (omega (arith, tail_length S (e.statement ∷ statements d) (source_tail e.statement (statements d)), statements_length d))) ∙ ap (λ (x : List Entry). string_place x (length S)) (sym q)

known : (es : List Entry) (w : Bytes) (l d : List Entry) → es ≡ l ++ d → KnownIn es (statements d) w
unfolding found resolve statements
known es w l [] q = refl
known es w l (e ∷ d) q = go (hits w e.statement) (known es w (l ++ e ∷ []) d (q ∙ sym (append_assoc l (e ∷ []) d)))
  where
    go : (b : Bool) → KnownIn es (statements d) w
        → Known es (head (cond b (e.statement ∷ statements d) (found w (statements d)))) (cond b (source e.statement (statements d)) (resolve w (statements d))) (length (cond b (e.statement ∷ statements d) (found w (statements d))))
    go true ih = (refl, refl, record_at es l e d q)
    go false ih = ih

module _ (text : Bytes) (table : List ℕ) (es : List Entry) (t : table ≡ filled 0 (length table) (flat text (records es))) where
  draft_is : (k : ℕ) → draft_in table (suc k) ≡ draft_of (get_or (records es) k nothing)
  unfolding nth
  draft_is k = ap (λ (z : List ℕ). draft_of (record_in z (suc k))) t ∙ ap draft_of (record_in_lem text (records es) (length table) (suc k))

  pub found_as : (w : Bytes) (x : ℕ) → x ≡ latest w (statements es) → FoundAs es w (draft_in table x) x
  found_as w x e = go x (subst (Known es (definition w (statements es)) (resolve w (statements es))) (sym e) (known es w [] es refl))
    where
      go : (x : ℕ) → Known es (definition w (statements es)) (resolve w (statements es)) x → FoundAs es w (draft_in table x) x
      go zero f = f
      go (suc j) f = (f.0, f.1, draft_is j ∙ f.2)

-- ---- the reals before

-- no rule is about a first or second real
early_1 : (t : ℕ) (x y z : Float) → breach_at house_rules t 1 x y z ≡ false
unfolding breach_at
early_1 t x y z = simp and-false

early_2 : (t : ℕ) (x y z : Float) → breach_at house_rules t 2 x y z ≡ false
unfolding breach_at
early_2 t x y z = simp and-false

module _ (reals ds ys : List Float) (d : reals ≡ filled zero_real (length reals) (ds ++ ys)) (u : ℕ) (q : u ≡ length ds + length ys) where
  back_is : (j : ℕ) → 1 ≤ j → j ≤ length ys → back reals u j ≡ get_or ys (length ys - j) zero_real
  unfolding back
  back_is j h₀ h =
      let n : u - j ≡ length ds + (length ys - j) = omega arith in
      let l : u - j < length (ds ++ ys) = omega (arith, length-append ds ys) in
      ap (λ (b : Bool). cond b (get_or reals (u - j) zero_real) zero_real) (le-leb j u (omega arith)) ∙
      ap (λ (z : List Float). get_or z (u - j) zero_real) d ∙
      get_or-append (ds ++ ys) (replicate (length reals - length (ds ++ ys)) zero_real) zero_real (u - j) l ∙
      ap (λ (n : ℕ). get_or (ds ++ ys) n zero_real) n ∙ get_or-append-add ds ys (length ys - j) zero_real

  -- the last of ys and a real x, and those before it
  module _ (t : ℕ) (x : Float) where
    rs : List Float
    rs = ys ++ x ∷ []

    earlier : (j : ℕ) → 1 ≤ j → j ≤ length ys → back reals u j ≡ real_at rs (suc (length ys) - j)
    unfolding real_at rs
    earlier j h₀ h = back_is j h₀ h ∙ sym (get_or-append ys (x ∷ []) zero_real (length ys - j) (omega arith)) ∙ (let n : length ys - j ≡ suc (length ys) - j - 1 = omega arith in ap (λ (n : ℕ). get_or (ys ++ x ∷ []) n zero_real) n)

    last : x ≡ real_at rs (suc (length ys))
    unfolding real_at rs
    last = sym (get_or_at ys x [] zero_real (suc (length ys) - 1) (omega arith))

    pub breach_is : (k : ℕ) → k ≡ suc (length ys) → breach_at house_rules t k x (back reals u 1) (back reals u 2) ≡ breach t (ys ++ x ∷ [])
    unfolding breach rs
    breach_is k e =
        let l : suc (length ys) ≡ length (ys ++ x ∷ []) = omega (arith, length-append ys (x ∷ [])) in
        ap (λ (n : ℕ). breach_at house_rules t n x (back reals u 1) (back reals u 2)) e ∙ go (length ys) refl ∙ ap (λ (n : ℕ). breach_at house_rules t n (real_at rs n) (real_at rs (n - 1)) (real_at rs (n - 2))) l
      where
        go : (m : ℕ) → length ys ≡ m → breach_at house_rules t (suc (length ys)) x (back reals u 1) (back reals u 2) ≡ breach_at house_rules t (suc (length ys)) (real_at rs (suc (length ys))) (real_at rs (suc (length ys) - 1)) (real_at rs (suc (length ys) - 2))
        go zero e = (λ i. breach_at house_rules t (suc (e i)) x (back reals u 1) (back reals u 2)) ∙ early_1 t _ _ _ ∙ sym (early_1 t _ _ _) ∙ (λ i. breach_at house_rules t (suc (sym e i)) (real_at rs (suc (length ys))) (real_at rs (suc (length ys) - 1)) (real_at rs (suc (length ys) - 2)))
        go (suc zero) e = (λ i. breach_at house_rules t (suc (e i)) x (back reals u 1) (back reals u 2)) ∙ early_2 t _ _ _ ∙ sym (early_2 t _ _ _) ∙ (λ i. breach_at house_rules t (suc (sym e i)) (real_at rs (suc (length ys))) (real_at rs (suc (length ys) - 1)) (real_at rs (suc (length ys) - 2)))
        go (suc (suc m)) e = λ i. breach_at house_rules t (suc (length ys)) (last i) (earlier 1 (omega arith) (omega arith) i) (earlier 2 (omega arith) (omega arith) i)
