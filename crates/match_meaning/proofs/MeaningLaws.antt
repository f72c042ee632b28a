-- Two records of accepted texts are the same exactly where their statements are equal definitions.
use mathlib.Core.Bool.{Bool, true, false, not, ◌&&◌, ◌||◌, cond, and_assoc, and-true}
use mathlib.Core.List.{List}
use mathlib.Core.Option.{Option, none, some}
use mathlib.Core.Path.{◌≡◌, refl, ap, sym, ◌∙◌}
use Prim.Native.Nat.{ℕ, zero, suc, ◌-◌}
use native.Mathlib.Omega.{arith}
use lib.Dec.{eqb, eqb-suc-zero}
use lib.Ieee.{Float}
use Rattle.bits.specs.Bits.{same_reals}
use Rattle.content.specs.Content.{same_but_links, same_words}
use Rattle.joining.specs.Definition.{same_body, same_definition}
use Rattle.keys.proofs.OrderLaws.{same_sym}
use Rattle.keys.proofs.RowsLaws.{row_read, row_told}
use Rattle.keys.specs.Next.{named_by}
use Rattle.laws.proofs.BytesLaws.{same_eq}
use Rattle.laws.specs.Bytes.{Bytes, same}
use Rattle.matching.specs.Matching.{same_link, same_row}
use Rattle.scene.proofs.PropertyLaws.{modifier_latest, modifier_void, target_latest, target_none}
use Rattle.scene.specs.Links.{own_body, reals_in, strings_in, type_in}
use Rattle.scene.specs.Properties.{Named, numbered}
use Rattle.scene.specs.Reading.{Entry, accepted, read_statements, statements}
use Rattle.scene.specs.Record.{Record, nth, real_image, record_image, record_in, records}
use Rattle.scene.specs.Statement.{Body, Statement, alias, primitive, void}
use Rattle.scene.specs.Told.{Told, reals_of, strings_of, tells, told}
use Rattle.scene.specs.declared.Settings.{Settings}
use Rattle.tied.proofs.TiedLaws.{here, name_of_lem, own, range, row}

-- ---- links, by the names that they lead to

abbrev same_name : Option Bytes → Option Bytes → Bool
same_name none none = true
same_name none (some w) = false
same_name (some v) none = false
same_name (some v) (some w) = same v w

abbrev is_name : Option Bytes → Bool
is_name none = false
is_name (some w) = true

link_named : (a : Bytes) (A : List ℕ) (i : ℕ) (b : Bytes) (B : List ℕ) (j : ℕ) → same_link a A i b B j ≡ same_name (named_by a A i) (named_by b B j)
unfolding same_link
link_named a A zero b B zero = refl
link_named a A zero b B (suc j) = eqb-suc-zero j
link_named a A (suc i) b B zero = rw (eqb-suc-zero i)
link_named a A (suc i) b B (suc j) = rw (eqb-suc-zero i, eqb-suc-zero j)

is_named : (text : Bytes) (T : List ℕ) (n : ℕ) → not (eqb n 0) ≡ is_name (named_by text T n)
is_named text T zero = refl
is_named text T (suc n) = ap not (eqb-suc-zero n)

-- a modifier `void` leads to no name, and a primitive has no target
abbrev modifier_name : Bytes → Option Bytes
modifier_name w = cond (same w void) none (some w)

abbrev target_name : Body → Option Bytes
target_name (primitive t ss rs) = none
target_name (alias x) = some x

modifiers_same : (v w : Bytes) → same_name (modifier_name v) (modifier_name w) ≡ same v w
modifiers_same v w = go (same v void) refl (same w void) refl
  where
    go : (p : Bool) → same v void ≡ p → (q : Bool) → same w void ≡ q → same_name (cond p none (some v)) (cond q none (some w)) ≡ same v w
    go true e true f = sym (ap (same v) (same_eq w void f) ∙ e)
    go true e false f = sym (ap (λ (u : Bytes). same u w) (same_eq v void e) ∙ same_sym void w ∙ f)
    go false e true f = sym (ap (same v) (same_eq w void f) ∙ e)
    go false e false f = refl

-- ---- what the tables of an accepted text say of a statement

module _ (r : Settings) (text : Bytes) (es : List Entry) (k j : ℕ) (reads : read_statements r text ≡ accepted es) where
  abbrev table : List ℕ
  table = record_image text k (accepted es)

  abbrev reals : List Float
  reals = real_image j (accepted es)

  leads : (m : ℕ) (w : Bytes) → Named (statements es) m w → named_by text table m ≡ some w
  leads zero w h = absurd (omega (arith, (range r text es k reads zero h.statement h.there).0))
  leads (suc m) w h = ap some (name_of_lem r text es k reads (suc m) h.statement h.there ∙ h.name)

  module _ (n : ℕ) (s : Statement) (says : numbered (statements es) n ≡ some s) where
    modifier_named : named_by text table (record_in table n).modifier ≡ modifier_name s.modifier
    modifier_named = ap (λ (z : Record). named_by text table z.modifier) (row text es k n) ∙ go (same s.modifier void) refl
      where
        go : (b : Bool) → same s.modifier void ≡ b → named_by text table (nth (records es) n).modifier ≡ cond b none (some s.modifier)
        go true v = ap (named_by text table) (modifier_void r text es reads n s says v)
        go false v = leads (nth (records es) n).modifier s.modifier (modifier_latest r text es reads n s says v).named

    target_named : named_by text table (record_in table n).target ≡ target_name s.body
    target_named = ap (λ (z : Record). named_by text table z.target) (row text es k n) ∙ go s.body refl
      where
        go : (b : Body) → s.body ≡ b → named_by text table (nth (records es) n).target ≡ target_name b
        go (primitive t ss rs) e = ap (named_by text table) (target_none r text es reads n s says t ss rs e)
        go (alias x) e = leads (nth (records es) n).target x (target_latest r text es reads n s says x e).named

    -- what the tables say is what the statement says over those before it
    abbrev earlier : List Statement
    earlier = statements (here r text es k reads n s says).x

    abbrev later : List Statement
    later = statements (here r text es k reads n s says).l

    told_of : tells text reals (record_in table n) ≡ told later s earlier
    told_of =
        let h = range r text es k reads n s says in
        let e : n ≡ suc (n - 1) = omega (arith, h.0) in
        ap (λ (m : ℕ). tells text reals (record_in table m)) e
        ∙ row_read r text es reads k j (n - 1) (omega (arith, h.0, h.1))
        ∙ row_told r text es reads (n - 1) (here r text es k reads n s says)
        ∙ ap (λ (x : Statement). told later x earlier) (own r text es k reads n s says)

    type_of : (record_in table n).type ≡ type_in (own_body s.body earlier)
    unfolding tells told
    type_of = ap (λ (t : Told). t.type) told_of

    strings_of_lem : strings_of text (record_in table n) ≡ strings_in (own_body s.body earlier)
    unfolding tells told
    strings_of_lem = ap (λ (t : Told). t.strings) told_of

    reals_of_lem : reals_of reals (record_in table n) ≡ reals_in (own_body s.body earlier)
    unfolding tells told
    reals_of_lem = ap (λ (t : Told). t.reals) told_of

-- ---- two statements

-- type, strings and reals of two bodies, each with its own earlier statements
abbrev rest_same : Body → List Statement → Body → List Statement → Bool
rest_same b d c e = eqb (type_in (own_body b d)) (type_in (own_body c e)) && same_words (strings_in (own_body b d)) (strings_in (own_body c e)) && same_reals (reals_in (own_body b d)) (reals_in (own_body c e))

bodies_same : (b : Body) (d : List Statement) (c : Body) (e : List Statement) → (same_name (target_name b) (target_name c) && (is_name (target_name b) || rest_same b d c e)) ≡ same_body b c
unfolding same_body
bodies_same (primitive t ss rs) d (primitive u vs ws) e = refl
bodies_same (primitive t ss rs) d (alias y) e = refl
bodies_same (alias x) d (primitive u vs ws) e = refl
bodies_same (alias x) d (alias y) e = and-true (same x y)

module _ (r : Settings) (a : Bytes) (es : List Entry) (k j : ℕ) (p : read_statements r a ≡ accepted es) (m : ℕ) (s : Statement) (u : numbered (statements es) m ≡ some s) where
  module _ (r' : Settings) (b : Bytes) (fs : List Entry) (k' j' : ℕ) (q : read_statements r' b ≡ accepted fs) (n : ℕ) (t : Statement) (v : numbered (statements fs) n ≡ some t) where
    abbrev A : List ℕ
    A = table r a es k j p

    abbrev B : List ℕ
    B = table r' b fs k' j' q

    modifiers : same_link a A (record_in A m).modifier b B (record_in B n).modifier ≡ same s.modifier t.modifier
    modifiers = link_named a A (record_in A m).modifier b B (record_in B n).modifier ∙ (λ i. same_name (modifier_named r a es k j p m s u i) (modifier_named r' b fs k' j' q n t v i)) ∙ modifiers_same s.modifier t.modifier

    targets : same_link a A (record_in A m).target b B (record_in B n).target ≡ same_name (target_name s.body) (target_name t.body)
    targets = link_named a A (record_in A m).target b B (record_in B n).target ∙ (λ i. same_name (target_named r a es k j p m s u i) (target_named r' b fs k' j' q n t v i))

    is_alias : not (eqb (record_in A m).target 0) ≡ is_name (target_name s.body)
    is_alias = is_named a A (record_in A m).target ∙ ap is_name (target_named r a es k j p m s u)

    rests : (same_but_links a (record_in A m) b (record_in B n) && same_reals (reals_of (real_image j (accepted es)) (record_in A m)) (reals_of (real_image j' (accepted fs)) (record_in B n)))
        ≡ rest_same s.body (earlier r a es k j p m s u) t.body (earlier r' b fs k' j' q n t v)
    rests = λ i. eqb (type_of r a es k j p m s u i) (type_of r' b fs k' j' q n t v i) && same_words (strings_of_lem r a es k j p m s u i) (strings_of_lem r' b fs k' j' q n t v i) && same_reals (reals_of_lem r a es k j p m s u i) (reals_of_lem r' b fs k' j' q n t v i)

    pub same_meaning : same_row a A (real_image j (accepted es)) m b B (real_image j' (accepted fs)) n ≡ same_definition (some s) (some t)
    unfolding same_row same_definition record_in
    same_meaning =
        (λ i. modifiers i && targets i && (is_alias i || rests i))
        ∙ and_assoc (same s.modifier t.modifier) (same_name (target_name s.body) (target_name t.body)) _
        ∙ ap (λ (x : Bool). same s.modifier t.modifier && x) (bodies_same s.body (earlier r a es k j p m s u) t.body (earlier r' b fs k' j' q n t v))
