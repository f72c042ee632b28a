-- Every look-up finds something and there is room, exactly where the reading's own tests pass.
use mathlib.Core.Bool.{Bool, true, false, cond, not, ◌||◌, false≢true}
use mathlib.Core.List.{List, [], ◌∷◌}
use mathlib.Core.Logic.{inl, inr}
use mathlib.Core.Option.{some}
use mathlib.Core.Path.{◌≡◌, refl, ap, sym, ◌∙◌}
use Prim.Native.Nat.{ℕ, ◌≤◌}
use native.Mathlib.Omega.{arith}
use borrow.Author.Tests.{ne_eqb}
use lib.Dec.{eqb}
use lib.ListN.{length}
use Rattle.grammar.specs.Sound.{Defined, Fits, Known, Sound, TargetDefined}
use Rattle.graph.proofs.GraphLaws.{or_left, or_right}
use Rattle.laws.proofs.BoolLaws.{cond_elim, not_true}
use Rattle.laws.proofs.BytesLaws.{same_eq, same_refl}
use Rattle.laws.specs.Bytes.{Bytes, same}
use Rattle.scene.proofs.NumberedLaws.{split}
use Rattle.scene.proofs.PropertyLaws.{latest_greatest, latest_there, modifier_defined, target_defined}
use Rattle.scene.proofs.RoomLaws.{fit_back, fit_forth}
use Rattle.scene.proofs.SwapLaws.{Linked, LinkedOne, BodyLink, hits_of, hits_true}
use Rattle.scene.proofs.SyntaxLaws as syntax
use Rattle.scene.specs.Links.{definition, found, head, latest, reals_used}
use Rattle.scene.specs.Reading.{modifier_test, target_test}
use Rattle.scene.specs.Statement.{Body, Statement, alias, primitive, void}
use Rattle.scene.specs.declared.Settings.{Settings}
use Rattle.sides.specs.Read.{is_known}

-- ---- a name is defined exactly where the search finds it

-- the statement that a search ends at
abbrev Meets : Bytes → List Statement → Type 0
Meets w d = (t : Statement) × (definition w d ≡ some t)

meets_defined : (w : Bytes) (d : List Statement) → Meets w d → Defined w d
meets_defined w d (t, e) =
    let a = latest_there w d t e in
    let h = hits_true w t a.1 in
    (latest w d, record { statement = t; there = a.0; gives = h.0; name = sym h.1 })

found_meets : (w : Bytes) (d : List Statement) → eqb (latest w d) 0 ≡ false → Meets w d
found_meets w d e = first (found w d) e
  where
    first : (f : List Statement) → eqb (length f) 0 ≡ false → (t : Statement) × (head f ≡ some t)
    first [] e = absurd (false≢true (sym e))
    first (t ∷ f) e = (t, refl)

pub found_defined : (w : Bytes) (d : List Statement) → eqb (latest w d) 0 ≡ false → Defined w d
found_defined w d e = meets_defined w d (found_meets w d e)

pub defined_found : (w : Bytes) (d : List Statement) → Defined w d → eqb (latest w d) 0 ≡ false
defined_found w d (n, x) =
    let l = latest_greatest w d n x.statement x.there (hits_of w x.statement x.gives (sym x.name)) in
    ne_eqb (latest w d) 0 (λ z. omega (arith, z, l, (split d n x.statement x.there).number))

defined_meets : (w : Bytes) (d : List Statement) → Defined w d → Meets w d
defined_meets w d x = found_meets w d (defined_found w d x)

-- ---- known names

void_same : (w : Bytes) → w ≡ void → same w void ≡ true
void_same w e = ap (λ (z : Bytes). same z void) e ∙ same_refl void

-- a name is known if it is defined where it is not `void`
known_by : (w : Bytes) (d : List Statement) → (same w void ≡ false → Defined w d) → Known w d
known_by w d h = go (same w void) refl
  where
    go : (b : Bool) → same w void ≡ b → Known w d
    go true e = inl (same_eq w void e)
    go false e = inr (h e)

pub known_forth : (w : Bytes) (d : List Statement) → is_known w d ≡ true → Known w d
unfolding is_known
known_forth w d e = known_by w d (λ v. found_defined w d (not_true (eqb (latest w d) 0) (ap (λ (b : Bool). b || not (eqb (latest w d) 0)) (sym v) ∙ e)))

pub known_back : (w : Bytes) (d : List Statement) → Known w d → is_known w d ≡ true
unfolding is_known
known_back w d (inl v) = or_left (same w void) (not (eqb (latest w d) 0)) (void_same w v)
known_back w d (inr x) = or_right (same w void) (not (eqb (latest w d) 0)) (ap not (defined_found w d x))

modifier_forth : (w : Bytes) (d : List Statement) → cond (same w void) 0 (modifier_test (definition w d)) ≡ 0 → Known w d
modifier_forth w d e = known_by w d (λ v. meets_defined w d (modifier_defined (definition w d) (ap (λ (b : Bool). cond b 0 (modifier_test (definition w d))) (sym v) ∙ e)))

modifier_back : (w : Bytes) (d : List Statement) → Known w d → cond (same w void) 0 (modifier_test (definition w d)) ≡ 0
modifier_back w d (inl v) = ap (λ (b : Bool). cond b 0 (modifier_test (definition w d))) (void_same w v)
modifier_back w d (inr x) = cond_elim (λ (n : ℕ). n ≡ 0) (same w void) refl (ap modifier_test (defined_meets w d x).1)

-- ---- sound

target_forth : (d : List Statement) (b : Body) → BodyLink d b → TargetDefined d b
target_forth d (primitive t ss rs) h = tt
target_forth d (alias x) h = meets_defined x d (target_defined (definition x d) h)

target_back : (d : List Statement) (b : Body) → TargetDefined d b → BodyLink d b
target_back d (primitive t ss rs) h = tt
target_back d (alias x) h = ap target_test (defined_meets x d h).1

-- all links found, and room for all
abbrev Fit : Settings → List Statement → Type 0
Fit r d = Linked d × (length d ≤ r.records) × (reals_used d ≤ r.reals)

fit_sound : (r : Settings) (d : List Statement) → Fit r d → Sound r d
unfolding reals_used
fit_sound r [] h = tt
fit_sound r (s ∷ d) h =
    let own : Fits r d s = record { room = h.1; modifier = modifier_forth s.modifier d h.0.0.modifier; target = target_forth d s.body h.0.0.body; reals = h.2 } in
    (own, fit_sound r d (h.0.1, omega (arith, h.1), omega (arith, h.2)))

sound_fit : (r : Settings) (d : List Statement) → Sound r d → Fit r d
unfolding reals_used
sound_fit r [] h = (tt, omega arith, omega arith)
sound_fit r (s ∷ d) h =
    let own : LinkedOne d s = record { modifier = modifier_back s.modifier d h.0.modifier; body = target_back d s.body h.0.target } in
    ((own, (sound_fit r d h.1).0), h.0.room, h.0.reals)

pub sound_forth : (r : Settings) (d : List Statement) → syntax.Sound r d → Sound r d
sound_forth r d h = fit_sound r d (fit_forth r d h)

pub sound_back : (r : Settings) (d : List Statement) → Sound r d → syntax.Sound r d
sound_back r d h = let k = sound_fit r d h in fit_back r d k.0 k.1 k.2
