-- The reals of a plain statement: what one of them does, and a row of them.
use mathlib.Core.Bool.{Bool, true, false, and-false}
use mathlib.Core.List.{List, [], ◌∷◌}
use mathlib.Core.Path.{◌≡◌, refl, sym, ◌∙◌, subst}
use Prim.Native.Nat.{ℕ, suc, ◌+◌, ◌-◌, ◌<◌}
use native.Mathlib.Omega.{arith}
use borrow.Author.Tests.{leb-true, ne_eqb}
use lib.Dec.{leb}
use lib.Ieee.{Float}
use lib.ListN.{length, set}
use Rattle.context.specs.Seen.{back}
use Rattle.kinds.proofs.HouseLaws.{unruled}
use Rattle.kinds.specs.Rules.{is_ruled}
use Rattle.laws.proofs.BoolLaws.{and_left, and_right}
use Rattle.laws.specs.Bytes.{Bytes}
use Rattle.laws.specs.Runs.{all}
use Rattle.plain.proofs.HeadLaws.{looked_small}
use Rattle.plain.proofs.StepLaws.{real_step_lem}
use Rattle.plain.specs.Plain.{Fills, Left, Stores, state_at}
use Rattle.plain.specs.declared.Filled.{Filled}
use Rattle.scene.specs.HouseRules.{House, breach_at, house_rules}
use Rattle.scene.specs.declared.Settings.{Settings}
use Rattle.statement.specs.declared.Draft.{Draft}
use Rattle.statement.specs.declared.Phase.TheVariants as is
use Rattle.word_scan.proofs.PassLaws.{passed_on}
use Rattle.word_scan.specs.Passing.{PassesReal}
use Rattle.word_scan.specs.declared.Valued.{Valued}

-- no house rule is about the first two reals
late_rules : all (λ (h : House). leb 3 h.real) house_rules ≡ true
unfolding all
late_rules = refl

early : (hs : List House) (t k : ℕ) (x y z : Float) → all (λ (h : House). leb 3 h.real) hs ≡ true → k < 3 → breach_at hs t k x y z ≡ false
unfolding breach_at all
early [] t k x y z e h = refl
early (r ∷ hs) t k x y z e h =
    let late = leb-true 3 r.real (and_left (leb 3 r.real) (all (λ (h : House). leb 3 h.real) hs) e) in
    rw (ne_eqb r.real k (λ q. omega arith), and-false, early hs t k x y z (and_right (leb 3 r.real) (all (λ (h : House). leb 3 h.real) hs) e) h)

module _ (t k : ℕ) (x y z : Float) where
  pub breaks_early : k < 3 → false ≡ breach_at house_rules t k x y z
  breaks_early h = sym (early house_rules t k x y z late_rules h)

  pub breaks_unruled : {q : Bool} → q ≡ is_ruled house_rules t → q ≡ false → false ≡ breach_at house_rules t k x y z
  breaks_unruled e h = sym (unruled house_rules t k x y z (sym e ∙ h))

pub stores : (text : Bytes) (R : List Float) (room : ℕ) (d : Draft) (m used at : ℕ) (x : Valued Float) → PassesReal text at x → {b : Bool} → b ≡ breach_at house_rules d.kind (d.reals - m) x.value (back R used 1) (back R used 2) → b ≡ false → used < room → used < length R
    → Stores text R room d m used at x (set R used x.value)
stores text R room d m used at x P e h f l = record {
  leads = λ T X settings count k q L. real_step_lem text T R X settings count used at k (looked_small text T R X settings (state_at count used at m k is.Real d) L) x.next x.lines P.passes d m x.value L P.value_is (sym e ∙ h) (omega arith) (set R used x.value) refl;
  passes = P.passes;
  fits = l;
}

module _ (text : Bytes) (R : List Float) (room : Settings) (d : Draft) (f₀ : Filled) where
  pub fills_none : Fills text R room d f₀ f₀ R
  fills_none = record { leads = λ T X count looked L. L; further = omega arith; line_on = refl }

  -- a turn
  pub fills_more : (f : Filled) (D : List Float) → Fills text R room d f₀ f D → (m : ℕ) → f.left ≡ suc m → (x : Valued Float) (E : List Float) → Stores text D room.reals d m f.used f.at x E
      → Fills text R room d f₀ (record { left = m; at = x.next; line = f.line + x.lines; used = f.used + 1 }) E
  fills_more f D F m one x E S =
      let p = passed_on text f.at x.next x.lines S.passes in
      record {
        leads = λ T X count looked L. S.leads T X room count looked refl (subst (λ (z : ℕ). Left text T D X room z (state_at count f.used f.at 0 looked is.Real d)) one (F.leads T X count looked L));
        further = omega (arith, F.further, p.0);
        line_on = omega (arith, F.line_on, S.passes.lines_on);
      }
