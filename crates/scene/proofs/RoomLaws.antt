-- Rooms: sound in given rooms is linked, and the totals fit.
use mathlib.Core.Bool.{Bool, true, false, cond}
use mathlib.Core.List.{List, [], ◌∷◌, ◌++◌}
use mathlib.Core.Path.{◌≡◌, sym}
use Prim.Native.Nat.{ℕ, suc, ◌+◌, ◌≤◌, ◌<◌}
use native.Mathlib.Nat.{zero-add}
use native.Mathlib.Omega.{arith}
use borrow.Author.Tests.{le-leb}
use lib.Dec.{T, leb, ltb, leb→le}
use lib.ListN.{length, length-append}
use Rattle.laws.specs.Bytes.{same}
use Rattle.scene.proofs.SwapLaws.{BodyLink, Linked, Clear, linked_swap}
use Rattle.scene.proofs.SyntaxLaws.{room_for, body_test, Sound}
use Rattle.scene.specs.Links.{definition, reals_used, reals_added}
use Rattle.scene.specs.Reading.{modifier_test}
use Rattle.scene.specs.declared.Settings.{Settings}
use Rattle.scene.specs.Statement.{void, Body, primitive, alias, Statement}

pub used_append : (X Y : List Statement) → reals_used (X ++ Y) ≡ reals_used X + reals_used Y
unfolding reals_used
used_append [] Y = sym (zero-add (reals_used Y))
used_append (s ∷ X) Y = let h = used_append X Y in omega arith

pub room_inv : (n room : ℕ) → room_for n room ≡ 0 → n ≤ room
room_inv n room h = go (leb n room) (leb→le n room) h
  where
    go : (b : Bool) → (T b → n ≤ room) → ◌≡◌ {A = ℕ} (cond b 0 13) 0 → n ≤ room
    go true f e = f tt
    go false f e = absurd (omega arith)

mod_inv : (n room x : ℕ) → cond (ltb n room) x 6 ≡ 0 → (n < room) × (x ≡ 0)
mod_inv n room x h = go (ltb n room) (leb→le (suc n) room) h
  where
    go : (b : Bool) → (T b → n < room) → cond b x 6 ≡ 0 → (n < room) × (x ≡ 0)
    go true f e = (f tt, e)
    go false f e = absurd (omega arith)

module _ (r : Settings) where
  body_forth : (d : List Statement) (b : Body) → body_test r d b ≡ 0 → reals_used d ≤ r.reals → BodyLink d b × (reals_used d + reals_added b ≤ r.reals)
  body_forth d (primitive t ss rs) h u = (tt, room_inv (reals_used d + length rs) r.reals h)
  body_forth d (alias x) h u = (h, omega arith)

  pub fit_forth : (D : List Statement) → Sound r D → Linked D × (length D ≤ r.records) × (reals_used D ≤ r.reals)
  unfolding reals_used
  fit_forth [] h = (tt, omega arith, omega arith)
  fit_forth (s ∷ d) h =
      let k = fit_forth d h.1 in
      let m = mod_inv (length d) r.records (cond (same s.modifier void) 0 (modifier_test (definition s.modifier d))) h.0.modifier in
      let b = body_forth d s.body h.0.body k.2 in
      ((record { modifier = m.1; body = b.0 }, k.0), m.0, b.1)

  body_back : (d : List Statement) (b : Body) → BodyLink d b → reals_used d + reals_added b ≤ r.reals → body_test r d b ≡ 0
  body_back d (primitive t ss rs) h u = rw (le-leb (reals_used d + length rs) r.reals u)
  body_back d (alias x) h u = h

  pub fit_back : (D : List Statement) → Linked D → length D ≤ r.records → reals_used D ≤ r.reals → Sound r D
  unfolding reals_used
  fit_back [] h n u = tt
  fit_back (s ∷ d) h n u =
      (record { modifier = rw (le-leb (suc (length d)) r.records n) h.0.modifier; body = body_back d s.body h.0.body u }, fit_back d h.1 (omega arith) (omega arith))

  pub sound_swap : (P A B Q : List Statement) → Clear A B → Clear B A → Sound r (Q ++ (B ++ (A ++ P))) → Sound r (Q ++ (A ++ (B ++ P)))
  sound_swap P A B Q cab cba h =
      let k = fit_forth (Q ++ (B ++ (A ++ P))) h in
      fit_back (Q ++ (A ++ (B ++ P))) (linked_swap P A B cab cba Q k.0)
      (omega (arith, k.1, length-append Q (B ++ (A ++ P)), length-append B (A ++ P), length-append A P, length-append Q (A ++ (B ++ P)), length-append A (B ++ P), length-append B P))
      (omega (arith, k.2, used_append Q (B ++ (A ++ P)), used_append B (A ++ P), used_append A P, used_append Q (A ++ (B ++ P)), used_append A (B ++ P), used_append B P))
