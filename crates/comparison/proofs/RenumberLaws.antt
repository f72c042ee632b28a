-- Two scenes whose rows are the same but for a renumbering that keeps each key compare as all same.
use mathlib.Core.Bool.{◌&&◌, true≢false, false≢true}
use mathlib.Core.List.{List, [], ◌∷◌}
use mathlib.Core.Path.{◌≡◌, refl, ap, sym, ◌∙◌}
use Prim.Native.Nat.{ℕ, suc}
use native.Mathlib.Omega.{arith}
use lib.Dec.{leb}
use lib.ListN.{length}
use Rattle.laws.specs.Bytes.{Bytes}
use Rattle.scene.specs.Told.{Told, renumbered}
use Rattle.comparison.proofs.CompareLaws.{Quiet, quiet_compared, quiet_alike}
use Rattle.keys.proofs.NumberLaws.{found_times, found_from, from_found}
use Rattle.content.specs.Content.{content_of}
use Rattle.comparison.specs.Compare.{state_at, state_of, compared}
use Rattle.keys.specs.Key.{Key, times, key_over, from, key_at, key_of, found, is_found}

module _ (l r : List Told) (f : ℕ → ℕ) (keys : (n : ℕ) → key_of r (f n) ≡ key_of l n) (often : (w : Bytes) → times w r ≡ times w l) (rows : (n : ℕ) (t u : Told) (x y : List Told) → from n l ≡ t ∷ x → from (f n) r ≡ u ∷ y → u ≡ renumbered f t) where
  both : (k : Key) → is_found (found k r) ≡ is_found (found k l)
  both k = found_times k r ∙ ap (λ n. leb 1 k.nth && leb k.nth n) (often k.name) ∙ sym (found_times k l)

  contents : (t : Told) → content_of l t ≡ content_of r (renumbered f t)
  contents t = λ i. record { type = t.type; strings = t.strings; reals = t.reals; alias = sym (keys t.target) i; modifier = sym (keys t.modifier) i }

  -- a key leads to a row of the one and to the same row, renumbered, of the other
  moved : (k : Key) (t u : Told) (x y : List Told) → found k l ≡ t ∷ x → found k r ≡ u ∷ y → u ≡ renumbered f t
  moved k t u x y e g = go (from (f (suc (length x))) r) refl
    where
      a : (from (suc (length x)) l ≡ t ∷ x) × (key_over t x ≡ k)
      a = found_from k l t x e

      key : key_of r (f (suc (length x))) ≡ k
      key = keys (suc (length x)) ∙ ap key_at a.0 ∙ a.1

      go : (z : List Told) → from (f (suc (length x))) r ≡ z → u ≡ renumbered f t
      go [] q = let n : 0 ≡ suc (times t.name x) = ap (λ (j : Key). j.nth) (sym (ap key_at q) ∙ key ∙ sym a.1) in absurd (omega arith)
      go (v ∷ z) q =
          let h : u ∷ y ≡ v ∷ z = sym g ∙ ap (λ (j : Key). found j r) (sym key ∙ ap key_at q) ∙ from_found (f (suc (length x))) r v z q in
          let s : u ≡ v = cc in
          s ∙ rows (suc (length x)) t v x z a.0 q

  quiet : (k : Key) → Quiet (state_of l r k)
  quiet k = go (found k l) (found k r) refl refl
    where
      go : (x y : List Told) → found k l ≡ x → found k r ≡ y → Quiet (state_at l r x y)
      go [] [] e g = λ j rest. refl
      go [] (u ∷ y) e g = absurd (true≢false (ap is_found (sym g) ∙ both k ∙ ap is_found e))
      go (t ∷ x) [] e g = absurd (false≢true (ap is_found (sym g) ∙ both k ∙ ap is_found e))
      go (t ∷ x) (u ∷ y) e g = quiet_alike l r t u x y (contents t ∙ ap (content_of r) (sym (moved k t u x y e g)))

  pub compare_renumbered : compared l r ≡ []
  compare_renumbered = quiet_compared l r quiet
