-- A renumbering of a whole list of statements: every row moves, and every name leads where it led.
use mathlib.Core.List.{List, ◌∷◌, ◌++◌}
use mathlib.Core.Path.{◌≡◌, refl, ap, ◌∙◌}
use Prim.Native.Nat.{ℕ, suc}
use native.Mathlib.Omega.{arith}
use lib.ListN.{length, length-append}
use Rattle.laws.specs.Bytes.{Bytes}
use Rattle.scene.proofs.RowLaws.{Moved, row_swap, shift_pos}
use Rattle.scene.proofs.SwapLaws.{Clear, targets, all_sees, view_up, base-Q, numbers-Q, new, new_zero}
use Rattle.scene.specs.Links.{latest}
use Rattle.scene.specs.Statement.{Statement}
use Rattle.scene.specs.Told.{renumbered}

pub record Renamed (f : ℕ → ℕ) (D D' : List Statement) : Type 0 where
  pub none : f 0 ≡ 0
  pub some : (k : ℕ) → (m : ℕ) × (f (suc k) ≡ suc m)
  pub count : length D' ≡ length D
  pub rows : (l : List Statement) (s : Statement) (e : List Statement) → D ≡ l ++ s ∷ e → Moved f D' l s e
  pub names : (w : Bytes) → f (latest w D) ≡ latest w D'

pub renamed_swap : (P A B Q : List Statement) → Clear A B → Clear B A → Renamed (new P A B) (Q ++ (B ++ (A ++ P))) (Q ++ (A ++ (B ++ P)))
renamed_swap P A B Q cab cba = record {
  none = new_zero P A B;
  some = shift_pos (length P) (length A) (length B);
  count = omega (arith, length-append Q (B ++ (A ++ P)), length-append B (A ++ P), length-append A P, length-append Q (A ++ (B ++ P)), length-append A (B ++ P), length-append B P);
  rows = λ l s e q. row_swap P A B Q cab cba s l e q;
  names = λ w. (view_up (new P A B) Q (B ++ (A ++ P)) (A ++ (B ++ P)) (numbers-Q P A B (length Q)) (targets (new P A B) (B ++ (A ++ P)) (A ++ (B ++ P)) Q (all_sees (new P A B) (B ++ (A ++ P)) (A ++ (B ++ P)) (base-Q P A B cab cba) Q)) w (base-Q P A B cab cba w)).links;
}

-- ---- renumberings one after the other

moved_same : (D l : List Statement) (s : Statement) (e : List Statement) → D ≡ l ++ s ∷ e → Moved (λ n. n) D l s e
moved_same D l s e q = record { later = l; earlier = e; place = q; number = refl; same = refl }

pub renamed_same : (D : List Statement) → Renamed (λ n. n) D D
renamed_same D = record { none = refl; some = λ k. (k, refl); count = refl; rows = moved_same D; names = λ w. refl }

module _ {f g : ℕ → ℕ} {D D' D'' : List Statement} (R : Renamed f D D') (S : Renamed g D' D'') where
  moved_on : (l : List Statement) (s : Statement) (e : List Statement) → D ≡ l ++ s ∷ e → Moved (λ n. g (f n)) D'' l s e
  moved_on l s e q =
      let a = R.rows l s e q in
      let b = S.rows a.later s a.earlier a.place in
      record { later = b.later; earlier = b.earlier; place = b.place; number = ap g a.number ∙ b.number; same = b.same ∙ ap (renumbered g) a.same }

  pub renamed_on : Renamed (λ n. g (f n)) D D''
  renamed_on = record {
    none = ap g R.none ∙ S.none;
    some = λ k. (let a = R.some k in let b = S.some a.0 in (b.0, ap g a.1 ∙ b.1));
    count = S.count ∙ R.count;
    rows = moved_on;
    names = λ w. ap g (R.names w) ∙ S.names w;
  }
