-- Ways from one list of statements to another: what one is, the other is after a renumbering, and back.
use mathlib.Core.List.{List, ◌++◌}
use mathlib.Core.Path.{◌≡◌, refl, ap, ◌∙◌}
use Prim.Native.Nat.{ℕ}
use native.Mathlib.Omega.{arith}
use lib.ListN.{length}
use Rattle.scene.proofs.RenumberLaws.{Renamed, renamed_on, renamed_same, renamed_swap}
use Rattle.scene.proofs.RoomLaws.{sound_swap, used_append}
use Rattle.scene.proofs.SwapLaws.{Clear, new}
use Rattle.scene.proofs.SyntaxLaws.{Sound}
use Rattle.scene.specs.Links.{reals_used}
use Rattle.scene.specs.Statement.{Statement}
use Rattle.scene.specs.declared.Settings.{Settings}
use Rattle.sides.proofs.ExchangeLaws.{shift_back}

-- the numbers go from D to D' by f, and back by g
pub record Way (r : Settings) (f g : ℕ → ℕ) (D D' : List Statement) : Type 0 where
  pub sound : Sound r D → Sound r D'
  pub reals : reals_used D' ≡ reals_used D
  pub renamed : Renamed f D D'
  pub back : Renamed g D' D
  pub forth_back : (n : ℕ) → g (f n) ≡ n
  pub back_forth : (n : ℕ) → f (g n) ≡ n

module _ (r : Settings) where
  pub way_same : (D : List Statement) → Way r (λ n. n) (λ n. n) D D
  way_same D = record { sound = λ h. h; reals = refl; renamed = renamed_same D; back = renamed_same D; forth_back = λ n. refl; back_forth = λ n. refl }

  pub way_then : (f g h k : ℕ → ℕ) (D D' D'' : List Statement) → Way r f g D D' → Way r h k D' D'' → Way r (λ n. h (f n)) (λ n. g (k n)) D D''
  way_then f g h k D D' D'' v w = record {
    sound = λ x. w.sound (v.sound x);
    reals = w.reals ∙ v.reals;
    renamed = renamed_on v.renamed w.renamed;
    back = renamed_on w.back v.back;
    forth_back = λ n. ap g (w.forth_back (f n)) ∙ v.forth_back n;
    back_forth = λ n. ap h (v.back_forth (k n)) ∙ w.back_forth n;
  }

  pub way_swap : (P A B Q : List Statement) → Clear A B → Clear B A → Way r (new P A B) (new P B A) (Q ++ (B ++ (A ++ P))) (Q ++ (A ++ (B ++ P)))
  way_swap P A B Q cab cba = record {
    sound = sound_swap r P A B Q cab cba;
    reals = omega (arith, used_append Q (B ++ (A ++ P)), used_append B (A ++ P), used_append A P, used_append Q (A ++ (B ++ P)), used_append A (B ++ P), used_append B P);
    renamed = renamed_swap P A B Q cab cba;
    back = renamed_swap P B A Q cba cab;
    forth_back = shift_back (length P) (length A) (length B);
    back_forth = shift_back (length P) (length B) (length A);
  }
