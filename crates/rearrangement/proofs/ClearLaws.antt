-- Independent of each of several blocks is clear of all that they say.
use mathlib.Core.List.{List, [], ◌∷◌, ◌++◌, append_assoc, append-nil}
use mathlib.Core.Path.{◌≡◌, ap, sym, ◌∙◌}
use Rattle.laws.specs.Bytes.{Bytes}
use Rattle.rearrangement.specs.Cut.{Piece, saids}
use Rattle.rearrangement.specs.Order.{Apart}
use Rattle.scene.proofs.IndependentLaws.{clear_first, clear_second}
use Rattle.scene.proofs.SwapLaws.{Absent, BodyAbsent, Clear}
use Rattle.scene.specs.Statement.{Body, Statement, alias, primitive}

-- ---- what blocks say

pub saids_append : (xs ys : List Piece) → saids (xs ++ ys) ≡ saids ys ++ saids xs
unfolding saids
saids_append [] ys = sym (append-nil (saids ys))
saids_append (x ∷ xs) ys = ap {B = List Statement} (λ (z : List Statement). z ++ x.said) (saids_append xs ys) ∙ append_assoc (saids ys) (saids xs) x.said

-- ---- clear of two lists

absent_append : (w : Bytes) (X Y : List Statement) → Absent w X → Absent w Y → Absent w (X ++ Y)
absent_append w [] Y h k = k
absent_append w (s ∷ X) Y h k = (h.0, absent_append w X Y h.1 k)

body_absent : (b : Body) (X Y : List Statement) → BodyAbsent b X → BodyAbsent b Y → BodyAbsent b (X ++ Y)
body_absent (primitive t ss rs) X Y h k = tt
body_absent (alias x) X Y h k = absent_append x X Y h k

clear_right : (A X Y : List Statement) → Clear A X → Clear A Y → Clear A (X ++ Y)
clear_right [] X Y h k = tt
clear_right (s ∷ A) X Y h k = (
  record {
    name = λ g. absent_append s.name X Y (h.0.name g) (k.0.name g);
    modifier = λ e. absent_append s.modifier X Y (h.0.modifier e) (k.0.modifier e);
    body = body_absent s.body X Y h.0.body k.0.body;
  },
  clear_right A X Y h.1 k.1,
)

clear_left : (X Y B : List Statement) → Clear X B → Clear Y B → Clear (X ++ Y) B
clear_left [] Y B h k = k
clear_left (s ∷ X) Y B h k = (h.0, clear_left X Y B h.1 k)

clear_nil : (A : List Statement) → Clear A []
clear_nil [] = tt
clear_nil (s ∷ A) = (record { name = λ g. tt; modifier = λ e. tt; body = nil s.body }, clear_nil A)
  where
    nil : (b : Body) → BodyAbsent b []
    nil (primitive t ss rs) = tt
    nil (alias x) = tt

-- ---- a block that is related to each of these

abbrev pub Free : (R : Piece → Piece → Type 0) → Piece → List Piece → Type 0
Free R c [] = Unit {0}
Free R c (x ∷ xs) = R x c × Free R c xs

pub free_clear : (c : Piece) (xs : List Piece) → Free Apart c xs → Clear (saids xs) c.said × Clear c.said (saids xs)
unfolding saids
free_clear c [] h = (tt, clear_nil c.said)
free_clear c (x ∷ xs) h =
    let k = free_clear c xs h.1 in
    (clear_left (saids xs) x.said c.said k.0 (clear_first h.0), clear_right c.said (saids xs) x.said k.1 (clear_second h.0))
