-- The list of marked materials.
use mathlib.Core.Bool.{Bool, true, false, cond}
use mathlib.Core.List.{List, [], ◌∷◌, ◌++◌, append-nil}
use mathlib.Core.Logic.{◌⊎◌, inl, inr}
use mathlib.Core.Path.{◌≡◌, refl, ap, sym, ◌∙◌, subst}
use Prim.Native.Nat.{ℕ, zero, suc, ◌+◌, ◌-◌, ◌≤◌, ◌<◌}
use native.Mathlib.Numerals.{add-one}
use native.Mathlib.Omega.{arith}
use borrow.Author.Tests.{ne_eqb}
use lib.ListN.{length, get_or, set, replicate, length-append}
use Rattle.graph.specs.Answers.{leads, shows, shown_in, those}
use Rattle.graph.specs.Graph.{graph_of}
use Rattle.mixtures.proofs.LeadLaws.{marked_leads, unmarked_not}
use Rattle.mixtures.proofs.MarkLaws.{same_or}
use Rattle.mixtures.specs.Walk.{Reaches, Within}
use Rattle.scene.specs.Record.{field_in, filled}
use Rattle.scene.specs.Types.{is_material}
use Rattle.shown.specs.Code.{Adds, Holds, marked_material, padded}
use Rattle.table.proofs.QuestionLaws.{type_field}

pub padded_none : (room : ℕ) → replicate room 0 ≡ padded room []
unfolding padded
padded_none zero = refl
padded_none (suc room) = ap (λ (l : List ℕ). 0 ∷ l) (padded_none room)

pub padded_more : (room : ℕ) (xs : List ℕ) (v : ℕ) → set (padded room xs) (length xs) v ≡ padded room (xs ++ v ∷ [])
unfolding padded
padded_more zero xs v = refl
padded_more (suc room) [] v = refl
padded_more (suc room) (x ∷ xs) v = ap (λ (l : List ℕ). x ∷ l) (padded_more room xs v)

-- ---- one number

module _ (records marks list : List ℕ) (n used : ℕ) where
  pub not_marked : get_or marks n 0 ≡ 0 → Adds records marks list n used list used
  unfolding marked_material
  not_marked e = record { total = rw e (omega arith); stands = rw e }

  pub not_material : (m : Bool) → (get_or marks n 0 ≡ 0 → ⊥) → m ≡ is_material (field_in records n 0) → m ≡ false → Adds records marks list n used list used
  unfolding marked_material
  not_material m f e q =
      let t = ne_eqb (get_or marks n 0) 0 f in
      let i : is_material (field_in records n 0) ≡ false = sym e ∙ q in
      record { total = rw (t, i) (omega arith); stands = rw (t, i) }

  pub one_more : (m : Bool) (after : List ℕ) → (get_or marks n 0 ≡ 0 → ⊥) → m ≡ is_material (field_in records n 0) → m ≡ true → after ≡ set list used n → Adds records marks list n used after (used + 1)
  unfolding marked_material
  one_more m after f e q a =
      let t = ne_eqb (get_or marks n 0) 0 f in
      let i : is_material (field_in records n 0) ≡ true = sym e ∙ q in
      record { total = rw (t, i); stands = rw (t, i) a }

pub adds_le : (records marks list : List ℕ) (n used : ℕ) (after : List ℕ) (r : ℕ) → Adds records marks list n used after r → r ≤ used + 1
adds_le records marks list n used after r l = go (marked_material records marks n) l.total
  where
    go : (t : Bool) → r ≡ used + cond t 1 0 → r ≤ used + 1
    go true e = omega arith
    go false e = omega arith

pub holds_none : (test : ℕ → Bool) (room size : ℕ) (list : List ℕ) → room ≡ size → list ≡ replicate room 0 → Holds (those test 0) size list 0
unfolding those
holds_none test room size list q e = record { total = refl; stands = e ∙ padded_none room ∙ ap (λ (k : ℕ). padded k []) q }

pub holds_all : (test : ℕ → Bool) (n m room size : ℕ) (list : List ℕ) (used : ℕ) → n ≡ m → room ≡ size → Holds (those test n) room list used → Holds (those test m) size list used
holds_all test n m room size list used e q h = subst (λ (k : ℕ). Holds (those test m) k list used) q (subst (λ (k : ℕ). Holds (those test k) room list used) e h)

-- ---- a turn

those_step : (test : ℕ → Bool) (n : ℕ) → those test (n + 1) ≡ those test n ++ cond (test (n + 1)) ((n + 1) ∷ []) []
unfolding those
those_step test n = simp add-one

pub turn : (records marks : List ℕ) (room : ℕ) (list after : List ℕ) (n used r : ℕ)
    → Holds (those (marked_material records marks) n) room list used
    → Adds records marks list (n + 1) used after r
    → Holds (those (marked_material records marks) (n + 1)) room after r
turn records marks room list after n used r h l = go (marked_material records marks (n + 1)) refl l.total l.stands
  where
    xs : List ℕ
    xs = those (marked_material records marks) n

    go : (t : Bool) → marked_material records marks (n + 1) ≡ t → r ≡ used + cond t 1 0 → after ≡ cond t (set list used (n + 1)) list → Holds (those (marked_material records marks) (n + 1)) room after r
    go true e u a = record {
      total = rw (those_step (marked_material records marks) n, e) (simp length-append (omega (arith, h.total)));
      stands = rw (those_step (marked_material records marks) n, e)
          (a ∙ ap (λ (z : List ℕ). set z used (n + 1)) h.stands ∙ ap (λ (k : ℕ). set (padded room xs) k (n + 1)) h.total ∙ padded_more room xs (n + 1));
    }
    go false e u a = record {
      total = rw (those_step (marked_material records marks) n, e, append-nil) (omega (arith, h.total));
      stands = rw (those_step (marked_material records marks) n, e, append-nil) (a ∙ h.stands);
    }

-- ---- what is marked is what the primitive leads to

those_same : (f g : ℕ → Bool) (k : ℕ) → ((n : ℕ) → f n ≡ g n) → those f k ≡ those g k
unfolding those
those_same f g zero h = refl
those_same f g (suc k) h = rw (those_same f g k h, h (suc k))

module _ (records pairs marks : List ℕ) (count n k : ℕ) where
  marked_no : get_or marks k 0 ≡ 0 → leads (graph_of records pairs) false count n k ≡ false → marked_material records marks k ≡ shows (graph_of records pairs) count n k
  unfolding marked_material shows
  marked_no e q = rw (e, q)

  marked_yes : (get_or marks k 0 ≡ 0 → ⊥) → leads (graph_of records pairs) false count n k ≡ true → marked_material records marks k ≡ shows (graph_of records pairs) count n k
  unfolding marked_material shows
  marked_yes f q = rw (ne_eqb (get_or marks k 0) 0 f, q) (ap is_material (type_field records k))

pub all_shown : (records pairs marks : List ℕ) (size n : ℕ) → Within (graph_of records pairs) size → Reaches (graph_of records pairs) false n marks → 0 < n → n < size
    → those (marked_material records marks) (size - 1) ≡ shown_in (graph_of records pairs) (size - 1) n
unfolding shown_in
all_shown records pairs marks size n w r z h = those_same (marked_material records marks) (shows (graph_of records pairs) (size - 1) n) (size - 1) (λ k. same k (same_or (get_or marks k 0) 0))
  where
    same : (k : ℕ) → (get_or marks k 0 ≡ 0) ⊎ (get_or marks k 0 ≡ 0 → ⊥) → marked_material records marks k ≡ shows (graph_of records pairs) (size - 1) n k
    same k (inl e) = marked_no records pairs marks (size - 1) n k e (unmarked_not (graph_of records pairs) false size n marks w r z h k e)
    same k (inr f) = marked_yes records pairs marks (size - 1) n k f (marked_leads (graph_of records pairs) false size n marks w r z h k f)

pub ends_shown : (records pairs marks : List ℕ) (size n room : ℕ) (list : List ℕ) (r : ℕ) → Within (graph_of records pairs) size → 0 < n → n < size → Reaches (graph_of records pairs) false n marks → length marks ≡ size
    → Holds (those (marked_material records marks) (length marks - 1)) room list r → Holds (shown_in (graph_of records pairs) (size - 1) n) room list r
ends_shown records pairs marks size n room list r w z h q e o =
    subst (λ (xs : List ℕ). Holds xs room list r) (all_shown records pairs marks size n w q z h)
    (subst (λ (k : ℕ). Holds (those (marked_material records marks) (k - 1)) room list r) e o)

-- where there is room for all, the rest is zero
pub padded_filled : (room : ℕ) (xs : List ℕ) → length xs ≤ room → padded room xs ≡ filled 0 room xs
unfolding padded
padded_filled zero [] h = refl
padded_filled zero (x ∷ xs) h = absurd (omega arith)
padded_filled (suc room) [] h = ap {B = List ℕ} (λ (l : List ℕ). 0 ∷ l) (sym (padded_none room)) ∙ ap (λ (k : ℕ). replicate k 0) (let e : suc room ≡ suc room - 0 = omega arith in e)
padded_filled (suc room) (x ∷ xs) h =
    let e : suc room - suc (length xs) ≡ room - length xs = omega arith in
    ap {B = List ℕ} (λ (l : List ℕ). x ∷ l) (padded_filled room xs (omega arith) ∙ ap {B = List ℕ} (λ (k : ℕ). xs ++ replicate k 0) (sym e))
