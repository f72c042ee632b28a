-- The reals of moved records as the code counts them, and as their statements have them.
use mathlib.Core.List.{List, [], ◌∷◌, ◌++◌}
use mathlib.Core.Path.{◌≡◌, refl, ap, sym, ◌∙◌}
use Prim.Native.Nat.{ℕ, suc, ◌+◌, ◌≤◌, min}
use native.Mathlib.Numerals.{add-one}
use native.Mathlib.Omega.{arith}
use borrow.Author.Tests.{eq-eqb, eqb-false, ne_eqb}
use lib.Dec.{eqb}
use lib.ListN.{length, length-append, length-take, take}
use Rattle.laws.proofs.BoolLaws.{cond_elim}
use Rattle.laws.specs.Bytes.{Bytes}
use Rattle.moved_text.proofs.GlassLaws.{body_changed, count_is}
use Rattle.moved_text.proofs.RowLaws.{proper_body, row_at}
use Rattle.moved_text.specs.MovedText.{change_of}
use Rattle.moved_text.specs.declared.Change.{Change}
use Rattle.moved_text.specs.declared.Change.TheVariants.{Added, Dropped, Kept}
use Rattle.moving.specs.Moved.{index, moved, moved_body}
use Rattle.moving.specs.declared.Direction.{Direction}
use Rattle.record_text.proofs.RowLaws.{BodyRow, next}
use Rattle.scene.specs.Links.{reals_added, reals_used}
use Rattle.scene.specs.Reading.{Entry, accepted, read_statements, statements}
use Rattle.scene.specs.Record.{record_image, record_in}
use Rattle.scene.specs.Statement.{Body, Literal, alias, primitive}
use Rattle.scene.specs.declared.Mode.{Mode}
use Rattle.scene.specs.declared.Settings.{Settings}
use Rattle.tidying.specs.Proper.{ProperBody}
use Rattle.mover.specs.Code.{reals_by, reals_in, reals_to}

-- ---- as the code counts them

few : (c : Change) (k : ℕ) → reals_by c k ≤ 4097
few Kept k = omega arith
few Added k = omega arith
few Dropped k = omega arith

module _ (m : Direction) (text : Bytes) (T : List ℕ) (n : ℕ) where
  pub of_alias : ((record_in T n).target ≡ 0 → ⊥) → 0 ≡ reals_in m text T n
  unfolding reals_in
  of_alias h = rw (ne_eqb (record_in T n).target 0 h)

  own_reals : (record_in T n).target ≡ 0 → reals_by (change_of m text T n) (record_in T n).reals ≡ reals_in m text T n
  unfolding reals_in
  own_reals z = rw (eq-eqb (record_in T n).target 0 z)

  pub of_own : {c : Change} → (record_in T n).target ≡ 0 → c ≡ change_of m text T n → reals_by c (record_in T n).reals ≡ reals_in m text T n
  of_own z e = ap (λ (x : Change). reals_by x (record_in T n).reals) e ∙ own_reals z

  pub none_yet : 0 ≡ reals_to m text T 0
  unfolding reals_to
  none_yet = refl

  pub one_more : min (reals_to m text T n + reals_in m text T (n + 1)) 4097 ≡ reals_to m text T (n + 1)
  unfolding reals_to
  one_more = rw add-one

  pub few_in : reals_in m text T n ≤ 4097
  unfolding reals_in
  few_in = cond_elim (λ (k : ℕ). k ≤ 4097) (eqb (record_in T n).target 0) (few (change_of m text T n) (record_in T n).reals) (omega arith)

-- ---- as the statements have them

module _ (m : Direction) (text : Bytes) (T : List ℕ) (n : ℕ) where
  abbrev Counted : Change → Body → Type 0
  Counted c b = reals_by c (record_in T n).reals ≡ min (reals_added b) 4097

  added : (rs : List Literal) → length rs ≡ 3 → 4 ≡ min (length (rs ++ index ∷ [])) 4097
  added rs e = omega (arith, length-append rs (index ∷ []))

  dropped : (rs : List Literal) → length rs ≡ 4 → 3 ≡ min (length (take 3 rs)) 4097
  dropped rs e = omega (arith, length-take 3 rs)

  body_reals : (mode : Mode) (b : Body) → BodyRow text T (record_in T n) b → ProperBody mode b → reals_in m text T n ≡ min (reals_added (moved_body m b)) 4097
  body_reals mode (alias x) row proper = sym (of_alias m text T n (eqb-false (record_in T n).target 0 row.target))
  body_reals mode (primitive t ss rs) row proper =
      sym (own_reals m text T n row.target)
      ∙ body_changed text T n Counted m mode (primitive t ss rs) row proper (ap (λ (k : ℕ). min k 4097) (count_is text T n t ss rs row)) (λ rs h. added rs) (λ rs h. dropped rs)

-- a sum of capped numbers, capped
capped : (a b x y : ℕ) → a ≡ min x 4097 → b ≡ min y 4097 → min (a + b) 4097 ≡ min (x + y) 4097
capped a b x y p q = omega arith

module _ (m : Direction) (r : Settings) (text : Bytes) (es : List Entry) (n : ℕ) (reads : read_statements r text ≡ accepted es) where
  abbrev table : List ℕ
  table = record_image text n (accepted es)

  -- the earliest records, and the earliest statements
  counts : (l x : List Entry) → es ≡ l ++ x → reals_to m text table (length x) ≡ min (reals_used (moved m (statements x))) 4097
  unfolding reals_to reals_used statements
  counts l [] q = refl
  counts l (e ∷ x) q =
      let here = body_reals m text table (suc (length x)) r.mode e.statement.body (row_at r text es n reads l e x q) (proper_body r text es n reads l e x q) in
      capped (reals_to m text table (length x)) (reals_in m text table (suc (length x))) (reals_used (moved m (statements x))) (reals_added (moved_body m e.statement.body)) (counts (l ++ e ∷ []) x (next r text es n reads l e x q)) here

-- on the table of an accepted text the code counts the reals of the statements moved, 4,097 at most
pub reals_counted : (m : Direction) (r : Settings) (text : Bytes) (es : List Entry) (n : ℕ) → read_statements r text ≡ accepted es → reals_to m text (record_image text n (accepted es)) (length es) ≡ min (reals_used (moved m (statements es))) 4097
reals_counted m r text es n reads = counts m r text es n reads [] es refl
