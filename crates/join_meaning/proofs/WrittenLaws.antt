-- The numbers of an order are those of both hands, and so what is written of them and what a typed scene holds of them is what the statements say.
use mathlib.Core.Bool.{Bool, true, false, ◌&&◌, cond}
use mathlib.Core.List.{List, [], ◌∷◌, ◌++◌, append_assoc, append-nil}
use mathlib.Core.Logic.{◌⊎◌, inl, inr}
use mathlib.Core.Option.{Option, none, some, none-ne-some, some-injective}
use mathlib.Core.Path.{◌≡◌, refl, ap, sym, ◌∙◌, subst}
use Prim.Native.Nat.{ℕ, zero, suc, ◌-◌, ◌*◌, ◌/◌, ◌≤◌, ◌<◌}
use native.Mathlib.Omega.{arith}
use borrow.Author.Tests.{eqb-false}
use lib.Dec.{eqb}
use lib.ListN.{length, length-append, length-set, set}
use Rattle.arranging.proofs.BothLaws.{either_left, either_right}
use Rattle.arranging.proofs.OrderLaws.{least_low}
use Rattle.arranging.specs.Both.{either}
use Rattle.arranging.specs.Order.{least_to, order_from, placed_mark}
use Rattle.join_meaning.proofs.ChoiceLaws.{matched_equal}
use Rattle.join_meaning.specs.Kept.{in_turn, one_of}
use Rattle.join_meaning.specs.Matched.{MatchedIn}
use Rattle.join_meaning.specs.Rows.{used_rows}
use Rattle.join_meaning.specs.Written.{EqualLaw, Numbers, NumbersLaw, TextLaw, all_equal}
use Rattle.joined_text.specs.JoinedText.{number_text, order_text}
use Rattle.joining.specs.Definition.{named, same_definition}
use Rattle.joining.specs.Pick.{all_in}
use Rattle.laws.proofs.NatLaws.{le_or_lt}
use Rattle.laws.specs.Bytes.{Bytes}
use Rattle.match_meaning.proofs.NumberLaws.{table_length}
use Rattle.picking.specs.Picking.{is_equal}
use Rattle.record_text.proofs.RowLaws.{record_text_lem}
use Rattle.record_text.specs.RecordText.{record_text}
use Rattle.scene.proofs.NumberedLaws.{numbered_before, numbered_high, numbered_last, numbered_low}
use Rattle.scene.proofs.TellsLaws.{statements_length}
use Rattle.scene.specs.Properties.{numbered}
use Rattle.scene.specs.Reading.{Entry, accepted, read_statements, statements}
use Rattle.scene.specs.Record.{width}
use Rattle.scene.specs.Statement.{Statement}
use Rattle.scene.specs.declared.Settings.{Settings}
use Rattle.table.specs.Number.{number_in}
use Rattle.tidying.specs.Tidy.{statement_text, tidy}
use Rattle.tied.proofs.TiedLaws.{here, own, range}

-- ---- the numbers of an order

numbers_more : (count : ℕ) (order : List ℕ) (n : ℕ) → Numbers count order → 0 < n → n ≤ count → Numbers count (order ++ n ∷ [])
numbers_more count [] n h low high = (low, high, tt)
numbers_more count (m ∷ order) n h low high = (h.0, h.1, numbers_more count order n h.2 low high)

-- the least of a table's numbers is one of them, and a mark set anew leaves the table as long as it was
pub numbers_low : NumbersLaw
unfolding order_from
numbers_low v zero marks done order e h = subst (Numbers (length marks)) (some-injective done order e) h
numbers_low v (suc k) marks done order e h = go (eqb least 0) refl e (numbers_low v k marked (done ++ least ∷ []) order)
  where
    least : ℕ
    least = least_to v marks (length marks)

    marked : List ℕ
    marked = set marks (least - 1) (placed_mark (v.type least))

    long : length marked ≡ length marks
    long = length-set marks (least - 1) (placed_mark (v.type least))

    go : (b : Bool) → eqb least 0 ≡ b → cond b none (order_from v k marked (done ++ least ∷ [])) ≡ some order → (order_from v k marked (done ++ least ∷ []) ≡ some order → Numbers (length marked) (done ++ least ∷ []) → Numbers (length marked) order) → Numbers (length marks) order
    go true q e ih = absurd (none-ne-some order e)
    go false q e ih =
        let some_left = eqb-false least 0 q in
        let low : 0 < least = omega arith in
        let more = numbers_more (length marks) done least h low (least_low v marks (length marks)) in
        subst (λ (n : ℕ). Numbers n order) long (ih e (subst (λ (n : ℕ). Numbers n (done ++ least ∷ [])) (sym long) more))

-- ---- the statement of a number

numbered_some : (d : List Statement) (n : ℕ) → 0 < n → n ≤ length d → (s : Statement) × (numbered d n ≡ some s)
numbered_some [] n low high = absurd (omega arith)
numbered_some (s ∷ d) n low high = go (le_or_lt n (length d)) (numbered_some d n low)
  where
    go : (n ≤ length d) ⊎ (length d < n) → (n ≤ length d → (t : Statement) × (numbered d n ≡ some t)) → (t : Statement) × (numbered (s ∷ d) n ≡ some t)
    go (inl l) ih = let t = ih l in (t.0, numbered_before s d n l ∙ t.1)
    go (inr l) ih = let e : n ≡ suc (length d) = omega arith in (s, ap (numbered (s ∷ d)) e ∙ numbered_last s d)

-- what holds of each hand's numbers and their statements holds of both's
module _ {A : Type 0} (Holds : Statement → A → Type 0) (left right : List Statement) (split : ℕ) (size : split ≡ length right) (f g : ℕ → A) where
  either_holds : ((n : ℕ) (s : Statement) → numbered right n ≡ some s → Holds s (f n)) → ((n : ℕ) (s : Statement) → numbered left n ≡ some s → Holds s (g n)) → (n : ℕ) (s : Statement) → numbered (left ++ right) n ≡ some s → Holds s (either split f g n)
  either_holds p q n s e = go (le_or_lt n split)
    where
      go : (n ≤ split) ⊎ (split < n) → Holds s (either split f g n)
      go (inl l) = subst (Holds s) (sym (either_right split f g n l)) (p n s (sym (numbered_low left right n (omega arith)) ∙ e))
      go (inr l) =
          let there : numbered left (n - split) ≡ some s = ap (λ (m : ℕ). numbered left (n - m)) size ∙ numbered_high left right n s (omega arith) e in
          subst (Holds s) (sym (either_left split f g n l)) (q (n - split) s there)

-- ---- what is written

-- statements stand latest first, and the last of a list is written first
tidy_first : (d : List Statement) (s : Statement) → tidy (d ++ s ∷ []) ≡ statement_text s ++ tidy d
unfolding tidy
tidy_first [] s = sym (append-nil (statement_text s))
tidy_first (t ∷ d) s = ap (λ (x : Bytes). x ++ statement_text t) (tidy_first d s) ∙ append_assoc (statement_text s) (tidy d) (statement_text t)

module _ (r : Settings) (text : Bytes) (es : List Entry) (reads : read_statements r text ≡ accepted es) where
  rows_many : length (used_rows text es) / width ≡ length (statements es)
  rows_many = omega (arith, table_length r text es reads, statements_length es)

  -- the text of a record is that of its statement
  row_written : (n : ℕ) (s : Statement) → numbered (statements es) n ≡ some s → record_text text (used_rows text es) n ≡ statement_text s
  row_written n s e =
      let k = length es * width in
      let a = here r text es k reads n s e in
      let number : n ≡ suc (length a.x) = omega (arith, (range r text es k reads n s e).0, a.number) in
      ap (record_text text (used_rows text es)) number ∙ record_text_lem r text es k reads a.l a.e a.x a.split ∙ ap statement_text (own r text es k reads n s e)

module _ (r : Settings) (left right : Bytes) (ls rs : List Entry) (p : read_statements r left ≡ accepted ls) (q : read_statements r right ≡ accepted rs) where
  number_written : (n : ℕ) (s : Statement) → numbered (statements ls ++ statements rs) n ≡ some s → number_text left (used_rows left ls) right (used_rows right rs) n ≡ statement_text s
  unfolding number_text
  number_written = either_holds (λ (s : Statement) (x : Bytes). x ≡ statement_text s) (statements ls) (statements rs) (length (used_rows right rs) / width) (rows_many r right rs q) (record_text right (used_rows right rs)) (record_text left (used_rows left ls)) (row_written r right rs q) (row_written r left ls p)

pub text_meant : TextLaw
unfolding order_text in_turn tidy
text_meant r left right ls rs p q [] h = refl
text_meant r left right ls rs p q (n ∷ order) h =
    let d = statements ls ++ statements rs in
    let s = numbered_some d n h.0 h.1 in
    (λ i. number_written r left right ls rs p q n s.0 s.1 i ++ text_meant r left right ls rs p q order h.2 i)
    ∙ sym (ap (λ (x : Option Statement). tidy (in_turn d order ++ one_of x)) s.1 ∙ tidy_first (in_turn d order) s.0)

-- ---- a typed scene

-- the order of tests does not matter
and_swap : (a b c : Bool) → (a && (b && c)) ≡ (b && (a && c))
and_swap true true c = refl
and_swap true false c = refl
and_swap false true c = refl
and_swap false false c = refl

all_first : (d : List Statement) (s : Statement) (typed : List Statement) → all_in (d ++ s ∷ []) typed ≡ (same_definition (some s) (named s.name typed) && all_in d typed)
unfolding all_in
all_first [] s typed = refl
all_first (t ∷ d) s typed =
    let one = same_definition (some t) (named t.name typed) in
    ap (λ (b : Bool). one && b) (all_first d s typed) ∙ and_swap one (same_definition (some s) (named s.name typed)) (all_in d typed)

module _ (left right typed : List Statement) (right_matches left_matches : List ℕ) (p : MatchedIn right typed right_matches) (q : MatchedIn left typed left_matches) where
  -- a number's match says whether the statement's own name has an equal definition there
  number_equal : (n : ℕ) (s : Statement) → numbered (left ++ right) n ≡ some s → is_equal (either (length right_matches) (number_in right_matches) (number_in left_matches) n) ≡ same_definition (some s) (named s.name typed)
  number_equal = either_holds (λ (s : Statement) (x : ℕ). is_equal x ≡ same_definition (some s) (named s.name typed)) left right (length right_matches) p.size (number_in right_matches) (number_in left_matches) (matched_equal right typed right_matches p) (matched_equal left typed left_matches q)

pub equal_meant : EqualLaw
unfolding all_equal in_turn all_in
equal_meant left right typed R L p q [] h = (refl, refl)
equal_meant left right typed R L p q (n ∷ order) h =
    let d = left ++ right in
    let s = numbered_some d n h.0 h.1 in
    let rest = equal_meant left right typed R L p q order h.2 in
    let ended = ap (λ (x : Option Statement). in_turn d order ++ one_of x) s.1 in (
      (λ i. number_equal left right typed R L p q n s.0 s.1 i && rest.0 i) ∙ sym (ap (λ (x : List Statement). all_in x typed) ended ∙ all_first (in_turn d order) s.0 typed),
      ap length ended ∙ length-append (in_turn d order) (s.0 ∷ []) ∙ omega (arith, rest.1),
    )
