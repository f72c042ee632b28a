-- Blocks that say statements: that of number n says statement n + 1 alone, or nothing where there is none.
use mathlib.Core.List.{List, [], ◌∷◌, ◌++◌, append-nil}
use mathlib.Core.Logic.{◌⊎◌, inl, inr}
use mathlib.Core.Option.{Option, none, some}
use mathlib.Core.Path.{◌≡◌, refl, ap, sym, ◌∙◌, subst}
use Prim.Native.Nat.{ℕ, suc, ◌≤◌, ◌<◌}
use native.Mathlib.Omega.{arith}
use lib.ListN.{length}
use Rattle.holding.specs.Mattered.{alone}
use Rattle.laws.proofs.NatLaws.{le_or_lt}
use Rattle.laws.specs.Bytes.{Bytes}
use Rattle.rearrangement.proofs.BlockLaws.{own_pieces, rest_piece, rest_pieces}
use Rattle.rearrangement.proofs.PieceLaws.{In, Rising, in_left, in_right}
use Rattle.rearrangement.specs.Blocks.{behind_blocks}
use Rattle.rearrangement.specs.Cut.{Piece}
use Rattle.scene.proofs.NumberedLaws.{numbered_before, numbered_last, numbered_none}
use Rattle.scene.proofs.TellsLaws.{statements_length}
use Rattle.scene.specs.Properties.{numbered}
use Rattle.scene.specs.Reading.{Entry, statements}
use Rattle.scene.specs.Statement.{Statement}
use Rattle.sorting.proofs.ShuffleLaws.{All, all_append, all_map}

-- ---- what a block says

abbrev pub only : Option Statement → List Statement
only none = []
only (some s) = s ∷ []

abbrev pub Said : List Statement → Piece → Type 0
Said d b = b.said ≡ only (numbered d (suc b.number))

pub record Says (d : List Statement) (bs : List Piece) : Type 0 where
  pub rise : Rising 0 bs
  pub each : All (Said d) bs
  pub has : (k : ℕ) → k < length d → (b : Piece) × In b bs × (b.number ≡ k)

pub all_in : (P : Piece → Type 0) (bs : List Piece) (b : Piece) → All P bs → In b bs → P b
all_in P [] b h i = absurd i
all_in P (x ∷ bs) b h (inl e) = subst P (sym e) h.0
all_in P (x ∷ bs) b h (inr i) = all_in P bs b h.1 i

-- ---- one more block

rising_more : (lo : ℕ) (xs : List Piece) (b : Piece) → Rising lo xs → All (λ (x : Piece). x.number < b.number) xs → lo ≤ b.number → Rising lo (xs ++ b ∷ [])
rising_more lo [] b r h l = (l, tt)
rising_more lo (x ∷ xs) b r h l = (r.0, rising_more (suc x.number) xs b r.1 h.1 h.0)

-- one for each statement, and none besides
abbrev Own : List Statement → Piece → Type 0
Own d b = Said d b × (b.number < length d)

record Row (d : List Statement) (bs : List Piece) : Type 0 where
  rise : Rising 0 bs
  each : All (Own d) bs
  has : (k : ℕ) → k < length d → (b : Piece) × In b bs × (b.number ≡ k)

row_none : Row [] []
row_none = record { rise = tt; each = tt; has = λ k l. absurd (omega arith) }

row_more : (s : Statement) (d : List Statement) (bs : List Piece) (b : Piece) → b.number ≡ length d → b.said ≡ s ∷ [] → Row d bs → Row (s ∷ d) (bs ++ b ∷ [])
row_more s d bs b n q r = record {
  rise = rising_more 0 bs b r.rise (all_map (Own d) (λ (x : Piece). x.number < b.number) bs (λ x h. omega (arith, h.1)) r.each) (omega arith);
  each = all_append (Own (s ∷ d)) bs (b ∷ []) (all_map (Own d) (Own (s ∷ d)) bs (λ x h. (h.0 ∙ sym (ap only (numbered_before s d (suc x.number) h.1)), omega (arith, h.1))) r.each) ((q ∙ sym (ap only (ap (λ (k : ℕ). numbered (s ∷ d) (suc k)) n ∙ numbered_last s d)), omega arith), tt);
  has = λ k l. one k (le_or_lt (length d) k) l;
}
  where
    one : (k : ℕ) → (length d ≤ k) ⊎ (k < length d) → k < suc (length d) → (c : Piece) × In c (bs ++ b ∷ []) × (c.number ≡ k)
    one k (inl h) l = (b, in_right b bs (b ∷ []) (inl refl), omega arith)
    one k (inr h) l = let c = r.has k h in (c.0, in_left c.0 bs (b ∷ []) c.1, c.2)

row_says : (d : List Statement) (bs : List Piece) → Row d bs → Says d bs
row_says d bs r = record { rise = r.rise; each = all_map (Own d) (Said d) bs (λ x h. h.0) r.each; has = r.has }

-- what stands behind them has the highest number and says nothing
row_rest : (d : List Statement) (bs : List Piece) (t : Bytes) → Row d bs → Says d (bs ++ rest_piece (length d) t)
row_rest d bs [] r = subst (Says d) (sym (append-nil bs)) (row_says d bs r)
row_rest d bs (c ∷ t) r =
    let b : Piece = record { number = length d; text = c ∷ t; said = [] } in
    let k = row_says d bs r in
    record {
      rise = rising_more 0 bs b k.rise (all_map (Own d) (λ (x : Piece). x.number < length d) bs (λ x h. h.1) r.each) (omega arith);
      each = all_append (Said d) bs (b ∷ []) k.each (sym (ap only (numbered_none d (suc (length d)) (omega arith))), tt);
      has = λ n l. let a = k.has n l in (a.0, in_left a.0 bs (b ∷ []) a.1, a.2);
    }

-- ---- the statements alone, and the blocks of a text

alone_row : (d : List Statement) → Row d (alone d)
unfolding alone
alone_row [] = row_none
alone_row (s ∷ d) = row_more s d (alone d) _ refl refl (alone_row d)

pub alone_says : (d : List Statement) → Says d (alone d)
alone_says d = row_says d (alone d) (alone_row d)

own_row : (text : Bytes) (es : List Entry) → Row (statements es) (own_pieces text es)
unfolding own_pieces statements
own_row text [] = row_none
own_row text (e ∷ es) = row_more e.statement (statements es) (own_pieces text es) _ (sym (statements_length es)) refl (own_row text es)

pub own_says : (text : Bytes) (es : List Entry) → Says (statements es) (own_pieces text es ++ rest_pieces text es)
own_says text es = subst (λ (n : ℕ). Says (statements es) (own_pieces text es ++ rest_piece n (behind_blocks text es))) (statements_length es) (row_rest (statements es) (own_pieces text es) (behind_blocks text es) (own_row text es))
