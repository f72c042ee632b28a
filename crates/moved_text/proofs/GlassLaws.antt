-- The change to a record of an accepted text, beside its statement moved.
use mathlib.Core.Bool.{Bool, true, false, cond, ◌&&◌}
use mathlib.Core.List.{List, [], ◌∷◌, ◌++◌}
use mathlib.Core.Path.{◌≡◌, refl, ap, sym, ◌∙◌, subst}
use Prim.Native.Nat.{ℕ, zero, suc, ◌+◌, ◌≤◌, ◌<◌}
use native.Mathlib.Omega.{arith}
use borrow.Author.Tests.{eqb-false, eqb-true}
use lib.Dec.{eqb}
use lib.ListN.{get_or, length, take}
use Rattle.laws.proofs.BoolLaws.{and_left}
use Rattle.laws.specs.Bytes.{Bytes, bytes, same}
use Rattle.lexer.specs.Word.{behind_words, word_bytes, word_end}
use Rattle.lines.proofs.LineLaws.{words_length}
use Rattle.moving.specs.Moved.{glass, index, is_spelled, moved_body, moved_reals}
use Rattle.moving.specs.declared.Direction.{Direction}
use Rattle.moving.specs.declared.Direction.TheVariants.{Back, Forth}
use Rattle.record_text.proofs.RowLaws.{BodyRow, PrimitiveRow}
use Rattle.scene.proofs.SpellingLaws.{numerals_length}
use Rattle.scene.specs.Record.{record_in}
use Rattle.scene.specs.Statement.{Body, Literal, alias, numeral_words, primitive}
use Rattle.scene.specs.Told.{words_from}
use Rattle.scene.specs.Types.{kind_of, number_from, strings_allowed, type_number}
use Rattle.scene.specs.declared.Mode.{Mode}
use Rattle.tidying.specs.Proper.{ProperBody}
use Rattle.moved_text.proofs.ChangeLaws.{back_other, back_spelled, forth_other, forth_three, of_alias, of_other}
use Rattle.moved_text.specs.MovedText.{change_of, spelled_at}
use Rattle.moved_text.specs.declared.Change.{Change}
use Rattle.moved_text.specs.declared.Change.TheVariants.{Added, Dropped, Kept}

-- ---- the words of numerals

-- the first so many of them
pub front_words : (text : Bytes) (k j : ℕ) (rs : List Literal) → j ≤ length rs → words_from text k (length rs) ≡ numeral_words rs → words_from text k j ≡ numeral_words (take j rs)
unfolding words_from
front_words text k zero rs h e = refl
front_words text k (suc j) [] h e = absurd (omega arith)
front_words text k (suc j) (l ∷ rs) h e =
    let a : word_bytes text k ≡ l.word = cc in
    let b : words_from text (word_end text k) (length rs) ≡ numeral_words rs = cc in
    λ i. a i ∷ front_words text (word_end text k) j rs (omega arith) b i

-- the one behind so many
word_behind : (text : Bytes) (k j : ℕ) (rs : List Literal) → j < length rs → words_from text k (length rs) ≡ numeral_words rs → word_bytes text (behind_words text k j) ≡ get_or (numeral_words rs) j []
unfolding words_from behind_words
word_behind text k j [] h e = absurd (omega arith)
word_behind text k zero (l ∷ rs) h e = cc
word_behind text k (suc j) (l ∷ rs) h e =
    let b : words_from text (word_end text k) (length rs) ≡ numeral_words rs = cc in
    word_behind text (word_end text k) j rs (omega arith) b

-- ---- glass

glass_is : glass ≡ 23
unfolding type_number number_from same
glass_is = refl

no_strings : (ss : List Bytes) → strings_allowed 23 (length ss) ≡ true → ss ≡ []
unfolding strings_allowed kind_of
no_strings [] h = refl
no_strings (s ∷ ss) h = let z = eqb-true (suc (length ss)) 0 h in absurd (omega arith)

spelled_four : (rs : List Literal) → is_spelled rs ≡ true → length rs ≡ 4
unfolding is_spelled
spelled_four rs h = eqb-true (length rs) 4 (and_left (eqb (length rs) 4) _ h)

-- ---- a record, from what text and table say of it

module _ (text : Bytes) (T : List ℕ) (k : ℕ) where
  -- the place behind the counts of glass
  abbrev pub place : ℕ
  place = behind_words text (record_in T k).name 4

  pub count_is : (t : ℕ) (ss : List Bytes) (rs : List Literal) → PrimitiveRow text T (record_in T k) t ss rs → (record_in T k).reals ≡ length rs
  count_is t ss rs row = sym (words_length text (behind_words text (record_in T k).name (4 + (record_in T k).strings)) (record_in T k).reals) ∙ ap length row.reals ∙ numerals_length rs

  module _ (rs : List Literal) (row : PrimitiveRow text T (record_in T k) 23 [] rs) where
    reals_are : (record_in T k).reals ≡ length rs
    reals_are = count_is 23 [] rs row

    pub words_are : words_from text place (length rs) ≡ numeral_words rs
    words_are =
        let strings : (record_in T k).strings ≡ 0 = sym (words_length text (behind_words text (record_in T k).name 2) (record_in T k).strings) ∙ ap length row.strings in
        (λ i. words_from text (behind_words text (record_in T k).name (4 + sym strings i)) (sym reals_are i)) ∙ row.reals

    spelled_is : (eqb (record_in T k).reals 4 && spelled_at text T k) ≡ is_spelled rs
    unfolding spelled_at is_spelled behind_words
    spelled_is = ap (λ (j : ℕ). eqb j 4 && spelled_at text T k) reals_are ∙ go (eqb (length rs) 4) refl
      where
        go : (b : Bool) → eqb (length rs) 4 ≡ b → (b && spelled_at text T k) ≡ (b && same (get_or (numeral_words rs) 3 []) (bytes "1.52"))
        go true e = let h = eqb-true (length rs) 4 e in ap (λ (w : Bytes). same w (bytes "1.52")) (word_behind text place 3 rs (omega arith) words_are)
        go false e = refl

    -- reals are kept, or a fourth is added or dropped
    module _ (P : Change → List Literal → Type 0) (kept : P Kept rs) (added : length rs ≡ 3 → P Added (rs ++ index ∷ [])) (dropped : length rs ≡ 4 → P Dropped (take 3 rs)) where
      glass_changed : (m : Direction) → P (change_of m text T k) (moved_reals m rs)
      unfolding moved_reals
      glass_changed Forth = go (eqb (length rs) 3) refl
        where
          go : (b : Bool) → eqb (length rs) 3 ≡ b → P (change_of Forth text T k) (cond b (rs ++ index ∷ []) rs)
          go true e =
              let z = eqb-true (length rs) 3 e in
              subst (λ (c : Change). P c (rs ++ index ∷ [])) (forth_three Forth text T k row.target row.type refl (reals_are ∙ z)) (added z)
          go false e = subst (λ (c : Change). P c rs) (forth_other Forth text T k row.target row.type refl (λ z. eqb-false (length rs) 3 e (sym reals_are ∙ z))) kept
      glass_changed Back = go (is_spelled rs) refl
        where
          go : (b : Bool) → is_spelled rs ≡ b → P (change_of Back text T k) (cond b (take 3 rs) rs)
          go true e = subst (λ (c : Change). P c (take 3 rs)) (back_spelled Back text T k row.target row.type refl (spelled_is ∙ e)) (dropped (spelled_four rs e))
          go false e = subst (λ (c : Change). P c rs) (back_other Back text T k row.target row.type refl (spelled_is ∙ e)) kept

  -- what holds of glass with so many reals and of its reals changed
  abbrev pub OfGlass : (Change → Body → Type 0) → Change → (reals : ℕ) → (List Literal → List Literal) → Type 0
  OfGlass P c n f = (rs : List Literal) → PrimitiveRow text T (record_in T k) 23 [] rs → length rs ≡ n → P c (primitive 23 [] (f rs))

  -- of any body: what holds where it is kept, where a real is added and where one is dropped holds of it moved
  pub body_changed : (P : Change → Body → Type 0) (m : Direction) (mode : Mode) (b : Body) → BodyRow text T (record_in T k) b → ProperBody mode b → P Kept b → OfGlass P Added 3 (λ rs. rs ++ index ∷ []) → OfGlass P Dropped 4 (take 3) → P (change_of m text T k) (moved_body m b)
  body_changed P m mode (alias x) row proper kept added dropped = subst (λ (c : Change). P c (alias x)) (of_alias m text T k (eqb-false (record_in T k).target 0 row.target)) kept
  body_changed P m mode (primitive t ss rs) row proper kept added dropped = go (eqb t glass) refl
    where
      go : (b : Bool) → eqb t glass ≡ b → P (change_of m text T k) (primitive t ss (cond b (moved_reals m rs) rs))
      go false e = subst (λ (c : Change). P c (primitive t ss rs)) (of_other m text T k row.target (λ z. eqb-false t glass e (sym row.type ∙ z ∙ sym glass_is))) kept
      go true e =
          let a : t ≡ 23 = eqb-true t glass e ∙ glass_is in
          let d = no_strings ss (subst (λ (j : ℕ). strings_allowed j (length ss) ≡ true) a proper.1.allowed) in
          let own = subst (λ (x : ℕ). PrimitiveRow text T (record_in T k) x [] rs) a (subst (λ (x : List Bytes). PrimitiveRow text T (record_in T k) t x rs) d row) in
          let h = subst (P Kept) (λ i. primitive (a i) (d i) rs) kept in
          subst (P (change_of m text T k)) (λ i. primitive (sym a i) (sym d i) (moved_reals m rs)) (glass_changed rs own (λ c x. P c (primitive 23 [] x)) h (added rs own) (dropped rs own) m)
