-- A text written from its own tables, and its tidy text written again.
use mathlib.Core.Bool.{Bool, true, cond, ◌&&◌}
use mathlib.Core.List.{List}
use mathlib.Core.Path.{◌≡◌, ap, sym, ◌∙◌}
use Prim.Native.Nat.{ℕ}
use lib.ListN.{length}
use Rattle.bits.proofs.BitsLaws.{reals_same}
use Rattle.bits.specs.Bits.{same_reals}
use Rattle.fresh.specs.Fresh.{tables_match}
use Rattle.laws.proofs.BytesLaws.{same_refl}
use Rattle.laws.specs.Bytes.{Bytes, same}
use Rattle.reader.specs.Answer.{read_into}
use Rattle.scene.specs.Reading.{Entry, Reading, accepted, statements}
use Rattle.scene.specs.Record.{record_image, real_image, settings_for}
use Rattle.scene.specs.declared.Mode.{Mode}
use Rattle.sides.proofs.FitLaws.{numbers_kept, reals_kept}
use Rattle.sides.specs.Read.{read}
use Rattle.tidying.proofs.ReadBackLaws.{read_back}
use Rattle.tidying.specs.Tidy.{tidy}
use Rattle.writer.specs.Answer.{Outcome, checked, fitted, refused}
use Rattle.writer.specs.Again.{WriteAgainLaw}

-- the tables that a reading leaves match it
own_match : (text : Bytes) (n m : ℕ) (x : Reading) → length (record_image text n x) ≡ n → length (real_image m x) ≡ m → tables_match text (record_image text n x) (real_image m x) x ≡ true
unfolding tables_match
own_match text n m x e f = (λ i. same (record_image text n x) (record_image text (e i) x) && same_reals (real_image m x) (real_image (f i) x)) ∙ rw (same_refl (record_image text n x), reals_same (real_image m x))

-- what is made of a text's entries, where its own tables are lent
pub own_checked : (made : List Entry → Outcome) (mode : Mode) (text : Bytes) (n m : ℕ) (es : List Entry) → read (settings_for mode n m) text ≡ accepted es
    → let x = read (settings_for mode n m) text in checked made text (record_image text n x) (real_image m x) (read_into mode text (record_image text n x) (real_image m x)) ≡ made es
own_checked made mode text n m es e =
    let x = read (settings_for mode n m) text in
    let a = numbers_kept mode n m text in
    let b = reals_kept mode n m text in
    ap (checked made text (record_image text n x) (real_image m x)) ((λ i. read (settings_for mode (a i) (b i)) text) ∙ e)
    ∙ (λ i. cond (tables_match text (record_image text n (e i)) (real_image m (e i)) (accepted es)) (made es) (refused 22 0))
    ∙ ap (λ (t : Bool). cond t (made es) (refused 22 0)) (own_match text n m (accepted es) (ap (λ (y : Reading). length (record_image text n y)) (sym e) ∙ a) (ap (λ (y : Reading). length (real_image m y)) (sym e) ∙ b))

pub write_again : WriteAgainLaw
write_again mode text n m room es e fits =
    let b = read_back (settings_for mode n m) text es e fits in
    let w = own_checked (λ x. fitted room (tidy (statements x))) mode text n m es e in
    record { written = w; again = own_checked (λ x. fitted room (tidy (statements x))) mode (tidy (statements es)) n m b.entries b.reads ∙ ap (λ l. fitted room (tidy l)) b.meant ∙ sym w }
