-- A mode by its number, and an answer of the reader told by its numbers.
use mathlib.Core.List.{List, [], ◌∷◌}
use mathlib.Core.Path.{◌≡◌, ap, sym, subst, ◌∙◌}
use Prim.Native.Nat.{ℕ}
use borrow.Author.Tests.{eq-eqb, ne_eqb}
use lib.Ieee.{Float}
use Rattle.laws.specs.Bytes.{Bytes}
use Rattle.reader.specs.Answer.{Answer, numbers_of}
use Rattle.reader.specs.Indexed.{Indexed, ReadsIndexed}
use Rattle.reader.specs.Paired.{ReadsPaired}
use Rattle.scene.specs.Record.{Answer as Numbers}
use Rattle.scene.specs.declared.Mode.{Mode}
use Rattle.scene.specs.declared.Mode.TheVariants.{New, Archive}
use Rattle.host_reading.specs.Host.{HostReads, HostReadsIndexed, mode_of}

pub mode_archive : (number : ℕ) → number ≡ 1 → Archive ≡ mode_of number
unfolding mode_of
mode_archive number h = rw (eq-eqb number 1 h)

pub mode_new : (number : ℕ) → (number ≡ 1 → ⊥) → New ≡ mode_of number
unfolding mode_of
mode_new number h = rw (ne_eqb number 1 h)

module _ (number : ℕ) (mode : Mode) (q : mode ≡ mode_of number) where
  pub reading_told : (text : Bytes) (records : List ℕ) (reals : List Float) (pairs : List ℕ) (a : Answer) (records' : List ℕ) (reals' : List Float) (pairs' : List ℕ) → ReadsPaired mode text records reals pairs a records' reals' pairs'
      → let n = numbers_of a in HostReads number text records reals pairs n.reason (n.place ∷ n.primitives ∷ n.reals ∷ []) records' reals' pairs'
  reading_told text records reals pairs a records' reals' pairs' R =
      let e = subst (λ (m : Mode). ReadsPaired m text records reals pairs a records' reals' pairs') q R in
      record {
        says = ap (λ (z : Numbers). z.reason) e.numbers;
        numbers = ap (λ (z : Numbers). z.place ∷ z.primitives ∷ z.reals ∷ []) e.numbers;
        table = e.table;
        doubles = e.doubles;
        sides = e.sides;
      }

  pub indexed_told : (text : Bytes) (records : List ℕ) (reals : List Float) (pairs index : List ℕ) (f : Indexed) (records' : List ℕ) (reals' : List Float) (pairs' index' : List ℕ) → ReadsIndexed mode text records reals pairs index f records' reals' pairs' index'
      → (a : Answer) → f.answer ≡ a → let n = numbers_of a in HostReadsIndexed number text records reals pairs index n.reason (n.place ∷ n.primitives ∷ n.reals ∷ f.looked ∷ []) records' reals' pairs' index'
  indexed_told text records reals pairs index f records' reals' pairs' index' R a t =
      let e = subst (λ (m : Mode). ReadsIndexed m text records reals pairs index f records' reals' pairs' index') q R in
      let n = sym (ap numbers_of t) ∙ e.numbers in
      record {
        says = ap (λ (z : Numbers). z.reason) n;
        numbers = (λ i. (n i).place ∷ (n i).primitives ∷ (n i).reals ∷ e.looked i ∷ []);
        table = e.table;
        doubles = e.doubles;
        sides = e.sides;
        entries = e.entries;
      }
