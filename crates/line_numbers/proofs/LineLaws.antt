-- On the table of an accepted text the line counted on is that of the name's place.
use mathlib.Core.List.{List, [], ◌∷◌}
use mathlib.Core.Path.{◌≡◌, refl, ap, sym, ◌∙◌}
use Prim.Native.Nat.{ℕ, ◌+◌, ◌-◌, ◌≤◌, min}
use native.Mathlib.Omega.{arith}
use lib.ListN.{length}
use Rattle.laws.specs.Bytes.{Bytes, part}
use Rattle.line_numbers.specs.Lines.{line_before, line_from}
use Rattle.scene.proofs.ImageLaws.{line_is, record_is}
use Rattle.scene.proofs.LineLaws.{line_on}
use Rattle.scene.proofs.RiseLaws.{last_name}
use Rattle.scene.specs.Reading.{Entry}
use Rattle.scene.specs.Record.{Record, field_in, filled, flat, line_at, newlines, record_in, record_of, records}

module _ (text : Bytes) (es : List Entry) (m : ℕ) where
  abbrev table : List ℕ
  table = filled 0 m (flat text (records es))

  from_last : (x : List Entry) → es ≡ x → field_in table (length x) 3 ≡ last_name x
  unfolding field_in record_in record_of
  from_last [] r = refl
  from_last (e ∷ x) r = ap (λ (z : Record). z.name) (record_is text es m [] e x r)

  before_last : (x : List Entry) → es ≡ x → line_before table (length x) ≡ line_at text (last_name x)
  unfolding newlines
  before_last [] r = refl
  before_last (e ∷ x) r = line_is text es m [] e x r

  pub line_goes_on : (place : ℕ) → last_name es ≤ place → line_from text table (length es) place ≡ line_at text place
  unfolding line_from
  line_goes_on place rises =
      let p = last_name es in
      let cut : place - min p place ≡ place - p = omega arith in
      (λ i. before_last es refl i + newlines (part text (from_last es refl i) (place - min (from_last es refl i) place)))
      ∙ ap (λ (k : ℕ). line_at text p + newlines (part text p k)) cut
      ∙ sym (line_on text p place rises)
