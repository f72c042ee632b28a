-- The links in the lent table after a call: those of the records, whose properties are proved.
use mathlib.Core.List.{List}
use mathlib.Core.Logic.{◌⊎◌}
use mathlib.Core.Option.{some}
use mathlib.Core.Path.{◌≡◌, ap, subst, sym, ◌∙◌}
use Prim.Native.Nat.{ℕ, ◌<◌}
use lib.Ieee.{Float}
use lib.ListN.{length}
use Rattle.laws.specs.Bytes.{Bytes}
use Rattle.reader.proofs.ExchangeLaws.{row_of}
use Rattle.reader.proofs.ReadsLaws.{accepted_as}
use Rattle.reader.specs.Answer.{Answer, Reads, read_into}
use Rattle.reader.specs.Links.{ReaderLinks, RowLinks}
use Rattle.scene.proofs.PropertyLaws.{modifier_latest, modifier_void, next_least, target_latest, target_none, next_silent}
use Rattle.scene.specs.Properties.{LatestBelow, Named, NextAbove, numbered}
use Rattle.scene.specs.Reading.{Entry, accepted, statements}
use Rattle.scene.specs.Record.{Record, settings_for}
use Rattle.scene.specs.Statement.{Statement}
use Rattle.scene.specs.declared.Mode.{Mode}
use Rattle.sides.proofs.MixedLaws.{resolved}

module _ (mode : Mode) (text : Bytes) (lent : List ℕ) (doubles : List Float) (a : Answer) (table : List ℕ) (reals : List Float) (R : Reads mode text lent doubles a table reals) (es : List Entry) (e : read_into mode text lent doubles ≡ accepted es) (k : ℕ) (s : Statement) (there : numbered (statements es) k ≡ some s) where
  row_links : RowLinks (statements es) table k s
  row_links =
      let r = settings_for mode (length lent) (length doubles) in
      let i = (resolved r text es e).reads in
      let q = row_of mode text lent doubles a table reals R es e k in
      record {
        no_modifier = λ v. ap (λ (z : Record). z.modifier) q ∙ modifier_void r text es i k s there v;
        modifier = λ v. subst (λ (z : Record). LatestBelow (statements es) k s.modifier z.modifier) (sym q) (modifier_latest r text es i k s there v);
        no_target = λ t ss rs b. ap (λ (z : Record). z.target) q ∙ target_none r text es i k s there t ss rs b;
        target = λ x b. subst (λ (z : Record). LatestBelow (statements es) k x z.target) (sym q) (target_latest r text es i k s there x b);
        no_next = λ g. ap (λ (z : Record). z.next) q ∙ next_silent r text es i k s there g;
        next = λ g. subst (λ (z : Record). ((z.next ≡ 0) × ((m : ℕ) → k < m → Named (statements es) m s.name → ⊥)) ⊎ NextAbove (statements es) k s.name z.next) (sym q) (next_least r text es i k s there g);
      }

pub reader_links : ReaderLinks
reader_links mode text lent doubles n k table reals R =
    let a = accepted_as (read_into mode text lent doubles) n k R.says in
    record { entries = a.entries; reads = a.reads; rows = row_links mode text lent doubles _ table reals R a.entries a.reads }
