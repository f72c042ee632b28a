-- Where n holds m, nothing that is allowed changes their order; where it does not, something does.
use mathlib.Core.List.{List}
use mathlib.Core.Path.{◌≡◌, ap, sym, ◌∙◌, subst}
use native.Mathlib.Omega.{arith}
use Rattle.holding.proofs.AgreeLaws.{alone_agrees}
use Rattle.holding.proofs.FreeLaws.{freed}
use Rattle.holding.proofs.KeepLaws.{chain_keeps}
use Rattle.holding.proofs.SaysLaws.{Says, alone_says, own_says}
use Rattle.holding.specs.Mattered.{FreeLaw, KeepsLaw, StatementsFreeLaw, StatementsKeepLaw, alone, blocks_of}
use Rattle.laws.specs.Bytes.{Bytes}
use Rattle.rearrangement.proofs.RearrangeLaws.{rearrange}
use Rattle.rearrangement.specs.Blocks.{all_blocks, can, verdict}
use Rattle.rearrangement.specs.Cut.{text_of}
use Rattle.rearrangement.specs.Rearranged.{Rearranged}
use Rattle.scene.proofs.TellsLaws.{statements_length}
use Rattle.scene.specs.Reading.{Entry, accepted, statements}
use Rattle.scene.specs.declared.Settings.{Settings}
use Rattle.sides.specs.Read.{read}
use Rattle.sorting.proofs.SortLaws.{OwnBlocks, own_blocks}

-- ---- the statements alone

pub statements_keep : StatementsKeepLaw
statements_keep d n m z w (j, c) new s o = chain_keeps d (alone d) new (alone_says d) s o c z w

pub statements_free : StatementsFreeLaw
statements_free d n m z l w h =
    let f = freed d (alone d) (alone_says d) n m z l w h in
    let a = alone_agrees d f.new f.shuffled f.ordered in
    record { new = f.new; shuffled = f.shuffled; ordered = f.ordered; before = f.before; renumbering = a.0; agree = a.1 }

-- ---- the blocks of a text

module _ (r : Settings) (text : Bytes) (es : List Entry) (e : read r text ≡ accepted es) (v : verdict text es ≡ can) where
  own : OwnBlocks text es
  own = own_blocks r text es e v

  says : Says (statements es) (blocks_of text es)
  says = subst (Says (statements es)) (sym own.own) (own_says text es)

pub keeps : KeepsLaw
keeps r text es e v n m z w (j, c) new s o = chain_keeps (statements es) (blocks_of text es) new (says r text es e v) s o c z (omega (arith, statements_length es))

pub free : FreeLaw
free r text es e v n m z l w h =
    let b = own r text es e v in
    let f = freed (statements es) (blocks_of text es) (says r text es e v) n m z l (omega (arith, statements_length es)) h in
    let x = rearrange r (all_blocks text es) es f.new (ap (read r) b.whole ∙ e) b.cut f.shuffled f.ordered in
    record {
      new = f.new;
      shuffled = f.shuffled;
      ordered = f.ordered;
      before = f.before;
      rearranged = subst (λ (t : Bytes). Rearranged r t (text_of f.new) es (blocks_of text es) f.new) b.whole x;
    }
