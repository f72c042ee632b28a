-- Every rearrangement of blocks that keeps the order of dependent ones changes nothing but numbering.
use mathlib.Core.List.{List, [], ◌∷◌, append-nil}
use mathlib.Core.Logic.{inl}
use mathlib.Core.Path.{◌≡◌, refl, ap, sym, ◌∙◌, subst, subst₂}
use Prim.Native.Nat.{◌+◌}
use native.Mathlib.Nat.{zero-add}
use native.Mathlib.Omega.{arith}
use lib.Dec.{leb}
use lib.ListN.{length}
use Rattle.laws.specs.Bytes.{Bytes}
use Rattle.laws.specs.Shuffle.{Shuffle}
use Rattle.rearrangement.proofs.ClearLaws.{free_clear}
use Rattle.rearrangement.proofs.CutLaws.{Read, length_shuffle, pieces_read, pieces_rise, pieces_text, read_lines, read_shuffle, start_cuts_none}
use Rattle.rearrangement.proofs.FrontLaws.{Chain, Turned, turned}
use Rattle.rearrangement.proofs.PieceLaws.{In, in_right}
use Rattle.rearrangement.proofs.WayLaws.{Way, way_same, way_swap, way_then}
use Rattle.rearrangement.specs.Cut.{Cut, Piece, joined, pieces, saids, text_of}
use Rattle.rearrangement.specs.Order.{Apart, Renumbering, statements_before}
use Rattle.rearrangement.specs.Rearranged.{RearrangeLaw, Rearranged}
use Rattle.scene.proofs.AcceptLaws.{accept_back, accept_forth, read_inv}
use Rattle.scene.specs.Reading.{Entry, accepted, newline, read_statements, statements}
use Rattle.scene.specs.declared.Settings.{Settings}
use Rattle.sides.proofs.ExchangeLaws.{Agrees, agrees}
use Rattle.sides.proofs.MixedLaws.{resolved}
use Rattle.sides.specs.Read.{read}

-- a block is taken past independent ones
pub way_chain : (r : Settings) → Chain Apart (Way r)
way_chain r = record {
  same = way_same r;
  then = way_then r;
  swap = λ P Q c xs free. let k = free_clear c xs free in way_swap r P (saids xs) c.said Q k.0 k.1;
}

unfoldable pub renumbering : (r : Settings) (old new : List Piece) → Turned Apart (Way r) [] old new → Renumbering old new
renumbering r old new d = record {
  number = d.number;
  back = d.back;
  none = d.low 0 (omega arith);
  each = λ xs b ys e k z l.
      (ap (λ n. d.number (n + k)) (sym (zero-add (statements_before old b.number)))
      ∙ d.each b (subst (In b) (sym e) (in_right b xs (b ∷ ys) (inl refl))) k z l
      ∙ ap (λ n. n + k) (zero-add (statements_before new b.number)));
  forth_back = d.way.forth_back;
  back_forth = d.way.back_forth;
}

-- what a text of blocks is read as
pub blocks_say : (r : Settings) (bs : List Piece) (x : List Entry) → Read r bs → read_statements r (text_of bs) ≡ accepted x → saids bs ≡ statements x
blocks_say r bs x h e = cc ((accept_forth r (text_of bs) x e).1, read_lines r bs h)

-- the blocks of a cut text
module _ (r : Settings) (ts : List Bytes) (es : List Entry) (reads : read_statements r (joined ts) ≡ accepted es) (cut : Cut es 0 ts) where
  pub each_read : Read r (pieces es 0 0 ts)
  each_read = let i = (read_inv r (joined ts) es reads).1 in pieces_read r es i.0 i.2 i.3 ts 0 [] newline i.1 (inl refl) (start_cuts_none es) cut

  pub old_says : saids (pieces es 0 0 ts) ≡ statements es
  old_says = blocks_say r (pieces es 0 0 ts) es each_read (ap (read_statements r) (pieces_text es 0 0 ts) ∙ reads)

module _ (r : Settings) (ts : List Bytes) (es : List Entry) (new : List Piece) (e : read r (joined ts) ≡ accepted es) (cut : Cut es 0 ts) (shuffle : Shuffle (pieces es 0 0 ts) new) (order : Turned Apart (Way r) [] (pieces es 0 0 ts) new) where
  abbrev old : List Piece
  old = pieces es 0 0 ts

  reads : read_statements r (joined ts) ≡ accepted es
  reads = (resolved r (joined ts) es e).reads

  way : Way r order.number order.back (statements es) (saids new)
  way = subst₂ (Way r order.number order.back) (append-nil (saids old) ∙ old_says r ts es reads cut) (append-nil (saids new)) order.way

  size : length (text_of new) ≡ length (joined ts)
  size = sym (length_shuffle new old shuffle) ∙ ap length (pieces_text es 0 0 ts)

  new_read : (x : List Entry) × (read_statements r (text_of new) ≡ accepted x) × (statements x ≡ saids new)
  new_read =
      let a = accept_forth r (joined ts) es reads in
      accept_back r (text_of new) (saids new) (ap (λ n. leb n 65536) size ∙ a.0) (read_lines r new (read_shuffle r new old shuffle (each_read r ts es reads cut))) (way.sound a.2)

  new_way : Way r order.number order.back (statements es) (statements new_read.0)
  new_way = subst (Way r order.number order.back (statements es)) (sym new_read.2) way

  new_agrees : Agrees r (joined ts) (text_of new) es new_read.0 order.number
  new_agrees = agrees r (joined ts) (text_of new) es new_read.0 e new_read.1 new_way.reals new_way.renamed new_way.back new_way.forth_back

-- ---- the law

-- by one way from the old order to the new one, whose numbers are the rearrangement's
pub rearranged_by : (r : Settings) (ts : List Bytes) (es : List Entry) (new : List Piece) → read r (joined ts) ≡ accepted es → Cut es 0 ts
    → Shuffle (pieces es 0 0 ts) new → (d : Turned Apart (Way r) [] (pieces es 0 0 ts) new)
    → (x : Rearranged r (joined ts) (text_of new) es (pieces es 0 0 ts) new) × (x.renumbering.number ≡ d.number)
unfolding renumbering
rearranged_by r ts es new e cut shuffle d =
    let k = new_agrees r ts es new e cut shuffle d in (
      record {
        entries = (new_read r ts es new e cut shuffle d).0;
        reads = k.reads;
        renumbering = renumbering r (pieces es 0 0 ts) new d;
        renumbers = k.renumbers;
        pairs = k.pairs;
        shown = k.shown;
      },
      refl,
    )

pub rearrange : RearrangeLaw
rearrange r ts es new e cut shuffle ordered = (rearranged_by r ts es new e cut shuffle (turned Apart (Way r) (way_chain r) new (pieces es 0 0 ts) [] 0 shuffle (pieces_rise es 0 0 ts) ordered)).0
