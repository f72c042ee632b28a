-- Blocks in an order of their statements' numbers that keeps what is held: only independent blocks of other names change their order.
use mathlib.Core.Bool.{false}
use mathlib.Core.List.{List, [], ◌∷◌, ◌++◌, map}
use mathlib.Core.Path.{◌≡◌, ap, sym, ◌∙◌, subst₂}
use Prim.Native.Nat.{ℕ, ◌-◌, ◌<◌}
use native.Mathlib.Omega.{arith}
use lib.ListN.{length}
use Rattle.grouping.specs.Keeps.{Ahead, Keeps}
use Rattle.keys.proofs.OrderLaws.{same_sym}
use Rattle.keys.specs.Key.{times}
use Rattle.laws.specs.Bytes.{Bytes, same}
use Rattle.rearrangement.proofs.BlockLaws.{own_pieces, rest_piece, rest_pieces}
use Rattle.rearrangement.proofs.HeldLaws.{unheld_independent, unheld_names}
use Rattle.rearrangement.specs.Blocks.{behind_blocks}
use Rattle.rearrangement.specs.Cut.{Piece}
use Rattle.rearrangement.specs.Held.{both, held, held_in}
use Rattle.rearrangement.specs.Order.{Apart, OrderedBy, Passes}
use Rattle.scene.specs.Reading.{Entry, statements}
use Rattle.scene.specs.Statement.{Statement}
use Rattle.sorting.proofs.NameLaws.{Unlike, UnlikeBlocks}
use Rattle.sorting.proofs.OwnLaws.{Among, at, no_piece, own_of}
use Rattle.sorting.proofs.ShuffleLaws.{All}

abbrev pub Related : Piece → Piece → Type 0
Related b c = Apart b c × UnlikeBlocks b c

-- ---- two statements

unlike : (s t : Statement) → same s.name t.name ≡ false → Unlike (s ∷ []) (t ∷ [])
unfolding times
unlike s t e = ((rw e, tt), (rw (same_sym t.name s.name ∙ e), tt))

module _ (text : Bytes) (es : List Entry) where
  abbrev own : ℕ → Piece
  own = at no_piece (own_pieces text es)

  number_of : (k : ℕ) → Among (length es) k → (own k).number ≡ k - 1
  number_of k h = ap (λ (p : Piece). p.number) (own_of text es k h).piece

  related : (k c : ℕ) → Among (length es) k → Among (length es) c → held_in (statements es) k c ≡ false → Related (own k) (own c)
  unfolding held_in
  related k c h j e =
      let o = own_of text es k h in
      let q = own_of text es c j in
      let f : held o.statement q.statement ≡ false = sym (λ i. both held (o.there i) (q.there i)) ∙ e in
      subst₂ Related (sym o.piece) (sym q.piece) (unheld_independent o.statement q.statement f, unlike o.statement q.statement (unheld_names o.statement q.statement f))

  -- ---- a block and those behind it

  -- what stands behind all statements has the highest number
  passes_rest : (c : Piece) (t : Bytes) → c.number < length es → Passes Related c (rest_piece (length es) t)
  passes_rest c [] l = tt
  passes_rest c (b ∷ t) l = (λ h. absurd (omega arith), tt)

  passes : (c : ℕ) (ks : List ℕ) → Among (length es) c → All (Among (length es)) ks → Ahead (held_in (statements es)) c ks → Passes Related (own c) (map own ks ++ rest_pieces text es)
  passes c [] j h a = passes_rest (own c) (behind_blocks text es) (let z = j.0 in let l = j.1 in omega (arith, number_of c j))
  passes c (k ∷ ks) j h a =
      (λ l. related k c h.0 j (a.0 (let z = h.0.0 in let y = j.0 in omega (arith, number_of c j, number_of k h.0))), passes c ks j h.1 a.1)

  ordered_rest : (t : Bytes) → OrderedBy Related (rest_piece (length es) t)
  ordered_rest [] = tt
  ordered_rest (b ∷ t) = (tt, tt)

  pub ordered_by : (ks : List ℕ) → All (Among (length es)) ks → Keeps (held_in (statements es)) ks → OrderedBy Related (map own ks ++ rest_pieces text es)
  ordered_by [] h a = ordered_rest (behind_blocks text es)
  ordered_by (k ∷ ks) h a = (passes k ks h.0 h.1 a.0, ordered_by ks h.1 a.1)
