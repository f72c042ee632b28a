-- A sorted text is a rearrangement of its blocks that keeps the order of dependent ones, and compares as the same.
use mathlib.Core.Bool.{Bool, true, false, cond}
use mathlib.Core.List.{List, [], ◌∷◌, ◌++◌, append_assoc, append-nil, map}
use mathlib.Core.Option.{Option, none, some}
use mathlib.Core.Path.{◌≡◌, refl, ap, sym, ◌∙◌, subst, subst₂}
use Prim.Native.Nat.{ℕ}
use native.Mathlib.Omega.{arith}
use lib.ListN.{length}
use Rattle.comparison.proofs.RenumberLaws.{compare_renumbered}
use Rattle.comparison.specs.Compare.{compared}
use Rattle.grouping.proofs.OrderLaws.{grouped_keeps, grouped_shuffle}
use Rattle.grouping.specs.Grouped.{up_to}
use Rattle.keys.proofs.NameLaws.{keys_statements, times_statements}
use Rattle.keys.proofs.RowsLaws.{row}
use Rattle.keys.specs.Key.{from, key_of, times}
use Rattle.keys.specs.Rows.{rows_of}
use Rattle.laws.specs.Bytes.{Bytes}
use Rattle.laws.specs.Shuffle.{Shuffle}
use Rattle.rearrangement.proofs.BlockLaws.{blocks_cut, blocks_joined, cut_lines_end, cut_uncrowded, lines_end_lem, own_pieces, pieces_own, rest_piece, rest_pieces}
use Rattle.rearrangement.proofs.ClearLaws.{Free}
use Rattle.rearrangement.proofs.CutLaws.{length_shuffle, pieces_rise, pieces_text, read_shuffle}
use Rattle.rearrangement.proofs.FrontLaws.{Chain, Turned, turned}
use Rattle.rearrangement.proofs.LayoutLaws.{Laid, laid}
use Rattle.rearrangement.proofs.RearrangeLaws.{blocks_say, each_read, old_says, rearranged_by, way_chain}
use Rattle.rearrangement.proofs.WayLaws.{Way}
use Rattle.rearrangement.specs.Blocks.{all_blocks, behind_blocks, can, crowded, lines_end, uncrowded, unended, verdict}
use Rattle.rearrangement.specs.Cut.{Cut, Piece, joined, pieces, saids, text_of}
use Rattle.rearrangement.specs.Held.{held_in}
use Rattle.rearrangement.specs.Order.{Apart, Ordered, OrderedBy, Passes}
use Rattle.rearrangement.specs.Rearranged.{Rearranged}
use Rattle.scene.proofs.EdgeLaws.{LineStart}
use Rattle.scene.specs.Exchange.{Renumbers}
use Rattle.scene.specs.Reading.{Entry, accepted, read_statements, statements}
use Rattle.scene.specs.Record.{nth, records}
use Rattle.scene.specs.Statement.{Statement}
use Rattle.scene.specs.Told.{Told, renumbered}
use Rattle.scene.specs.declared.Settings.{Settings}
use Rattle.sides.proofs.MixedLaws.{resolved}
use Rattle.sides.specs.Read.{read}
use Rattle.sorting.proofs.NameLaws.{Kept, UnlikeBlocks, kept_chain}
use Rattle.sorting.proofs.OrderLaws.{Related, ordered_by}
use Rattle.sorting.proofs.OwnLaws.{Among, at, no_piece, own_all, text_in_order, up_to_among}
use Rattle.sorting.proofs.ShuffleLaws.{All, all_shuffle, shuffle_append, shuffle_map}
use Rattle.sorting.specs.Sorted.{order_of, sorted_text}
use Rattle.sorting.specs.Sorts.{CutLaw, Cuttable, SortLaw, SortedScene, Unchanged}

-- ---- two kinds of steps at once

abbrev Both : Settings → (f g : ℕ → ℕ) → (D D' : List Statement) → Type 0
Both r f g D D' = Way r f g D D' × Kept f D D'

free_first : (c : Piece) (xs : List Piece) → Free Related c xs → Free Apart c xs
free_first c [] h = tt
free_first c (x ∷ xs) h = (h.0.0, free_first c xs h.1)

free_second : (c : Piece) (xs : List Piece) → Free Related c xs → Free UnlikeBlocks c xs
free_second c [] h = tt
free_second c (x ∷ xs) h = (h.0.1, free_second c xs h.1)

both_chain : (r : Settings) → Chain Related (Both r)
both_chain r = record {
  same = λ D. ((way_chain r).same D, kept_chain.same D);
  then = λ f g h k D D' D'' v w. ((way_chain r).then f g h k D D' D'' v.0 w.0, kept_chain.then f g h k D D' D'' v.1 w.1);
  swap = λ P Q c xs free. ((way_chain r).swap P Q c xs (free_first c xs free), kept_chain.swap P Q c xs (free_second c xs free));
}

passes_apart : (c : Piece) (bs : List Piece) → Passes Related c bs → Passes Apart c bs
passes_apart c [] h = tt
passes_apart c (b ∷ bs) h = (λ l. (h.0 l).0, passes_apart c bs h.1)

ordered_apart : (bs : List Piece) → OrderedBy Related bs → Ordered bs
ordered_apart [] h = tt
ordered_apart (b ∷ bs) h = (passes_apart b bs h.0, ordered_apart bs h.1)

-- ---- a rearrangement in which only unlike blocks change their order compares as the same

module _ (r : Settings) (ts : List Bytes) (es : List Entry) (new : List Piece) (e : read r (joined ts) ≡ accepted es) (cut : Cut es 0 ts) (shuffle : Shuffle (pieces es 0 0 ts) new) (ordered : OrderedBy Related new) where
  abbrev old : List Piece
  old = pieces es 0 0 ts

  order : Turned Related (Both r) [] old new
  order = turned Related (Both r) (both_chain r) new old [] 0 shuffle (pieces_rise es 0 0 ts) ordered

  found : (x : Rearranged r (joined ts) (text_of new) es old new) × (x.renumbering.number ≡ order.number)
  found = rearranged_by r ts es new e cut shuffle (record { number = order.number; back = order.back; way = order.way.0; low = order.low; each = order.each })

  pub by_order : Rearranged r (joined ts) (text_of new) es old new
  by_order = found.0

  reads : read_statements r (joined ts) ≡ accepted es
  reads = (resolved r (joined ts) es e).reads

  abbrev es' : List Entry
  es' = by_order.entries

  reads' : read_statements r (text_of new) ≡ accepted es'
  reads' = (resolved r (text_of new) es' by_order.reads).reads

  kept : Kept order.number (statements es) (statements es')
  kept =
      subst₂ (Kept order.number) (append-nil (saids old) ∙ old_says r ts es reads cut)
      (append-nil (saids new) ∙ blocks_say r new es' (read_shuffle r new old shuffle (each_read r ts es reads cut)) reads') order.way.1

  keys : (n : ℕ) → key_of (rows_of (text_of new) es') (order.number n) ≡ key_of (rows_of (joined ts) es) n
  keys n = keys_statements r (text_of new) es' reads' (order.number n) ∙ kept.keys n ∙ sym (keys_statements r (joined ts) es reads n)

  often : (w : Bytes) → times w (rows_of (text_of new) es') ≡ times w (rows_of (joined ts) es)
  often w = times_statements r (text_of new) es' reads' w ∙ kept.often w ∙ sym (times_statements r (joined ts) es reads w)

  renumbers : Renumbers r (joined ts) (text_of new) es es' order.number
  unfolding by_order
  renumbers = subst (Renumbers r (joined ts) (text_of new) es es') found.1 by_order.renumbers

  rows : (n : ℕ) (t u : Told) (y v : List Told) → from n (rows_of (joined ts) es) ≡ t ∷ y → from (order.number n) (rows_of (text_of new) es') ≡ u ∷ v → u ≡ renumbered order.number t
  rows n t u y v h g =
      let a = row (joined ts) es (length es) n t y h in
      let b = row (text_of new) es' (length es') (order.number n) u v g in
      b.tells≡ ∙ renumbers.rows n a.least a.most ∙ ap (renumbered order.number) (sym a.tells≡)

  pub same_rows : compared (rows_of (joined ts) es) (rows_of (text_of new) es') ≡ []
  same_rows = compare_renumbered (rows_of (joined ts) es) (rows_of (text_of new) es') order.number keys often rows

-- ---- the bytes of blocks

text_append : (xs ys : List Piece) → text_of (xs ++ ys) ≡ text_of xs ++ text_of ys
unfolding text_of
text_append [] ys = refl
text_append (x ∷ xs) ys = ap {B = Bytes} (λ (z : Bytes). x.text ++ z) (text_append xs ys) ∙ sym (append_assoc x.text (text_of xs) (text_of ys))

text_rest : (n : ℕ) (t : Bytes) → text_of (rest_piece n t) ≡ t
unfolding text_of
text_rest n [] = refl
text_rest n (b ∷ t) = append-nil (b ∷ t)

-- ---- the text's own blocks, in the order that groups them

numbers : (es : List Entry) → Shuffle (up_to (length es)) (order_of es)
unfolding order_of
numbers es = grouped_shuffle (held_in (statements es)) (λ n. (nth (records es) n).type) (length es)

pub among : (es : List Entry) → All (Among (length es)) (order_of es)
among es = all_shuffle (Among (length es)) (order_of es) (up_to (length es)) (numbers es) (up_to_among (length es))

module _ (text : Bytes) (es : List Entry) (own : pieces es 0 0 (all_blocks text es) ≡ own_pieces text es ++ rest_pieces text es) where
  abbrev sorted : List Piece
  sorted = map (at no_piece (own_pieces text es)) (order_of es) ++ rest_pieces text es

  shuffled : Shuffle (pieces es 0 0 (all_blocks text es)) sorted
  shuffled =
      let f : ℕ → Piece = at no_piece (own_pieces text es) in
      let all : map f (up_to (length es)) ≡ own_pieces text es = ap (λ (z : List Piece). map (at no_piece z) (up_to (length es))) (sym (append-nil (own_pieces text es))) ∙ own_all text es [] in
      subst (λ (z : List Piece). Shuffle z sorted) (sym own)
      (shuffle_append (rest_pieces text es) (map f (order_of es)) (own_pieces text es) (subst (λ (z : List Piece). Shuffle z (map f (order_of es))) all (shuffle_map f (order_of es) (up_to (length es)) (numbers es))))

  keeps : OrderedBy Related sorted
  unfolding order_of
  keeps = ordered_by text es (order_of es) (among es) (grouped_keeps (held_in (statements es)) (λ n. (nth (records es) n).type) (length es))

  text_is : text_of sorted ≡ sorted_text text es
  unfolding sorted_text
  text_is =
      text_append (map (at no_piece (own_pieces text es)) (order_of es)) (rest_pieces text es)
      ∙ (λ i. text_in_order text es (order_of es) (among es) i ++ text_rest (length es) (behind_blocks text es) i)

-- ---- the laws

pub verdict_can : (text : Bytes) (es : List Entry) → verdict text es ≡ can → (lines_end text ≡ true) × (crowded text es ≡ none)
unfolding verdict
verdict_can text es h = go (lines_end text) (crowded text es) refl refl h
  where
    go : (b : Bool) (o : Option ℕ) → lines_end text ≡ b → crowded text es ≡ o → cond b (uncrowded o) (unended text) ≡ can → (lines_end text ≡ true) × (crowded text es ≡ none)
    go true none p q k = (p, q)
    go true (some x) p q k = let z : ◌≡◌ {A = ℕ} 0 1 = cc in absurd (omega arith)
    go false o p q k = let z : ◌≡◌ {A = ℕ} 0 1 = cc in absurd (omega arith)

-- the blocks of a text that can be cut
pub record OwnBlocks (text : Bytes) (es : List Entry) : Type 0 where
  pub whole : joined (all_blocks text es) ≡ text
  pub cut : Cut es 0 (all_blocks text es)
  pub own : pieces es 0 0 (all_blocks text es) ≡ own_pieces text es ++ rest_pieces text es

-- a text that can be cut is laid out as `Blocks` says
module _ (r : Settings) (text : Bytes) (es : List Entry) (e : read r text ≡ accepted es) where
  stands : LineStart text → Laid text es
  stands l = laid r text es (resolved r text es e).reads l

  can_verdict : lines_end text ≡ true → crowded text es ≡ none → verdict text es ≡ can
  unfolding verdict
  can_verdict a b = λ i. cond (a i) (uncrowded (b i)) (unended text)

  pub own_blocks : verdict text es ≡ can → OwnBlocks text es
  own_blocks h =
      let v = verdict_can text es h in
      let l = lines_end_lem text v.0 in
      record { whole = blocks_joined text es l (stands l) v.1; cut = blocks_cut text es l (stands l) v.1; own = pieces_own text es l (stands l) v.1 }

  cut_here : verdict text es ≡ can → Cuttable text es
  cut_here h = let b = own_blocks h in record { parts = all_blocks text es; whole = b.whole; cut = b.cut }

  here_cut : Cuttable text es → verdict text es ≡ can
  here_cut c =
      let a = ap lines_end (sym c.whole) ∙ cut_lines_end es c.parts c.cut in
      can_verdict a (cut_uncrowded text es c.parts (stands (lines_end_lem text a)) c.cut c.whole)

  sorted_scene : verdict text es ≡ can → SortedScene r text es
  sorted_scene h =
      let b = own_blocks h in
      let ts = all_blocks text es in
      let own = b.own in
      let whole = b.whole in
      let e' : read r (joined ts) ≡ accepted es = ap (read r) whole ∙ e in
      let s = shuffled text es own in
      let o = keeps text es own in
      let is = text_is text es own in
      record {
        whole = whole;
        cut = b.cut;
        new = sorted text es own;
        shuffled = s;
        ordered = ordered_apart (sorted text es own) o;
        sorted = is;
        long = ap length (sym is) ∙ sym (length_shuffle (sorted text es own) (pieces es 0 0 ts) s) ∙ ap length (pieces_text es 0 0 ts ∙ whole);
        unchanged = subst₂ (λ (a b : Bytes). Unchanged r a b es (pieces es 0 0 ts) (sorted text es own)) whole is (by_order r ts es (sorted text es own) e' b.cut s o, same_rows r ts es (sorted text es own) e' b.cut s o);
      }

pub cut_law : CutLaw
cut_law r text es e = (cut_here r text es e, here_cut r text es e)

pub sort_law : SortLaw
sort_law = sorted_scene
