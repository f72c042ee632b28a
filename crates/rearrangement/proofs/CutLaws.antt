-- The blocks of a cut text: each is read on its own, and so are they in any order.
use mathlib.Core.List.{List, [], ◌∷◌, ◌++◌, append_assoc, append-nil}
use mathlib.Core.Logic.{inl}
use mathlib.Core.Path.{◌≡◌, refl, ap, sym, ◌∙◌, subst}
use Prim.Native.Nat.{ℕ, suc, ◌+◌}
use native.Mathlib.Omega.{arith}
use lib.ListN.{length, length-append}
use Rattle.laws.specs.Bytes.{Bytes}
use Rattle.laws.specs.Shuffle.{Shuffle}
use Rattle.lexer.specs.Class.{is_blank}
use Rattle.rearrangement.proofs.PieceLaws.{Rising}
use Rattle.rearrangement.specs.Cut.{Cut, Piece, joined, pieces, saids, text_of}
use Rattle.scene.proofs.BlockLaws.{ends_append, idle_parse, in_after, in_all, in_append, in_before, join, piece, statements_append}
use Rattle.scene.proofs.EdgeLaws.{Edge, LineStart, Range, Since, edge, since_edge, since_start}
use Rattle.scene.proofs.SyntaxLaws.{parse, pass}
use Rattle.scene.specs.Block.{CutsNone, EndsLine, in_block}
use Rattle.scene.specs.Phase.{idle}
use Rattle.scene.specs.Reading.{Entry, Going, gap, going, initial, newline, run, statements}
use Rattle.scene.specs.declared.Settings.{Settings}

-- each block is read as what it says
abbrev pub Read : Settings → List Piece → Type 0
Read r [] = Unit {0}
Read r (b ∷ bs) = (parse r gap idle b.text ≡ pass gap idle b.said) × Read r bs

-- ---- in the text's order

module _ (r : Settings) (es : List Entry) (g : Going) (idle_g : g.phase ≡ idle) (above_g : g.above ≡ es) where
  cuts_none : (k : ℕ) → CutsNone k es → CutsNone k g.above
  cuts_none k w = subst (CutsNone k) (sym above_g) w

  -- one part t of the text, behind p
  module _ (p t rest : Bytes) (e : run r initial (p ++ (t ++ rest)) ≡ going g) (starts : LineStart p) (ends : EndsLine t) (first : CutsNone (length p) es) (last : CutsNone (length (p ++ t)) es) where
    run_on : run r initial ((p ++ t) ++ rest) ≡ going g
    run_on = subst (λ (z : Bytes). run r initial z ≡ going g) (sym (append_assoc p t rest)) e

    edge_p : Edge r p (t ++ rest) g
    edge_p = edge r p (t ++ rest) g e idle_g starts (cuts_none (length p) first)

    edge_t : Edge r (p ++ t) rest g
    edge_t = edge r (p ++ t) rest g run_on idle_g (ends_append p t ends) (cuts_none (length (p ++ t)) last)

    since_t : Since (length p) edge_p.state.above edge_t.state
    since_t = since_edge r p t (t ++ rest) g edge_t.state edge_p edge_t.here

    since_rest : Since (length (p ++ t)) edge_t.state.above g
    since_rest = since_edge r (p ++ t) rest rest g g edge_t run_on

    -- the entries of the three parts
    abbrev e_p : List Entry
    e_p = edge_p.state.above

    abbrev e_t : List Entry
    e_t = since_t.new

    abbrev e_r : List Entry
    e_r = since_rest.new

    three : es ≡ e_r ++ (e_t ++ e_p)
    three = sym above_g ∙ since_rest.above ∙ ap {B = List Entry} (λ (x : List Entry). e_r ++ x) since_t.above

    range_p : Range 0 (length p) e_p
    range_p = subst (λ n. Range 0 n e_p) edge_p.at (since_start r p edge_p.state edge_p.here)

    range_t : Range (length p) (length (p ++ t)) e_t
    range_t = subst (λ n. Range (length p) n e_t) edge_t.at since_t.range

    said : in_block (length p) (length (p ++ t)) es ≡ statements e_t
    said =
        ap (in_block (length p) (length (p ++ t))) three ∙ in_append (length p) (length (p ++ t)) e_r (e_t ++ e_p) ∙
        rw (in_after (length p) (length (p ++ t)) (length (p ++ t)) g.at e_r (omega arith) since_rest.range, in_append (length p) (length (p ++ t)) e_t e_p, in_all (length p) (length (p ++ t)) e_t range_t, in_before (length p) (length (p ++ t)) 0 (length p) e_p (omega arith) range_p)
        (append-nil (statements e_t))

    part_read : parse r gap idle t ≡ pass gap idle (in_block (length p) (length (p ++ t)) es)
    part_read =
        piece r p t (statements e_p) (statements e_t) (statements edge_t.state.above) (idle_parse r p edge_p.state edge_p.here edge_p.phase edge_p.scan) (idle_parse r (p ++ t) edge_t.state edge_t.here edge_t.phase edge_t.scan) (ap statements since_t.above ∙ statements_append e_t e_p)
        ∙ ap (pass gap idle) (sym said)

  pub pieces_read : (ts : List Bytes) (n : ℕ) (p rest : Bytes) → run r initial (p ++ (joined ts ++ rest)) ≡ going g → LineStart p → CutsNone (length p) es → Cut es (length p) ts → Read r (pieces es n (length p) ts)
  unfolding pieces joined
  pieces_read [] n p rest e starts first c = tt
  pieces_read (t ∷ ts) n p rest e starts first c =
      let e' : run r initial (p ++ (t ++ (joined ts ++ rest))) ≡ going g = subst (λ (z : Bytes). run r initial (p ++ z) ≡ going g) (append_assoc t (joined ts) rest) e in
      let l : length (p ++ t) ≡ length p + length t = length-append p t in
      let last : CutsNone (length (p ++ t)) es = subst (λ m. CutsNone m es) (sym l) c.1 in
      let on = pieces_read ts (suc n) (p ++ t) rest (run_on p t (joined ts ++ rest) e' starts c.0 first last) (ends_append p t c.0) last (subst (λ m. Cut es m ts) (sym l) c.3) in
      (part_read p t (joined ts ++ rest) e' starts c.0 first last ∙ ap (λ m. pass gap idle (in_block (length p) m es)) l, subst (λ m. Read r (pieces es (suc n) m ts)) l on)

pub start_cuts_none : (es : List Entry) → CutsNone 0 es
start_cuts_none [] = tt
start_cuts_none (e ∷ es) = (inl (omega arith), start_cuts_none es)

pub pieces_rise : (es : List Entry) (n at : ℕ) (ts : List Bytes) → Rising n (pieces es n at ts)
unfolding pieces
pieces_rise es n at [] = tt
pieces_rise es n at (t ∷ ts) = (omega arith, pieces_rise es (suc n) (at + length t) ts)

pub pieces_text : (es : List Entry) (n at : ℕ) (ts : List Bytes) → text_of (pieces es n at ts) ≡ joined ts
unfolding pieces text_of joined
pieces_text es n at [] = refl
pieces_text es n at (t ∷ ts) = ap {B = Bytes} (λ (z : Bytes). t ++ z) (pieces_text es (suc n) (at + length t) ts)

-- ---- in any order

read_out : (r : Settings) (xs : List Piece) (c : Piece) (ys : List Piece) → Read r (xs ++ c ∷ ys) → (parse r gap idle c.text ≡ pass gap idle c.said) × Read r (xs ++ ys)
read_out r [] c ys h = h
read_out r (x ∷ xs) c ys h = let k = read_out r xs c ys h.1 in (k.0, (h.0, k.1))

pub read_shuffle : (r : Settings) (new old : List Piece) → Shuffle old new → Read r old → Read r new
read_shuffle r [] old e h = tt
read_shuffle r (c ∷ new) old (xs, ys, e, s) h = let k = read_out r xs c ys (subst (Read r) e h) in (k.0, read_shuffle r new (xs ++ ys) s k.1)

read_all : (r : Settings) (bs : List Piece) → Read r bs → parse r gap idle (text_of bs) ≡ pass gap idle (saids bs)
unfolding text_of saids parse
read_all r [] h = refl
read_all r (b ∷ bs) h = join r b.text (text_of bs) b.said (saids bs) h.0 (read_all r bs h.1)

pub read_lines : (r : Settings) (bs : List Piece) → Read r bs → parse r gap idle (text_of bs ++ newline) ≡ pass gap idle (saids bs)
unfolding parse is_blank
read_lines r bs h = join r (text_of bs) newline (saids bs) [] (read_all r bs h) refl

length_out : (xs : List Piece) (c : Piece) (ys : List Piece) → length (text_of (xs ++ c ∷ ys)) ≡ length c.text + length (text_of (xs ++ ys))
unfolding text_of
length_out [] c ys = length-append c.text (text_of ys)
length_out (x ∷ xs) c ys = let k = length_out xs c ys in omega (arith, k, length-append x.text (text_of (xs ++ c ∷ ys)), length-append x.text (text_of (xs ++ ys)))

pub length_shuffle : (new old : List Piece) → Shuffle old new → length (text_of old) ≡ length (text_of new)
unfolding text_of
length_shuffle [] old e = ap (λ (z : List Piece). length (text_of z)) e
length_shuffle (c ∷ new) old (xs, ys, e, s) = ap (λ (z : List Piece). length (text_of z)) e ∙ (let k = length_shuffle new (xs ++ ys) s in omega (arith, k, length_out xs c ys, length-append c.text (text_of new)))
