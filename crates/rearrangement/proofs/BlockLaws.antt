-- The blocks that a text is cut into: one for each statement, and what stands behind them. Where a text has two statements on a line, no other
-- way of cutting it is there.
use mathlib.Core.Bool.{Bool, true, false, cond}
use mathlib.Core.List.{List, [], ◌∷◌, ◌++◌, append_assoc, append-nil}
use mathlib.Core.Logic.{◌⊎◌, inl, inr}
use mathlib.Core.Option.{Option, none, some}
use mathlib.Core.Path.{◌≡◌, refl, ap, sym, ◌∙◌, subst}
use Prim.Native.Nat.{ℕ, suc, ◌+◌, ◌-◌, ◌≤◌, ◌<◌}
use native.Mathlib.Omega.{arith}
use borrow.Author.Tests.{eqb-true, le-ltb, ltb-false, not-false}
use lib.Dec.{ltb}
use lib.ListN.{length, take, drop, get_or, length-append, length-drop, take-append-drop}
use lib.Seq.{append_snoc, drop-append-le, get_or-append_seam, get_or-drop, take-add, take-suc}
use Rattle.laws.proofs.ListLaws.{part_length}
use Rattle.laws.proofs.NatLaws.{le_or_lt}
use Rattle.laws.proofs.RunLaws.{past_fails, past_least, past_most, past_run, run_passes}
use Rattle.laws.specs.Bytes.{Bytes, part}
use Rattle.laws.specs.Runs.{past, run}
use Rattle.lexer.proofs.ClassLaws.{ends_line}
use Rattle.lexer.specs.Class.{is_blank, is_in_line}
use Rattle.rearrangement.proofs.LayoutLaws.{Laid}
use Rattle.rearrangement.specs.Blocks.{all_blocks, behind_blocks, behind_line, block_end, blocks, crowded, lines_end, or_else, unless_empty}
use Rattle.rearrangement.specs.Cut.{Cut, Piece, joined, pieces}
use Rattle.scene.proofs.BlockLaws.{ends_append, in_after, in_all, in_append, in_before}
use Rattle.scene.proofs.EdgeLaws.{LineStart, Range}
use Rattle.scene.specs.Block.{CutsNone, EndsLine, in_block}
use Rattle.scene.specs.Reading.{Entry, newline, statements}
use Rattle.scene.specs.Statement.{Statement}

-- ---- lines that end

pub lines_end_lem : (text : Bytes) → lines_end text ≡ true → LineStart text
unfolding lines_end
lines_end_lem [] h = inl refl
lines_end_lem (b ∷ []) h = inr ([], ap {B = Bytes} (λ (n : ℕ). n ∷ []) (eqb-true b 10 h))
lines_end_lem (b ∷ c ∷ t) h = go (lines_end_lem (c ∷ t) h)
  where
    go : LineStart (c ∷ t) → LineStart (b ∷ c ∷ t)
    go (inl z) = let w : ◌≡◌ {A = ℕ} 0 1 = cc in absurd (omega arith)
    go (inr (x, q)) = inr (b ∷ x, ap {B = Bytes} (λ (y : Bytes). b ∷ y) q)

newline_ends : (x : Bytes) → lines_end (x ++ newline) ≡ true
unfolding lines_end
newline_ends [] = refl
newline_ends (b ∷ []) = refl
newline_ends (b ∷ c ∷ x) = newline_ends (c ∷ x)

pub lines_end_back : (text : Bytes) → LineStart text → lines_end text ≡ true
unfolding lines_end
lines_end_back text (inl z) = ap lines_end z
lines_end_back text (inr (x, q)) = ap lines_end q ∙ newline_ends x

joined_lines : (es : List Entry) (at : ℕ) (ts : List Bytes) → Cut es at ts → LineStart (joined ts)
unfolding joined
joined_lines es at [] c = inl refl
joined_lines es at (t ∷ ts) c = go (joined_lines es (at + length t) ts c.3)
  where
    go : LineStart (joined ts) → LineStart (t ++ joined ts)
    go (inl z) = inr (subst EndsLine (sym (ap {B = Bytes} (λ (x : Bytes). t ++ x) z ∙ append-nil t)) c.0)
    go (inr k) = ends_append t (joined ts) k

pub cut_lines_end : (es : List Entry) (ts : List Bytes) → Cut es 0 ts → lines_end (joined ts) ≡ true
cut_lines_end es ts c = lines_end_back (joined ts) (joined_lines es 0 ts c)

-- ---- the line of a place

-- it goes no further than a byte 10
line_until : (text : Bytes) (p k : ℕ) → p ≤ k → get_or text k 0 ≡ 10 → past is_in_line text p ≤ k
line_until text p k l e = go (le_or_lt (past is_in_line text p) k)
  where
    go : (past is_in_line text p ≤ k) ⊎ (k < past is_in_line text p) → past is_in_line text p ≤ k
    go (inl h) = h
    go (inr h) =
        let m = past_most is_in_line text p in
        let r : past is_in_line text p ≡ p + run is_in_line (drop p text) = past_run is_in_line text p (omega arith) in
        let q : p + (k - p) ≡ k = omega arith in
        let y : is_in_line (get_or text k 0) ≡ true = ap is_in_line (ap (λ n. get_or text n 0) (sym q) ∙ sym (get_or-drop p text (k - p) 0)) ∙ run_passes is_in_line 0 (drop p text) (k - p) (omega arith) in
        let n : is_in_line (get_or text k 0) ≡ false = ends_line (get_or text k 0) e in
        let z : ◌≡◌ {A = ℕ} 0 1 = cc in
        absurd (omega arith)

-- the last byte of a text that ends a line, whatever follows it
last_byte : (text x rest : Bytes) → text ≡ (x ++ newline) ++ rest → get_or text (length x) 0 ≡ 10
last_byte text x rest q = ap (λ (t : Bytes). get_or t (length x) 0) (q ∙ append_snoc x 10 rest) ∙ get_or-append_seam x 10 rest 0

record Line (text : Bytes) (p : ℕ) : Type 0 where
  low : p < behind_line text p
  most : behind_line text p ≤ length text
  byte : get_or text (behind_line text p - 1) 0 ≡ 10

line_of : (text : Bytes) (p : ℕ) → LineStart text → p < length text → Line text p
unfolding behind_line is_in_line
line_of text p (inl z) h = absurd (omega (arith, ap length z))
line_of text p (inr (x, q)) h =
    let n : length text ≡ length x + 1 = ap length q ∙ length-append x newline in
    let u : past is_in_line text p ≤ length x = line_until text p (length x) (omega arith) (last_byte text x [] (q ∙ sym (append-nil (x ++ newline)))) in
    let k : behind_line text p - 1 ≡ past is_in_line text p = omega arith in
    record {
      low = omega (arith, past_least is_in_line text p);
      most = omega arith;
      byte = ap (λ n. get_or text n 0) k ∙ eqb-true (get_or text (past is_in_line text p) 0) 10 (not-false _ (past_fails is_in_line text p 0 (omega arith)));
    }

-- ---- statements apart

or_else_none : (x y : Option ℕ) → or_else x y ≡ none → (x ≡ none) × (y ≡ none)
or_else_none none y e = (refl, e)
or_else_none (some x) y e = let w : ◌≡◌ {A = ℕ} 0 1 = cc in absurd (omega arith)

unless_none : (b : Bool) (p : ℕ) → cond {A = Option ℕ} b (some p) none ≡ none → b ≡ false
unless_none true p e = let w : ◌≡◌ {A = ℕ} 0 1 = cc in absurd (omega arith)
unless_none false p e = refl

-- each begins behind the block of the one before it
abbrev Apart : Bytes → List Entry → Type 0
Apart text [] = Unit {0}
Apart text (e ∷ es) = (block_end text es ≤ e.places.start) × Apart text es

uncrowded_apart : (text : Bytes) (es : List Entry) → crowded text es ≡ none → Apart text es
unfolding crowded
uncrowded_apart text [] h = tt
uncrowded_apart text (e ∷ es) h =
    let k = or_else_none (crowded text es) (cond (ltb e.places.start (block_end text es)) (some e.places.start) none) h in
    (ltb-false e.places.start (block_end text es) (unless_none (ltb e.places.start (block_end text es)) e.places.start k.1), uncrowded_apart text es k.0)

apart_uncrowded : (text : Bytes) (es : List Entry) → Apart text es → crowded text es ≡ none
unfolding crowded
apart_uncrowded text [] h = refl
apart_uncrowded text (e ∷ es) h = rw (apart_uncrowded text es h.1, le-ltb e.places.start (block_end text es) h.0)

-- a statement and its block's end
record Row (text : Bytes) (e : Entry) (above : List Entry) : Type 0 where
  apart : block_end text above ≤ e.places.start
  long : e.places.start < e.end
  line : Line text e.end

abbrev Rows : Bytes → List Entry → Type 0
Rows text [] = Unit {0}
Rows text (e ∷ es) = Row text e es × Rows text es

rows_of : (text : Bytes) (es : List Entry) → LineStart text → Laid text es → Apart text es → Rows text es
rows_of text [] l h a = tt
rows_of text (e ∷ es) l h a = (record { apart = a.0; long = h.0.long; line = line_of text e.end l h.0.inside }, rows_of text es l h.1 a.1)

-- ---- what stands before a block's end and behind it

cuts_append : (k : ℕ) (x y : List Entry) → CutsNone k x → CutsNone k y → CutsNone k (x ++ y)
cuts_append k [] y h j = j
cuts_append k (e ∷ x) y h j = (h.0, cuts_append k x y h.1 j)

cuts_last : (k : ℕ) (x y : List Entry) → CutsNone k (x ++ y) → CutsNone k y
cuts_last k [] y h = h
cuts_last k (e ∷ x) y h = cuts_last k x y h.1

ended_by : (k : ℕ) (e : Entry) → e.places.start < k → (k ≤ e.places.start) ⊎ (e.end ≤ k) → e.end ≤ k
ended_by k e l (inl h) = absurd (omega arith)
ended_by k e l (inr h) = h

range_cuts : (k n : ℕ) (x : List Entry) → Range k n x → CutsNone k x
range_cuts k n [] h = tt
range_cuts k n (e ∷ x) h = (inl h.0, range_cuts k n x h.2)

module _ (text : Bytes) where
  end_most : (es : List Entry) → Rows text es → block_end text es ≤ length text
  end_most [] h = omega arith
  end_most (e ∷ es) h = h.0.line.most

  rows_last : (xs es : List Entry) → Rows text (xs ++ es) → Rows text es
  rows_last [] es h = h
  rows_last (x ∷ xs) es h = rows_last xs es h.1

  ends_rise : (xs es : List Entry) → Rows text (xs ++ es) → block_end text es ≤ block_end text (xs ++ es)
  ends_rise [] es h = omega arith
  ends_rise (x ∷ xs) es h = omega (arith, ends_rise xs es h.1, h.0.apart, h.0.long, h.0.line.low)

  -- statements of later blocks, and of these
  later : (xs es : List Entry) → Rows text (xs ++ es) → Range (block_end text es) (length text) xs
  later [] es h = tt
  later (x ∷ xs) es h = (omega (arith, ends_rise xs es h.1, h.0.apart), omega (arith, h.0.long, h.0.line.low, h.0.line.most), later xs es h.1)

  starts_before : (n : ℕ) (es : List Entry) → block_end text es ≤ n → Rows text es → Range 0 n es
  starts_before n [] l h = tt
  starts_before n (e ∷ es) l h = (omega arith, omega (arith, h.0.long, h.0.line.low), starts_before n es (omega (arith, h.0.apart, h.0.long, h.0.line.low)) h.1)

  ends_before : (n : ℕ) (es : List Entry) → block_end text es ≤ n → Rows text es → CutsNone n es
  ends_before n [] l h = tt
  ends_before n (e ∷ es) l h = (inr (omega (arith, h.0.line.low)), ends_before n es (omega (arith, h.0.apart, h.0.long, h.0.line.low)) h.1)

-- ---- a block

-- all the statements, and one of them with those above it
record IsBlock (text : Bytes) (all : List Entry) (e : Entry) (es : List Entry) : Type 0 where
  size : block_end text es + length (part text (block_end text es) (behind_line text e.end - block_end text es)) ≡ behind_line text e.end
  ends : EndsLine (part text (block_end text es) (behind_line text e.end - block_end text es))
  cuts : CutsNone (behind_line text e.end) all
  said : in_block (block_end text es) (behind_line text e.end) all ≡ e.statement ∷ []

-- a part of a text up to a byte 10
part_ends : (text : Bytes) (lo hi : ℕ) → lo < hi → hi ≤ length text → get_or text (hi - 1) 0 ≡ 10 → EndsLine (part text lo (hi - lo))
part_ends text lo hi l h e =
    let m : ℕ = hi - 1 - lo in
    let q : hi - lo ≡ suc m = omega arith in
    let n : lo + m ≡ hi - 1 = omega arith in
    (part text lo m, ap (part text lo) q ∙ take-suc (drop lo text) m 0 (omega (arith, length-drop lo text)) ∙ ap {B = Bytes} (λ (b : ℕ). part text lo m ++ b ∷ []) (get_or-drop lo text m 0 ∙ ap (λ (i : ℕ). get_or text i 0) n ∙ e))

block_said : (text : Bytes) (xs : List Entry) (e : Entry) (es : List Entry) → Rows text (xs ++ e ∷ es) → in_block (block_end text es) (behind_line text e.end) (xs ++ e ∷ es) ≡ e.statement ∷ []
unfolding statements
block_said text xs e es h =
    let k = rows_last text xs (e ∷ es) h in
    let lo : ℕ = block_end text es in
    let hi : ℕ = behind_line text e.end in
    let own : in_block lo hi (e ∷ []) ≡ e.statement ∷ [] = in_all lo hi (e ∷ []) (k.0.apart, omega (arith, k.0.long, k.0.line.low), tt) in
    in_append lo hi xs (e ∷ es) ∙ rw (in_after lo hi hi (length text) xs (omega arith) (later text xs (e ∷ es) h)) (in_append lo hi (e ∷ []) es ∙ rw (own, in_before lo hi 0 lo es (omega arith) (starts_before text lo es (omega arith) k.1)))

block_of : (text : Bytes) (xs : List Entry) (e : Entry) (es : List Entry) → Rows text (xs ++ e ∷ es) → IsBlock text (xs ++ e ∷ es) e es
block_of text xs e es h =
    let k = rows_last text xs (e ∷ es) h in
    let lo : ℕ = block_end text es in
    let hi : ℕ = behind_line text e.end in
    let l : lo < hi = omega (arith, k.0.apart, k.0.long, k.0.line.low) in
    let m : hi ≤ length text = k.0.line.most in
    record {
      size = omega (arith, part_length text lo (hi - lo) (omega arith));
      ends = part_ends text lo hi l m k.0.line.byte;
      cuts = cuts_append hi xs (e ∷ es) (range_cuts hi (length text) xs (later text xs (e ∷ es) h)) (ends_before text hi (e ∷ es) (omega arith) k);
      said = block_said text xs e es h;
    }

-- what stands behind the blocks
rest_ends : (text : Bytes) (n : ℕ) → LineStart text → n < length text → EndsLine (drop n text)
rest_ends text n (inl z) h = absurd (omega (arith, ap length z))
rest_ends text n (inr (x, q)) h = (drop n x, ap (drop n) q ∙ drop-append-le n x newline (omega (arith, ap length q, length-append x newline)))

rest_said : (text : Bytes) (es : List Entry) (hi : ℕ) → Rows text es → in_block (block_end text es) hi es ≡ []
rest_said text es hi h = in_before (block_end text es) hi 0 (block_end text es) es (omega arith) (starts_before text (block_end text es) es (omega arith) h)

-- ---- all blocks

-- those of the statements, and the one behind them, which has none
unfoldable pub own_pieces : Bytes → List Entry → List Piece
own_pieces text [] = []
own_pieces text (e ∷ es) = own_pieces text es ++ record { number = length es; text = part text (block_end text es) (behind_line text e.end - block_end text es); said = e.statement ∷ [] } ∷ []

abbrev pub rest_piece : ℕ → Bytes → List Piece
rest_piece n [] = []
rest_piece n (b ∷ t) = record { number = n; text = b ∷ t; said = [] } ∷ []

abbrev pub rest_pieces : Bytes → List Entry → List Piece
rest_pieces text es = rest_piece (length es) (behind_blocks text es)

module _ (text : Bytes) (all : List Entry) (rows : Rows text all) where
  -- es stand above xs
  own_block : (xs : List Entry) (e : Entry) (es : List Entry) → all ≡ xs ++ e ∷ es → IsBlock text all e es
  own_block xs e es q = subst (λ (z : List Entry). IsBlock text z e es) (sym q) (block_of text xs e es (subst (Rows text) q rows))

  cut_from : (es xs : List Entry) (ts : List Bytes) → all ≡ xs ++ es → Cut all (block_end text es) ts → Cut all 0 (blocks text es ++ ts)
  unfolding blocks
  cut_from [] xs ts q c = c
  cut_from (e ∷ es) xs ts q c =
      let k = own_block xs e es q in
      let lo : ℕ = block_end text es in
      let t : Bytes = part text lo (behind_line text e.end - lo) in
      subst (Cut all 0) (sym (append_snoc (blocks text es) t ts))
      (cut_from es (xs ++ e ∷ []) (t ∷ ts) (q ∙ sym (append_snoc xs e es)) (k.ends, subst (λ n. CutsNone n all) (sym k.size) k.cuts, rw (k.size, k.said) (omega arith), subst (λ n. Cut all n ts) (sym k.size) c))

  pieces_from : (es xs : List Entry) (ts : List Bytes) → all ≡ xs ++ es → pieces all 0 0 (blocks text es ++ ts) ≡ own_pieces text es ++ pieces all (length es) (block_end text es) ts
  unfolding blocks own_pieces pieces
  pieces_from [] xs ts q = refl
  pieces_from (e ∷ es) xs ts q =
      let k = own_block xs e es q in
      let lo : ℕ = block_end text es in
      let t : Bytes = part text lo (behind_line text e.end - lo) in
      let own : Piece = record { number = length es; text = t; said = e.statement ∷ [] } in
      let step : pieces all (length es) lo (t ∷ ts) ≡ own ∷ pieces all (suc (length es)) (behind_line text e.end) ts = rw (k.size, k.said) in
      ap (pieces all 0 0) (append_snoc (blocks text es) t ts) ∙ pieces_from es (xs ++ e ∷ []) (t ∷ ts) (q ∙ sym (append_snoc xs e es)) ∙ ap {B = List Piece} (λ (z : List Piece). own_pieces text es ++ z) step ∙ sym (append_snoc (own_pieces text es) own (pieces all (suc (length es)) (behind_line text e.end) ts))

  rest_cut : LineStart text → (x : Bytes) → drop (block_end text all) text ≡ x → Cut all (block_end text all) (unless_empty x)
  rest_cut l [] q = tt
  rest_cut l (b ∷ t) q =
      let n : ℕ = block_end text all in
      (subst EndsLine q (rest_ends text n l (omega (arith, length-drop n text, ap length q))), ends_before text (n + length (b ∷ t)) all (omega arith) rows, rw (rest_said text all (n + length (b ∷ t)) rows) (omega arith), tt)

  rest_pieces_lem : (m : ℕ) (x : Bytes) → pieces all m (block_end text all) (unless_empty x) ≡ rest_piece m x
  unfolding pieces
  rest_pieces_lem m [] = refl
  rest_pieces_lem m (b ∷ t) = rw (rest_said text all (block_end text all + length (b ∷ t)) rows)

joined_append : (xs ys : List Bytes) → joined (xs ++ ys) ≡ joined xs ++ joined ys
unfolding joined
joined_append [] ys = refl
joined_append (x ∷ xs) ys = ap {B = Bytes} (λ (z : Bytes). x ++ z) (joined_append xs ys) ∙ sym (append_assoc x (joined xs) (joined ys))

joined_unless : (x : Bytes) → joined (unless_empty x) ≡ x
unfolding joined
joined_unless [] = refl
joined_unless (b ∷ t) = append-nil (b ∷ t)

joined_blocks : (text : Bytes) (es : List Entry) → Rows text es → joined (blocks text es) ≡ take (block_end text es) text
unfolding joined blocks
joined_blocks text [] h = refl
joined_blocks text (e ∷ es) h =
    let lo : ℕ = block_end text es in
    let hi : ℕ = behind_line text e.end in
    let q : lo + (hi - lo) ≡ hi = omega (arith, h.0.apart, h.0.long, h.0.line.low) in
    joined_append (blocks text es) (part text lo (hi - lo) ∷ []) ∙ rw (joined_blocks text es h.1, append-nil (part text lo (hi - lo))) (sym (take-add lo (hi - lo) text) ∙ ap (λ n. take n text) q)

module _ (text : Bytes) (es : List Entry) (l : LineStart text) (h : Laid text es) (u : crowded text es ≡ none) where
  rows : Rows text es
  rows = rows_of text es l h (uncrowded_apart text es u)

  pub blocks_cut : Cut es 0 (all_blocks text es)
  blocks_cut = cut_from text es rows es [] (unless_empty (behind_blocks text es)) refl (rest_cut text es rows l (behind_blocks text es) refl)

  pub blocks_joined : joined (all_blocks text es) ≡ text
  blocks_joined = joined_append (blocks text es) (unless_empty (behind_blocks text es)) ∙ rw (joined_blocks text es rows, joined_unless (behind_blocks text es)) (take-append-drop (block_end text es) text)

  pub pieces_own : pieces es 0 0 (all_blocks text es) ≡ own_pieces text es ++ rest_pieces text es
  pieces_own = pieces_from text es rows es [] (unless_empty (behind_blocks text es)) refl ∙ ap {B = List Piece} (λ (z : List Piece). own_pieces text es ++ z) (rest_pieces_lem text es rows (length es) (behind_blocks text es))

-- ---- no other way of cutting

-- the front of a text that ends a line, cuts no statement, and ends behind one place and not behind another
record Between (text : Bytes) (es : List Entry) (lo hi : ℕ) : Type 0 where
  front : Bytes
  rest : Bytes
  whole : text ≡ front ++ rest
  ends : EndsLine front
  cuts : CutsNone (length front) es
  low : lo < length front
  high : length front ≤ hi

-- two statements do not begin in one part
between : (es : List Entry) (lo hi : ℕ) → lo < hi → ((a b : ℕ) → a ≤ lo → hi < b → 1 < length (in_block a b es)) → (ts : List Bytes) (p : Bytes) → Cut es (length p) ts → length p ≤ lo → hi < length (p ++ joined ts) → Between (p ++ joined ts) es lo hi
unfolding joined
between es lo hi o two [] p c l h = absurd (omega (arith, ap length (append-nil p)))
between es lo hi o two (t ∷ ts) p c l h = go (le_or_lt n hi) (le_or_lt n lo) (λ l'. between es lo hi o two ts (p ++ t) (subst (λ m. Cut es m ts) (sym size) c.3) l' (subst (λ (z : Bytes). hi < length z) (sym assoc) h))
  where
    n : ℕ
    n = length p + length t

    size : length (p ++ t) ≡ n
    size = length-append p t

    assoc : (p ++ t) ++ joined ts ≡ p ++ (t ++ joined ts)
    assoc = append_assoc p t (joined ts)

    ended : EndsLine t → EndsLine (p ++ t)
    ended (x, q) = (p ++ x, ap {B = Bytes} (λ (z : Bytes). p ++ z) q ∙ sym (append_assoc p x newline))

    go : (n ≤ hi) ⊎ (hi < n) → (n ≤ lo) ⊎ (lo < n) → (length (p ++ t) ≤ lo → Between ((p ++ t) ++ joined ts) es lo hi) → Between (p ++ (t ++ joined ts)) es lo hi
    go (inr k) j on = absurd (omega (arith, two (length p) n l k, c.2))
    go (inl k) (inl j) on = subst (λ (z : Bytes). Between z es lo hi) assoc (on (omega (arith, size)))
    go (inl k) (inr j) on = record { front = p ++ t; rest = joined ts; whole = sym assoc; ends = ended c.0; cuts = subst (λ m. CutsNone m es) (sym size) c.1; low = omega (arith, size); high = omega (arith, size) }

two_in : (xs : List Entry) (e f : Entry) (es : List Entry) (a b : ℕ) → Range a b (e ∷ f ∷ []) → 1 < length (in_block a b (xs ++ e ∷ f ∷ es))
unfolding statements
two_in xs e f es a b h =
    let q : in_block a b (xs ++ e ∷ f ∷ es) ≡ in_block a b xs ++ (statements (e ∷ f ∷ []) ++ in_block a b es) = in_append a b xs (e ∷ f ∷ es) ∙ ap {B = List Statement} (λ (z : List Statement). in_block a b xs ++ z) (in_append a b (e ∷ f ∷ []) es ∙ ap {B = List Statement} (λ (z : List Statement). z ++ in_block a b es) (in_all a b (e ∷ f ∷ []) h)) in
    omega (arith, ap length q, length-append (in_block a b xs) (statements (e ∷ f ∷ []) ++ in_block a b es))

-- a statement that ends in that front, with no blank, has its line in it
front_line : (text x rest : Bytes) (p : ℕ) → text ≡ (x ++ newline) ++ rest → p ≤ length (x ++ newline) → is_blank (get_or text (p - 1) 0) ≡ false → behind_line text p ≤ length (x ++ newline)
unfolding behind_line is_blank
front_line text x rest p q l w = go (le_or_lt p (length x))
  where
    n : length (x ++ newline) ≡ length x + 1
    n = length-append x newline

    go : (p ≤ length x) ⊎ (length x < p) → behind_line text p ≤ length (x ++ newline)
    go (inl k) = omega (arith, n, line_until text p (length x) k (last_byte text x rest q))
    go (inr k) =
        let m : p - 1 ≡ length x = omega (arith, n) in
        let b : is_blank (get_or text (p - 1) 0) ≡ true = ap is_blank (ap (λ i. get_or text i 0) m ∙ last_byte text x rest q) in
        let z : ◌≡◌ {A = ℕ} 0 1 = cc in
        absurd (omega arith)

module _ (text : Bytes) (all : List Entry) (ts : List Bytes) (c : Cut all 0 ts) (whole : joined ts ≡ text) where
  two_apart : (xs : List Entry) (e f : Entry) (es : List Entry) → all ≡ xs ++ e ∷ f ∷ es → Laid text (e ∷ f ∷ es) → behind_line text f.end ≤ e.places.start
  two_apart xs e f es q h = omega (arith, size, reach, k.high, front_line text k.ends.0 k.rest f.end (sym whole ∙ k.whole ∙ ap {B = Bytes} (λ (z : Bytes). z ++ k.rest) k.ends.1) (omega (arith, size, reach)) h.1.0.word)
    where
      rise : f.places.start < e.places.start
      rise = omega (arith, h.1.0.long, h.0.behind)

      two : (a b : ℕ) → a ≤ f.places.start → e.places.start < b → 1 < length (in_block a b all)
      two a b l m = subst (λ (z : List Entry). 1 < length (in_block a b z)) (sym q) (two_in xs e f es a b (omega (arith, rise), m, (l, omega (arith, rise), tt)))

      k : Between (joined ts) all f.places.start e.places.start
      k = between all f.places.start e.places.start rise two ts [] c (omega arith) (omega (arith, ap length whole, h.0.long, h.0.inside))

      size : length k.front ≡ length (k.ends.0 ++ newline)
      size = ap length k.ends.1

      reach : f.end ≤ length k.front
      reach = ended_by (length k.front) f k.low (cuts_last (length k.front) xs (e ∷ f ∷ es) (subst (CutsNone (length k.front)) q k.cuts)).1.0

  cut_apart : (es xs : List Entry) → all ≡ xs ++ es → Laid text es → Apart text es
  cut_apart [] xs q h = tt
  cut_apart (e ∷ []) xs q h = (omega arith, tt)
  cut_apart (e ∷ f ∷ es) xs q h = (two_apart xs e f es q h, cut_apart (f ∷ es) (xs ++ e ∷ []) (q ∙ sym (append_snoc xs e (f ∷ es))) h.1)

pub cut_uncrowded : (text : Bytes) (es : List Entry) (ts : List Bytes) → Laid text es → Cut es 0 ts → joined ts ≡ text → crowded text es ≡ none
cut_uncrowded text es ts h c q = apart_uncrowded text es (cut_apart text es ts c q es [] refl h)
