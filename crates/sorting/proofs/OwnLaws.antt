-- The blocks of a text's statements, by the statements' numbers.
use mathlib.Core.List.{List, [], ◌∷◌, ◌++◌, append_assoc, map, map-append}
use mathlib.Core.Logic.{◌⊎◌, inl, inr}
use mathlib.Core.Option.{some}
use mathlib.Core.Path.{◌≡◌, refl, ap, sym, ◌∙◌, subst}
use Prim.Native.Nat.{ℕ, zero, suc, ◌-◌, ◌≤◌, ◌<◌}
use native.Mathlib.Omega.{arith}
use borrow.Author.Tests.{eq-eqb, ne_eqb}
use lib.ListN.{get_or-append, get_or, length, length-append}
use lib.Seq.{get_or-append_seam}
use Rattle.grouping.specs.Grouped.{up_to}
use Rattle.laws.proofs.NatLaws.{le_or_lt}
use Rattle.laws.specs.Bytes.{Bytes, part}
use Rattle.rearrangement.proofs.BlockLaws.{own_pieces}
use Rattle.rearrangement.specs.Blocks.{behind_line, block_end, blocks}
use Rattle.rearrangement.specs.Cut.{Piece, text_of}
use Rattle.scene.proofs.TellsLaws.{statements_length}
use Rattle.scene.specs.Properties.{numbered}
use Rattle.scene.specs.Reading.{Entry, statements}
use Rattle.scene.specs.Statement.{Statement}
use Rattle.sorting.proofs.ShuffleLaws.{All, all_append}
use Rattle.sorting.specs.Sorted.{in_order}

-- ---- numbers from 1 on

abbrev pub Among : ℕ → ℕ → Type 0
Among n k = (0 < k) × (k ≤ n)

all_wider : (n : ℕ) (ks : List ℕ) → All (Among n) ks → All (Among (suc n)) ks
all_wider n [] h = tt
all_wider n (k ∷ ks) h = ((h.0.0, let l = h.0.1 in omega arith), all_wider n ks h.1)

pub up_to_among : (n : ℕ) → All (Among n) (up_to n)
unfolding up_to
up_to_among zero = tt
up_to_among (suc n) = all_append (Among (suc n)) (up_to n) (suc n ∷ []) (all_wider n (up_to n) (up_to_among n)) ((omega arith, omega arith), tt)

-- ---- number k of a list

module _ {A : Type 0} (d : A) where
  abbrev pub at : List A → ℕ → A
  at xs k = get_or xs (k - 1) d

  pub at_before : (xs zs : List A) (k : ℕ) → Among (length xs) k → at (xs ++ zs) k ≡ at xs k
  at_before xs zs k h = get_or-append xs zs d (k - 1) (let z = h.0 in let l = h.1 in omega arith)

  pub at_last : (xs : List A) (y : A) (zs : List A) (n : ℕ) → length xs ≡ n → at (xs ++ y ∷ zs) (suc n) ≡ y
  at_last xs y zs n e = ap (λ (m : ℕ). get_or (xs ++ y ∷ zs) m d) (let m : suc n - 1 ≡ length xs = omega (arith, e) in m) ∙ get_or-append_seam xs y zs d

-- ---- the block of statement k

abbrev pub no_piece : Piece
no_piece = record { number = 0; text = []; said = [] }

pub record Own (text : Bytes) (es : List Entry) (k : ℕ) : Type 0 where
  pub statement : Statement
  pub there : numbered (statements es) k ≡ some statement
  pub piece : at no_piece (own_pieces text es) k ≡ record { number = k - 1; text = at [] (blocks text es) k; said = statement ∷ [] }

pub own_length : (text : Bytes) (es : List Entry) → length (own_pieces text es) ≡ length es
unfolding own_pieces
own_length text [] = refl
own_length text (e ∷ es) = length-append (own_pieces text es) _ ∙ (let k = own_length text es in omega (arith, k))

pub blocks_length : (text : Bytes) (es : List Entry) → length (blocks text es) ≡ length es
unfolding blocks
blocks_length text [] = refl
blocks_length text (e ∷ es) = length-append (blocks text es) _ ∙ (let k = blocks_length text es in omega (arith, k))

module _ (text : Bytes) (e : Entry) (es : List Entry) where
  abbrev block : Bytes
  block = part text (block_end text es) (behind_line text e.end - block_end text es)

  -- an earlier statement's block is not changed by one more
  own_before : (k : ℕ) → Among (length es) k → Own text es k → Own text (e ∷ es) k
  unfolding own_pieces blocks statements numbered
  own_before k h o = record {
    statement = o.statement;
    there = rw (ne_eqb k (suc (length (statements es))) (λ q. let l = h.1 in omega (arith, q, statements_length es))) o.there;
    piece =
        (at_before no_piece (own_pieces text es) _ k (h.0, (let l = h.1 in omega (arith, own_length text es)))
        ∙ o.piece
        ∙ ap {B = Piece} (λ (t : Bytes). record { number = k - 1; text = t; said = o.statement ∷ [] }) (sym (at_before [] (blocks text es) _ k (h.0, (let l = h.1 in omega (arith, blocks_length text es))))));
  }

  own_here : Own text (e ∷ es) (suc (length es))
  unfolding own_pieces blocks statements numbered
  own_here = record {
    statement = e.statement;
    there = rw (eq-eqb (suc (length es)) (suc (length (statements es))) (ap suc (sym (statements_length es))));
    piece =
        (at_last no_piece (own_pieces text es) _ [] (length es) (own_length text es)
        ∙ (λ i. record { number = number i; text = sym (at_last [] (blocks text es) block [] (length es) (blocks_length text es)) i; said = e.statement ∷ [] }));
  }
    where
      number : length es ≡ suc (length es) - 1
      number = omega arith

pub own_of : (text : Bytes) (es : List Entry) (k : ℕ) → Among (length es) k → Own text es k
own_of text [] k h = absurd (let z = h.0 in let l = h.1 in omega arith)
own_of text (e ∷ es) k h = go (le_or_lt k (length es)) (own_of text es k)
  where
    go : (k ≤ length es) ⊎ (length es < k) → (Among (length es) k → Own text es k) → Own text (e ∷ es) k
    go (inl l) f = own_before text e es k (h.0, l) (f (h.0, l))
    go (inr l) f = let q : suc (length es) ≡ k = (let m = h.1 in omega arith) in subst (Own text (e ∷ es)) q (own_here text e es)

-- ---- all of them

pub own_all : (text : Bytes) (es : List Entry) (zs : List Piece) → map (at no_piece (own_pieces text es ++ zs)) (up_to (length es)) ≡ own_pieces text es
unfolding own_pieces up_to
own_all text [] zs = refl
own_all text (e ∷ es) zs =
    let p : Piece = record { number = length es; text = block text e es; said = e.statement ∷ [] } in
    let a : (own_pieces text es ++ p ∷ []) ++ zs ≡ own_pieces text es ++ p ∷ zs = append_assoc (own_pieces text es) (p ∷ []) zs in
    ap (λ (z : List Piece). map (at no_piece z) (up_to (length es) ++ suc (length es) ∷ [])) a
    ∙ map-append (at no_piece (own_pieces text es ++ p ∷ zs)) (up_to (length es)) (suc (length es) ∷ [])
    ∙ (λ i. own_all text es (p ∷ zs) i ++ at_last no_piece (own_pieces text es) p zs (length es) (own_length text es) i ∷ [])

-- the bytes of blocks by their numbers
pub text_in_order : (text : Bytes) (es : List Entry) (ks : List ℕ) → All (Among (length es)) ks → text_of (map (at no_piece (own_pieces text es)) ks) ≡ in_order (blocks text es) ks
unfolding text_of in_order
text_in_order text es [] h = refl
text_in_order text es (k ∷ ks) h = λ i. ((own_of text es k h.0).piece i).text ++ text_in_order text es ks h.1 i
