-- Blocks in another order: "each pair where one gives a name that the other gives or refers to keeps its order".
use Rattle.std.specs.Prelude.{cond, List, [], ◌∷◌, ◌++◌, ◌≡◌, ℕ, ◌+◌, ◌≤◌, ◌<◌, eqb, length}
use Rattle.rearrangement.specs.Cut.{Piece}
use Rattle.scene.specs.Block.{Independent}

-- c stands before each of these now: with those of them that it stood behind it is related by R
abbrev pub Passes : (R : Piece → Piece → Type 0) → Piece → List Piece → Type 0
Passes R c [] = Unit {0}
Passes R c (b ∷ bs) = (b.number < c.number → R b c) × Passes R c bs

abbrev pub OrderedBy : (R : Piece → Piece → Type 0) → List Piece → Type 0
OrderedBy R [] = Unit {0}
OrderedBy R (c ∷ bs) = Passes R c bs × OrderedBy R bs

-- only blocks that are independent of one another changed their order
abbrev pub Apart : Piece → Piece → Type 0
Apart b c = Independent b.said c.said

abbrev pub Ordered : List Piece → Type 0
Ordered bs = OrderedBy Apart bs

-- ---- "after renumbering"

-- how many statements stand before the block of a number
unfoldable pub statements_before : List Piece → (number : ℕ) → ℕ
statements_before [] n = 0
statements_before (b ∷ bs) n = cond (eqb b.number n) 0 (length b.said + statements_before bs n)

-- the rearrangement's own renumbering: 0 stays, and statement k of a block is statement k of it still. It is a bijection
pub record Renumbering (old new : List Piece) : Type 0 where
  pub number : ℕ → ℕ
  pub back : ℕ → ℕ
  pub none : number 0 ≡ 0
  pub each : (xs : List Piece) (b : Piece) (ys : List Piece) → old ≡ xs ++ b ∷ ys → (k : ℕ) → 0 < k → k ≤ length b.said → number (statements_before old b.number + k) ≡ statements_before new b.number + k
  pub forth_back : (n : ℕ) → back (number n) ≡ n
  pub back_forth : (n : ℕ) → number (back n) ≡ n
