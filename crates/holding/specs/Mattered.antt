-- What is proved of the order of two entries: where n holds m, nothing that is allowed changes it; where it does not, something does.
use Rattle.std.specs.Prelude.{Bool, true, cond, List, [], ◌∷◌, ◌++◌, ◌⊎◌, ◌≡◌, ℕ, suc, ◌-◌, ◌≤◌, ◌<◌, eqb, length}
use Rattle.holding.specs.Chain.{Chain, Holds}
use Rattle.holding.specs.Shortest.{first_link}
use Rattle.laws.specs.Bytes.{Bytes}
use Rattle.laws.specs.Shuffle.{Shuffle}
use Rattle.rearrangement.specs.Held.{bound_in}
use Rattle.rearrangement.specs.Blocks.{all_blocks, can, verdict}
use Rattle.rearrangement.specs.Cut.{Piece, pieces, saids, text_of}
use Rattle.rearrangement.specs.Order.{Ordered, Renumbering}
use Rattle.rearrangement.specs.Rearranged.{Rearranged}
use Rattle.scene.specs.Links.{reals_used}
use Rattle.scene.specs.Reading.{Entry, accepted, statements}
use Rattle.scene.specs.Statement.{Statement}
use Rattle.scene.specs.Told.{renumbered, told}
use Rattle.scene.specs.declared.Settings.{Settings}
use Rattle.sides.specs.Read.{read}

-- ---- the first link

-- number k is where a shortest chain from n to m goes first, of several the lowest
pub record Shortest (tied : ℕ → ℕ → Bool) (n m k : ℕ) : Type 0 where
  pub links : ℕ
  pub chain : Chain tied links n m
  pub least : (j : ℕ) → Chain tied j n m → links ≤ j
  pub above : n < k
  pub bound : tied n k ≡ true
  -- on from k: it is m itself, or a chain with one link less leads there
  pub rest : ((k ≡ m) × (links ≡ 1)) ⊎ ((j : ℕ) × (links ≡ suc j) × Chain tied j k m)
  pub lowest : (i j : ℕ) → n < i → tied n i ≡ true → ((i ≡ m) × (links ≡ 1)) ⊎ ((links ≡ suc j) × Chain tied j i m) → k ≤ i

-- it is 0 exactly where n does not hold m
pub record Decides (tied : ℕ → ℕ → Bool) (n m : ℕ) : Type 0 where
  pub none : first_link tied n m ≡ 0 → Holds tied n m → ⊥
  pub some : 0 < first_link tied n m → Shortest tied n m (first_link tied n m)

abbrev pub DecidesLaw : Type 0
DecidesLaw = (tied : ℕ → ℕ → Bool) (n m : ℕ) → n < m → Decides tied n m

-- ---- orders of blocks

-- where the block of a number stands, from 0
unfoldable pub position : List Piece → (number : ℕ) → ℕ
position [] n = 0
position (b ∷ bs) n = cond (eqb b.number n) 0 (suc (position bs n))

-- the blocks of an accepted text that can be cut: statement n is in block n - 1
abbrev pub blocks_of : Bytes → List Entry → List Piece
blocks_of text es = pieces es 0 0 (all_blocks text es)

-- "where n holds m, every rearrangement that L14 allows keeps n before m"
abbrev pub KeepsLaw : Type 0
KeepsLaw = (r : Settings) (text : Bytes) (es : List Entry) → read r text ≡ accepted es → verdict text es ≡ can
    → (n m : ℕ) → 0 < n → m ≤ length es → Holds (bound_in (statements es)) n m
    → (new : List Piece) → Shuffle (blocks_of text es) new → Ordered new → position new (n - 1) < position new (m - 1)

-- "where it does not, some rearrangement that L14 allows puts m before n, and by L14 nothing but numbering changes"
pub record Exchangeable (r : Settings) (text : Bytes) (es : List Entry) (n m : ℕ) : Type 0 where
  pub new : List Piece
  pub shuffled : Shuffle (blocks_of text es) new
  pub ordered : Ordered new
  pub before : position new (m - 1) < position new (n - 1)
  pub rearranged : Rearranged r text (text_of new) es (blocks_of text es) new

abbrev pub FreeLaw : Type 0
FreeLaw = (r : Settings) (text : Bytes) (es : List Entry) → read r text ≡ accepted es → verdict text es ≡ can
    → (n m : ℕ) → 0 < n → n < m → m ≤ length es → (Holds (bound_in (statements es)) n m → ⊥) → Exchangeable r text es n m

-- ---- over the statements alone, for every accepted text

-- each statement as a block of its own, without its bytes
unfoldable pub alone : List Statement → List Piece
alone [] = []
alone (s ∷ d) = alone d ++ record { number = length d; text = []; said = s ∷ [] } ∷ []

abbrev pub StatementsKeepLaw : Type 0
StatementsKeepLaw = (d : List Statement) (n m : ℕ) → 0 < n → m ≤ length d → Holds (bound_in d) n m
    → (new : List Piece) → Shuffle (alone d) new → Ordered new → position new (n - 1) < position new (m - 1)

-- the statements in another order: as many, and what is said of each agrees after renumbering
pub record Agree (number : ℕ → ℕ) (d d' : List Statement) : Type 0 where
  pub count : length d' ≡ length d
  pub reals : reals_used d' ≡ reals_used d
  pub each : (later : List Statement) (s : Statement) (earlier : List Statement) → d ≡ later ++ s ∷ earlier
      → (later' : List Statement) × (earlier' : List Statement) × (d' ≡ later' ++ s ∷ earlier') × (number (suc (length earlier)) ≡ suc (length earlier')) × (told later' s earlier' ≡ renumbered number (told later s earlier))

pub record Movable (d : List Statement) (n m : ℕ) : Type 0 where
  pub new : List Piece
  pub shuffled : Shuffle (alone d) new
  pub ordered : Ordered new
  pub before : position new (m - 1) < position new (n - 1)
  pub renumbering : Renumbering (alone d) new
  pub agree : Agree renumbering.number d (saids new)

abbrev pub StatementsFreeLaw : Type 0
StatementsFreeLaw = (d : List Statement) (n m : ℕ) → 0 < n → n < m → m ≤ length d → (Holds (bound_in d) n m → ⊥) → Movable d n m
