-- Demand 3: swapping two neighbouring independent blocks of an accepted text changes nothing but numbering.
use Rattle.std.specs.Prelude.{List, ◌++◌, ◌≡◌, ℕ, ◌≤◌, ◌<◌, length}
use Rattle.laws.specs.Bytes.{Bytes}
use Rattle.scene.specs.Block.{Block, Independent, in_block, shift}
use Rattle.scene.specs.Reading.{Entry, accepted, read_statements}
use Rattle.scene.specs.Record.{records, nth, real_table}
use Rattle.scene.specs.declared.Settings.{Settings}
use Rattle.scene.specs.Told.{tells, renumbered}
use Rattle.scene.specs.Statement.{Statement}

-- the statements before, in the first block a, and in the second block b
abbrev pub statements_before : List Entry → Bytes → List Statement
statements_before es p = in_block 0 (length p) es

abbrev pub statements_in : List Entry → (before block : Bytes) → List Statement
statements_in es p a = in_block (length p) (length (p ++ a)) es

-- The new text is accepted, the counts are the same, and the old record n and the new record of the shifted n have "equal types,
-- name bytes, string counts, string bytes, real counts and real bits, in order; the new modifier link, alias target and next of
-- the same name are the old ones shifted."
pub record Renumbers (r : Settings) (old new : Bytes) (es es' : List Entry) (f : ℕ → ℕ) : Type 0 where
  pub reads : read_statements r new ≡ accepted es'
  pub primitives : length es' ≡ length es
  pub reals : length (real_table es') ≡ length (real_table es)
  pub rows : (n : ℕ) → 0 < n → n ≤ length es
      → tells new (real_table es') (nth (records es') (f n)) ≡ renumbered f (tells old (real_table es) (nth (records es) n))

-- for every accepted text p ++ a ++ b ++ q with neighbouring independent blocks a and b
pub record Exchange (r : Settings) (p a b q : Bytes) (es : List Entry) : Type 0 where
  pub reads : read_statements r (p ++ a ++ b ++ q) ≡ accepted es
  pub first : Block es p a
  pub second : Block es (p ++ a) b
  pub independent : Independent (statements_in es p a) (statements_in es (p ++ a) b)

-- the numbering before and after
abbrev pub exchange_shift : List Entry → (p a b : Bytes) → ℕ → ℕ
exchange_shift es p a b = shift (length (statements_before es p)) (length (statements_in es p a)) (length (statements_in es (p ++ a) b))

-- the law
pub record Exchanged (r : Settings) (p a b q : Bytes) (es : List Entry) : Type 0 where
  pub entries : List Entry
  pub renumbers : Renumbers r (p ++ a ++ b ++ q) (p ++ b ++ a ++ q) es entries (exchange_shift es p a b)

abbrev pub ExchangeLaw : Type 0
ExchangeLaw = (r : Settings) (p a b q : Bytes) (es : List Entry) → Exchange r p a b q es → Exchanged r p a b q es
