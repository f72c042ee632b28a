-- The tidy text of a record, from the text and the table it stands in.
use Rattle.std.specs.Prelude.{cond, List, [], ◌∷◌, ◌++◌, ℕ, zero, suc, eqb}
use Rattle.laws.specs.Bytes.{Bytes, bytes}
use Rattle.lines.specs.Arguments.{argument_lines}
use Rattle.scene.specs.Record.{name_in, record_in}
use Rattle.scene.specs.Statement.{void}
use Rattle.scene.specs.Types.{type_name}
use Rattle.tidying.specs.Tidy.{line}

module _ (text : Bytes) (table : List ℕ) where
  -- the word for a link to record n: `void` for 0
  abbrev pub link_word : (n : ℕ) → Bytes
  link_word n = cond (eqb n 0) void (name_in text table n)

  abbrev pub modifier_word : (n : ℕ) → Bytes
  modifier_word n = link_word (record_in table n).modifier

  -- record n as a primitive, and as an alias
  abbrev pub primitive_text : (n : ℕ) → Bytes
  primitive_text n =
      let r = record_in table n in
      line (modifier_word n) (type_name r.type ∷ name_in text table n ∷ []) ++ argument_lines text r.name r.strings r.reals

  abbrev pub alias_text : (n : ℕ) → Bytes
  alias_text n = line (modifier_word n) (bytes "alias" ∷ name_in text table n ∷ name_in text table (record_in table n).target ∷ [])

  abbrev pub record_text : (n : ℕ) → Bytes
  record_text n = cond (eqb (record_in table n).target 0) (primitive_text n) (alias_text n)

  -- the first n records
  unfoldable pub record_texts : ℕ → Bytes
  record_texts zero = []
  record_texts (suc n) = record_texts n ++ record_text (suc n)
