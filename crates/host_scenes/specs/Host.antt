-- What a host program is told of a finished scene: a number for the kind of answer, and the answer's values in a small array.
use Rattle.std.specs.Prelude.{cond, List, [], ◌∷◌, ℕ, eqb}
use Rattle.finish.specs.Question.{name_refusal}
use Rattle.finish.specs.Walk.{finish_of, numbers_of}
use Rattle.laws.specs.Bytes.{Bytes}
use Rattle.lexer.specs.Word.{word_at}
use Rattle.scene.specs.Record.{record_in}

-- ---- questions to a finished table

-- place and length of a name in the text; 0 and 0 where it is refused
unfoldable pub name_part : Bytes → (table : List ℕ) (count number : ℕ) → List ℕ
name_part text table count n = cond (eqb (name_refusal text table count n) 0) ((record_in table n).name ∷ (record_in table n).name_length ∷ []) (0 ∷ 0 ∷ [])

-- the walk's reason, or 0; the primitive and the links
abbrev pub finish_reason : List ℕ → (count number allowance : ℕ) → ℕ
finish_reason table count n allowance = (numbers_of (finish_of table count n allowance)).reason

abbrev pub finish_values : List ℕ → (count number allowance : ℕ) → List ℕ
finish_values table count n allowance = let f = numbers_of (finish_of table count n allowance) in f.primitive ∷ f.links ∷ []

-- ---- words: place and length

abbrev pub word_values : Bytes → (at : ℕ) → List ℕ
word_values text at = (word_at text at).place ∷ (word_at text at).len ∷ []
