-- Blocks by the records of a table, which may hold anything.
use Rattle.std.specs.Prelude.{Result, Ok, Err, cond, List, [], ◌∷◌, ◌++◌, ◌≡◌, ℕ, zero, suc, ◌+◌, eqb, ltb, replicate}
use Rattle.std.proofs.Math.Option.{Option, none, some}
use Rattle.laws.specs.Bytes.{Bytes}
use Rattle.lexer.specs.Word.{behind_words}
use Rattle.rearrangement.specs.Blocks.{Verdict, behind_line, can, cannot, lines_end, or_else, uncrowded, unended}
use Rattle.rearrangement.specs.Layout.{first_word}
use Rattle.scene.specs.Reason.{reason_number}
use Rattle.scene.specs.Record.{record_in}
use Rattle.scene.specs.declared.Refusal.{Refusal}

-- how many words record n has from its name on
unfoldable pub tail_in : (table : List ℕ) → (n : ℕ) → ℕ
tail_in T n = cond (eqb (record_in T n).target 0) (4 + (record_in T n).strings + (record_in T n).reals) 2

-- the place behind its last word
unfoldable pub end_in : Bytes → (table : List ℕ) → (n : ℕ) → ℕ
end_in text T zero = 0
end_in text T (suc n) = behind_words text (record_in T (suc n)).name (tail_in T (suc n))

-- and behind its block
abbrev pub block_end_in : Bytes → (table : List ℕ) → (n : ℕ) → ℕ
block_end_in text T zero = 0
block_end_in text T (suc n) = behind_line text (end_in text T (suc n))

-- where record n + 1 begins, if it begins too early
abbrev pub early_in : Bytes → (table : List ℕ) → (n : ℕ) → Option ℕ
early_in text T n = let start = first_word text (end_in text T n) in cond (ltb start (block_end_in text T n)) (some start) none

-- the first of n records that does
unfoldable pub crowded_in : Bytes → (table : List ℕ) → (n : ℕ) → Option ℕ
crowded_in text T zero = none
crowded_in text T (suc n) = or_else (crowded_in text T n) (early_in text T n)

unfoldable pub ends_to : Bytes → (table : List ℕ) → (n : ℕ) → List ℕ
ends_to text T zero = []
ends_to text T (suc n) = ends_to text T n ++ block_end_in text T (suc n) ∷ []

unfoldable pub verdict_in : Bytes → (table : List ℕ) → (n : ℕ) → Verdict
verdict_in text T n = cond (lines_end text) (uncrowded (crowded_in text T n)) (unended text)

-- the code's answer as a verdict
abbrev pub verdict_of : Result (Unit {0}) Refusal → Verdict
verdict_of (Err r) = cannot (reason_number r.reason) r.place
verdict_of (Ok u) = can

-- the table of ends: zero where the text is refused
abbrev pub table_of : Verdict → List ℕ → (n : ℕ) → List ℕ
table_of (cannot c p) ends n = replicate n 0
table_of can ends n = ends

pub record Cuts (text : Bytes) (T : List ℕ) (n : ℕ) (r : Result (Unit {0}) Refusal) (ends' : List ℕ) : Type 0 where
  pub says : verdict_of r ≡ verdict_in text T n
  pub ends : ends' ≡ table_of (verdict_in text T n) (ends_to text T n) n
