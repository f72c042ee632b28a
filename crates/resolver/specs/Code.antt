-- The sides of mixtures as the code looks them up, over the text, the records and the index; and what each step does to the pairs.
use Rattle.std.specs.Prelude.{Bool, true, false, cond, not, ◌||◌, List, [], ◌∷◌, ◌++◌, ◌≡◌, ℕ, zero, suc, ◌-◌, ◌*◌, ◌<◌, ◌≤◌, eqb, length, replicate}
use Rattle.std.proofs.Math.Option.{Option, none, some}
use Rattle.std.proofs.lemmas.List.Edits.{sets}
use Rattle.graph.specs.Graph.{mixture_type}
use Rattle.index.specs.Lent.{lent}
use Rattle.index.specs.Searches.{sought}
use Rattle.laws.specs.Bytes.{Bytes, same}
use Rattle.lexer.specs.Word.{word_at, word_bytes, word_end}
use Rattle.resolver.specs.declared.Resolved.{Resolved}
use Rattle.resolver.specs.declared.Resolved.TheVariants.{Plain, Known, Unknown}
use Rattle.resolver.specs.declared.Side.{Side}
use Rattle.scene.specs.Reading.{Entry, accepted, read_statements, statements}
use Rattle.scene.specs.Record.{field_in, filled, record_image, width}
use Rattle.scene.specs.Statement.{void}
use Rattle.scene.specs.declared.Settings.{Settings}
use Rattle.sides.specs.Read.{or_first}
use Rattle.statement.specs.States.{clipped}

-- a name, and what the search for it finds
abbrev pub side_of : (name : Bytes) (number : ℕ) → Side
side_of w m = record { number = cond (same w void) 0 (clipped m); known = same w void || not (eqb m 0) }

-- the side that the word at or after a place names
unfoldable pub side_at : Bytes → (records index : List ℕ) → (count at : ℕ) → Side
side_at text T X count at = side_of (word_bytes text at) (sought text T X count (word_bytes text at)).number

abbrev pub is_mixture : (records : List ℕ) → ℕ → Bool
is_mixture T n = eqb (field_in T n 0) mixture_type

-- the place of a mixture's first string
abbrev pub first_place : (records : List ℕ) → ℕ → ℕ
first_place T n = field_in T n 5

-- ---- one mixture

abbrev pub chosen : (first second : Bool) (at next : ℕ) → Option ℕ
chosen a b p q = cond a (cond b none (some q)) (some p)

unfoldable pub unknown_at : Bytes → (records index : List ℕ) → (count n : ℕ) → Option ℕ
unknown_at text T X count n =
    let p = first_place T n in
    let q = word_end text p in
    chosen (side_at text T X count p).known (side_at text T X count q).known p (word_at text q).place

unfoldable pub pair_at : Bytes → (records index : List ℕ) → (count n : ℕ) → List ℕ
pair_at text T X count n = let p = first_place T n in (side_at text T X count p).number ∷ (side_at text T X count (word_end text p)).number ∷ []

-- ---- the first n records

unfoldable pub unknown_to : Bytes → (records index : List ℕ) → (count n : ℕ) → Option ℕ
unknown_to text T X count zero = none
unknown_to text T X count (suc n) = or_first (unknown_to text T X count n) (cond (is_mixture T (suc n)) (unknown_at text T X count (suc n)) none)

unfoldable pub pairs_to : Bytes → (records index : List ℕ) → (count n : ℕ) → List ℕ
pairs_to text T X count zero = []
pairs_to text T X count (suc n) = pairs_to text T X count n ++ cond (is_mixture T (suc n)) (pair_at text T X count (suc n)) (0 ∷ 0 ∷ [])

unfoldable pub mixture_to : (records : List ℕ) → (n : ℕ) → Bool
mixture_to T zero = false
mixture_to T (suc n) = mixture_to T n || is_mixture T (suc n)

-- ---- what the functions promise

abbrev pub resolved_as : (unknown : Option ℕ) (mixture : Bool) → Resolved
resolved_as (some p) b = Unknown p
resolved_as none true = Known
resolved_as none false = Plain

pub record PutsPair (pairs : List ℕ) (n foreground background : ℕ) (after : List ℕ) : Type 0 where
  pub same : length after ≡ length pairs
  pub stands : 0 < n → n * 2 ≤ length pairs → after ≡ sets pairs ((n - 1) * 2) (foreground ∷ background ∷ [])

pub record Sides (text : Bytes) (T X pairs : List ℕ) (count n : ℕ) (r : Resolved) (after : List ℕ) : Type 0 where
  pub says : r ≡ resolved_as (unknown_at text T X count n) true
  pub same : length after ≡ length pairs
  pub stands : unknown_at text T X count n ≡ none → 0 < n → n * 2 ≤ length pairs → after ≡ sets pairs ((n - 1) * 2) (pair_at text T X count n)

pub record Resolves (text : Bytes) (T X pairs : List ℕ) (count : ℕ) (r : Resolved) (after : List ℕ) : Type 0 where
  pub says : r ≡ resolved_as (unknown_to text T X count count) (mixture_to T count)
  pub same : length after ≡ length pairs
  pub stands : unknown_to text T X count count ≡ none → pairs ≡ replicate (length pairs) 0 → count * 2 ≤ length pairs → after ≡ filled 0 (length pairs) (pairs_to text T X count count)

-- ---- the tables hold what reading the text left there

pub record Stored (r : Settings) (text : Bytes) (T X : List ℕ) (es : List Entry) : Type 0 where
  pub reads : read_statements r text ≡ accepted es
  pub records : T ≡ record_image text (length T) (accepted es)
  pub index : X ≡ lent (length X) (statements es)
  pub few : length es ≤ 1024
  pub room : length es * width ≤ length T
