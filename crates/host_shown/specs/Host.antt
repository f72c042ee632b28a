-- What a host program is told of the materials that a primitive may show.
use Rattle.std.specs.Prelude.{List, ℕ}
use Rattle.shown.specs.List.{shown_answer}
use Rattle.shown.specs.Shown.{Shown, Listed, Refused}

abbrev pub reason_of : Shown → ℕ
reason_of (Listed n) = 0
reason_of (Refused r) = r

abbrev pub many_of : Shown → ℕ
many_of (Listed n) = n
many_of (Refused r) = 0

-- the list call's reason, or 0, for a list of `room` numbers
abbrev pub shown_reason : (records pairs : List ℕ) (count number room : ℕ) → ℕ
shown_reason records pairs count n room = reason_of (shown_answer records pairs count n room)

-- how many materials there are; 0 where it is refused
abbrev pub shown_many : (records pairs : List ℕ) (count number room : ℕ) → ℕ
shown_many records pairs count n room = many_of (shown_answer records pairs count n room)
