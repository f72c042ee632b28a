-- What is told of the mixtures of a text that is read: over tables that hold what reading it left.
use Rattle.std.specs.Prelude.{List, ◌≡◌, ℕ, zero, suc, ◌+◌, ◌*◌, ◌≤◌, length, replicate, Result, Ok, Err}
use Rattle.graph.specs.Answers.{lowest_loop}
use Rattle.graph.specs.Graph.{graph_of}
use Rattle.laws.specs.Bytes.{Bytes}
use Rattle.mixtures.specs.Walk.{Within}
use Rattle.resolver.specs.Code.{Stored}
use Rattle.scene.specs.Reason.{reason_number}
use Rattle.scene.specs.Reading.{Entry, Reading, accepted, refused}
use Rattle.scene.specs.Record.{field_in}
use Rattle.scene.specs.declared.Refusal.{Refusal}
use Rattle.scene.specs.declared.Settings.{Settings}
use Rattle.sides.specs.Read.{mixed}
use Rattle.sides.specs.Sides.{pair_image}

-- every mixture is in order, or one is refused with the number of a reason and a place
pub data Validity : Type 0 where
  Valid : Validity
  Refused : (reason place : ℕ) → Validity

-- what the code answers
abbrev pub validity_of : Result Unit Refusal → Validity
validity_of (Ok u) = Valid
validity_of (Err r) = Refused (reason_number r.reason) r.place

-- primitive n is the lowest on a loop, 0 for none
abbrev pub loop_told : (records : List ℕ) → ℕ → Validity
loop_told T zero = Valid
loop_told T (suc n) = Refused 26 (field_in T (suc n) 3)

abbrev pub Loops : (records pairs : List ℕ) (count : ℕ) (r : Validity) → Type 0
Loops T P count r = count ≤ 1024 → Within (graph_of T P) (count + 1) → r ≡ loop_told T (lowest_loop (graph_of T P) count)

-- what a reading is told as
abbrev pub told_as : Reading → Validity
told_as (refused n p) = Refused n p
told_as (accepted es) = Valid

pub record ValidatedAs (text : Bytes) (es : List Entry) (room : ℕ) (r : Validity) (after : List ℕ) : Type 0 where
  pub says : r ≡ told_as (mixed text (accepted es))
  pub stands : r ≡ Valid → after ≡ pair_image room (accepted es)

abbrev pub Validates : (text : Bytes) (records index pairs : List ℕ) (count : ℕ) (r : Validity) (after : List ℕ) → Type 0
Validates text T X pairs count r after =
    (s : Settings) (es : List Entry) → Stored s text T X es → count ≡ length es → pairs ≡ replicate (length pairs) 0 → length es * 2 ≤ length pairs → ValidatedAs text es (length pairs) r after
