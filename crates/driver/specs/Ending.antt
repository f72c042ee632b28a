-- How reading a text into the lent tables ends, and what they hold then.
use Rattle.std.specs.Prelude.{cond, List, ◌≡◌, ℕ, leb, Float, length, replicate, Result, Ok, Err}
use Rattle.driver.specs.declared.Accepted.{Accepted as CodeAccepted}
use Rattle.index.specs.Lent.{lent}
use Rattle.index.specs.Report.{all_looked}
use Rattle.laws.specs.Bytes.{Bytes}
use Rattle.scene.specs.Reason.{reason_number}
use Rattle.scene.specs.Reading.{Reading, accepted, read_statements, refused, statements}
use Rattle.scene.specs.Record.{real_image, real_table, record_image, settings_for}
use Rattle.scene.specs.declared.Mode.{Mode}
use Rattle.scene.specs.declared.Refusal.{Refusal}

-- how reading ends: accepted with the counts of primitives, of reals and of entries looked at, or refused with the number of a reason
-- and a place
pub data End : Type 0 where
  Accepted : (primitives reals looked : ℕ) → End
  Refused : (reason place : ℕ) → End

-- what the code answers
abbrev pub end_of : Result CodeAccepted Refusal → End
end_of (Ok a) = Accepted a.primitives a.reals a.looked
end_of (Err r) = Refused (reason_number r.reason) r.place

-- the end that a reading comes to, with a lent index of `size` entries: one of under 2,048 is not looked at
abbrev pub ending : (size : ℕ) → Reading → End
ending size (refused n p) = Refused n p
ending size (accepted es) = Accepted (length es) (length (real_table es)) (cond (leb 2048 size) (all_looked (statements es)) 0)

-- what the index holds then
abbrev pub index_after : (size : ℕ) → Reading → List ℕ
index_after size (refused n p) = replicate size 0
index_after size (accepted es) = lent size (statements es)

-- one call: the mode, the tables as they were lent, how it ends, and the tables at exit
pub record Ends (mode : Mode) (text : Bytes) (records : List ℕ) (reals : List Float) (index : List ℕ) (r : End) (records' : List ℕ) (reals' : List Float) (index' : List ℕ) : Type 0 where
  pub says : r ≡ ending (length index) (read_statements (settings_for mode (length records) (length reals)) text)
  pub table : records' ≡ record_image text (length records) (read_statements (settings_for mode (length records) (length reals)) text)
  pub doubles : reals' ≡ real_image (length reals) (read_statements (settings_for mode (length records) (length reals)) text)
  pub entries : index' ≡ index_after (length index) (read_statements (settings_for mode (length records) (length reals)) text)
