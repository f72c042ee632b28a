-- What an answer says of its reading, by cases of the answer.
use mathlib.Core.List.{List}
use mathlib.Core.Path.{◌≡◌, refl}
use Prim.Native.Nat.{ℕ}
use native.Mathlib.Omega.{arith}
use lib.ListN.{length}
use Rattle.reader.specs.Answer.{Accepted, Refused, answered}
use Rattle.scene.specs.Reading.{Entry, Reading, accepted, refused}
use Rattle.scene.specs.Record.{real_table}

pub refused_as : (x : Reading) (n p : ℕ) → Refused n p ≡ answered x → x ≡ refused n p
refused_as (refused m q) n p e =
    let a : m ≡ n = cc in
    let b : q ≡ p = cc in
    λ i. refused (a i) (b i)
refused_as (accepted es) n p e = let z : ◌≡◌ {A = ℕ} 0 1 = cc in absurd (omega arith)

-- the entries behind an accepted answer, and its counts
pub record AcceptedAs (x : Reading) (n k : ℕ) : Type 0 where
  pub entries : List Entry
  pub reads : x ≡ accepted entries
  pub primitives : n ≡ length entries
  pub doubles : k ≡ length (real_table entries)

pub accepted_as : (x : Reading) (n k : ℕ) → Accepted n k ≡ answered x → AcceptedAs x n k
accepted_as (refused m q) n k e = let z : ◌≡◌ {A = ℕ} 0 1 = cc in absurd (omega arith)
accepted_as (accepted es) n k e = record { entries = es; reads = refl; primitives = cc; doubles = cc }
