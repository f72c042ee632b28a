-- The table record by record: one number of it, a next that is set, and a record read from it.
use mathlib.Core.List.{List, [], ◌∷◌, ◌++◌}
use mathlib.Core.Logic.{◌⊎◌, inl, inr}
use mathlib.Core.Path.{sym, ◌≡◌, refl, ap, ◌∙◌}
use Prim.Native.Nat.{◌-◌, ◌≤◌, ℕ, zero, suc, ◌+◌, ◌*◌, ◌<◌}
use native.Mathlib.Omega.{arith}
use lib.Dec.{lit<}
use lib.ListN.{length, set, get_or, get_or-append, get_or-eq_default}
use lib.Seq.{get_or-append-add}
use Rattle.laws.proofs.ListLaws.{set_append_add}
use Rattle.laws.proofs.NatLaws.{le_or_lt}
use Rattle.laws.proofs.TableLaws.{padded}
use Rattle.laws.specs.Bytes.{Bytes}
use Rattle.scene.specs.Record.{record_in, field_in, nth, filled, Record, fields, nothing, width, flat, next_field, line_at, line_field, line_in}

-- a record with its next set
abbrev pub with_next : Record → ℕ → Record
with_next r n = record { type = r.type; modifier = r.modifier; target = r.target; name = r.name; name_length = r.name_length; string = r.string; strings = r.strings; real = r.real; reals = r.reals; next = n }

-- record number m gets v as its next; 0 is none
abbrev pub link : List Record → ℕ → ℕ → List Record
link rs zero v = rs
link rs (suc k) v = set rs k (with_next (get_or rs k nothing) v)

pub flat_length : (text : Bytes) (rs : List Record) → length (flat text rs) ≡ width * length rs
unfolding flat
flat_length text [] = refl
flat_length text (r ∷ rs) = let h = flat_length text rs in omega arith

-- number j of record k, both from 0
flat_at : (text : Bytes) (rs : List Record) (k j : ℕ) → k < length rs → j < width → get_or (flat text rs) (k * width + j) 0 ≡ get_or (fields text (get_or rs k nothing)) j 0
unfolding flat
flat_at text [] k j h l = absurd (omega arith)
flat_at text (r ∷ rs) zero j h l = let e : 0 * width + j ≡ j = omega arith in ap (λ n. get_or (fields text r ++ flat text rs) n 0) e ∙ get_or-append (fields text r) (flat text rs) 0 j l
flat_at text (r ∷ rs) (suc k) j h l = let e : suc k * width + j ≡ width + (k * width + j) = omega arith in ap (λ n. get_or (fields text r ++ flat text rs) n 0) e ∙ get_or-append-add (fields text r) (flat text rs) (k * width + j) 0 ∙ flat_at text rs k j (omega arith) l

pub flat_next : (text : Bytes) (rs : List Record) (k v : ℕ) → k < length rs → set (flat text rs) (k * width + next_field) v ≡ flat text (link rs (suc k) v)
unfolding flat
flat_next text [] k v h = absurd (omega arith)
flat_next text (r ∷ rs) zero v h = refl
flat_next text (r ∷ rs) (suc k) v h =
    let e : suc k * width + next_field ≡ width + (k * width + next_field) = omega arith in
    ap (λ n. set (fields text r ++ flat text rs) n v) e ∙ set_append_add (fields text r) (flat text rs) (k * width + next_field) v ∙ ap {B = List ℕ} (λ (z : List ℕ). fields text r ++ z) (flat_next text rs k v (omega arith))

pub flat_snoc : (text : Bytes) (rs : List Record) (r : Record) → flat text (rs ++ r ∷ []) ≡ flat text rs ++ fields text r
unfolding flat
flat_snoc text [] r = refl
flat_snoc text (q ∷ rs) r = ap {B = List ℕ} (λ (z : List ℕ). fields text q ++ z) (flat_snoc text rs r)

-- ---- a record read from the table

-- number j of record k, also where there is no such record
flat_any : (text : Bytes) (rs : List Record) (k j : ℕ) → j < width → get_or (fields text nothing) j 0 ≡ 0 → get_or (flat text rs) (k * width + j) 0 ≡ get_or (fields text (get_or rs k nothing)) j 0
flat_any text rs k j l z = go (le_or_lt (length rs) k)
  where
    go : (length rs ≤ k) ⊎ (k < length rs) → get_or (flat text rs) (k * width + j) 0 ≡ get_or (fields text (get_or rs k nothing)) j 0
    go (inl h) =
        let beyond : length (flat text rs) ≤ k * width + j = omega (arith, flat_length text rs) in
        get_or-eq_default (flat text rs) 0 beyond ∙ sym z ∙ ap (λ (r : Record). get_or (fields text r) j 0) (sym (get_or-eq_default rs nothing h))
    go (inr h) = flat_at text rs k j h l

-- the table as it is read is the records
pub record_in_lem : (text : Bytes) (rs : List Record) (m n : ℕ) → record_in (filled 0 m (flat text rs)) n ≡ nth rs n
unfolding record_in field_in nth
record_in_lem text rs m zero = refl
record_in_lem text rs m (suc n) = λ i. record { type = cell 0 (lit< tt) refl i; modifier = cell 1 (lit< tt) refl i; target = cell 2 (lit< tt) refl i; name = cell 3 (lit< tt) refl i; name_length = cell 4 (lit< tt) refl i; string = cell 5 (lit< tt) refl i; strings = cell 6 (lit< tt) refl i; real = cell 7 (lit< tt) refl i; reals = cell 8 (lit< tt) refl i; next = cell 9 (lit< tt) refl i }
  where
    cell : (j : ℕ) → j < width → get_or (fields text nothing) j 0 ≡ 0 → get_or (filled 0 m (flat text rs)) (n * width + j) 0 ≡ get_or (fields text (get_or rs n nothing)) j 0
    cell j l z = padded 0 (flat text rs) (m - length (flat text rs)) (n * width + j) ∙ flat_any text rs n j l z

-- and so is the line of each record
pub line_in_lem : (text : Bytes) (rs : List Record) (m n : ℕ) → n < length rs → line_in (filled 0 m (flat text rs)) (suc n) ≡ line_at text (nth rs (suc n)).name
unfolding field_in nth
line_in_lem text rs m n h = padded 0 (flat text rs) (m - length (flat text rs)) (n * width + line_field) ∙ flat_at text rs n line_field h (lit< tt)
