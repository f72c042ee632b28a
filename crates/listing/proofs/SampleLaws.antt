-- The lines of a listing, as they are printed.
use mathlib.Core.List.{List, [], ◌∷◌}
use mathlib.Core.Path.{◌≡◌, refl}
use Prim.Native.Nat.{ℕ}
use Rattle.laws.specs.Bytes.{bytes}
use Rattle.buffer.specs.Decimal.{digits, decimal}
use Rattle.listing.specs.Listing.{head_lines, line_of, row_line}
use Rattle.buffer.specs.Put.{put}
use Rattle.scene.specs.Record.{field_in, name_in, record_in}
use Rattle.scene.specs.Types.{kind_of, type_name}
use Rattle.scene.specs.declared.Mode.{Mode}
use Rattle.scene.specs.declared.Mode.TheVariants.{New, Archive}

pub accepted : head_lines New (record { reason = 0; place = 0; primitives = 4; reals = 14 }) ≡ bytes "primitives=4 reals=14\n"
unfolding head_lines digits decimal
accepted = refl

pub archive : head_lines Archive (record { reason = 0; place = 0; primitives = 4; reals = 14 }) ≡ bytes "archive=1\nprimitives=4 reals=14\n"
unfolding head_lines digits decimal
archive = refl

pub refused : (mode : Mode) → head_lines mode (record { reason = 7; place = 0; primitives = 0; reals = 0 }) ≡ bytes "refused=7 place=0\n"
unfolding head_lines digits decimal
refused mode = refl

abbrev table : List ℕ
table = 15 ∷ 0 ∷ 0 ∷ 13 ∷ 4 ∷ 0 ∷ 0 ∷ 0 ∷ 5 ∷ 2 ∷ []

pub first : row_line (bytes "void plastic wall 0 0 5 .5 .5 .5 0 0") table 1 ≡ bytes "no=1 mod=0 alias=0 type=plastic name=wall next=2\n"
unfolding row_line record_in name_in field_in line_of type_name kind_of digits decimal
first = refl

-- a record that the table does not have
pub missing : row_line [] table 1024 ≡ bytes "no=1024 mod=0 alias=0 type= name= next=0\n"
unfolding row_line record_in name_in field_in line_of type_name kind_of digits decimal
missing = refl

-- a number of ten digits
pub largest : decimal 4294967295 ≡ bytes "4294967295"
unfolding digits decimal
largest = refl

-- a buffer that is too short
pub short : put (bytes "......") 2 (bytes "no=12") ≡ bytes "..no=1"
unfolding put
short = refl
