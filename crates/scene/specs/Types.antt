-- The 25 types: their numbers, names, and how many strings and reals each has.
use Rattle.std.specs.Prelude.{Bool, true, false, ◌&&◌, ◌||◌, cond, List, [], ◌∷◌, ℕ, zero, suc, ◌%◌, leb, eqb, get_or}
use Prim.Native.String.{String}
use Rattle.laws.specs.Bytes.{Bytes, bytes, same}
use Rattle.scene.specs.declared.Mode.{Mode}
use Rattle.scene.specs.declared.Mode.TheVariants.{New, Archive}

-- how many strings or reals a type has, as the table of document 01 says it
pub data Rule : Type 0 where
  exactly : ℕ → Rule
  or_more : ℕ → Rule
  either : ℕ → ℕ → Rule
  corners : Rule
  any : Rule

-- corners are "multiple of 3, at least 9"
abbrev pub allows : Rule → ℕ → Bool
allows (exactly n) k = eqb k n
allows (or_more n) k = leb n k
allows (either n m) k = eqb k n || eqb k m
allows corners k = leb 9 k && eqb (k % 3) 0
allows any k = true

pub record Kind : Type 0 where
  pub name : Bytes
  pub strings : Rule
  pub reals : Rule

abbrev kind : String → Rule → Rule → Kind
kind n s r = record { name = bytes n; strings = s; reals = r }

-- "Types, with their numbers": a type's number is its row, from 1
abbrev pub types : List Kind
types =
    kind "source" (exactly 0) (exactly 4)
    ∷ kind "sphere" (exactly 0) (exactly 4)
    ∷ kind "bubble" (exactly 0) (exactly 4)
    ∷ kind "polygon" (exactly 0) corners
    ∷ kind "cone" (exactly 0) (exactly 8)
    ∷ kind "cup" (exactly 0) (exactly 8)
    ∷ kind "cylinder" (exactly 0) (exactly 7)
    ∷ kind "tube" (exactly 0) (exactly 7)
    ∷ kind "ring" (exactly 0) (exactly 8)
    ∷ kind "light" (exactly 0) (exactly 3)
    ∷ kind "illum" (exactly 1) (exactly 3)
    ∷ kind "glow" (exactly 0) (exactly 4)
    ∷ kind "spotlight" (exactly 0) (exactly 7)
    ∷ kind "mirror" (exactly 1) (exactly 3)
    ∷ kind "plastic" (exactly 0) (exactly 5)
    ∷ kind "metal" (exactly 0) (exactly 5)
    ∷ kind "trans" (exactly 0) (exactly 7)
    ∷ kind "plastic2" (or_more 4) (exactly 6)
    ∷ kind "metal2" (or_more 4) (exactly 6)
    ∷ kind "trans2" (or_more 4) (exactly 8)
    ∷ kind "dielectric" (exactly 0) (exactly 5)
    ∷ kind "interface" (exactly 0) (exactly 8)
    ∷ kind "glass" (exactly 0) (either 3 4)
    ∷ kind "antimatter" (or_more 1) (exactly 0)
    ∷ kind "mixfunc" (or_more 4) any
    ∷ []

-- the number of the row with a name, 0 for none. The first row's number is n
unfoldable pub number_from : ℕ → Bytes → List Kind → ℕ
number_from n w [] = 0
number_from n w (t ∷ ts) = let later = number_from (suc n) w ts in cond (same w t.name) n later

unfoldable pub type_number : Bytes → ℕ
type_number w = number_from 1 w types

-- the row of a type's number; a number of no type has no name
abbrev pub no_type : Kind
no_type = record { name = []; strings = any; reals = any }

unfoldable pub kind_of : ℕ → Kind
kind_of zero = no_type
kind_of (suc t) = get_or types t no_type

-- the name of a type's number
unfoldable pub type_name : ℕ → Bytes
type_name t = (kind_of t).name

unfoldable pub strings_allowed : ℕ → ℕ → Bool
strings_allowed t k = allows (kind_of t).strings k

unfoldable pub reals_allowed : ℕ → ℕ → Bool
reals_allowed t k = allows (kind_of t).reals k

-- there are 25 types
abbrev pub is_type : ℕ → Bool
is_type t = leb 1 t && leb t 25

-- "1 to 9 are surfaces, 10 to 24 materials"
abbrev pub is_surface : ℕ → Bool
is_surface t = leb 1 t && leb t 9

abbrev pub is_material : ℕ → Bool
is_material t = leb 10 t && leb t 24

-- "primitives [are divided] into surfaces and modifiers", of which "only types 10 to 25 may be looked up"
abbrev pub is_modifier : ℕ → Bool
is_modifier t = leb 10 t && leb t 25

-- "new scenes with [antimatter] are refused"; "an archive reading, chosen by the caller, accepts it as before"
abbrev pub is_retired : Mode → ℕ → Bool
is_retired New t = eqb t (type_number (bytes "antimatter"))
is_retired Archive t = false
