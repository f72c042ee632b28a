-- The line of a name that is given more than once.
use Rattle.std.specs.Prelude.{Bool, ◌&&◌, ◌||◌, cond, List, [], ◌++◌, ℕ, zero, suc, eqb, ltb}
use Rattle.buffer.specs.Decimal.{decimal}
use Rattle.fields.specs.Fields.{field, text_field}
use Rattle.laws.specs.Bytes.{Bytes, bytes}
use Rattle.scene.specs.Record.{line_in, name_in, record_in}

-- ---- `name=deskfront no=3 line=8 used=4 no=5 line=14 used=6,7`

-- record j has record d as its modifier or its alias target
unfoldable pub uses : (table : List ℕ) → (d j : ℕ) → Bool
uses T d j = eqb (record_in T j).modifier d || eqb (record_in T j).target d

-- the first of the records 1 to n that does, 0 for none
unfoldable pub first_user : (table : List ℕ) → (d n : ℕ) → ℕ
first_user T d zero = 0
first_user T d (suc n) = cond (eqb (first_user T d n) 0) (cond (uses T d (suc n)) (suc n) 0) (first_user T d n)

-- record j behind a comma, if it does and stands behind the first
unfoldable pub later_text : (table : List ℕ) → (d first j : ℕ) → Bytes
later_text T d k j = cond (ltb k j && uses T d j) (field "," j) []

unfoldable pub later_users : (table : List ℕ) → (d first n : ℕ) → Bytes
later_users T d k zero = []
later_users T d k (suc n) = later_users T d k n ++ later_text T d k (suc n)

unfoldable pub users_text : (table : List ℕ) → (d count : ℕ) → Bytes
users_text T d count = let first = first_user T d count in cond (eqb first 0) [] (decimal first ++ later_users T d first count)

unfoldable pub definition_text : (table : List ℕ) → (count d : ℕ) → Bytes
definition_text T count d = field " no=" d ++ field " line=" (line_in T d) ++ bytes " used=" ++ users_text T d count

-- a definition and those behind it, each the next of the one before it; so many at most
unfoldable pub definition_texts : (table : List ℕ) → (count left d : ℕ) → Bytes
definition_texts T count zero d = []
definition_texts T count (suc l) d = cond (eqb d 0) [] (definition_text T count d ++ definition_texts T count l (record_in T d).next)

-- from the first definition on
unfoldable pub name_line : Bytes → (table : List ℕ) → (count n : ℕ) → Bytes
name_line text T count n = text_field "name=" (name_in text T n) ++ definition_texts T count count n ++ bytes "\n"
