-- Which records keep their order, by numbers that stand for names.
use Rattle.std.specs.Prelude.{Bool, ◌&&◌, ◌||◌, cond, List, [], ◌∷◌, ◌++◌, ℕ, zero, suc, eqb}
use Rattle.laws.specs.Bytes.{Bytes, same}
use Rattle.scene.specs.Record.{name_in, record_in}
use Rattle.scene.specs.Types.{is_modifier}
use Rattle.table.specs.Number.{number_in}

-- the first of the records 1 to m that has a name, 0 for none
unfoldable pub first_of : Bytes → (table : List ℕ) → Bytes → (m : ℕ) → ℕ
first_of text T w zero = 0
first_of text T w (suc m) = cond (eqb (first_of text T w m) 0) (cond (same (name_in text T (suc m)) w) (suc m) 0) (first_of text T w m)

-- the first record that has the name of record n
unfoldable pub class_of : Bytes → (table : List ℕ) → (n : ℕ) → ℕ
class_of text T n = first_of text T (name_in text T n) n

-- the classes of records 1 to n
unfoldable pub classes_to : Bytes → (table : List ℕ) → (n : ℕ) → List ℕ
classes_to text T zero = []
classes_to text T (suc n) = classes_to text T n ++ class_of text T (suc n) ∷ []

unfoldable pub gives_in : (table : List ℕ) → ℕ → Bool
gives_in T n = is_modifier (record_in T n).type

unfoldable pub refers_in : (table classes : List ℕ) → (n class : ℕ) → Bool
refers_in T C n k = eqb (number_in C (record_in T n).modifier) k || eqb (number_in C (record_in T n).target) k

-- i gives a name that j gives or refers to
unfoldable pub gives_to : (table classes : List ℕ) → (i j : ℕ) → Bool
gives_to T C i j = gives_in T i && (gives_in T j && eqb (number_in C i) (number_in C j) || refers_in T C j (number_in C i))

-- one gives a name that the other gives or refers to
unfoldable pub bound_rows : (table classes : List ℕ) → (i j : ℕ) → Bool
bound_rows T C i j = gives_to T C i j || gives_to T C j i

-- or they have one name
unfoldable pub held_rows : (table classes : List ℕ) → (i j : ℕ) → Bool
held_rows T C i j = eqb (number_in C i) (number_in C j) || bound_rows T C i j
