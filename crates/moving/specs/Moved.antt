-- "Three-real glass means index 1.52. Move old scenes to four reals by writing `1.52` in tidy form, and back by dropping a fourth real
-- spelled exactly so; other glass stays."
use Rattle.std.specs.Prelude.{Bool, true, false, not, cond, ◌&&◌, List, [], ◌∷◌, ◌++◌, map, ℕ, eqb, get_or, length, take}
use Rattle.std.specs.Float.{binary64}
use Rattle.std.specs.Float.Ieee.{round}
use Rattle.laws.specs.Bytes.{bytes, same}
use Rattle.moving.specs.declared.Direction.{Direction}
use Rattle.moving.specs.declared.Direction.TheVariants.{Back, Forth}
use Rattle.scene.specs.Statement.{Body, Literal, Statement, alias, literal, numeral_words, primitive}
use Rattle.scene.specs.Types.{type_number}

abbrev pub glass : ℕ
glass = type_number (bytes "glass")

-- the fourth real that three reals stand for
abbrev pub index : Literal
index = literal (bytes "1.52") (round binary64 false 152 100)

-- whether a fourth real is spelled exactly so: neither `1.520` nor `1.5` is
unfoldable pub is_spelled : List Literal → Bool
is_spelled rs = eqb (length rs) 4 && same (get_or (numeral_words rs) 3 []) index.word

unfoldable pub moved_reals : Direction → List Literal → List Literal
moved_reals Forth rs = cond (eqb (length rs) 3) (rs ++ index ∷ []) rs
moved_reals Back rs = cond (is_spelled rs) (take 3 rs) rs

-- an alias has no reals of its own, and stays as it is written
abbrev pub moved_body : Direction → Body → Body
moved_body m (primitive t ss rs) = primitive t ss (cond (eqb t glass) (moved_reals m rs) rs)
moved_body m (alias x) = alias x

abbrev pub moved_statement : Direction → Statement → Statement
moved_statement m s = record { modifier = s.modifier; name = s.name; body = moved_body m s.body }

abbrev pub moved : Direction → List Statement → List Statement
moved m D = map (moved_statement m) D

-- ---- which scenes come back as they were

abbrev pub spelled_body : Body → Bool
spelled_body (primitive t ss rs) = eqb t glass && is_spelled rs
spelled_body (alias x) = false

-- "where it had no such four-real glass"
unfoldable pub none_spelled : List Statement → Bool
none_spelled [] = true
none_spelled (s ∷ d) = not (spelled_body s.body) && none_spelled d
