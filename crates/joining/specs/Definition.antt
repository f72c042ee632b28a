-- The definitions of a scene by their names, and when two are equal.
use Rattle.std.specs.Prelude.{Bool, true, false, not, ◌&&◌, cond, List, [], ◌∷◌, eqb}
use Rattle.std.proofs.Math.Option.{Option, none, some}
use Rattle.bits.specs.Bits.{same_reals}
use Rattle.content.specs.Content.{same_words}
use Rattle.laws.specs.Bytes.{Bytes, same}
use Rattle.scene.specs.Statement.{Body, Statement, alias, numbers, primitive}

-- the statement of a name, surfaces counted; the latest of several
unfoldable pub named : Bytes → List Statement → Option Statement
named w [] = none
named w (s ∷ d) = cond (same w s.name) (some s) (named w d)

abbrev pub stands : Option Statement → Bool
stands none = false
stands (some s) = true

-- "Only names that stand once in each scene, surfaces counted, are handled": 29 else
unfoldable pub names_once : List Statement → Bool
names_once [] = true
names_once (s ∷ d) = not (stands (named s.name d)) && names_once d

-- ---- "two are equal as in L1 with modifiers and targets by name, an alias by these alone"

-- type, strings and the bits of the reals
unfoldable pub same_body : Body → Body → Bool
same_body (primitive t ss rs) (primitive u vs ws) = eqb t u && same_words ss vs && same_reals (numbers rs) (numbers ws)
same_body (primitive t ss rs) (alias y) = false
same_body (alias x) (primitive u vs ws) = false
same_body (alias x) (alias y) = same x y

-- "absent counts as a definition"
unfoldable pub same_definition : Option Statement → Option Statement → Bool
same_definition none none = true
same_definition none (some t) = false
same_definition (some s) none = false
same_definition (some s) (some t) = same s.modifier t.modifier && same_body s.body t.body
