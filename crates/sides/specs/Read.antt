-- What a text means: its statements, and every mixture resolved. "Refusals, after all earlier ones": 25 and 26.
use Rattle.std.specs.Prelude.{Bool, cond, not, ◌||◌, List, [], ◌∷◌, ℕ, zero, suc, eqb, get_or, length}
use Rattle.std.proofs.Math.Option.{Option, none, some}
use Rattle.graph.specs.Answers.{lowest_loop}
use Rattle.graph.specs.Graph.{mixture_type}
use Rattle.laws.specs.Bytes.{Bytes, same}
use Rattle.lexer.specs.Word.{word_at, word_end}
use Rattle.scene.specs.Links.{latest}
use Rattle.scene.specs.Reading.{Entry, Places, Reading, accepted, read_statements, refused, statements}
use Rattle.scene.specs.Record.{nth, records}
use Rattle.scene.specs.Statement.{Body, Statement, alias, primitive, void}
use Rattle.scene.specs.declared.Settings.{Settings}
use Rattle.sides.specs.Sides.{scene_graph}

-- ---- "25 name not defined, at the first such word"

-- a name that a mixture may have for a side
unfoldable pub is_known : Bytes → (whole : List Statement) → Bool
is_known w D = same w void || not (eqb (latest w D) 0)

-- the place of the first side of a mixture that is not known: the first string's, or that of the next word
abbrev pub unknown_in : (text : Bytes) (whole : List Statement) → Places → Body → Option ℕ
unknown_in text D k (primitive t ss rs) =
    let second = (word_at text (word_end text k.string)).place in
    cond (eqb t mixture_type) (cond (is_known (get_or ss 0 void) D) (cond (is_known (get_or ss 1 void) D) none (some second)) (some k.string)) none
unknown_in text D k (alias x) = none

abbrev pub or_first : Option ℕ → Option ℕ → Option ℕ
or_first none y = y
or_first (some p) y = some p

-- entries stand latest first
unfoldable pub first_unknown : (text : Bytes) (whole : List Statement) → List Entry → Option ℕ
first_unknown text D [] = none
first_unknown text D (e ∷ es) = or_first (first_unknown text D es) (unknown_in text D e.places e.statement.body)

-- ---- "26 loop, only where there is no 25, at the name of its lowest-numbered primitive, the lowest over all loops"

abbrev pub settled : List Entry → (unknown : Option ℕ) (loop : ℕ) → Reading
settled es (some p) n = refused 25 p
settled es none zero = accepted es
settled es none (suc n) = refused 26 (nth (records es) (suc n)).name

-- ---- the reading

abbrev pub mixed : Bytes → Reading → Reading
mixed text (refused n p) = refused n p
mixed text (accepted es) = settled es (first_unknown text (statements es) es) (lowest_loop (scene_graph (statements es)) (length es))

unfoldable pub read : Settings → Bytes → Reading
read r text = mixed text (read_statements r text)
