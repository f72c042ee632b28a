-- The list call: every material that a primitive may show, from two tables that may hold anything.
use Rattle.std.specs.Prelude.{Bool, true, cond, not, ◌&&◌, ◌||◌, List, ℕ, zero, suc, ◌*◌, eqb, leb, ltb, length, replicate}
use Rattle.graph.specs.Answers.{lowest_loop, shown_in}
use Rattle.graph.specs.Graph.{Graph, graph_of, mixture_type}
use Rattle.scene.specs.Record.{filled}
use Rattle.scene.specs.Types.{is_surface, is_type}
use Rattle.shown.specs.Shown.{Shown, Listed, Refused}
use Rattle.table.specs.Question.{number_refusal}
use Rattle.table.specs.View.{View}

-- "link to a surface"
unfoldable pub link_fits : View → (m : ℕ) → Bool
link_fits v m = eqb m 0 || not (is_surface (v m).type)

-- "side above the count or on a non-mixture"
unfoldable pub side_fits : View → (count n m : ℕ) → Bool
side_fits v count n m = eqb m 0 || (leb m count && eqb (v n).type mixture_type && not (is_surface (v m).type))

-- "any modifier link not below its primitive", "type outside 1 to 25"
unfoldable pub primitive_fits : Graph → (count n : ℕ) → Bool
primitive_fits g count n =
    is_type (g.nodes n).type
    && ltb (g.nodes n).modifier n
    && link_fits g.nodes (g.nodes n).modifier
    && side_fits g.nodes count n (g.sides n).foreground
    && side_fits g.nodes count n (g.sides n).background

-- each of 1 to k passes
unfoldable pub every : (ℕ → Bool) → ℕ → Bool
every test zero = true
every test (suc k) = every test k && test (suc k)

-- "or loop in the table"
abbrev pub table_fits : Graph → (count : ℕ) → Bool
table_fits g count = every (primitive_fits g count) count && eqb (lowest_loop g count) 0

-- "tests count (both tables) and number as 01 does"
unfoldable pub pair_refusal : (records pairs : List ℕ) (count number : ℕ) → ℕ
pair_refusal records pairs count n = cond (leb (count * 2) (length pairs)) (number_refusal records count n) 18

-- "then 18 for any [of those]; then 23 for a short list"
unfoldable pub fit_refusal : Graph → (count number room : ℕ) → ℕ
fit_refusal g count n room = cond (table_fits g count) (cond (leb (length (shown_in g count n)) room) 0 23) 18

-- how many there are, or why not
unfoldable pub fit_answer : Graph → (count number room : ℕ) → Shown
fit_answer g count n room = cond (eqb (fit_refusal g count n room) 0) (Listed (length (shown_in g count n))) (Refused (fit_refusal g count n room))

-- "in a lent list, zeros after"; "All zero the list"
unfoldable pub fit_list : Graph → (count number room : ℕ) → List ℕ
fit_list g count n room = cond (eqb (fit_refusal g count n room) 0) (filled 0 room (shown_in g count n)) (replicate room 0)

unfoldable pub shown_answer : (records pairs : List ℕ) (count number room : ℕ) → Shown
shown_answer records pairs count n room =
    let reason = pair_refusal records pairs count n in
    cond (eqb reason 0) (fit_answer (graph_of records pairs) count n room) (Refused reason)

unfoldable pub shown_list : (records pairs : List ℕ) (count number room : ℕ) → List ℕ
shown_list records pairs count n room =
    let reason = pair_refusal records pairs count n in
    cond (eqb reason 0) (fit_list (graph_of records pairs) count n room) (replicate room 0)
