-- The finish walk: a chain of modifier links.
use Rattle.std.specs.Prelude.{cond, List, ℕ, zero, suc, eqb, ltb}
use Rattle.scene.specs.Types.{is_material, is_modifier}
use Rattle.finish.specs.Finish.{Finish, Reached, Refused}
use Rattle.table.specs.Question.{number_refusal}
use Rattle.table.specs.View.{View, view_of}

-- document 01's number, primitive and count of each answer: "Refusals name primitive 0"
pub record Numbers : Type 0 where
  pub reason : ℕ
  pub primitive : ℕ
  pub links : ℕ

abbrev pub numbers_of : Finish → Numbers
numbers_of (Reached p k) = record { reason = 0; primitive = p; links = k }
numbers_of (Refused r k) = record { reason = r; primitive = 0; links = k }

-- "At a link: 0 answers, then link order (18)": what the link of primitive n comes to, after k links; else what follows
abbrev pub at_link : (link n k : ℕ) → Finish → Finish
at_link zero n k further = Reached 0 k
at_link (suc m) n k further = cond (ltb (suc m) n) further (Refused 18 0)

-- "then the reached type (18)": primitive m of type t, reached by k links. "a finish walk that reaches a surface is 18"; a mixfunc is
-- passed through
abbrev pub at_type : (t m k : ℕ) → Finish → Finish
at_type t m k further = cond (is_modifier t) (cond (is_material t) (Reached m k) further) (Refused 18 0)

-- the chain from primitive n on, after k links, with `left` more allowed; "19: another link is needed and the allowance is used
-- up; the count is then the allowance"
unfoldable pub walk_from : View → (left k n : ℕ) → Finish
walk_from v zero k n = at_link (v n).modifier n k (Refused 19 k)
walk_from v (suc left) k n =
    let m = (v n).modifier in
    let further = walk_from v left (suc k) m in
    at_link m n k (at_type (v m).type m (suc k) further)

-- the finish walk from a primitive
unfoldable pub finish_of : List ℕ → (count number allowance : ℕ) → Finish
finish_of table count n allowance = let walk = walk_from (view_of table) allowance 0 n in cond (eqb (number_refusal table count n) 0) walk (Refused (number_refusal table count n) 0)
