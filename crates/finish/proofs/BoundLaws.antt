-- How many links a walk follows: no more than the allowance, and fewer than the start's number, as each leads to a lower one.
use mathlib.Core.Bool.{Bool, true, false, cond}
use mathlib.Core.List.{List}
use mathlib.Core.Path.{◌≡◌, refl}
use Prim.Native.Nat.{ℕ, zero, suc, ◌+◌, ◌-◌, ◌≤◌, ◌<◌}
use native.Mathlib.Omega.{arith}
use borrow.Author.Tests.{ltb-true}
use lib.Dec.{eqb, ltb}
use Rattle.table.specs.Question.{number_refusal}
use Rattle.table.specs.View.{View, view_of}
use Rattle.finish.specs.Walk.{at_link, at_type, walk_from, finish_of}
use Rattle.finish.specs.Finish.{Finish, Reached, Refused}
use Rattle.scene.specs.Types.{is_material, is_modifier}

-- the count of links of either answer
abbrev pub links_of : Finish → ℕ
links_of (Reached p k) = k
links_of (Refused r k) = k

-- a bound of what a link comes to, where it holds of what follows
at_link_lem : (b link n k : ℕ) (f : Finish) → k ≤ b → (0 < link → link < n → links_of f ≤ b) → links_of (at_link link n k f) ≤ b
at_link_lem b zero n k f h g = h
at_link_lem b (suc m) n k f h g = go (ltb (suc m) n) refl
  where
    go : (c : Bool) → ltb (suc m) n ≡ c → links_of (cond c f (Refused 18 0)) ≤ b
    go true e = g (omega arith) (ltb-true (suc m) n e)
    go false e = omega arith

at_type_lem : (b t m k : ℕ) (f : Finish) → k ≤ b → links_of f ≤ b → links_of (at_type t m k f) ≤ b
at_type_lem b t m k f h g = go (is_modifier t) (is_material t)
  where
    go : (c d : Bool) → links_of (cond c (cond d (Reached m k) f) (Refused 18 0)) ≤ b
    go true true = h
    go true false = g
    go false d = omega arith

pub bounded : (v : View) (left k n : ℕ) → links_of (walk_from v left k n) ≤ k + (n - 1)
unfolding walk_from
bounded v zero k n = at_link_lem (k + (n - 1)) (v n).modifier n k (Refused 19 k) (omega arith) (λ a b. omega arith)
bounded v (suc left) k n =
    let m = (v n).modifier in
    let ih = bounded v left (suc k) m in
    at_link_lem (k + (n - 1)) m n k (at_type (v m).type m (suc k) (walk_from v left (suc k) m)) (omega arith)
    (λ a b. at_type_lem (k + (n - 1)) (v m).type m (suc k) (walk_from v left (suc k) m) (omega arith) (omega arith))

pub allowed : (v : View) (left k n : ℕ) → links_of (walk_from v left k n) ≤ k + left
unfolding walk_from
allowed v zero k n = at_link_lem (k + 0) (v n).modifier n k (Refused 19 k) (omega arith) (λ a b. omega arith)
allowed v (suc left) k n =
    let m = (v n).modifier in
    let ih = allowed v left (suc k) m in
    at_link_lem (k + suc left) m n k (at_type (v m).type m (suc k) (walk_from v left (suc k) m)) (omega arith)
    (λ a b. at_type_lem (k + suc left) (v m).type m (suc k) (walk_from v left (suc k) m) (omega arith) (omega arith))

-- a refused question follows none
refusal_bound : (b a : ℕ) (f : Finish) → links_of f ≤ b → links_of (cond (eqb a 0) f (Refused a 0)) ≤ b
refusal_bound b a f h = go (eqb a 0)
  where
    go : (c : Bool) → links_of (cond c f (Refused a 0)) ≤ b
    go true = h
    go false = omega arith

-- "That count never exceeds the start's number less 1"
pub finish_bounded : (table : List ℕ) (count n allowance : ℕ) → links_of (finish_of table count n allowance) ≤ n - 1
unfolding finish_of
finish_bounded table count n allowance = refusal_bound (n - 1) (number_refusal table count n) (walk_from (view_of table) allowance 0 n) (let h = bounded (view_of table) allowance 0 n in omega arith)

-- nor the allowance
pub finish_allowed : (table : List ℕ) (count n allowance : ℕ) → links_of (finish_of table count n allowance) ≤ allowance
unfolding finish_of
finish_allowed table count n allowance = refusal_bound allowance (number_refusal table count n) (walk_from (view_of table) allowance 0 n) (let h = allowed (view_of table) allowance 0 n in omega arith)
