-- The order of what is taken of two hands' scenes, by numbers. A mark says what becomes of a number: 0 it is dropped, 1 it waits, 2 it
-- has its place and gives its name, 3 it has its place and is a surface.
use Rattle.std.specs.Prelude.{Bool, true, false, ◌&&◌, cond, List, [], ◌∷◌, ◌++◌, ℕ, zero, suc, ◌-◌, eqb, length, set}
use Rattle.std.proofs.Math.Option.{Option, none, some}
use Rattle.keys.specs.Key.{lower}
use Rattle.laws.specs.Bytes.{Bytes}
use Rattle.scene.specs.Types.{is_surface}
use Rattle.table.specs.Number.{number_in}

-- what the order goes by: names, the numbers that links lead to (1 the modifier, 2 the target), the number of the same name in the
-- other hand, and types
pub record Both : Type 0 where
  pub name : ℕ → Bytes
  pub link : (k n : ℕ) → ℕ
  pub other : ℕ → ℕ
  pub type : ℕ → ℕ

-- whether the definition that is taken of number n's name stands: the other hand's, or else n; 0 is no name
unfoldable pub standing : (ℕ → ℕ) → (marks : List ℕ) (n : ℕ) → Bool
standing other marks n =
    let there = number_in marks (other n) in
    cond (eqb n 0) true (cond (eqb there 0) (eqb (number_in marks n) 2) (eqb there 2))

-- it is still to come, and all that it needs stands
unfoldable pub comes : (link : ℕ → ℕ → ℕ) (other : ℕ → ℕ) (marks : List ℕ) (n : ℕ) → Bool
comes link other marks n = eqb (number_in marks n) 1 && standing other marks (link 1 n) && standing other marks (link 2 n)

-- of the best so far, 0 for none, and number n the one with the lesser name
unfoldable pub lesser_of : (ℕ → Bytes) → (best n : ℕ) → ℕ
lesser_of name best n = cond (eqb best 0) n (cond (lower (name best) (name n)) best n)

abbrev pub placed_mark : (type : ℕ) → ℕ
placed_mark t = cond (is_surface t) 3 2

module _ (v : Both) where
  -- of the first n the least that comes
  unfoldable pub least_to : (marks : List ℕ) (n : ℕ) → ℕ
  least_to marks zero = 0
  least_to marks (suc n) = cond (comes v.link v.other marks (suc n)) (lesser_of v.name (least_to marks n) (suc n)) (least_to marks n)

  -- so many more behind those that have their places
  unfoldable pub order_from : (count : ℕ) (marks done : List ℕ) → Option (List ℕ)
  order_from zero marks done = some done
  order_from (suc k) marks done =
      let n = least_to marks (length marks) in
      cond (eqb n 0) none (order_from k (set marks (n - 1) (placed_mark (v.type n))) (done ++ n ∷ []))

-- the answer with the table that holds the order
abbrev pub ordered : Bool → List ℕ → Option (List ℕ)
ordered true order = some order
ordered false order = none
