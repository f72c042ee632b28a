-- A larger least distance never turns a miss into a hit.
use mathlib.Core.Bool.{Bool, true, false, not, cond, ◌&&◌, false≢true}
use mathlib.Core.List.{List, [], ◌∷◌}
use mathlib.Core.Path.{◌≡◌, refl, ap, sym, ◌∙◌, subst}
use lib.Ieee.{Float, le}
use lib.Ieee.Scale.{finite}
use Rattle.steps.proofs.OrderLaws.{le_lt, zero_le}
use Rattle.steps.specs.Step.{+0}
use Rattle.hits.specs.Ahead.{ahead}
use Rattle.hits.specs.Larger.{LargerLaw}
use Rattle.hits.specs.Outcome.{Outcome, hit, miss, refused}
use Rattle.hits.specs.Shape.{Candidate, Meets, at, fails, first_ahead, hit_above, hit_of, or_else}

-- ---- what a miss tells

abbrev Missed : Outcome → Type 0
Missed (hit t) = ⊥
Missed miss = Unit
Missed (refused n) = ⊥

missed : (o : Outcome) → o ≡ miss → Missed o
missed o e = subst Missed (sym e) tt

both_missed : (o p : Outcome) → or_else o p ≡ miss → (o ≡ miss) × (p ≡ miss)
both_missed (hit t) p e = absurd (missed (hit t) e)
both_missed miss p e = (refl, e)
both_missed (refused n) p e = absurd (missed (refused n) e)

-- inputs that pass their tests
record Passed (a b : Bool) (o : Outcome) : Type 0 where
  finites : a ≡ true
  ranges : b ≡ true
  later : o ≡ miss

passed : (a b : Bool) (o : Outcome) → cond (not a) (refused 20) (cond (not b) (refused 21) o) ≡ miss → Passed a b o
passed true true o e = record { finites = refl; ranges = refl; later = e }
passed true false o e = absurd (missed (refused 21) e)
passed false b o e = absurd (missed (refused 20) e)

-- the test with another second half
halves : (a b : Bool) → (a && b) ≡ true → (a ≡ true) × (b ≡ true)
halves true b e = (refl, e)
halves false b e = absurd (false≢true e)

-- ---- candidates

module _ (l m : Float) (h : le l m ≡ true) where
  further : (t : Float) → ahead m t ≡ true → ahead l t ≡ true
  unfolding ahead
  further t k = le_lt l m t h k

  candidates_miss : (cs : List Candidate) → first_ahead l cs ≡ miss → first_ahead m cs ≡ miss
  unfolding first_ahead
  candidates_miss [] e = refl
  candidates_miss (c ∷ cs) e = go (ahead l c.distance) (ahead m c.distance) (further c.distance) e (candidates_miss cs)
    where
      go : (a b : Bool) → (b ≡ true → a ≡ true) → cond a (or_else c.there (first_ahead l cs)) (first_ahead l cs) ≡ miss → (first_ahead l cs ≡ miss → first_ahead m cs ≡ miss) → cond b (or_else c.there (first_ahead m cs)) (first_ahead m cs) ≡ miss
      go true true f e ih = let w = both_missed c.there (first_ahead l cs) e in ap (λ (o : Outcome). or_else o (first_ahead m cs)) w.0 ∙ ih w.1
      go true false f e ih = ih (both_missed c.there (first_ahead l cs) e).1
      go false true f e ih = absurd (false≢true (f refl))
      go false false f e ih = ih e

  meets_miss : (x : Meets) → hit_of l x ≡ miss → hit_of m x ≡ miss
  meets_miss (at cs) e = candidates_miss cs e
  meets_miss (fails n) e = absurd (missed (refused n) e)

-- ---- shapes

pub larger : LargerLaw
unfolding hit_above
larger s l m h e =
    let p = passed (s.all_finite && finite l) (s.in_range && le +0 l) (hit_of l s.meets) e in
    let f = halves s.all_finite (finite l) p.finites in
    let r = halves s.in_range (le +0 l) p.ranges in
    rw (f.0, r.0, zero_le l m r.1 h, meets_miss l m h s.meets p.later) (go (finite m))
  where
    go : (b : Bool) → cond (not b) (refused 20) miss ≡ cond b miss (refused 20)
    go true = refl
    go false = refl
