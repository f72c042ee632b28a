-- The index and the plain search see only names and which are entered, of the first n.
use mathlib.Core.Bool.{true, false, cond, ◌&&◌, ◌||◌}
use mathlib.Core.List.{List}
use mathlib.Core.Path.{◌≡◌, refl, ap, sym, ◌∙◌}
use Prim.Native.Nat.{ℕ, zero, suc, ◌≤◌, ◌<◌}
use native.Mathlib.Omega.{arith}
use lib.Dec.{eqb}
use lib.ListN.{get_or, set}
use Rattle.laws.specs.Bytes.{Bytes, same}
use Rattle.index.specs.Index.{place, seek, stops, passed, searched, entered, Primitives, index_by}
use Rattle.index.specs.Searches.{Alike, latest_of}
use Rattle.index.proofs.IndexLaws.{index_low}

pub fewer : {p p' : Primitives} (n : ℕ) → Alike p p' (suc n) → Alike p p' n
fewer n a = record { name = λ k l m. a.name k l (omega arith); gives = λ k l m. a.gives k l (omega arith) }

pub alike_latest : (p p' : Primitives) (w : Bytes) (n : ℕ) → Alike p p' n → latest_of p w n ≡ latest_of p' w n
unfolding latest_of
alike_latest p p' w zero a = refl
alike_latest p p' w (suc n) a = λ i. cond (a.gives (suc n) (omega arith) (omega arith) i && same w (a.name (suc n) (omega arith) (omega arith) i)) (suc n) (alike_latest p p' w n (fewer n a) i)

alike_stops : (p p' : Primitives) (w : Bytes) (n : ℕ) → Alike p p' n → (v : ℕ) → v ≤ n → stops p.name w v ≡ stops p'.name w v
unfolding stops
alike_stops p p' w n a zero l = refl
alike_stops p p' w n a (suc v) l = λ i. eqb (suc v) 0 || same w (a.name (suc v) (omega arith) l i)

alike_passed : (p p' : Primitives) (w : Bytes) (n : ℕ) → Alike p p' n → (x : List ℕ) → ((q : ℕ) → get_or x q 0 ≤ n) → passed x p.name w ≡ passed x p'.name w
unfolding passed
alike_passed p p' w n a x h = λ i. seek (λ k. alike_stops p p' w n a (get_or x (place w k) 0) (h (place w k)) i) 2047 0

-- a search finds alike
pub alike_searched : (p p' : Primitives) (w : Bytes) (n : ℕ) → Alike p p' n → (x : List ℕ) → ((q : ℕ) → get_or x q 0 ≤ n) → searched x p.name w ≡ searched x p'.name w
alike_searched p p' w n a x h =
    let q = alike_passed p p' w n a x h in
    λ i. record { entry = place w (q i); number = get_or x (place w (q i)) 0; looked = suc (q i) }

alike_entered : (p p' : Primitives) (w : Bytes) (n m : ℕ) → Alike p p' n → (x : List ℕ) → ((q : ℕ) → get_or x q 0 ≤ n) → entered x p.name w m ≡ entered x p'.name w m
alike_entered p p' w n m a x h = ap (λ (k : ℕ). set x (place w k) m) (alike_passed p p' w n a x h)

-- and so is the index
pub alike_index : (p p' : Primitives) (n : ℕ) → n ≤ 2048 → Alike p p' n → index_by p n ≡ index_by p' n
unfolding index_by
alike_index p p' zero l a = refl
alike_index p p' (suc n) l a =
    let e = alike_index p p' n (omega arith) (fewer n a) in
    let s = alike_entered p p' (p.name (suc n)) n (suc n) (fewer n a) (index_by p n) (index_low p n (omega arith)) in
    (λ i. cond (a.gives (suc n) (omega arith) (omega arith) i) (s i) (index_by p n)) ∙ (λ i. cond (p'.gives (suc n)) (entered (e i) p'.name (a.name (suc n) (omega arith) (omega arith) i) (suc n)) (e i))

-- ---- one more, in a table where the first n are as they were

module _ (p p' : Primitives) (n : ℕ) (l : n < 2048) (a : Alike p p' n) where
  -- entering a non-surface keeps the image
  pub index_enters : (w : Bytes) → p'.gives (suc n) ≡ true → p'.name (suc n) ≡ w → entered (index_by p n) p.name w (suc n) ≡ index_by p' (suc n)
  unfolding index_by
  index_enters w g e =
      alike_entered p p' w n (suc n) a (index_by p n) (index_low p n (omega arith))
      ∙ (λ i. entered (alike_index p p' n (omega arith) a i) p'.name (sym e i) (suc n))
      ∙ (λ i. cond (sym g i) (entered (index_by p' n) p'.name (p'.name (suc n)) (suc n)) (index_by p' n))

  -- and a surface leaves it
  pub index_skips : p'.gives (suc n) ≡ false → index_by p n ≡ index_by p' (suc n)
  unfolding index_by
  index_skips g =
      alike_index p p' n (omega arith) a
      ∙ (λ i. cond (sym g i) (entered (index_by p' n) p'.name (p'.name (suc n)) (suc n)) (index_by p' n))
