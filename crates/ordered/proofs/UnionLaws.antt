-- The keys of two orders merged are the keys of both scenes.
use mathlib.Core.Bool.{Bool, true, false, cond, ◌||◌, or_assoc, or-true, false≢true}
use mathlib.Core.List.{List, [], ◌∷◌}
use mathlib.Core.Path.{◌≡◌, refl, ap, sym, ◌∙◌, subst}
use Rattle.keys.proofs.KeyLaws.{ahead_absent, increasing_same, keys_increasing, keys_stand}
use Rattle.keys.proofs.OrderLaws.{before_one, key_same, same_key_lem}
use Rattle.keys.specs.Key.{Key, same_key, before, found, is_found, keys_of}
use Rattle.keys.specs.Properties.{OneOf, first, second, third, Ahead, Increasing, stands_in}
use Rattle.scene.specs.Told.{Told}

-- the lesser key goes first, and keys that are the same go once
unfoldable pub union : (ks js : List Key) → List Key
union [] [] = []
union (k ∷ ks) [] = k ∷ union ks []
union [] (j ∷ js) = j ∷ union [] js
union (k ∷ ks) (j ∷ js) =
    let left = k ∷ union ks (j ∷ js) in
    let right = j ∷ union (k ∷ ks) js in
    let both = k ∷ union ks js in
    cond (before k j) left (cond (before j k) right both)

-- ---- what stands in it

union_stands : (x : Key) (ks js : List Key) → stands_in x (union ks js) ≡ (stands_in x ks || stands_in x js)
unfolding union stands_in
union_stands x [] [] = refl
union_stands x (k ∷ ks) [] = ap (λ (b : Bool). same_key x k || b) (union_stands x ks []) ∙ sym (or_assoc (same_key x k) (stands_in x ks) false)
union_stands x [] (j ∷ js) = ap (λ (b : Bool). same_key x j || b) (union_stands x [] js)
union_stands x (k ∷ ks) (j ∷ js) = go (before k j) (same_key k j) (before j k) (before_one k j) refl (union_stands x ks (j ∷ js)) (union_stands x (k ∷ ks) js) (union_stands x ks js)
  where
    pull : (a b c : Bool) → (b || (a || c)) ≡ (a || (b || c))
    pull true true c = refl
    pull true false c = refl
    pull false b c = refl

    twice : (a b c : Bool) → (a || (b || c)) ≡ ((a || b) || (a || c))
    twice true b c = refl
    twice false b c = refl

    go : (a b c : Bool) → OneOf a b c → same_key k j ≡ b → stands_in x (union ks (j ∷ js)) ≡ (stands_in x ks || stands_in x (j ∷ js)) → stands_in x (union (k ∷ ks) js) ≡ (stands_in x (k ∷ ks) || stands_in x js) → stands_in x (union ks js) ≡ (stands_in x ks || stands_in x js) → stands_in x (cond a (k ∷ union ks (j ∷ js)) (cond c (j ∷ union (k ∷ ks) js) (k ∷ union ks js))) ≡ (stands_in x (k ∷ ks) || stands_in x (j ∷ js))
    go true false false first e p q r = ap (λ (b : Bool). same_key x k || b) p ∙ sym (or_assoc (same_key x k) (stands_in x ks) (stands_in x (j ∷ js)))
    go false false false x16 e p q r = elim x16 [ ]
    go false true true x17 e p q r = elim x17 [ ]
    go true false true x17 e p q r = elim x17 [ ]
    go true true c x13 e p q r = elim x13 [ ]
    go false false true third e p q r = ap (λ (b : Bool). same_key x j || b) q ∙ pull (stands_in x (k ∷ ks)) (same_key x j) (stands_in x js)
    go false true false second e p q r = ap (λ (b : Bool). same_key x k || b) r ∙ twice (same_key x k) (stands_in x ks) (stands_in x js) ∙ ap (λ (i : Key). stands_in x (k ∷ ks) || (same_key x i || stands_in x js)) (same_key_lem k j e)

-- ---- it is in order

union_ahead : (x : Key) (ks js : List Key) → Ahead x ks → Ahead x js → Ahead x (union ks js)
unfolding union
union_ahead x [] [] a b = tt
union_ahead x (k ∷ ks) [] a b = a
union_ahead x [] (j ∷ js) a b = b
union_ahead x (k ∷ ks) (j ∷ js) a b = go (before k j) (before j k)
  where
    go : (c d : Bool) → Ahead x (cond c (k ∷ union ks (j ∷ js)) (cond d (j ∷ union (k ∷ ks) js) (k ∷ union ks js)))
    go true d = a
    go false true = b
    go false false = a

union_increasing : (ks js : List Key) → Increasing ks → Increasing js → Increasing (union ks js)
unfolding union
union_increasing [] [] h g = tt
union_increasing (k ∷ ks) [] h g = (union_ahead k ks [] h.0 tt, union_increasing ks [] h.1 g)
union_increasing [] (j ∷ js) h g = (union_ahead j [] js tt g.0, union_increasing [] js h g.1)
union_increasing (k ∷ ks) (j ∷ js) h g = go (before k j) (same_key k j) (before j k) (before_one k j) refl refl refl (union_increasing ks (j ∷ js) h.1 g) (union_increasing (k ∷ ks) js h g.1) (union_increasing ks js h.1 g.1)
  where
    go : (a b c : Bool) → OneOf a b c → before k j ≡ a → same_key k j ≡ b → before j k ≡ c → Increasing (union ks (j ∷ js)) → Increasing (union (k ∷ ks) js) → Increasing (union ks js) → Increasing (cond a (k ∷ union ks (j ∷ js)) (cond c (j ∷ union (k ∷ ks) js) (k ∷ union ks js)))
    go true false false first d e f p q r = (union_ahead k ks (j ∷ js) h.0 d, p)
    go false false false x23 d e f p q r = elim x23 [ ]
    go false true true x24 d e f p q r = elim x24 [ ]
    go true false true x24 d e f p q r = elim x24 [ ]
    go true true c x18 d e f p q r = elim x18 [ ]
    go false false true third d e f p q r = (union_ahead j (k ∷ ks) js f g.0, q)
    go false true false second d e f p q r = (union_ahead k ks js h.0 (subst (λ (i : Key). Ahead i js) (sym (same_key_lem k j e)) g.0), r)

-- ---- the keys of both scenes

module _ (l r : List Told) where
  -- those that stand in two lists in order, where each has the keys of one scene
  pub union_keys : (ks js : List Key) → Increasing ks → Increasing js → ((k : Key) → stands_in k ks ≡ is_found (found k l)) → ((k : Key) → stands_in k js ≡ is_found (found k r)) → union ks js ≡ keys_of l r
  union_keys ks js h g p q = increasing_same (union ks js) (keys_of l r) (union_increasing ks js h g) (keys_increasing l r) (λ k. union_stands k ks js ∙ (λ i. p k i || q k i) ∙ sym (keys_stand l r k))

  -- ---- what is left of both lists: a key of either stands in the other scene where it stands in what is left there

  abbrev Apart : List Told → (ks js : List Key) → Type 0
  Apart d ks js = (k : Key) → stands_in k ks ≡ true → is_found (found k d) ≡ stands_in k js

  pub record Left (ks js : List Key) : Type 0 where
    pub left_rises : Increasing ks
    pub right_rises : Increasing js
    pub in_right : Apart r ks js
    pub in_left : Apart l js ks

  -- one key fewer to ask for, or to be found, where it is none of those asked for
  fewer : (d : List Told) (x : Key) (ks js : List Key) → Apart d (x ∷ ks) js → Apart d ks js
  unfolding stands_in
  fewer d x ks js h k e = h k (ap (λ (b : Bool). same_key k x || b) e ∙ or-true (same_key k x))

  passed : (d : List Told) (x : Key) (ks js : List Key) → stands_in x ks ≡ false → Apart d ks (x ∷ js) → Apart d ks js
  unfolding stands_in
  passed d x ks js a h k e = h k e ∙ go (same_key k x) refl
    where
      go : (b : Bool) → same_key k x ≡ b → (b || stands_in k js) ≡ stands_in k js
      go true q = absurd (false≢true (sym (ap (λ (z : Key). stands_in z ks) (same_key_lem k x q) ∙ a) ∙ e))
      go false q = refl

  first_stands : (x : Key) (ks : List Key) → stands_in x (x ∷ ks) ≡ true
  unfolding stands_in
  first_stands x ks = ap (λ (b : Bool). b || stands_in x ks) (key_same x)

  module _ (x : Key) (ks js : List Key) where
    -- the first on the left alone
    module _ (a : Ahead x js) (h : Left (x ∷ ks) js) where
      pub left_alone : is_found (found x r) ≡ false
      left_alone = h.in_right x (first_stands x ks) ∙ ahead_absent x js a h.right_rises

      pub left_gone : Left ks js
      left_gone = record { left_rises = h.left_rises.1; right_rises = h.right_rises; in_right = fewer r x ks js h.in_right; in_left = passed l x js ks (ahead_absent x js a h.right_rises) h.in_left }

    -- the first on the right alone
    module _ (a : Ahead x ks) (h : Left ks (x ∷ js)) where
      pub right_alone : is_found (found x l) ≡ false
      right_alone = h.in_left x (first_stands x js) ∙ ahead_absent x ks a h.left_rises

      pub right_gone : Left ks js
      right_gone = record { left_rises = h.left_rises; right_rises = h.right_rises.1; in_right = passed r x ks js (ahead_absent x ks a h.left_rises) h.in_right; in_left = fewer l x js ks h.in_left }

    -- the first on both sides
    pub both_gone : Left (x ∷ ks) (x ∷ js) → Left ks js
    both_gone h = record {
      left_rises = h.left_rises.1;
      right_rises = h.right_rises.1;
      in_right = passed r x ks js (ahead_absent x ks h.left_rises.0 h.left_rises.1) (fewer r x ks (x ∷ js) h.in_right);
      in_left = passed l x js ks (ahead_absent x js h.right_rises.0 h.right_rises.1) (fewer l x js (x ∷ ks) h.in_left);
    }
