-- The keys of two scenes: in order, and each key of either stands once.
use mathlib.Core.Bool.{Bool, true, false, cond, ◌||◌, or_assoc, or_comm, or-false, or_self_left, false≢true, true≢false}
use mathlib.Core.List.{List, [], ◌∷◌}
use mathlib.Core.Path.{◌≡◌, refl, ap, sym, ◌∙◌}
use Prim.Native.Nat.{suc, ◌+◌, ◌≤◌}
use native.Mathlib.Omega.{arith}
use lib.ListN.{length}
use Rattle.laws.proofs.BoolLaws.{cond_elim}
use Rattle.scene.specs.Told.{Told}
use Rattle.keys.proofs.OrderLaws.{same_key_lem, key_same, before_one, before_transitive}
use Rattle.keys.specs.Key.{Key, key_over, same_key, found, is_found, before, insert, insert_all, keys_of}
use Rattle.keys.specs.Properties.{OneOf, first, second, third, Ahead, Increasing, stands_in}

-- ---- in order

ahead_insert : (x k : Key) (ks : List Key) → Ahead x ks → before x k ≡ true → Ahead x (insert k ks)
unfolding insert
ahead_insert x k [] h b = b
ahead_insert x k (y ∷ ks) h b = go (before k y) (same_key k y)
  where
    go : (c d : Bool) → Ahead x (cond c (k ∷ y ∷ ks) (cond d (y ∷ ks) (y ∷ insert k ks)))
    go true d = b
    go false true = h
    go false false = h

insert_increasing : (k : Key) (ks : List Key) → Increasing ks → Increasing (insert k ks)
unfolding insert
insert_increasing k [] h = (tt, tt)
insert_increasing k (x ∷ ks) h = go (before k x) (same_key k x) (before x k) (before_one k x) refl refl (insert_increasing k ks h.1)
  where
    go : (c d e : Bool) → OneOf c d e → before k x ≡ c → before x k ≡ e → Increasing (insert k ks) → Increasing (cond c (k ∷ x ∷ ks) (cond d (x ∷ ks) (x ∷ insert k ks)))
    go true false false first p q ih = (p, h)
    go false true false second p q ih = h
    go false false false x14 p q ih = elim x14 [ ]
    go false true true x15 p q ih = elim x15 [ ]
    go true false true x15 p q ih = elim x15 [ ]
    go true true e x12 p q ih = elim x12 [ ]
    go false false true third p q ih = (ahead_insert x k ks h.0 q, ih)

all_increasing : (d : List Told) (ks : List Key) → Increasing ks → Increasing (insert_all d ks)
unfolding insert_all
all_increasing [] ks h = h
all_increasing (t ∷ d) ks h = insert_increasing (key_over t d) (insert_all d ks) (all_increasing d ks h)

pub keys_increasing : (l r : List Told) → Increasing (keys_of l r)
keys_increasing l r = all_increasing l (insert_all r []) (all_increasing r [] tt)

-- ---- each key of either

stands_insert : (k j : Key) (ks : List Key) → stands_in k (insert j ks) ≡ (same_key k j || stands_in k ks)
unfolding stands_in insert
stands_insert k j [] = refl
stands_insert k j (x ∷ ks) = go (before j x) (same_key j x) refl (stands_insert k j ks)
  where
    go : (b c : Bool) → same_key j x ≡ c → stands_in k (insert j ks) ≡ (same_key k j || stands_in k ks)
        → stands_in k (cond b (j ∷ x ∷ ks) (cond c (x ∷ ks) (x ∷ insert j ks))) ≡ (same_key k j || (same_key k x || stands_in k ks))
    go true c q ih = refl
    go false true q ih = rw (same_key_lem j x q) (sym (or_self_left (same_key k x) (stands_in k ks)))
    go false false q ih = rw ih (sym (or_assoc (same_key k x) (same_key k j) (stands_in k ks)) ∙ ap (λ (b : Bool). b || stands_in k ks) (or_comm (same_key k x) (same_key k j)) ∙ or_assoc (same_key k j) (same_key k x) (stands_in k ks))

stands_all : (k : Key) (d : List Told) (ks : List Key) → stands_in k (insert_all d ks) ≡ (is_found (found k d) || stands_in k ks)
unfolding insert_all found
stands_all k [] ks = refl
stands_all k (t ∷ d) ks = stands_insert k (key_over t d) (insert_all d ks) ∙ go (same_key k (key_over t d)) (stands_all k d ks)
  where
    go : (b : Bool) → stands_in k (insert_all d ks) ≡ (is_found (found k d) || stands_in k ks) → (b || stands_in k (insert_all d ks)) ≡ (is_found (cond b (t ∷ d) (found k d)) || stands_in k ks)
    go true ih = refl
    go false ih = ih

-- a key stands exactly where it is found in either scene
pub keys_stand : (l r : List Told) (k : Key) → stands_in k (keys_of l r) ≡ (is_found (found k l) || is_found (found k r))
unfolding stands_in
keys_stand l r k = stands_all k l (insert_all r []) ∙ ap (λ (b : Bool). is_found (found k l) || b) (stands_all k r [] ∙ or-false (is_found (found k r)))

-- ---- once

pub ahead_over : (k x : Key) (ks : List Key) → before k x ≡ true → Ahead x ks → Ahead k ks
ahead_over k x [] a b = tt
ahead_over k x (y ∷ ks) a b = before_transitive k x y a b

-- a key of an increasing list stands in it once
pub ahead_absent : (k : Key) (ks : List Key) → Ahead k ks → Increasing ks → stands_in k ks ≡ false
unfolding stands_in
ahead_absent k [] a h = refl
ahead_absent k (x ∷ ks) a h = go (before k x) (same_key k x) (before x k) (before_one k x) a (ahead_absent k ks (ahead_over k x ks a h.0) h.1)
  where
    go : (b c d : Bool) → OneOf b c d → b ≡ true → stands_in k ks ≡ false → (c || stands_in k ks) ≡ false
    go true false false first p ih = ih
    go false true false second p ih = absurd (false≢true p)
    go false false false x12 p ih = elim x12 [ ]
    go false true true x13 p ih = elim x13 [ ]
    go true false true x13 p ih = elim x13 [ ]
    go true true d x11 p ih = elim x11 [ ]
    go false false true third p ih = absurd (false≢true p)

-- two increasing lists in which the same keys stand are equal
pub increasing_same : (ks js : List Key) → Increasing ks → Increasing js → ((k : Key) → stands_in k ks ≡ stands_in k js) → ks ≡ js
unfolding stands_in
increasing_same [] [] h g e = refl
increasing_same [] (y ∷ js) h g e = absurd (false≢true (e y ∙ rw (key_same y)))
increasing_same (x ∷ ks) [] h g e = absurd (false≢true (sym (e x) ∙ rw (key_same x)))
increasing_same (x ∷ ks) (y ∷ js) h g e = go (before x y) (same_key x y) (before y x) (before_one x y) refl refl refl (increasing_same ks js h.1 g.1)
  where
    here : (k : Key) (ks : List Key) → stands_in k (k ∷ ks) ≡ true
    here k ks = rw (key_same k)

    rest : x ≡ y → (k : Key) → stands_in k ks ≡ stands_in k js
    rest q k = both (same_key k x) refl
      where
        both : (b : Bool) → same_key k x ≡ b → stands_in k ks ≡ stands_in k js
        both true s =
            let a : stands_in k ks ≡ false = ap (λ (z : Key). stands_in z ks) (same_key_lem k x s) ∙ ahead_absent x ks h.0 h.1 in
            let b : stands_in k js ≡ false = ap (λ (z : Key). stands_in z js) (same_key_lem k x s ∙ q) ∙ ahead_absent y js g.0 g.1 in
            a ∙ sym b
        both false s = sym (ap (λ (b : Bool). b || stands_in k ks) s) ∙ e k ∙ ap (λ (b : Bool). b || stands_in k js) (ap (same_key k) (sym q) ∙ s)

    go : (b c d : Bool) → OneOf b c d → before x y ≡ b → same_key x y ≡ c → before y x ≡ d → (((k : Key) → stands_in k ks ≡ stands_in k js) → ks ≡ js) → x ∷ ks ≡ y ∷ js
    go true false false first p q r ih = absurd (true≢false (sym (here x ks) ∙ e x ∙ ahead_absent x (y ∷ js) p g))
    go false true false second p q r ih = λ i. same_key_lem x y q i ∷ ih (rest (same_key_lem x y q)) i
    go false false false x19 p q r ih = elim x19 [ ]
    go false true true x20 p q r ih = elim x20 [ ]
    go true false true x20 p q r ih = elim x20 [ ]
    go true true d x16 p q r ih = elim x16 [ ]
    go false false true third p q r ih = absurd (true≢false (sym (here y js) ∙ sym (e y) ∙ ahead_absent y (x ∷ ks) r h))

-- the keys do not depend on the side
pub keys_turned : (l r : List Told) → keys_of r l ≡ keys_of l r
keys_turned l r = increasing_same (keys_of r l) (keys_of l r) (keys_increasing r l) (keys_increasing l r) (λ k. keys_stand r l k ∙ or_comm (is_found (found k r)) (is_found (found k l)) ∙ sym (keys_stand l r k))

-- ---- there are at most as many keys as primitives

insert_most : (k : Key) (ks : List Key) → length (insert k ks) ≤ suc (length ks)
unfolding insert
insert_most k [] = omega arith
insert_most k (x ∷ ks) = let h = insert_most k ks in cond_elim (λ (z : List Key). length z ≤ suc (suc (length ks))) (before k x) (omega arith) (cond_elim (λ (z : List Key). length z ≤ suc (suc (length ks))) (same_key k x) (omega arith) (omega arith))

insert_all_most : (d : List Told) (ks : List Key) → length (insert_all d ks) ≤ length d + length ks
unfolding insert_all
insert_all_most [] ks = omega arith
insert_all_most (t ∷ d) ks = omega (arith, insert_most (key_over t d) (insert_all d ks), insert_all_most d ks)

pub keys_most : (l r : List Told) → length (keys_of l r) ≤ length l + length r
keys_most l r = omega (arith, insert_all_most l (insert_all r []), insert_all_most r [])
