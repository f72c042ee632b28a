-- Members of a list, and lists in another order.
use mathlib.Core.List.{List, [], ◌∷◌, ◌++◌}
use mathlib.Core.Logic.{◌⊎◌, inl, inr}
use mathlib.Core.Path.{◌≡◌, refl, ap, sym, subst}
use native.Mathlib.Omega.{arith}
use lib.ListN.{length, length-append}
use Rattle.laws.specs.Shuffle.{Shuffle}

module _ {A : Type 0} where
  -- ---- members

  abbrev pub In : A → List A → Type 0
  In x [] = ⊥
  In x (y ∷ ys) = (x ≡ y) ⊎ In x ys

  pub in_append : (xs ys : List A) (x : A) → In x (xs ++ ys) → In x xs ⊎ In x ys
  in_append [] ys x i = inr i
  in_append (y ∷ xs) ys x (inl e) = inl (inl e)
  in_append (y ∷ xs) ys x (inr i) = go (in_append xs ys x i)
    where
      go : In x xs ⊎ In x ys → In x (y ∷ xs) ⊎ In x ys
      go (inl j) = inl (inr j)
      go (inr j) = inr j

  in_middle : (xs : List A) (c : A) (ys : List A) → In c (xs ++ c ∷ ys)
  in_middle [] c ys = inl refl
  in_middle (x ∷ xs) c ys = inr (in_middle xs c ys)

  pub in_more : (xs : List A) (c : A) (ys : List A) (x : A) → In x (xs ++ ys) → In x (xs ++ c ∷ ys)
  in_more [] c ys x i = inr i
  in_more (y ∷ xs) c ys x (inl e) = inl e
  in_more (y ∷ xs) c ys x (inr i) = inr (in_more xs c ys x i)

  pub in_less : (xs : List A) (c : A) (ys : List A) (x : A) → In x (xs ++ c ∷ ys) → (x ≡ c) ⊎ In x (xs ++ ys)
  in_less [] c ys x i = i
  in_less (y ∷ xs) c ys x (inl e) = inr (inl e)
  in_less (y ∷ xs) c ys x (inr i) = go (in_less xs c ys x i)
    where
      go : (x ≡ c) ⊎ In x (xs ++ ys) → (x ≡ c) ⊎ In x (y ∷ xs ++ ys)
      go (inl e) = inl e
      go (inr i) = inr (inr i)

  -- what is before a member, and what is behind it
  pub in_split : (c : A) (zs : List A) → In c zs → (xs : List A) × (ys : List A) × (zs ≡ xs ++ c ∷ ys)
  in_split c [] i = absurd i
  in_split c (z ∷ zs) (inl e) = ([], zs, ap {B = List A} (λ (x : A). x ∷ zs) (sym e))
  in_split c (z ∷ zs) (inr i) = let k = in_split c zs i in (z ∷ k.0, k.1, ap {B = List A} (λ (x : List A). z ∷ x) k.2)

  pub length_middle : (xs : List A) (c : A) (ys : List A) → length (xs ++ c ∷ ys) ≡ length (c ∷ xs ++ ys)
  length_middle xs c ys = omega (arith, length-append xs (c ∷ ys), length-append xs ys)

  -- ---- another order

  pub shuffle_in : (new old : List A) (x : A) → Shuffle old new → In x old → In x new
  shuffle_in [] old x e i = subst (In x) e i
  shuffle_in (c ∷ new) old x (xs, ys, e, s) i = go (in_less xs c ys x (subst (In x) e i)) (shuffle_in new (xs ++ ys) x s)
    where
      go : (x ≡ c) ⊎ In x (xs ++ ys) → (In x (xs ++ ys) → In x new) → In x (c ∷ new)
      go (inl q) f = inl q
      go (inr j) f = inr (f j)

  pub shuffle_of : (new old : List A) (x : A) → Shuffle old new → In x new → In x old
  shuffle_of [] old x e i = absurd i
  shuffle_of (c ∷ new) old x (xs, ys, e, s) (inl q) = subst (In x) (sym e) (subst (λ (z : A). In z (xs ++ c ∷ ys)) (sym q) (in_middle xs c ys))
  shuffle_of (c ∷ new) old x (xs, ys, e, s) (inr i) = subst (In x) (sym e) (in_more xs c ys x (shuffle_of new (xs ++ ys) x s i))

  -- a member c of xs ++ ys, where s is put between them
  record Beside (s c : A) (xs ys us vs : List A) : Type 0 where
    front : List A
    back : List A
    at : xs ++ s ∷ ys ≡ front ++ c ∷ back
    before : List A
    behind : List A
    without : us ++ vs ≡ before ++ behind
    rest : front ++ back ≡ before ++ s ∷ behind

  beside : (s c : A) (xs ys us vs : List A) → xs ++ ys ≡ us ++ c ∷ vs → Beside s c xs ys us vs
  beside s c [] ys us vs e = record { front = s ∷ us; back = vs; at = ap {B = List A} (λ (z : List A). s ∷ z) e; before = []; behind = us ++ vs; without = refl; rest = refl }
  beside s c (x ∷ xs) ys [] vs e = record { front = []; back = xs ++ s ∷ ys; at = cc; before = xs; behind = ys; without = cc; rest = refl }
  beside s c (x ∷ xs) ys (u ∷ us) vs e =
      let q : x ≡ u = cc in
      let k = beside s c xs ys us vs cc in
      record {
        front = x ∷ k.front;
        back = k.back;
        at = ap {B = List A} (λ (z : List A). x ∷ z) k.at;
        before = x ∷ k.before;
        behind = k.behind;
        without = cc (q, k.without);
        rest = ap {B = List A} (λ (z : List A). x ∷ z) k.rest;
      }

  -- one more, wherever it stands in both
  pub shuffle_more : (s : A) (us vs xs ys : List A) → Shuffle (xs ++ ys) (us ++ vs) → Shuffle (xs ++ s ∷ ys) (us ++ s ∷ vs)
  shuffle_more s [] vs xs ys h = (xs, ys, refl, h)
  shuffle_more s (u ∷ us) vs xs ys (ps, qs, e, h) =
      let k = beside s u xs ys ps qs e in
      (k.front, k.back, k.at, subst (λ (z : List A). Shuffle z (us ++ s ∷ vs)) (sym k.rest) (shuffle_more s us vs k.before k.behind (subst (λ (z : List A). Shuffle z (us ++ vs)) k.without h)))
