-- Lists in another order: their members, their images, what stands behind them, and their parts.
use mathlib.Core.Bool.{Bool, true, false, not, cond}
use mathlib.Core.List.{List, [], ◌∷◌, ◌++◌, append_assoc, map, map-append}
use mathlib.Core.Path.{◌≡◌, refl, ap, sym, ◌∙◌, subst}
use Rattle.laws.specs.Shuffle.{Shuffle}

pub shuffle_same : {A : Type 0} (xs : List A) → Shuffle xs xs
shuffle_same [] = refl
shuffle_same (x ∷ xs) = ([], xs, refl, shuffle_same xs)

pub shuffle_map : {A B : Type 0} (f : A → B) (new old : List A) → Shuffle old new → Shuffle (map f old) (map f new)
shuffle_map f [] old e = ap (map f) e
shuffle_map f (c ∷ new) old (xs, ys, e, s) = (map f xs, map f ys, ap (map f) e ∙ map-append f xs (c ∷ ys), subst (λ z. Shuffle z (map f new)) (map-append f xs ys) (shuffle_map f new (xs ++ ys) s))

pub shuffle_append : {A : Type 0} (zs new old : List A) → Shuffle old new → Shuffle (old ++ zs) (new ++ zs)
shuffle_append zs [] old e = subst (λ o. Shuffle (o ++ zs) zs) (sym e) (shuffle_same zs)
shuffle_append zs (c ∷ new) old (xs, ys, e, s) = (xs, ys ++ zs, ap (λ o. o ++ zs) e ∙ append_assoc xs (c ∷ ys) zs, subst (λ o. Shuffle o (new ++ zs)) (append_assoc xs ys zs) (shuffle_append zs new (xs ++ ys) s))

-- what holds of all members
abbrev pub All : {A : Type 0} → (A → Type 0) → List A → Type 0
All P [] = Unit {0}
All P (x ∷ xs) = P x × All P xs

all_out : {A : Type 0} (P : A → Type 0) (xs : List A) (c : A) (ys : List A) → All P (xs ++ c ∷ ys) → P c × All P (xs ++ ys)
all_out P [] c ys h = h
all_out P (x ∷ xs) c ys h = let k = all_out P xs c ys h.1 in (k.0, (h.0, k.1))

pub all_append : {A : Type 0} (P : A → Type 0) (xs ys : List A) → All P xs → All P ys → All P (xs ++ ys)
all_append P [] ys h k = k
all_append P (x ∷ xs) ys h k = (h.0, all_append P xs ys h.1 k)

pub all_shuffle : {A : Type 0} (P : A → Type 0) (new old : List A) → Shuffle old new → All P old → All P new
all_shuffle P [] old e h = tt
all_shuffle P (c ∷ new) old (xs, ys, e, s) h = let k = all_out P xs c ys (subst (All P) e h) in (k.0, all_shuffle P new (xs ++ ys) s k.1)

pub all_map : {A : Type 0} (P Q : A → Type 0) (xs : List A) → ((x : A) → P x → Q x) → All P xs → All Q xs
all_map P Q [] f h = tt
all_map P Q (x ∷ xs) f h = (f x h.0, all_map P Q xs f h.1)

-- ---- those that a test picks

unfoldable pub those : {A : Type 0} → (A → Bool) → List A → List A
those p [] = []
those p (x ∷ xs) = cond (p x) (x ∷ those p xs) (those p xs)

pub all_those : {A : Type 0} (P : A → Type 0) (p : A → Bool) (xs : List A) → All P xs → All (λ x. P x × (p x ≡ true)) (those p xs)
unfolding those
all_those P p [] h = tt
all_those P p (x ∷ xs) h = go (p x) refl (all_those P p xs h.1)
  where
    go : (b : Bool) → p x ≡ b → All (λ x. P x × (p x ≡ true)) (those p xs) → All (λ x. P x × (p x ≡ true)) (cond b (x ∷ those p xs) (those p xs))
    go true e k = ((h.0, e), k)
    go false e k = k

shuffle_insert : {A : Type 0} (x : A) (before behind old : List A) → Shuffle old (before ++ behind) → Shuffle (x ∷ old) (before ++ x ∷ behind)
shuffle_insert x [] behind old s = ([], old, refl, s)
shuffle_insert {A} x (c ∷ before) behind old (xs, ys, e, s) = (x ∷ xs, ys, ap {B = List A} (λ (o : List A). x ∷ o) e, shuffle_insert x before behind (xs ++ ys) s)

-- those that a test picks stand behind the others
pub shuffle_partition : {A : Type 0} (p : A → Bool) (xs : List A) → Shuffle xs (those (λ x. not (p x)) xs ++ those p xs)
unfolding those
shuffle_partition p [] = refl
shuffle_partition {A} p (x ∷ xs) = go (p x) (shuffle_partition p xs)
  where
    others : List A
    others = those (λ x. not (p x)) xs

    go : (b : Bool) → Shuffle xs (others ++ those p xs) → Shuffle (x ∷ xs) (cond (not b) (x ∷ others) others ++ cond b (x ∷ those p xs) (those p xs))
    go true s = shuffle_insert x others (those p xs) xs s
    go false s = ([], xs, refl, s)
