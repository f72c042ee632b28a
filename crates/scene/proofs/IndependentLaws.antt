-- Independent blocks: no word that one gives or refers to is given by the other.
use mathlib.Core.Bool.{Bool, true, false, cond, ◌||◌, or-true, false≢true}
use mathlib.Core.List.{List, [], ◌∷◌, ◌++◌}
use mathlib.Core.Logic.{◌⊎◌, inl, inr}
use mathlib.Core.Path.{◌≡◌, refl, ap, sym, ◌∙◌}
use Rattle.laws.proofs.BoolLaws.{or_false_left, or_false_right}
use Rattle.laws.proofs.BytesLaws.{same_eq, same_refl}
use Rattle.laws.specs.Bytes.{Bytes, same}
use Rattle.scene.proofs.SwapLaws.{Absent, BodyAbsent, Clear}
use Rattle.scene.specs.Block.{given, targets, referred, stands, share, Independent}
use Rattle.scene.specs.Links.{gives, hits}
use Rattle.scene.specs.Statement.{Body, primitive, alias, Statement, void}

-- ---- standing in a list

stands_left : (w : Bytes) (xs ys : List Bytes) → stands w xs ≡ true → stands w (xs ++ ys) ≡ true
unfolding stands
stands_left w [] ys e = absurd (false≢true e)
stands_left w (x ∷ xs) ys e = go (same w x) e (stands_left w xs ys)
  where
    go : (b : Bool) → (b || stands w xs) ≡ true → (stands w xs ≡ true → stands w (xs ++ ys) ≡ true) → (b || stands w (xs ++ ys)) ≡ true
    go true e h = refl
    go false e h = h e

stands_right : (w : Bytes) (xs ys : List Bytes) → stands w ys ≡ true → stands w (xs ++ ys) ≡ true
unfolding stands
stands_right w [] ys e = e
stands_right w (x ∷ xs) ys e = rw (stands_right w xs ys e, or-true)

stands_split : (w : Bytes) (xs ys : List Bytes) → stands w (xs ++ ys) ≡ true → (stands w xs ≡ true) ⊎ (stands w ys ≡ true)
unfolding stands
stands_split w [] ys e = inr e
stands_split w (x ∷ xs) ys e = go (same w x) e (stands_split w xs ys)
  where
    go : (b : Bool) → (b || stands w (xs ++ ys)) ≡ true → (stands w (xs ++ ys) ≡ true → (stands w xs ≡ true) ⊎ (stands w ys ≡ true)) → ((b || stands w xs) ≡ true) ⊎ (stands w ys ≡ true)
    go true e h = inl refl
    go false e h = h e

stands_cons : (w x : Bytes) (xs : List Bytes) → stands w xs ≡ true → stands w (x ∷ xs) ≡ true
unfolding stands
stands_cons w x xs e = rw (e, or-true)

stands_first : (w : Bytes) (xs : List Bytes) → stands w (w ∷ xs) ≡ true
unfolding stands
stands_first w xs = rw (same_refl w)

-- ---- a word that a list of statements does not give

absent : (ys : List Bytes) (w : Bytes) (B : List Statement) → share (given B) ys ≡ false → stands w ys ≡ true → Absent w B
unfolding given share hits
absent ys w [] h e = tt
absent ys w (s ∷ B) h e = (no_hit (gives s) refl h, absent ys w B (rest (gives s) h) e)
  where
    rest : (g : Bool) → share (cond g (s.name ∷ given B) (given B)) ys ≡ false → share (given B) ys ≡ false
    rest true h = or_false_right (stands s.name ys) (share (given B) ys) h
    rest false h = h

    other : (c : Bool) → same w s.name ≡ c → stands s.name ys ≡ false → c ≡ false
    other true q n = sym e ∙ ap (λ (v : Bytes). stands v ys) (same_eq w s.name q) ∙ n
    other false q n = refl

    no_hit : (g : Bool) → gives s ≡ g → share (cond g (s.name ∷ given B) (given B)) ys ≡ false → hits w s ≡ false
    no_hit true q h = rw (q, other (same w s.name) refl (or_false_left (stands s.name ys) (share (given B) ys) h))
    no_hit false q h = rw q

-- ---- clear of the other block

given_more : (w : Bytes) (s : Statement) (A : List Statement) → stands w (given A) ≡ true → stands w (given (s ∷ A)) ≡ true
unfolding given
given_more w s A e = go (gives s)
  where
    go : (g : Bool) → stands w (cond g (s.name ∷ given A) (given A)) ≡ true
    go true = stands_cons w s.name (given A) e
    go false = e

given_name : (s : Statement) (A : List Statement) → gives s ≡ true → stands s.name (given (s ∷ A)) ≡ true
unfolding given
given_name s A g = rw g (stands_first s.name (given A))

module _ (s : Statement) (A : List Statement) where
  own : List Bytes
  own = cond (same s.modifier void) [] (s.modifier ∷ []) ++ targets s.body

  refers_own : (w : Bytes) → stands w own ≡ true → stands w (given (s ∷ A) ++ referred (s ∷ A)) ≡ true
  unfolding referred own
  refers_own w e = stands_right w (given (s ∷ A)) (referred (s ∷ A)) (stands_left w own (referred A) e)

  more : (w : Bytes) → stands w (given A ++ referred A) ≡ true → stands w (given (s ∷ A) ++ referred (s ∷ A)) ≡ true
  unfolding referred own
  more w e = go (stands_split w (given A) (referred A) e)
    where
      go : (stands w (given A) ≡ true) ⊎ (stands w (referred A) ≡ true) → stands w (given (s ∷ A) ++ referred (s ∷ A)) ≡ true
      go (inl h) = stands_left w (given (s ∷ A)) (referred (s ∷ A)) (given_more w s A h)
      go (inr h) = stands_right w (given (s ∷ A)) (referred (s ∷ A)) (stands_right w own (referred A) h)

  modifier_own : same s.modifier void ≡ false → stands s.modifier own ≡ true
  unfolding own
  modifier_own e = stands_left s.modifier (cond (same s.modifier void) [] (s.modifier ∷ [])) (targets s.body) (rw e (stands_first s.modifier []))

  target_own : (x : Bytes) → targets s.body ≡ x ∷ [] → stands x own ≡ true
  unfolding own
  target_own x e = stands_right x (cond (same s.modifier void) [] (s.modifier ∷ [])) (targets s.body) (rw e (stands_first x []))

clear_of : (A B : List Statement) → ((w : Bytes) → stands w (given A ++ referred A) ≡ true → Absent w B) → Clear A B
clear_of [] B h = tt
clear_of (s ∷ A) B h = (
  record {
    name = λ g. h s.name (stands_left s.name (given (s ∷ A)) (referred (s ∷ A)) (given_name s A g));
    modifier = λ e. h s.modifier (refers_own s A s.modifier (modifier_own s A e));
    body = target s.body refl;
  },
  clear_of A B (λ w e. h w (more s A w e)),
)
  where
    target : (b : Body) → s.body ≡ b → BodyAbsent b B
    target (primitive t ss rs) e = tt
    target (alias x) e = h x (refers_own s A x (target_own s A x (ap targets e)))

pub clear_first : {a b : List Statement} → Independent a b → Clear a b
clear_first {a} {b} i = clear_of a b (λ w. absent (given a ++ referred a) w b i.second)

pub clear_second : {a b : List Statement} → Independent a b → Clear b a
clear_second {a} {b} i = clear_of b a (λ w. absent (given b ++ referred b) w a i.first)
