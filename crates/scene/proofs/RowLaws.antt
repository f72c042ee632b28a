-- The rows of the exchanged list.
use mathlib.Core.Bool.{Bool, true, false, cond}
use mathlib.Core.List.{List, [], ◌∷◌, ◌++◌, append_assoc}
use mathlib.Core.Logic.{◌⊎◌, inl, inr}
use mathlib.Core.Path.{◌≡◌, refl, ap, sym, ◌∙◌, subst, subst₂}
use Prim.Native.Nat.{ℕ, zero, suc, ◌+◌, ◌-◌, ◌≤◌, ◌<◌}
use native.Mathlib.Omega.{arith}
use lib.ListN.{length, length-append}
use Rattle.laws.proofs.NatLaws.{le_or_lt}
use Rattle.laws.specs.Bytes.{Bytes, same}
use Rattle.scene.proofs.SwapLaws.{latest_le, shift_low, shift_first, shift_second, shift_high, Absent, first_absent, View, BodyView, SeesOne, sees_up, Clear, ClearOne, clear_one, clear_sees, all_one, all_sees, new, new_zero, base-A, base-B, base-Q, numbers-A, numbers-B, numbers-Q, either}
use Rattle.scene.specs.Block.{shift}
use Rattle.scene.specs.Links.{gives, hits, latest, or_else, first_later, type_in, strings_in, reals_in, own_body, target_link}
use Rattle.scene.specs.Told.{told, renumbered}
use Rattle.scene.specs.Statement.{void, Body, primitive, alias, Statement}

pub shift_pos : (p i j k : ℕ) → (m : ℕ) × (shift p i j (suc k) ≡ suc m)
shift_pos p i j k = go₁ (le_or_lt (suc k) p)
  where
    go₃ : p + i < suc k → (suc k ≤ p + i + j) ⊎ (p + i + j < suc k) → (m : ℕ) × (shift p i j (suc k) ≡ suc m)
    go₃ h (inl l) = (k - i, shift_second p i j (suc k) h l ∙ omega arith)
    go₃ h (inr l) = (k, shift_high p i j (suc k) l)

    go₂ : p < suc k → (suc k ≤ p + i) ⊎ (p + i < suc k) → (m : ℕ) × (shift p i j (suc k) ≡ suc m)
    go₂ h (inl l) = (k + j, shift_first p i j (suc k) h l ∙ omega arith)
    go₂ h (inr l) = go₃ l (le_or_lt (suc k) (p + i + j))

    go₁ : (suc k ≤ p) ⊎ (p < suc k) → (m : ℕ) × (shift p i j (suc k) ≡ suc m)
    go₁ (inl l) = (k, shift_low p i j (suc k) l)
    go₁ (inr l) = go₂ l (le_or_lt (suc k) (p + i))

-- ---- the next of the same name

pub or_else_zero : (x : ℕ) → or_else x 0 ≡ x
or_else_zero zero = refl
or_else_zero (suc x) = refl

or_else_assoc : (x y z : ℕ) → or_else (or_else x y) z ≡ or_else x (or_else y z)
or_else_assoc zero y z = refl
or_else_assoc (suc x) y z = refl

first_append : (w : Bytes) (X Y : List Statement) (n : ℕ) → first_later w (X ++ Y) n ≡ or_else (first_later w Y n) (first_later w X (n + length Y))
unfolding first_later
first_append w [] Y n = sym (or_else_zero (first_later w Y n))
first_append w (s ∷ X) Y n =
    let e : n + length (X ++ Y) ≡ n + length Y + length X = simp length-append (omega arith) in
    (λ i. or_else (first_append w X Y n i) (cond (hits w s) (suc (e i)) 0)) ∙ or_else_assoc (first_later w Y n) (first_later w X (n + length Y)) (cond (hits w s) (suc (n + length Y + length X)) 0)

module _ (f : ℕ → ℕ) (f0 : f 0 ≡ 0) (pos : (k : ℕ) → (m : ℕ) × (f (suc k) ≡ suc m)) where
  f_or_else : (x y : ℕ) → f (or_else x y) ≡ or_else (f x) (f y)
  f_or_else zero y = sym (ap (λ z. or_else z (f y)) f0)
  f_or_else (suc k) y = let m = pos k in m.1 ∙ sym (ap (λ z. or_else z (f y)) m.1)

  first_map : (w : Bytes) (X : List Statement) (n n' : ℕ) → ((m : ℕ) → m < length X → f (suc (n + m)) ≡ suc (n' + m)) → f (first_later w X n) ≡ first_later w X n'
  unfolding first_later
  first_map w [] n n' h = f0
  first_map w (s ∷ X) n n' h = f_or_else (first_later w X n) (cond (hits w s) (suc (n + length X)) 0) ∙ (λ i. or_else (first_map w X n n' (λ m l. h m (omega arith)) i) (go (hits w s) i))
    where
      go : (b : Bool) → f (cond b (suc (n + length X)) 0) ≡ cond b (suc (n' + length X)) 0
      go true = h (length X) (omega arith)
      go false = f0

-- ---- a row

row_of : (f : ℕ → ℕ) (l l' : List Statement) (s : Statement) (E E' : List Statement) → f 0 ≡ 0 → SeesOne f E E' s → (gives s ≡ true → f (first_later s.name l (suc (length E))) ≡ first_later s.name l' (suc (length E'))) → told l' s E' ≡ renumbered f (told l s E)
unfolding told
row_of f l l' s E E' f0 o n = λ i. record {
  type = type_in (own s.body o.body i);
  modifier = mdf (same s.modifier void) o.modifier i;
  target = tgt s.body o.body i;
  name = s.name;
  string_count = length (strings_in (own s.body o.body i));
  strings = strings_in (own s.body o.body i);
  real_count = length (reals_in (own s.body o.body i));
  reals = reals_in (own s.body o.body i);
  next = nxt (gives s) n i;
}
  where
    nxt : (b : Bool) → (b ≡ true → f (first_later s.name l (suc (length E))) ≡ first_later s.name l' (suc (length E'))) → cond b (first_later s.name l' (suc (length E'))) 0 ≡ f (cond b (first_later s.name l (suc (length E))) 0)
    nxt true h = sym (h refl)
    nxt false h = sym f0

    own : (b : Body) → BodyView f E E' b → own_body b E' ≡ own_body b E
    own (primitive t ss rs) v = refl
    own (alias x) v = sym v.bodies

    mdf : (b : Bool) → (b ≡ false → View f E E' s.modifier) → cond b 0 (latest s.modifier E') ≡ f (cond b 0 (latest s.modifier E))
    mdf true v = sym f0
    mdf false v = sym (v refl).links

    tgt : (b : Body) → BodyView f E E' b → target_link b E' ≡ f (target_link b E)
    tgt (primitive t ss rs) v = sym f0
    tgt (alias x) v = sym v.links

-- ---- where a statement stands

cases : (X Y l : List Statement) (s : Statement) (e : List Statement) → X ++ Y ≡ l ++ s ∷ e
    → ((x : List Statement) × (X ≡ l ++ s ∷ x) × (e ≡ x ++ Y)) ⊎ ((y : List Statement) × (l ≡ X ++ y) × (Y ≡ y ++ s ∷ e))
cases [] Y l s e h = inr (l, refl, h)
cases (x ∷ X) Y [] s e h = inl (X, (let a : x ≡ s = cc in ap {B = List Statement} (λ (z : Statement). z ∷ X) a), cc)
cases (x ∷ X) Y (z ∷ l) s e h = go (cases X Y l s e cc)
  where
    head : x ≡ z
    head = cc

    go : ((y : List Statement) × (X ≡ l ++ s ∷ y) × (e ≡ y ++ Y)) ⊎ ((y : List Statement) × (l ≡ X ++ y) × (Y ≡ y ++ s ∷ e))
        → ((y : List Statement) × (x ∷ X ≡ z ∷ l ++ s ∷ y) × (e ≡ y ++ Y)) ⊎ ((y : List Statement) × (z ∷ l ≡ x ∷ X ++ y) × (Y ≡ y ++ s ∷ e))
    go (inl (y, a, b)) = inl (y, (λ i. head i ∷ a i), b)
    go (inr (y, a, b)) = inr (y, (λ i. sym head i ∷ a i), b)

clear_split : (y x : List Statement) (s : Statement) (B : List Statement) → Clear (y ++ s ∷ x) B → ClearOne s B × Clear x B
clear_split [] x s B h = h
clear_split (z ∷ y) x s B h = clear_split y x s B h.1

-- the statement s, which stood between l and e, stands in D now, and its row is the old one renumbered
pub record Moved (f : ℕ → ℕ) (D l : List Statement) (s : Statement) (e : List Statement) : Type 0 where
  pub later : List Statement
  pub earlier : List Statement
  pub place : D ≡ later ++ s ∷ earlier
  pub number : f (suc (length e)) ≡ suc (length earlier)
  pub same : told later s earlier ≡ renumbered f (told l s e)

module _ (P A B Q : List Statement) (cab : Clear A B) (cba : Clear B A) (s : Statement) where
  abbrev f : ℕ → ℕ
  f = new P A B

  pos : (k : ℕ) → (m : ℕ) × (f (suc k) ≡ suc m)
  pos = shift_pos (length P) (length A) (length B)

  abbrev D : List Statement
  D = Q ++ (A ++ (B ++ P))

  two : (w : Bytes) (X Y : List Statement) (n : ℕ) → f (first_later w (X ++ Y) n) ≡ or_else (f (first_later w Y n)) (f (first_later w X (n + length Y)))
  two w X Y n = ap f (first_append w X Y n) ∙ f_or_else f (new_zero P A B) pos (first_later w Y n) (first_later w X (n + length Y))

  same_first : (w : Bytes) (X : List Statement) (n n' : ℕ) → ((m : ℕ) → m < length X → f (suc (n + m)) ≡ suc (n' + m)) → f (first_later w X n) ≡ first_later w X n'
  same_first = first_map f (new_zero P A B) pos

  -- what stands later: the tail Y of the later part first, then the block Z that has no such name, then Q
  skip : (w : Bytes) (Z Y : List Statement) (n : ℕ) → Absent w Z → first_later w (Z ++ Y) n ≡ first_later w Y n
  skip w Z Y n h = first_append w Z Y n ∙ ap (or_else (first_later w Y n)) (first_absent w Z (n + length Y) h) ∙ or_else_zero (first_later w Y n)

  region-Q : (l x : List Statement) → Q ≡ l ++ s ∷ x → Moved f D l s (x ++ (B ++ (A ++ P)))
  region-Q l x e =
      let n : length Q ≡ length l + suc (length x) = ap length e ∙ length-append l (s ∷ x) in
      let e₁ = length-append A P in
      let e₂ = length-append B (A ++ P) in
      let e₃ = length-append B P in
      let e₄ = length-append A (B ++ P) in
      let e₅ = length-append x (B ++ (A ++ P)) in
      let e₆ = length-append x (A ++ (B ++ P)) in
      record {
        later = l;
        earlier = x ++ (A ++ (B ++ P));
        place = ap {B = List Statement} (λ (q : List Statement). q ++ (A ++ (B ++ P))) e ∙ append_assoc l (s ∷ x) (A ++ (B ++ P));
        number = shift_high (length P) (length A) (length B) (suc (length (x ++ (B ++ (A ++ P))))) (omega arith) ∙ omega arith;
        same = row_of f l l s (x ++ (B ++ (A ++ P))) (x ++ (A ++ (B ++ P))) (new_zero P A B)
            (sees_up f x (B ++ (A ++ P)) (A ++ (B ++ P)) s (numbers-Q P A B (length x)) (all_sees f (B ++ (A ++ P)) (A ++ (B ++ P)) (base-Q P A B cab cba) x) (all_one f (B ++ (A ++ P)) (A ++ (B ++ P)) (base-Q P A B cab cba) s))
            (λ gv. same_first s.name l (suc (length (x ++ (B ++ (A ++ P))))) (suc (length (x ++ (A ++ (B ++ P))))) (λ m h. shift_high (length P) (length A) (length B) (suc (suc (length (x ++ (B ++ (A ++ P)))) + m)) (omega arith) ∙ omega arith));
      }

  region-B : (y x : List Statement) → B ≡ y ++ s ∷ x → Moved f D (Q ++ y) s (x ++ (A ++ P))
  region-B y x e =
      let n : length B ≡ length y + suc (length x) = ap length e ∙ length-append y (s ∷ x) in
      let e₁ = length-append A P in
      let e₂ = length-append x (A ++ P) in
      let e₃ = length-append x P in
      let e₄ = length-append A y in
      let c = clear_split y x s A (subst (λ (z : List Statement). Clear z A) e cba) in
      record {
        later = Q ++ (A ++ y);
        earlier = x ++ P;
        place = ap {B = List Statement} (λ (b : List Statement). Q ++ (A ++ (b ++ P))) e ∙ simp append_assoc;
        number = shift_second (length P) (length A) (length B) (suc (length (x ++ (A ++ P)))) (omega arith) (omega arith) ∙ omega arith;
        same = row_of f (Q ++ y) (Q ++ (A ++ y)) s (x ++ (A ++ P)) (x ++ P) (new_zero P A B)
            (sees_up f x (A ++ P) P s (λ m h. numbers-B P A B m (omega arith)) (clear_sees f (A ++ P) P A (base-B P A B) x c.1) (clear_one f (A ++ P) P A (base-B P A B) s c.0))
            (λ gv. two s.name Q y (suc (length (x ++ (A ++ P)))) ∙
            (λ i. or_else
            ((same_first s.name y (suc (length (x ++ (A ++ P)))) (suc (length (x ++ P))) (λ m h. shift_second (length P) (length A) (length B) (suc (suc (length (x ++ (A ++ P))) + m)) (omega arith) (omega arith) ∙ omega arith) ∙ sym (skip s.name A y (suc (length (x ++ P))) (c.0.name gv))) i)
            (same_first s.name Q (suc (length (x ++ (A ++ P))) + length y) (suc (length (x ++ P)) + length (A ++ y)) (λ m h. shift_high (length P) (length A) (length B) (suc (suc (length (x ++ (A ++ P))) + length y + m)) (omega arith) ∙ omega arith) i)) ∙
            sym (first_append s.name Q (A ++ y) (suc (length (x ++ P)))));
      }

  region-A : (y x : List Statement) → A ≡ y ++ s ∷ x → Moved f D (Q ++ (B ++ y)) s (x ++ P)
  region-A y x e =
      let n : length A ≡ length y + suc (length x) = ap length e ∙ length-append y (s ∷ x) in
      let e₁ = length-append B P in
      let e₂ = length-append x (B ++ P) in
      let e₃ = length-append x P in
      let e₄ = length-append B y in
      let c = clear_split y x s B (subst (λ (z : List Statement). Clear z B) e cab) in
      record {
        later = Q ++ y;
        earlier = x ++ (B ++ P);
        place = ap {B = List Statement} (λ (a : List Statement). Q ++ (a ++ (B ++ P))) e ∙ simp append_assoc;
        number = shift_first (length P) (length A) (length B) (suc (length (x ++ P))) (omega arith) (omega arith) ∙ omega arith;
        same = row_of f (Q ++ (B ++ y)) (Q ++ y) s (x ++ P) (x ++ (B ++ P)) (new_zero P A B)
            (sees_up f x P (B ++ P) s (λ m h. numbers-A P A B m (omega arith)) (clear_sees f P (B ++ P) B (base-A P A B) x c.1) (clear_one f P (B ++ P) B (base-A P A B) s c.0))
            (λ gv. two s.name Q (B ++ y) (suc (length (x ++ P))) ∙
            (λ i. or_else
            ((ap f (skip s.name B y (suc (length (x ++ P))) (c.0.name gv)) ∙ same_first s.name y (suc (length (x ++ P))) (suc (length (x ++ (B ++ P)))) (λ m h. shift_first (length P) (length A) (length B) (suc (suc (length (x ++ P)) + m)) (omega arith) (omega arith) ∙ omega arith)) i)
            (same_first s.name Q (suc (length (x ++ P)) + length (B ++ y)) (suc (length (x ++ (B ++ P))) + length y) (λ m h. shift_high (length P) (length A) (length B) (suc (suc (length (x ++ P)) + length (B ++ y) + m)) (omega arith) ∙ omega arith) i)) ∙
            sym (first_append s.name Q y (suc (length (x ++ (B ++ P))))));
      }

  low_view : (e : List Statement) → length e ≤ length P → (w : Bytes) → View f e e w
  low_view e h w = record { same = refl; links = shift_low (length P) (length A) (length B) (latest w e) (omega (arith, latest_le w e)); bodies = refl }

  region-P : (y e : List Statement) → P ≡ y ++ s ∷ e → Moved f D (Q ++ (B ++ (A ++ y))) s e
  region-P y e q =
      let n : length P ≡ length y + suc (length e) = ap length q ∙ length-append y (s ∷ e) in
      let e₁ = length-append A y in
      let e₂ = length-append B y in
      let e₃ = length-append B (A ++ y) in
      let e₄ = length-append A (B ++ y) in
      record {
        later = Q ++ (A ++ (B ++ y));
        earlier = e;
        place = ap {B = List Statement} (λ (z : List Statement). Q ++ (A ++ (B ++ z))) q ∙ simp append_assoc;
        number = shift_low (length P) (length A) (length B) (suc (length e)) (omega arith);
        same = row_of f (Q ++ (B ++ (A ++ y))) (Q ++ (A ++ (B ++ y))) s e e (new_zero P A B) (all_one f e e (low_view e (omega arith)) s)
            (λ gv. two s.name Q (B ++ (A ++ y)) (suc (length e)) ∙
            (λ i. or_else
            (middle (either s.name A B cab) i)
            (same_first s.name Q (suc (length e) + length (B ++ (A ++ y))) (suc (length e) + length (A ++ (B ++ y))) (λ m h. shift_high (length P) (length A) (length B) (suc (suc (length e) + length (B ++ (A ++ y)) + m)) (omega arith) ∙ omega arith) i)) ∙
            sym (first_append s.name Q (A ++ (B ++ y)) (suc (length e))));
      }
    where
      n₀ : length P ≡ length y + suc (length e)
      n₀ = ap length q ∙ length-append y (s ∷ e)

      low : f (first_later s.name y (suc (length e))) ≡ first_later s.name y (suc (length e))
      low = same_first s.name y (suc (length e)) (suc (length e)) (λ m h. shift_low (length P) (length A) (length B) (suc (suc (length e) + m)) (omega (arith, n₀)))

      middle : Absent s.name A ⊎ Absent s.name B → f (first_later s.name (B ++ (A ++ y)) (suc (length e))) ≡ first_later s.name (A ++ (B ++ y)) (suc (length e))
      middle (inl a) =
          two s.name B (A ++ y) (suc (length e)) ∙
          (λ i. or_else
          ((ap f (skip s.name A y (suc (length e)) a) ∙ low) i)
          (same_first s.name B (suc (length e) + length (A ++ y)) (suc (length e) + length y) (λ m h. shift_second (length P) (length A) (length B) (suc (suc (length e) + length (A ++ y) + m)) (omega (arith, n₀, length-append A y)) (omega (arith, n₀, length-append A y)) ∙ omega (arith, n₀, length-append A y)) i)) ∙
          sym (first_append s.name B y (suc (length e))) ∙ sym (skip s.name A (B ++ y) (suc (length e)) a)
      middle (inr b) =
          ap f (skip s.name B (A ++ y) (suc (length e)) b) ∙ two s.name A y (suc (length e)) ∙
          (λ i. or_else
          ((low ∙ sym (skip s.name B y (suc (length e)) b)) i)
          (same_first s.name A (suc (length e) + length y) (suc (length e) + length (B ++ y)) (λ m h. shift_first (length P) (length A) (length B) (suc (suc (length e) + length y + m)) (omega (arith, n₀)) (omega (arith, n₀)) ∙ omega (arith, n₀, length-append B y)) i)) ∙
          sym (first_append s.name A (B ++ y) (suc (length e)))

  pub row_swap : (l e : List Statement) → Q ++ (B ++ (A ++ P)) ≡ l ++ s ∷ e → Moved f D l s e
  row_swap l e h = go₁ (cases Q (B ++ (A ++ P)) l s e h)
    where
      go₃ : (y : List Statement) → l ≡ Q ++ (B ++ y) → ((x : List Statement) × (A ≡ y ++ s ∷ x) × (e ≡ x ++ P)) ⊎ ((z : List Statement) × (y ≡ A ++ z) × (P ≡ z ++ s ∷ e)) → Moved f D l s e
      go₃ y i (inl (x, a, b)) = subst₂ (λ (l e : List Statement). Moved f D l s e) (sym i) (sym b) (region-A y x a)
      go₃ y i (inr (z, a, b)) = subst (λ (l : List Statement). Moved f D l s e) (sym (i ∙ ap {B = List Statement} (λ (t : List Statement). Q ++ (B ++ t)) a)) (region-P z e b)

      go₂ : (y : List Statement) → l ≡ Q ++ y → ((x : List Statement) × (B ≡ y ++ s ∷ x) × (e ≡ x ++ (A ++ P))) ⊎ ((z : List Statement) × (y ≡ B ++ z) × (A ++ P ≡ z ++ s ∷ e)) → Moved f D l s e
      go₂ y i (inl (x, a, b)) = subst₂ (λ (l e : List Statement). Moved f D l s e) (sym i) (sym b) (region-B y x a)
      go₂ y i (inr (z, a, b)) = go₃ z (i ∙ ap {B = List Statement} (λ (t : List Statement). Q ++ t) a) (cases A P z s e b)

      go₁ : ((x : List Statement) × (Q ≡ l ++ s ∷ x) × (e ≡ x ++ (B ++ (A ++ P)))) ⊎ ((y : List Statement) × (l ≡ Q ++ y) × (B ++ (A ++ P) ≡ y ++ s ∷ e)) → Moved f D l s e
      go₁ (inl (x, a, b)) = subst (λ (e : List Statement). Moved f D l s e) (sym b) (region-Q l x a)
      go₁ (inr (y, a, b)) = go₂ y a (cases B (A ++ P) y s e b)
