-- Statements exchanged: P, A, B, Q in the text's order; the lists stand latest first, so Q ++ (B ++ (A ++ P)) becomes Q ++ (A ++ (B ++ P)).
use mathlib.Core.Bool.{Bool, true, false, cond}
use mathlib.Core.List.{List, [], ◌∷◌, ◌++◌}
use mathlib.Core.Logic.{◌⊎◌, inl, inr}
use mathlib.Core.Path.{◌≡◌, refl, ap, sym, ◌∙◌, subst}
use Prim.Native.Nat.{ℕ, suc, ◌+◌, ◌-◌, ◌≤◌, ◌<◌}
use native.Mathlib.Omega.{arith}
use borrow.Author.Tests.{le-leb, lt-leb}
use lib.ListN.{length, length-append}
use Rattle.laws.proofs.BoolLaws.{and_left, and_right}
use Rattle.laws.proofs.BytesLaws.{same_eq, same_refl}
use Rattle.laws.specs.Bytes.{Bytes, same}
use Rattle.scene.specs.Block.{shift}
use Rattle.scene.specs.Links.{gives, hits, found, head, definition, latest, through, resolve, body_of, first_later}
use Rattle.scene.specs.Reading.{modifier_test, target_test}
use Rattle.scene.specs.Statement.{void, Body, primitive, alias, Statement}

-- ---- the shift

module _ (p i j : ℕ) where
  pub shift_low : (n : ℕ) → n ≤ p → shift p i j n ≡ n
  unfolding shift
  shift_low n h = rw (le-leb n p h)

  pub shift_first : (n : ℕ) → p < n → n ≤ p + i → shift p i j n ≡ n + j
  unfolding shift
  shift_first n h k = rw (lt-leb n p h, le-leb n (p + i) k)

  pub shift_second : (n : ℕ) → p + i < n → n ≤ p + i + j → shift p i j n ≡ n - i
  unfolding shift
  shift_second n h k = rw (lt-leb n p (omega arith), lt-leb n (p + i) h, le-leb n (p + i + j) k)

  pub shift_high : (n : ℕ) → p + i + j < n → shift p i j n ≡ n
  unfolding shift
  shift_high n h = rw (lt-leb n p (omega arith), lt-leb n (p + i) (omega arith), lt-leb n (p + i + j) h)

-- ---- what a look-up finds

pub hits_of : (w : Bytes) (s : Statement) → gives s ≡ true → w ≡ s.name → hits w s ≡ true
unfolding hits
hits_of w s g e = rw (g, e) (same_refl s.name)

pub hits_true : (w : Bytes) (s : Statement) → hits w s ≡ true → (gives s ≡ true) × (w ≡ s.name)
unfolding hits
hits_true w s e = (and_left (gives s) (same w s.name) e, same_eq w s.name (and_right (gives s) (same w s.name) e))

-- ---- a name that no statement of a list has

abbrev pub Absent : Bytes → List Statement → Type 0
Absent w [] = Unit {0}
Absent w (s ∷ X) = (hits w s ≡ false) × Absent w X

found_absent : (w : Bytes) (X Y : List Statement) → Absent w X → found w (X ++ Y) ≡ found w Y
unfolding found
found_absent w [] Y h = refl
found_absent w (s ∷ X) Y h = rw h.0 (found_absent w X Y h.1)

resolve_absent : (w : Bytes) (X Y : List Statement) → Absent w X → resolve w (X ++ Y) ≡ resolve w Y
unfolding resolve
resolve_absent w [] Y h = refl
resolve_absent w (s ∷ X) Y h = rw h.0 (resolve_absent w X Y h.1)

pub first_absent : (w : Bytes) (X : List Statement) (n : ℕ) → Absent w X → first_later w X n ≡ 0
unfolding first_later
first_absent w [] n h = refl
first_absent w (s ∷ X) n h = rw (h.0, first_absent w X n h.1)

pub latest_le : (w : Bytes) (Y : List Statement) → latest w Y ≤ length Y
unfolding found
latest_le w [] = omega arith
latest_le w (s ∷ Y) = go (hits w s) (latest_le w Y)
  where
    go : (b : Bool) → length (found w Y) ≤ length Y → length (cond b (s ∷ Y) (found w Y)) ≤ suc (length Y)
    go true h = omega arith
    go false h = omega arith

-- ---- what a word finds in two lists of statements, up to a renumbering

pub record View (f : ℕ → ℕ) (Y Y' : List Statement) (w : Bytes) : Type 0 where
  pub same : definition w Y ≡ definition w Y'
  pub links : f (latest w Y) ≡ latest w Y'
  pub bodies : body_of (resolve w Y) ≡ body_of (resolve w Y')

abbrev pub BodyView : (f : ℕ → ℕ) → List Statement → List Statement → Body → Type 0
BodyView f Y Y' (primitive t ss rs) = Unit {0}
BodyView f Y Y' (alias x) = View f Y Y' x

abbrev pub TargetsView : (f : ℕ → ℕ) → List Statement → List Statement → List Statement → Type 0
TargetsView f Y Y' [] = Unit {0}
TargetsView f Y Y' (s ∷ X) = BodyView f Y Y' s.body × TargetsView f Y Y' X

abbrev pub Numbers : (f : ℕ → ℕ) → ℕ → ℕ → ℕ → Type 0
Numbers f k n n' = (m : ℕ) → m < k → f (suc (m + n)) ≡ suc (m + n')

view_step : (f : ℕ → ℕ) (s : Statement) (Y Y' : List Statement) (w : Bytes) → f (suc (length Y)) ≡ suc (length Y') → BodyView f Y Y' s.body → View f Y Y' w → View f (s ∷ Y) (s ∷ Y') w
unfolding found resolve
view_step f s Y Y' w e b v = record { same = same' (hits w s); links = links' (hits w s); bodies = bodies' (hits w s) }
  where
    same' : (c : Bool) → head (cond c (s ∷ Y) (found w Y)) ≡ head (cond c (s ∷ Y') (found w Y'))
    same' true = refl
    same' false = v.same

    links' : (c : Bool) → f (length (cond c (s ∷ Y) (found w Y))) ≡ length (cond c (s ∷ Y') (found w Y'))
    links' true = e
    links' false = v.links

    own : (x : Body) → BodyView f Y Y' x → body_of (through x (s ∷ Y) (λ z. resolve z Y)) ≡ body_of (through x (s ∷ Y') (λ z. resolve z Y'))
    own (primitive t ss rs) h = refl
    own (alias x) h = h.bodies

    bodies' : (c : Bool) → body_of (cond c (through s.body (s ∷ Y) (λ x. resolve x Y)) (resolve w Y)) ≡ body_of (cond c (through s.body (s ∷ Y') (λ x. resolve x Y')) (resolve w Y'))
    bodies' true = own s.body b
    bodies' false = v.bodies

body_up : (f : ℕ → ℕ) (Y Y' Z Z' : List Statement) → ((w : Bytes) → View f Y Y' w → View f Z Z' w) → (b : Body) → BodyView f Y Y' b → BodyView f Z Z' b
body_up f Y Y' Z Z' up (primitive t ss rs) h = tt
body_up f Y Y' Z Z' up (alias x) h = up x h

fewer : (f : ℕ → ℕ) (k n n' : ℕ) → Numbers f (suc k) n n' → Numbers f k n n'
fewer f k n n' h m l = h m (omega arith)

pub view_up : (f : ℕ → ℕ) (X Y Y' : List Statement) → Numbers f (length X) (length Y) (length Y') → TargetsView f Y Y' X → (w : Bytes) → View f Y Y' w → View f (X ++ Y) (X ++ Y') w
view_up f [] Y Y' num h w v = v
view_up f (s ∷ X) Y Y' num h w v =
    view_step f s (X ++ Y) (X ++ Y') w
    (ap (λ n. f (suc n)) (length-append X Y) ∙ num (length X) (omega arith) ∙ ap suc (sym (length-append X Y')))
    (body_up f Y Y' (X ++ Y) (X ++ Y') (λ w v. view_up f X Y Y' (fewer f (length X) (length Y) (length Y') num) h.1 w v) s.body h.0)
    (view_up f X Y Y' (fewer f (length X) (length Y) (length Y') num) h.1 w v)

-- ---- what a statement refers to, seen alike

pub record SeesOne (f : ℕ → ℕ) (Y Y' : List Statement) (s : Statement) : Type 0 where
  pub modifier : same s.modifier void ≡ false → View f Y Y' s.modifier
  pub body : BodyView f Y Y' s.body

abbrev pub Sees : (f : ℕ → ℕ) → List Statement → List Statement → List Statement → Type 0
Sees f Y Y' [] = Unit {0}
Sees f Y Y' (s ∷ X) = SeesOne f Y Y' s × Sees f Y Y' X

pub targets : (f : ℕ → ℕ) (Y Y' X : List Statement) → Sees f Y Y' X → TargetsView f Y Y' X
targets f Y Y' [] h = tt
targets f Y Y' (s ∷ X) h = (h.0.body, targets f Y Y' X h.1)

pub sees_up : (f : ℕ → ℕ) (X Y Y' : List Statement) (s : Statement) → Numbers f (length X) (length Y) (length Y') → Sees f Y Y' X → SeesOne f Y Y' s → SeesOne f (X ++ Y) (X ++ Y') s
sees_up f X Y Y' s num h o = record {
  modifier = λ e. view_up f X Y Y' num (targets f Y Y' X h) s.modifier (o.modifier e);
  body = body_up f Y Y' (X ++ Y) (X ++ Y') (view_up f X Y Y' num (targets f Y Y' X h)) s.body o.body;
}

-- ---- linked

abbrev pub BodyLink : List Statement → Body → Type 0
BodyLink d (primitive t ss rs) = Unit {0}
BodyLink d (alias x) = target_test (definition x d) ≡ 0

pub record LinkedOne (d : List Statement) (s : Statement) : Type 0 where
  pub modifier : cond (same s.modifier void) 0 (modifier_test (definition s.modifier d)) ≡ 0
  pub body : BodyLink d s.body

abbrev pub Linked : List Statement → Type 0
Linked [] = Unit {0}
Linked (s ∷ d) = LinkedOne d s × Linked d

abbrev pub LinkedOn : List Statement → List Statement → Type 0
LinkedOn d [] = Unit {0}
LinkedOn d (s ∷ X) = LinkedOne (X ++ d) s × LinkedOn d X

pub linked_split : (X d : List Statement) → Linked (X ++ d) → LinkedOn d X × Linked d
linked_split [] d h = (tt, h)
linked_split (s ∷ X) d h = let k = linked_split X d h.1 in ((h.0, k.0), k.1)

linked_join : (X d : List Statement) → LinkedOn d X → Linked d → Linked (X ++ d)
linked_join [] d h k = k
linked_join (s ∷ X) d h k = (h.0, linked_join X d h.1 k)

linked_one : (f : ℕ → ℕ) (Y Y' : List Statement) (s : Statement) → SeesOne f Y Y' s → LinkedOne Y s → LinkedOne Y' s
linked_one f Y Y' s o h = record { modifier = go₁ (same s.modifier void) o.modifier h.modifier; body = go₂ s.body o.body h.body }
  where
    go₁ : (b : Bool) → (b ≡ false → View f Y Y' s.modifier) → cond b 0 (modifier_test (definition s.modifier Y)) ≡ 0 → cond b 0 (modifier_test (definition s.modifier Y')) ≡ 0
    go₁ true v h = refl
    go₁ false v h = sym (ap modifier_test (v refl).same) ∙ h

    go₂ : (b : Body) → BodyView f Y Y' b → BodyLink Y b → BodyLink Y' b
    go₂ (primitive t ss rs) v h = tt
    go₂ (alias x) v h = sym (ap target_test v.same) ∙ h

linked_on : (f : ℕ → ℕ) (X Y Y' : List Statement) → Numbers f (length X) (length Y) (length Y') → Sees f Y Y' X → LinkedOn Y X → LinkedOn Y' X
linked_on f [] Y Y' num h l = tt
linked_on f (s ∷ X) Y Y' num h l =
    let less = fewer f (length X) (length Y) (length Y') num in
    (linked_one f (X ++ Y) (X ++ Y') s (sees_up f X Y Y' s less h.1 h.0) l.0, linked_on f X Y Y' less h.1 l.1)

-- ---- neither gives a name that the other gives or refers to

abbrev pub BodyAbsent : Body → List Statement → Type 0
BodyAbsent (primitive t ss rs) B = Unit {0}
BodyAbsent (alias x) B = Absent x B

pub record ClearOne (s : Statement) (B : List Statement) : Type 0 where
  pub name : gives s ≡ true → Absent s.name B
  pub modifier : same s.modifier void ≡ false → Absent s.modifier B
  pub body : BodyAbsent s.body B

abbrev pub Clear : List Statement → List Statement → Type 0
Clear [] B = Unit {0}
Clear (s ∷ A) B = ClearOne s B × Clear A B

module _ (f : ℕ → ℕ) (Y Y' B : List Statement) (base : (w : Bytes) → Absent w B → View f Y Y' w) where
  clear_body : (b : Body) → BodyAbsent b B → BodyView f Y Y' b
  clear_body (primitive t ss rs) h = tt
  clear_body (alias x) h = base x h

  pub clear_one : (s : Statement) → ClearOne s B → SeesOne f Y Y' s
  clear_one s h = record { modifier = λ e. base s.modifier (h.modifier e); body = clear_body s.body h.body }

  pub clear_sees : (A : List Statement) → Clear A B → Sees f Y Y' A
  clear_sees [] h = tt
  clear_sees (s ∷ A) h = (clear_one s h.0, clear_sees A h.1)

module _ (f : ℕ → ℕ) (Y Y' : List Statement) (base : (w : Bytes) → View f Y Y' w) where
  all_body : (b : Body) → BodyView f Y Y' b
  all_body (primitive t ss rs) = tt
  all_body (alias x) = base x

  pub all_one : (s : Statement) → SeesOne f Y Y' s
  all_one s = record { modifier = λ e. base s.modifier; body = all_body s.body }

  pub all_sees : (A : List Statement) → Sees f Y Y' A
  all_sees [] = tt
  all_sees (s ∷ A) = (all_one s, all_sees A)

pub either : (w : Bytes) (A B : List Statement) → Clear A B → Absent w A ⊎ Absent w B
either w [] B h = inl tt
either w (s ∷ A) B h = go (hits w s) refl (either w A B h.1)
  where
    go : (b : Bool) → hits w s ≡ b → Absent w A ⊎ Absent w B → Absent w (s ∷ A) ⊎ Absent w B
    go true e o = let k = hits_true w s e in inr (subst (λ (n : Bytes). Absent n B) (sym k.1) (h.0.name k.0))
    go false e (inl a) = inl (e, a)
    go false e (inr b) = inr b

module _ (P A B : List Statement) where
  abbrev pub new : ℕ → ℕ
  new = shift (length P) (length A) (length B)

  pub new_zero : new 0 ≡ 0
  new_zero = shift_low (length P) (length A) (length B) 0 (omega arith)

  pub base-A : (w : Bytes) → Absent w B → View new P (B ++ P) w
  base-A w h = record {
    same = sym (ap head (found_absent w B P h));
    links = shift_low (length P) (length A) (length B) (latest w P) (latest_le w P) ∙ sym (ap {B = ℕ} length (found_absent w B P h));
    bodies = ap body_of (sym (resolve_absent w B P h));
  }

  pub base-B : (w : Bytes) → Absent w A → View new (A ++ P) P w
  base-B w h = record {
    same = ap head (found_absent w A P h);
    links = ap new (ap {B = ℕ} length (found_absent w A P h)) ∙ shift_low (length P) (length A) (length B) (latest w P) (latest_le w P);
    bodies = ap body_of (resolve_absent w A P h);
  }

  pub numbers-A : Numbers new (length A) (length P) (length (B ++ P))
  numbers-A m h = shift_first (length P) (length A) (length B) (suc (m + length P)) (omega arith) (omega arith) ∙ simp length-append (omega arith)

  pub numbers-B : Numbers new (length B) (length (A ++ P)) (length P)
  numbers-B m h =
      let e = length-append A P in
      shift_second (length P) (length A) (length B) (suc (m + length (A ++ P))) (omega arith) (omega arith) ∙ omega arith

  pub numbers-Q : (k : ℕ) → Numbers new k (length (B ++ (A ++ P))) (length (A ++ (B ++ P)))
  numbers-Q k m h =
      let e₁ = length-append A P in
      let e₂ = length-append B (A ++ P) in
      let e₃ = length-append B P in
      let e₄ = length-append A (B ++ P) in
      shift_high (length P) (length A) (length B) (suc (m + length (B ++ (A ++ P)))) (omega arith) ∙ omega arith

  module _ (cab : Clear A B) (cba : Clear B A) where
    up-A : (w : Bytes) → Absent w B → View new (A ++ P) (A ++ (B ++ P)) w
    up-A w h = view_up new A P (B ++ P) numbers-A (targets new P (B ++ P) A (clear_sees new P (B ++ P) B base-A A cab)) w (base-A w h)

    up-B : (w : Bytes) → Absent w A → View new (B ++ (A ++ P)) (B ++ P) w
    up-B w h = view_up new B (A ++ P) P numbers-B (targets new (A ++ P) P B (clear_sees new (A ++ P) P A base-B B cba)) w (base-B w h)

    pub base-Q : (w : Bytes) → View new (B ++ (A ++ P)) (A ++ (B ++ P)) w
    base-Q w = go (either w A B cab)
      where
        go : Absent w A ⊎ Absent w B → View new (B ++ (A ++ P)) (A ++ (B ++ P)) w
        go (inl a) =
            let v = up-B w a in
            record {
              same = v.same ∙ sym (ap head (found_absent w A (B ++ P) a));
              links = v.links ∙ sym (ap {B = ℕ} length (found_absent w A (B ++ P) a));
              bodies = v.bodies ∙ ap body_of (sym (resolve_absent w A (B ++ P) a));
            }
        go (inr b) =
            let v = up-A w b in
            record {
              same = ap head (found_absent w B (A ++ P) b) ∙ v.same;
              links = ap new (ap {B = ℕ} length (found_absent w B (A ++ P) b)) ∙ v.links;
              bodies = ap body_of (resolve_absent w B (A ++ P) b) ∙ v.bodies;
            }

    pub linked_swap : (Q : List Statement) → Linked (Q ++ (B ++ (A ++ P))) → Linked (Q ++ (A ++ (B ++ P)))
    linked_swap Q h =
        let q = linked_split Q (B ++ (A ++ P)) h in
        let b = linked_split B (A ++ P) q.1 in
        let a = linked_split A P b.1 in
        linked_join Q (A ++ (B ++ P)) (linked_on new Q (B ++ (A ++ P)) (A ++ (B ++ P)) (numbers-Q (length Q)) (all_sees new (B ++ (A ++ P)) (A ++ (B ++ P)) base-Q Q) q.0)
        (linked_join A (B ++ P) (linked_on new A P (B ++ P) numbers-A (clear_sees new P (B ++ P) B base-A A cab) a.0)
        (linked_join B P (linked_on new B (A ++ P) P numbers-B (clear_sees new (A ++ P) P A base-B B cba) b.0) a.1))
