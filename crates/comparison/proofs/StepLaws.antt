-- The step from a key to the one that follows: its numbers in both scenes, and what it comes to.
use mathlib.Core.Bool.{Bool, true, false, cond, ◌&&◌, ◌||◌, and-false, true≢false}
use mathlib.Core.List.{List, [], ◌∷◌}
use mathlib.Core.Option.{Option, none, some}
use mathlib.Core.Path.{◌≡◌, refl, ap, sym, ◌∙◌}
use Prim.Native.Nat.{ℕ, zero, suc, ◌+◌, ◌/◌, ◌<◌}
use Rattle.std.proofs.lemmas.Option.{same_Some}
use Rattle.std.specs.Prelude.{Option as Found, Some, None}
use native.Mathlib.Omega.{arith}
use borrow.Author.Tests.{eq-eqb, ne_eqb, eqb-true, eqb-false}
use lib.Dec.{eqb}
use lib.Ieee.{Float}
use lib.ListN.{length}
use Rattle.content.specs.Content.{content_in, same_content}
use Rattle.keys.proofs.NextLaws.{found_most}
use Rattle.keys.proofs.ScanLaws.{rows_count, key_bare, found_rows, times_most, least_reals}
use Rattle.keys.specs.Key.{Key, nth_of, found, is_found, lower}
use Rattle.keys.specs.Next.{named_by, lesser, least_above, one_more, first_of, next_name, next_key}
use Rattle.keys.specs.Rows.{rows_in, scene_rows}
use Rattle.laws.specs.Bytes.{Bytes}
use Rattle.scene.specs.Record.{name_in, width}
use Rattle.scene.specs.Told.{Told}
use Rattle.comparison.specs.Compare.{changed, alike, state_at}
use Rattle.comparison.specs.NextLine.{key_in, place_by}
use Rattle.comparison.specs.Steps.{lesser_of, numbers_by, numbers_of, numbers_for, first_numbers, numbers_after, next_numbers, state_by, step_in, step_by, step_at, step_for, next_step}
use Rattle.comparison.specs.declared.Numbers.{Numbers}
use Rattle.comparison.specs.declared.Place.{Place}
use Rattle.comparison.specs.Step.{Step}
use Rattle.comparison.specs.declared.Place.TheVariants as on
use Rattle.comparison.specs.declared.State.TheVariants as is
use Rattle.comparison.specs.Step as step

-- ---- the lesser of two names

named_some : (t : Bytes) (r : List ℕ) (m : ℕ) → (m ≡ 0 → ⊥) → named_by t r m ≡ some (name_in t r m)
named_some t r zero h = absurd (h refl)
named_some t r (suc m) h = refl

some_cond : (c : Bool) (x y : Bytes) → cond c (some x) (some y) ≡ some (cond c x y)
some_cond true x y = refl
some_cond false x y = refl

module _ (a : Bytes) (records : List ℕ) (m : ℕ) (b : Bytes) (others : List ℕ) (n : ℕ) where
  -- by what each test came to
  module _ (v u : Bytes) (g : v ≡ name_in a records m) (h : u ≡ name_in b others n) where
    pub lesser_none : m ≡ 0 → u ≡ lesser_of a records m b others n
    unfolding lesser_of
    lesser_none e = rw (eq-eqb m 0 e) h

    module _ (e : m ≡ 0 → ⊥) where
      pub lesser_only : n ≡ 0 → v ≡ lesser_of a records m b others n
      unfolding lesser_of
      lesser_only f = rw (ne_eqb m 0 e, eq-eqb n 0 f) g

      module _ (f : n ≡ 0 → ⊥) (t : Bool) (x : t ≡ lower u v) where
        test_is : lower (name_in b others n) (name_in a records m) ≡ t
        test_is = (λ i. lower (sym h i) (sym g i)) ∙ sym x

        pub lesser_second : t ≡ true → u ≡ lesser_of a records m b others n
        unfolding lesser_of
        lesser_second d = rw (ne_eqb m 0 e, ne_eqb n 0 f, test_is ∙ d) h

        pub lesser_first : t ≡ false → v ≡ lesser_of a records m b others n
        unfolding lesser_of
        lesser_first d = rw (ne_eqb m 0 e, ne_eqb n 0 f, test_is ∙ d) g

  -- the name chosen is the lesser one, where there is any
  lesser_some : (eqb m 0 && eqb n 0) ≡ false → lesser (named_by a records m) (named_by b others n) ≡ some (lesser_of a records m b others n)
  unfolding lesser_of
  lesser_some = go (eqb m 0) (eqb n 0) refl refl
    where
      go : (x y : Bool) → eqb m 0 ≡ x → eqb n 0 ≡ y → (x && y) ≡ false → lesser (named_by a records m) (named_by b others n) ≡ some (cond x (name_in b others n) (cond y (name_in a records m) (cond (lower (name_in b others n) (name_in a records m)) (name_in b others n) (name_in a records m))))
      go true true p q e = absurd (true≢false e)
      go true false p q e = (λ i. lesser (named_by a records (eqb-true m 0 p i)) (named_by b others n)) ∙ named_some b others n (eqb-false n 0 q)
      go false true p q e = λ i. lesser (named_some a records m (eqb-false m 0 p) i) (named_by b others (eqb-true n 0 q i))
      go false false p q e = (λ i. lesser (named_some a records m (eqb-false m 0 p) i) (named_some b others n (eqb-false n 0 q) i)) ∙ some_cond (lower (name_in b others n) (name_in a records m)) (name_in b others n) (name_in a records m)

  lesser_neither : m ≡ 0 → n ≡ 0 → lesser (named_by a records m) (named_by b others n) ≡ none
  lesser_neither e f = λ i. lesser (named_by a records (e i)) (named_by b others (f i))

-- one of two numbers is not 0
module _ (m n : ℕ) where
  pub one_left : (m ≡ 0 → ⊥) → (eqb m 0 && eqb n 0) ≡ false
  one_left h = rw (ne_eqb m 0 h)

  pub one_right : (n ≡ 0 → ⊥) → (eqb m 0 && eqb n 0) ≡ false
  one_right h = rw (ne_eqb n 0 h) (and-false (eqb m 0))

-- ---- the numbers of a key

-- neither scene has it exactly where it has no numbers
absent_none : (x y : List Told) (n : ℕ) → None ≡ numbers_by (length x) (length y) n → (is_found x || is_found y) ≡ false
absent_none [] [] n h = refl
absent_none [] (u ∷ y) n h = cc
absent_none (t ∷ x) y n h = cc

present_some : (x y : List Told) (n : ℕ) (a : Numbers) → Some a ≡ numbers_by (length x) (length y) n → (is_found x || is_found y) ≡ true
present_some [] [] n a h = cc
present_some [] (u ∷ y) n a h = refl
present_some (t ∷ x) y n a h = refl

-- a key that is found has fewer above it than there are
above_fits : (t : Bytes) (r : List ℕ) (w : Bytes) (up m : ℕ) → m ≡ length (found (nth_of w (suc up)) (scene_rows t r [])) → (m ≡ 0 → ⊥) → up < length r / width
above_fits t r w up m q h = omega (arith, (found_most (nth_of w (suc up)) (scene_rows t r []) (go (found (nth_of w (suc up)) (scene_rows t r [])) q)).1, times_most t r w [] (length r / width))
  where
    go : (d : List Told) → m ≡ length d → is_found d ≡ true
    go [] e = absurd (h e)
    go (x ∷ d) e = refl

module _ (lt : Bytes) (lr : List ℕ) (rt : Bytes) (rr : List ℕ) where
  abbrev named_left : List Told
  named_left = scene_rows lt lr []

  abbrev named_right : List Told
  named_right = scene_rows rt rr []

  module _ (w : Bytes) (up m n : ℕ) (p : m ≡ length (found (nth_of w (suc up)) named_left)) (q : n ≡ length (found (nth_of w (suc up)) named_right)) where
    pub at_none : m ≡ 0 → n ≡ 0 → None ≡ numbers_of named_left named_right (nth_of w (suc up))
    at_none e f = (λ i. numbers_by (sym e i) (sym f i) (suc up)) ∙ (λ i. numbers_by (p i) (q i) (suc up))

    module _ (e : (eqb m 0 && eqb n 0) ≡ false) where
      pub at_some : Some (record { left = m; right = n; nth = up + 1 }) ≡ numbers_of named_left named_right (nth_of w (suc up))
      at_some = go m n e ∙ (λ i. numbers_by (p i) (q i) (more i))
        where
          more : up + 1 ≡ suc up
          more = omega arith

          go : (m n : ℕ) → (eqb m 0 && eqb n 0) ≡ false → Some (record { left = m; right = n; nth = up + 1 }) ≡ numbers_by m n (up + 1)
          go zero zero h = absurd (true≢false h)
          go zero (suc n) h = refl
          go (suc m) n h = refl

      pub at_fits : up < length lr / width + length rr / width
      at_fits = go (eqb m 0) refl
        where
          go : (b : Bool) → eqb m 0 ≡ b → up < length lr / width + length rr / width
          go true f = omega (arith, above_fits rt rr w up n q (eqb-false n 0 (ap (λ (b : Bool). b && eqb n 0) (sym f) ∙ e)))
          go false f = omega (arith, above_fits lt lr w up m p (eqb-false m 0 f))

  -- ---- the least name above another

  module _ (w : Bytes) (m n : ℕ) (a : named_by lt lr m ≡ least_above w named_left) (b : named_by rt rr n ≡ least_above w named_right) where
    least_of : first_of (lesser (named_by lt lr m) (named_by rt rr n)) ≡ next_name named_left named_right w
    least_of = λ i. first_of (lesser (a i) (b i))

    pub name_none : m ≡ 0 → n ≡ 0 → None ≡ first_numbers named_left named_right w
    name_none e f = ap (numbers_for named_left named_right) (sym (ap first_of (lesser_neither lt lr m rt rr n e f)) ∙ least_of)

    pub name_some : (eqb m 0 && eqb n 0) ≡ false → (v : Bytes) (x : Found Numbers) → v ≡ lesser_of lt lr m rt rr n → x ≡ numbers_of named_left named_right (nth_of v 1) → x ≡ first_numbers named_left named_right w
    name_some e v x g h = h ∙ (λ i. numbers_of named_left named_right (nth_of (g i) 1)) ∙ ap (numbers_for named_left named_right) (sym (ap first_of (lesser_some lt lr m rt rr n e)) ∙ least_of)

-- ---- the key that follows

module _ (l r : List Told) (k : Key) where
  follows : (b : Bool) → (is_found (found (one_more k) l) || is_found (found (one_more k) r)) ≡ b → next_key l r k ≡ cond b (some (one_more k)) (next_name l r k.name)
  unfolding next_key
  follows b h = ap (λ (c : Bool). cond c (some (one_more k)) (next_name l r k.name)) h

  pub follows_some : (a : Numbers) → Some a ≡ numbers_of l r (one_more k) → Some a ≡ numbers_after l r k
  follows_some a e = e ∙ sym (ap (numbers_for l r) (follows true (present_some (found (one_more k) l) (found (one_more k) r) (suc k.nth) a e)))

  pub follows_none : None ≡ numbers_of l r (one_more k) → (x : Found Numbers) → x ≡ first_numbers l r k.name → x ≡ numbers_after l r k
  follows_none e x q = q ∙ sym (ap (numbers_for l r) (follows false (absent_none (found (one_more k) l) (found (one_more k) r) (suc k.nth) e)))

-- by the name and the nth of the key held
pub follows_held : (l r : List Told) (p q : Place) (v : Bytes) (n : ℕ) (x : Found Numbers) → p ≡ q → v ≡ (key_in l r q).name → n ≡ (key_in l r q).nth → x ≡ numbers_after l r (nth_of v n) → x ≡ next_numbers l r p
follows_held l r p q v n x e f g h = h ∙ (λ i. numbers_after l r (nth_of (f i) (g i))) ∙ sym (ap (next_numbers l r) e)

-- ---- what a key comes to, by its numbers

-- of the numbers of a key that some scene has, one is not 0
one_there : (m n k : ℕ) (at : Numbers) → Some at ≡ numbers_by m n k → at.left ≡ 0 → at.right ≡ 0 → ⊥
one_there zero zero k at e f g = cc
one_there zero (suc n) k at e f g = let q : at.right ≡ suc n = ap (λ (a : Numbers). a.right) (same_Some _ _ e) in omega (arith, q, g)
one_there (suc m) n k at e f g = let q : at.left ≡ suc m = ap (λ (a : Numbers). a.left) (same_Some _ _ e) in omega (arith, q, f)

pub one_next : (l r : List Told) (p : Place) (at : Numbers) → Some at ≡ next_numbers l r p → at.left ≡ 0 → at.right ≡ 0 → ⊥
one_next l r p at e = go (next_key l r (key_in l r p)) e
  where
    go : (o : Option Key) → Some at ≡ numbers_for l r o → at.left ≡ 0 → at.right ≡ 0 → ⊥
    go none e f g = cc
    go (some k) e f g = one_there (length (found k l)) (length (found k r)) k.nth at e f g

module _ (m n k : ℕ) (s : Bool) where
  abbrev by : Step
  by = step_in (state_by m n s) (place_by m n) k

  pub by_right : m ≡ 0 → (n ≡ 0 → ⊥) → step.Line (on.Right n) k is.OnlyRight ≡ by
  by_right e f = go n f ∙ (λ i. step_in (state_by (sym e i) n s) (place_by (sym e i) n) k)
    where
      go : (n : ℕ) → (n ≡ 0 → ⊥) → step.Line (on.Right n) k is.OnlyRight ≡ step_in (state_by 0 n s) (place_by 0 n) k
      go zero f = absurd (f refl)
      go (suc n) f = refl

  module _ (e : m ≡ 0 → ⊥) where
    pub by_left : n ≡ 0 → step.Line (on.Left m) k is.OnlyLeft ≡ by
    by_left f = go m e ∙ (λ i. step_in (state_by m (sym f i) s) (place_by m (sym f i)) k)
      where
        go : (m : ℕ) → (m ≡ 0 → ⊥) → step.Line (on.Left m) k is.OnlyLeft ≡ step_in (state_by m 0 s) (place_by m 0) k
        go zero e = absurd (e refl)
        go (suc m) e = refl

    module _ (f : n ≡ 0 → ⊥) where
      by_both : step_in (cond s alike changed) (on.Left m) k ≡ by
      by_both = go m n e f
        where
          go : (m n : ℕ) → (m ≡ 0 → ⊥) → (n ≡ 0 → ⊥) → step_in (cond s alike changed) (on.Left m) k ≡ step_in (state_by m n s) (place_by m n) k
          go zero n e f = absurd (e refl)
          go (suc m) zero e f = absurd (f refl)
          go (suc m) (suc n) e f = refl

      pub by_same : s ≡ true → step.Same (on.Left m) ≡ by
      by_same h = ap (λ (b : Bool). step_in (cond b alike changed) (on.Left m) k) (sym h) ∙ by_both

      pub by_changed : s ≡ false → step.Line (on.Left m) k is.Changed ≡ by
      by_changed h = ap (λ (b : Bool). step_in (cond b alike changed) (on.Left m) k) (sym h) ∙ by_both

-- what a key comes to, in each case
pub ruleset by_case = (by_right, by_left, by_same, by_changed)

-- ---- the step to the next key: its numbers go by the names alone, what it comes to by the reals too

-- of two lists with one length, both are found or neither
found_by_length : (x y : List Told) → length x ≡ length y → is_found x ≡ is_found y
found_by_length [] [] h = refl
found_by_length [] (u ∷ y) h = absurd (omega arith)
found_by_length (t ∷ x) [] h = absurd (omega arith)
found_by_length (t ∷ x) (u ∷ y) h = refl

found_bare : (t : Bytes) (r : List ℕ) (xs : List Float) (k : Key) → is_found (found k (scene_rows t r xs)) ≡ is_found (found k (scene_rows t r []))
found_bare t r xs k = found_by_length (found k (scene_rows t r xs)) (found k (scene_rows t r [])) (ap length (found_rows t r k xs [] (length r / width)) ∙ rows_count t r xs (length (found k (scene_rows t r []))))

module _ (lt : Bytes) (lr : List ℕ) (lx : List Float) (rt : Bytes) (rr : List ℕ) (rx : List Float) where
  abbrev l : List Told
  l = scene_rows lt lr lx

  abbrev r : List Told
  r = scene_rows rt rr rx

  next_bare : (p : Place) → next_key l r (key_in l r p) ≡ next_key (scene_rows lt lr []) (scene_rows rt rr []) (key_in (scene_rows lt lr []) (scene_rows rt rr []) p)
  unfolding next_key
  next_bare p = keys (key_in l r p) ∙ ap (next_key (scene_rows lt lr []) (scene_rows rt rr [])) (key p)
    where
      key : (p : Place) → key_in l r p ≡ key_in (scene_rows lt lr []) (scene_rows rt rr []) p
      key (on.Left n) = key_bare lt lr lx n
      key (on.Right n) = key_bare rt rr rx n

      keys : (k : Key) → next_key l r k ≡ next_key (scene_rows lt lr []) (scene_rows rt rr []) k
      keys k = λ i. cond (found_bare lt lr lx (one_more k) i || found_bare rt rr rx (one_more k) i) (some (one_more k)) (first_of (lesser (least_reals lt lr k.name lx [] (length lr / width) i) (least_reals rt rr k.name rx [] (length rr / width) i)))

  numbers_step : (m n k : ℕ) (at : Numbers) → Some at ≡ numbers_by m n k → (s : Bool) → s ≡ same_content (content_in lt lr lx at.left) (content_in rt rr rx at.right) → step_by at s ≡ step_in (state_at l r (rows_in lt lr lx m) (rows_in rt rr rx n)) (place_by (length (rows_in lt lr lx m)) (length (rows_in rt rr rx n))) k
  unfolding rows_in
  numbers_step zero zero k at e s h = cc
  numbers_step zero (suc n) k at e s h =
      ap (λ (a : Numbers). step_by a s) (same_Some _ _ e) ∙ ap (λ (j : ℕ). step.Line (on.Right (suc j)) k is.OnlyRight) (sym (rows_count rt rr rx n))
  numbers_step (suc m) zero k at e s h =
      ap (λ (a : Numbers). step_by a s) (same_Some _ _ e) ∙ ap (λ (j : ℕ). step.Line (on.Left (suc j)) k is.OnlyLeft) (sym (rows_count lt lr lx m))
  numbers_step (suc m) (suc n) k at e s h =
      let q = same_Some _ _ e in
      ap (λ (a : Numbers). step_by a s) q
      ∙ (λ i. step_in (cond ((h ∙ ap (λ (a : Numbers). same_content (content_in lt lr lx a.left) (content_in rt rr rx a.right)) q) i) alike changed) (on.Left (suc (sym (rows_count lt lr lx m) i))) k)

  numbers_none : (m n k : ℕ) → None ≡ numbers_by m n k → step.End ≡ step_in (state_at l r (rows_in lt lr lx m) (rows_in rt rr rx n)) (place_by (length (rows_in lt lr lx m)) (length (rows_in rt rr rx n))) k
  unfolding rows_in
  numbers_none zero zero k e = refl
  numbers_none zero (suc n) k e = cc
  numbers_none (suc m) n k e = cc

  -- of the numbers of rows with no reals, that of rows with them
  bare_step : (k : Key) → step_in (state_at l r (rows_in lt lr lx (length (found k (scene_rows lt lr [])))) (rows_in rt rr rx (length (found k (scene_rows rt rr []))))) (place_by (length (rows_in lt lr lx (length (found k (scene_rows lt lr []))))) (length (rows_in rt rr rx (length (found k (scene_rows rt rr [])))))) k.nth ≡ step_at l r k
  bare_step k = λ i. step_in (state_at l r (sym (found_rows lt lr k lx [] (length lr / width)) i) (sym (found_rows rt rr k rx [] (length rr / width)) i)) (place_by (length (sym (found_rows lt lr k lx [] (length lr / width)) i)) (length (sym (found_rows rt rr k rx [] (length rr / width)) i))) k.nth

  pub step_end : (p : Place) → None ≡ next_numbers (scene_rows lt lr []) (scene_rows rt rr []) p → step.End ≡ next_step l r p
  step_end p e = go (next_key (scene_rows lt lr []) (scene_rows rt rr []) (key_in (scene_rows lt lr []) (scene_rows rt rr []) p)) e ∙ sym (ap (step_for l r) (next_bare p))
    where
      go : (o : Option Key) → None ≡ numbers_for (scene_rows lt lr []) (scene_rows rt rr []) o → step.End ≡ step_for l r o
      go none e = refl
      go (some k) e = numbers_none (length (found k (scene_rows lt lr []))) (length (found k (scene_rows rt rr []))) k.nth e ∙ bare_step k

  pub step_next : (p : Place) (at : Numbers) → Some at ≡ next_numbers (scene_rows lt lr []) (scene_rows rt rr []) p → (s : Bool) → s ≡ same_content (content_in lt lr lx at.left) (content_in rt rr rx at.right) → (x : Step) → x ≡ step_by at s → x ≡ next_step l r p
  step_next p at e s h x q = q ∙ go (next_key (scene_rows lt lr []) (scene_rows rt rr []) (key_in (scene_rows lt lr []) (scene_rows rt rr []) p)) e ∙ sym (ap (step_for l r) (next_bare p))
    where
      go : (o : Option Key) → Some at ≡ numbers_for (scene_rows lt lr []) (scene_rows rt rr []) o → step_by at s ≡ step_for l r o
      go none e = cc
      go (some k) e =
          numbers_step (length (found k (scene_rows lt lr []))) (length (found k (scene_rows rt rr []))) k.nth at e s h ∙ bare_step k
