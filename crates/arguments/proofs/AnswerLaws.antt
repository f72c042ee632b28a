-- What a count, a string or a real comes to: one law for each answer of the step.
use mathlib.Core.Bool.{Bool, true, false}
use mathlib.Core.Option.{none, some}
use mathlib.Core.Path.{◌≡◌, refl, ap, sym, ◌∙◌}
use Prim.Native.Nat.{ℕ, ◌+◌, ◌-◌, ◌≤◌, ◌<◌}
use borrow.Author.Tests.{lt-ltb, le-ltb}
use lib.Dec.{leb}
use lib.Ieee.{Float}
use Rattle.arguments.specs.Steps.{integer_count_step, integer_counted, real_count_step, real_left, real_step, reals_to, stored_in, string_count_step, string_left, string_step, strings_to, with_reals, with_strings}
use Rattle.laws.proofs.NatLaws.{nonzero}
use Rattle.laws.specs.Bytes.{Bytes}
use Rattle.numeral.specs.Count.{count_of}
use Rattle.numeral.specs.Numeral.{numeral_of, value, refusal}
use Rattle.scene.specs.HouseRules.{house_rules, breach_at}
use Rattle.scene.specs.Types.{reals_allowed, strings_allowed}
use Rattle.statement.specs.Heads.{going_to}
use Rattle.statement.specs.declared.Draft.{Draft}
use Rattle.statement.specs.declared.Seen.{Seen}
use Rattle.statement.specs.declared.State.{State}
use Rattle.statement.specs.declared.Phase.TheVariants as is
use Rattle.statement.specs.Step as to

-- what an answer of the code means, once its case is known
pub means : {A B : Type 0} (f : A → B) {r k : A} {x : B} → f r ≡ x → r ≡ k → x ≡ f k
means f e h = sym e ∙ ap f h

module _ (w : Bytes) (s : State) (v : Seen) where
  -- counts
  module _ (c : count_of w ≡ none) where
    pub string_count_malformed : to.Refused 12 v.place ≡ string_count_step w s v
    unfolding string_count_step
    string_count_malformed = rw c

    pub integer_count_malformed : to.Refused 12 v.place ≡ integer_count_step w s v
    unfolding integer_count_step
    integer_count_malformed = rw c

  module _ {n : ℕ} (c : count_of w ≡ some n) where
    pub integers_none : n ≡ 0 → going_to s is.RealCount 0 s.draft ≡ integer_count_step w s v
    unfolding integer_count_step
    integers_none z = rw (c, z)

    pub integers_some : (n ≡ 0 → ⊥) → to.Refused 12 v.place ≡ integer_count_step w s v
    unfolding integer_count_step
    integers_some z = rw c (nonzero (λ n k. to.Refused 12 v.place ≡ integer_counted s v.place (some n)) (λ k. refl) n z)

    -- q: whether the type takes so many strings
    module _ {q : Bool} (e : q ≡ strings_allowed s.draft.kind n) where
      pub strings_none : q ≡ true → n ≡ 0 → going_to s is.IntegerCount 0 (with_strings s.draft n) ≡ string_count_step w s v
      unfolding string_count_step
      strings_none h z = rw (c, ← e, h) (rw z refl)

      pub strings_some : q ≡ true → (n ≡ 0 → ⊥) → going_to s is.FirstString (n - 1) (with_strings s.draft n) ≡ string_count_step w s v
      unfolding string_count_step
      strings_some h z = rw (c, ← e, h) (nonzero (λ n k. going_to s is.FirstString k (with_strings s.draft n) ≡ strings_to s n) (λ k. refl) n z)

      pub strings_refused : q ≡ false → to.Refused 12 v.place ≡ string_count_step w s v
      unfolding string_count_step
      strings_refused h = rw (c, ← e, h)

-- a real
module _ (w : Bytes) (room : ℕ) (s : State) (v : Seen) where
  pub real_refused : {n : ℕ} → numeral_of w ≡ refusal n → to.Refused n v.place ≡ real_step w room s v
  unfolding real_step
  real_refused c = rw c

  -- k counts the real among its statement's, q tells whether it breaks the house's rules
  module _ {x : Float} {k : ℕ} {q : Bool} (c : numeral_of w ≡ value x) (f : k ≡ s.draft.reals - s.left) (e : q ≡ breach_at house_rules s.draft.kind k x v.previous v.first) where
    pub real_breach : q ≡ true → to.Refused 16 v.place ≡ real_step w room s v
    unfolding real_step
    real_breach h = rw (c, ← f, ← e, h)

    pub real_full : q ≡ false → room ≤ s.used → to.Refused 13 v.place ≡ real_step w room s v
    unfolding real_step
    real_full h l = rw (c, ← f, ← e, h, le-ltb s.used room l)

    module _ (h : q ≡ false) (l : s.used < room) where
      pub real_last : {t : State} → t ≡ stored_in s (s.used + 1) 0 → s.left ≡ 0 → to.Last t x ≡ real_step w room s v
      unfolding real_step
      real_last g z = rw (g, c, ← f, ← e, h, lt-ltb s.used room l, z)

      pub real_more : {t : State} → t ≡ stored_in s (s.used + 1) (s.left - 1) → (s.left ≡ 0 → ⊥) → to.Real t x ≡ real_step w room s v
      unfolding real_step
      real_more g z = rw (g, c, ← f, ← e, h, lt-ltb s.used room l) (nonzero (λ n k. to.Real (stored_in s (s.used + 1) k) x ≡ real_left s x n) (λ k. refl) s.left z)

-- the count of reals
module _ (w : Bytes) (room : ℕ) (s : State) (v : Seen) where
  pub real_count_malformed : count_of w ≡ none → to.Refused 12 v.place ≡ real_count_step w room s v
  unfolding real_count_step
  real_count_malformed c = rw c

  -- q: whether the type takes so many reals
  module _ {n : ℕ} {q : Bool} (c : count_of w ≡ some n) (e : q ≡ reals_allowed s.draft.kind n) where
    -- f: whether they fit
    module _ {f : Bool} (h : q ≡ true) (l : f ≡ leb (s.used + n) room) where
      pub reals_none : f ≡ true → n ≡ 0 → to.Complete s ≡ real_count_step w room s v
      unfolding real_count_step
      reals_none g z = rw (c, ← e, h, ← l, g) (rw z refl)

      pub reals_some : f ≡ true → (n ≡ 0 → ⊥) → going_to s is.Real (n - 1) (with_reals s.draft v.used n) ≡ real_count_step w room s v
      unfolding real_count_step
      reals_some g z = rw (c, ← e, h, ← l, g) (nonzero (λ n k. going_to s is.Real k (with_reals s.draft v.used n) ≡ reals_to s v.used n) (λ k. refl) n z)

      pub reals_full : f ≡ false → to.Refused 13 v.place ≡ real_count_step w room s v
      unfolding real_count_step
      reals_full g = rw (c, ← e, h, ← l, g)

    pub reals_refused : q ≡ false → to.Refused 12 v.place ≡ real_count_step w room s v
    unfolding real_count_step
    reals_refused h = rw (c, ← e, h)

-- a string
module _ (s : State) (d : Draft) where
  pub string_last : s.left ≡ 0 → going_to s is.IntegerCount 0 d ≡ string_step s d
  unfolding string_step
  string_last z = rw z

  pub string_more : (s.left ≡ 0 → ⊥) → going_to s is.LaterString (s.left - 1) d ≡ string_step s d
  unfolding string_step
  string_more z = nonzero (λ n k. going_to s is.LaterString k d ≡ string_left s d n) (λ k. refl) s.left z
