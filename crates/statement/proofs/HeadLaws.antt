-- What a word that begins a statement comes to: one law for each answer of `modifier`, `kind`, `name` and `target`.
use mathlib.Core.Bool.{Bool, true, false, cond}
use mathlib.Core.Path.{◌≡◌, refl}
use Prim.Native.Nat.{ℕ, ◌≤◌, ◌<◌}
use borrow.Author.Tests.{lt-ltb, le-ltb}
use Rattle.laws.proofs.NatLaws.{nonzero}
use Rattle.laws.specs.Bytes.{Bytes, same, bytes}
use Rattle.scene.specs.Statement.{void}
use Rattle.scene.specs.Types.{is_retired, type_number}
use Rattle.scene.specs.declared.Mode.{Mode}
use Rattle.statement.specs.Heads.{going_to, kind_step, link_to, modifier_step, name_step, target_at, target_step, typed_as, with_kind, with_name, with_target}
use Rattle.statement.specs.States.{opened}
use Rattle.statement.specs.declared.Draft.{Draft}
use Rattle.statement.specs.declared.Phase.{Phase}
use Rattle.statement.specs.declared.Seen.{Seen}
use Rattle.statement.specs.declared.State.{State}
use Rattle.statement.specs.declared.Phase.TheVariants as is
use Rattle.statement.specs.Step as to

module _ (w : Bytes) (room : ℕ) (s : State) (v : Seen) where
  -- the modifier: d is the draft, q whether the word is `void`
  module _ {q : Bool} (l : s.count < room) (e : q ≡ same w void) where
    pub modifier_void : {d : Draft} → d ≡ opened 0 → q ≡ true → going_to s is.Kind 0 d ≡ modifier_step w room s v
    unfolding modifier_step
    modifier_void h t = rw (h, lt-ltb s.count room l, ← e, t)

    pub modifier_unknown : q ≡ false → v.found ≡ 0 → to.Refused 7 v.place ≡ modifier_step w room s v
    unfolding modifier_step
    modifier_unknown t z = rw (lt-ltb s.count room l, ← e, t, z)

    pub modifier_known : {d : Draft} → d ≡ opened v.found → q ≡ false → (v.found ≡ 0 → ⊥) → going_to s is.Kind 0 d ≡ modifier_step w room s v
    unfolding modifier_step
    modifier_known h t z = rw (h, lt-ltb s.count room l, ← e, t) (nonzero (λ n k. going_to s is.Kind 0 (opened n) ≡ link_to s v.place n) (λ k. refl) v.found z)

  pub modifier_full : room ≤ s.count → to.Refused 6 v.place ≡ modifier_step w room s v
  unfolding modifier_step
  modifier_full h = rw (le-ltb s.count room h)

module _ (w : Bytes) (s : State) (v : Seen) where
  -- the type: t is its number, o whether it is retired
  module _ (m : Mode) {q : Bool} (e : q ≡ same w (bytes "alias")) where
    pub kind_alias : q ≡ true → going_to s is.AliasName 0 s.draft ≡ kind_step w m s v
    unfolding kind_step
    kind_alias h = rw (← e, h)

    pub kind_unknown : {t : ℕ} → q ≡ false → t ≡ type_number w → t ≡ 0 → to.Refused 8 v.place ≡ kind_step w m s v
    unfolding kind_step
    kind_unknown h g z = rw (← e, h, ← g, z)

    module _ {t : ℕ} {o : Bool} (h : q ≡ false) (g : t ≡ type_number w) (z : t ≡ 0 → ⊥) (f : o ≡ is_retired m t) where
      kind_known : kind_step w m s v ≡ cond o (to.Refused 28 v.place) (going_to s is.Name 0 (with_kind s.draft t))
      unfolding kind_step
      kind_known = rw (f, ← e, h, ← g) (nonzero (λ n k. typed_as m s v.place n ≡ cond (is_retired m n) (to.Refused 28 v.place) (going_to s is.Name 0 (with_kind s.draft n))) (λ k. refl) t z)

      pub kind_retired : o ≡ true → to.Refused 28 v.place ≡ kind_step w m s v
      kind_retired y = rw (kind_known, y)

      pub kind_allowed : o ≡ false → going_to s is.Name 0 (with_kind s.draft t) ≡ kind_step w m s v
      kind_allowed y = rw (kind_known, y)

  -- a name
  module _ (next : Phase) {q : Bool} (e : q ≡ same w void) where
    pub name_void : q ≡ true → to.Refused 9 v.place ≡ name_step next w s v
    unfolding name_step
    name_void h = rw (← e, h)

    pub name_given : {d : Draft} → d ≡ with_name s.draft v.name v.size → q ≡ false → going_to s next 0 d ≡ name_step next w s v
    unfolding name_step
    name_given g h = rw (g, ← e, h)

-- a target
module _ (s : State) (v : Seen) where
  pub target_unknown : v.found ≡ 0 → to.Refused 10 v.place ≡ target_step s v
  unfolding target_step
  target_unknown z = rw z

  pub target_known : (v.found ≡ 0 → ⊥) → {d : Draft} → d ≡ with_target s.draft v → to.Complete (record { at = s.at; count = s.count; used = s.used; left = s.left; looked = s.looked; phase = s.phase; draft = d }) ≡ target_step s v
  unfolding target_step
  target_known z {d} g = nonzero (λ n k. to.Complete (record { at = s.at; count = s.count; used = s.used; left = s.left; looked = s.looked; phase = s.phase; draft = d }) ≡ target_at s v n) (λ k. rw g) v.found z
