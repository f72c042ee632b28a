-- What is picked holds the chosen definitions, an unchanged hand gives the other's, and the hands may be exchanged.
use mathlib.Core.Bool.{Bool, true, false, ◌||◌, cond, false≢true}
use mathlib.Core.List.{List, [], ◌∷◌, ◌++◌}
use mathlib.Core.Logic.{◌⊎◌, inl, inr}
use mathlib.Core.Option.{Option, none, some, or_else, none-ne-some, some-ne-none, some-injective}
use mathlib.Core.Path.{◌≡◌, refl, ap, sym, ◌∙◌, subst}
use Rattle.joining.proofs.DefinitionLaws.{definition_same, definition_sym, definition_trans, named_append, named_behind, none_append, not_same, once_append, once_behind, once_here, once_more}
use Rattle.joining.specs.Definition.{named, names_once, same_definition}
use Rattle.joining.specs.Pick.{Agrees, Holds, PickLaw, TurnedLaw, UnchangedLaw, choice_for, choose, chosen, is_clash, is_left, is_right, picked, some_name, with_names}
use Rattle.joining.specs.declared.Choice.{Choice}
use Rattle.joining.specs.declared.Choice.TheVariants.{Clash, Left, Right}
use Rattle.laws.proofs.BoolLaws.{cond_elim, or_false_left, or_false_right}
use Rattle.laws.proofs.BytesLaws.{same_eq}
use Rattle.laws.specs.Bytes.{Bytes, same}
use Rattle.scene.specs.Statement.{Statement}

-- ---- one choice

-- either hand may come first: where both left the base's they agree
choose_turned : (b l r x : Option Statement) → Agrees (choose b l r) l r x → Agrees (choose b r l) r l x
unfolding choose chosen
choose_turned b l r x = rw (definition_sym r l) (go (same_definition l r) refl (same_definition l b) refl (same_definition r b) refl)
  where
    go : (p : Bool) → same_definition l r ≡ p → (q : Bool) → same_definition l b ≡ q → (t : Bool) → same_definition r b ≡ t → Agrees (chosen p q t) l r x → Agrees (chosen p t q) r l x
    go true e q f t g a = definition_trans r l x (definition_sym r l ∙ e) a
    go false e true f true g a = absurd (false≢true (sym e ∙ definition_trans l b r f (definition_sym b r ∙ g)))
    go false e true f false g a = a
    go false e false f true g a = a
    go false e false f false g a = a

pub turned : TurnedLaw
unfolding choice_for
turned base left right d h = record { once = h.once; each = λ w. choose_turned (named w base) (named w left) (named w right) (named w d) (h.each w) }

choose_left : (b x : Option Statement) → Agrees (choose b b x) b x x
unfolding choose chosen
choose_left b x = rw (definition_same b) (go (same_definition b x) refl)
  where
    go : (p : Bool) → same_definition b x ≡ p → Agrees (cond p Left Right) b x x
    go true e = e
    go false e = definition_same x

pub unchanged : UnchangedLaw
unfolding choice_for
unchanged base other = record {
  left = λ w. choose_left (named w base) (named w other);
  right = λ w. choose_turned (named w base) (named w base) (named w other) (named w other) (choose_left (named w base) (named w other));
}

-- ---- a test of names

neither : (b : Bool) → cond {A = Option Statement} b none none ≡ none
neither true = refl
neither false = refl

module _ (test : Bytes → Bool) where
  pub named_with : (w : Bytes) (d : List Statement) → named w (with_names test d) ≡ cond (test w) (named w d) none
  unfolding named with_names
  named_with w [] = sym (neither (test w))
  named_with w (s ∷ d) = go (test s.name) refl (same w s.name) refl (named_with w d)
    where
      go : (p : Bool) → test s.name ≡ p → (m : Bool) → same w s.name ≡ m → named w (with_names test d) ≡ cond (test w) (named w d) none
          → named w (cond p (s ∷ with_names test d) (with_names test d)) ≡ cond (test w) (cond m (some s) (named w d)) none
      go true q true e h = rw (e, same_eq w s.name e, q)
      go false q true e h = h ∙ rw (same_eq w s.name e, q)
      go true q false e h = rw e h
      go false q false e h = h

  once_with : (d : List Statement) → names_once d ≡ true → names_once (with_names test d) ≡ true
  unfolding with_names
  once_with [] o = o
  once_with (s ∷ d) o =
      let k = once_with d (once_behind s d o) in
      cond_elim (λ (x : List Statement). names_once x ≡ true) (test s.name) (once_more s (with_names test d) (named_with s.name d ∙ rw (once_here s d o) (neither (test s.name))) k) k

  some_passes : (d : List Statement) → some_name test d ≡ true → (w : Bytes) × (test w ≡ true)
  unfolding some_name
  some_passes [] e = absurd (false≢true e)
  some_passes (s ∷ d) e = go (test s.name) refl e (some_passes d)
    where
      go : (b : Bool) → test s.name ≡ b → (b || some_name test d) ≡ true → (some_name test d ≡ true → (w : Bytes) × (test w ≡ true)) → (w : Bytes) × (test w ≡ true)
      go true q h f = (s.name, q)
      go false q h f = f h

  -- where none passes, a name that would is absent
  none_passes : (w : Bytes) → test w ≡ true → (d : List Statement) → some_name test d ≡ false → named w d ≡ none
  unfolding named some_name
  none_passes w t [] e = refl
  none_passes w t (s ∷ d) e =
      named_behind w s d (not_same w s.name (λ q. false≢true (sym (or_false_left (test s.name) (some_name test d) e) ∙ ap test (sym q) ∙ t)))
      ∙ none_passes w t d (or_false_right (test s.name) (some_name test d) e)

-- ---- what is picked

is_clash_lem : (c : Choice) → is_clash c ≡ true → c ≡ Clash
is_clash_lem Left e = absurd (false≢true e)
is_clash_lem Right e = absurd (false≢true e)
is_clash_lem Clash e = refl

-- of left's definition and right's, where only the chosen one is kept: it is found, and there are not two
module _ (l r : Option Statement) where
  found_agrees : (c : Choice) → (c ≡ Clash → ⊥) → Agrees c l r (or_else (cond (is_left c) l none) (cond (is_right c) r none))
  unfolding or_else
  found_agrees Left f = go l
    where
      go : (x : Option Statement) → same_definition x (or_else x none) ≡ true
      go none = definition_same none
      go (some s) = definition_same (some s)
  found_agrees Right f = definition_same r
  found_agrees Clash f = f refl

  found_apart : (c : Choice) → (cond (is_left c) l none ≡ none) ⊎ (cond (is_right c) r none ≡ none)
  found_apart Left = inr refl
  found_apart Right = inl refl
  found_apart Clash = inl refl

module _ (base left right : List Statement) where
  abbrev choice : Bytes → Choice
  choice = choice_for base left right

  -- whether some name clashes, and what is taken of each hand
  abbrev clashing : Bool
  clashing = some_name (λ w. is_clash (choice w)) (left ++ right)

  abbrev pub of_left : List Statement
  of_left = with_names (λ w. is_left (choice w)) left

  abbrev pub of_right : List Statement
  of_right = with_names (λ w. is_right (choice w)) right

  pub picked_some : (d : List Statement) → picked base left right ≡ some d → (clashing ≡ false) × (of_left ++ of_right ≡ d)
  unfolding picked
  picked_some d = go clashing
    where
      go : (b : Bool) → cond b none (some (of_left ++ of_right)) ≡ some d → (b ≡ false) × (of_left ++ of_right ≡ d)
      go true e = absurd (none-ne-some d e)
      go false e = (refl, some-injective (of_left ++ of_right) d e)

  picked_none : picked base left right ≡ none → clashing ≡ true
  unfolding picked
  picked_none = go clashing
    where
      go : (b : Bool) → cond b none (some (of_left ++ of_right)) ≡ none → b ≡ true
      go true e = refl
      go false e = absurd (some-ne-none (of_left ++ of_right) e)

  -- a name that neither hand has is left's: one that clashes is a hand's
  clash_there : (w : Bytes) → choice w ≡ Clash → clashing ≡ true
  unfolding choice_for choose chosen same_definition
  clash_there w q = go clashing refl
    where
      go : (b : Bool) → clashing ≡ b → b ≡ true
      go true e = refl
      go false e =
          let k = none_append w left right (none_passes (λ v. is_clash (choice v)) w (ap is_clash q) (left ++ right) e) in
          sym (ap is_clash (λ i. choose (named w base) (k.0 i) (k.1 i))) ∙ ap is_clash q

  named_left : (w : Bytes) → named w of_left ≡ cond (is_left (choice w)) (named w left) none
  named_left w = named_with (λ v. is_left (choice v)) w left

  named_right : (w : Bytes) → named w of_right ≡ cond (is_right (choice w)) (named w right) none
  named_right w = named_with (λ v. is_right (choice v)) w right

  picked_holds : names_once left ≡ true → names_once right ≡ true → clashing ≡ false → Holds base left right (of_left ++ of_right)
  picked_holds o p e = record {
    once = once_append of_left of_right (once_with _ left o) (once_with _ right p) (λ w. rw (named_left w, named_right w) (found_apart (named w left) (named w right) (choice w)));
    each = λ w. rw (named_append w of_left of_right, named_left w, named_right w) (found_agrees (named w left) (named w right) (choice w) (λ q. false≢true (sym e ∙ clash_there w q)));
  }

pub picks : PickLaw
unfolding picked
picks base left right o p = record {
  found = λ d e. let k = picked_some base left right d e in subst (Holds base left right) k.1 (picked_holds base left right o p k.0);
  clashes = λ e. let k = some_passes _ (left ++ right) (picked_none base left right e) in (k.0, is_clash_lem (choice_for base left right k.0) k.1);
  clashed = λ w c. rw (clash_there base left right w c);
}
