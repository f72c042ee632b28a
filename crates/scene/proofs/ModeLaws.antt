-- The two modes of reading differ in texts that the new one refuses with 28, and in nothing else.
use mathlib.Core.Bool.{Bool, true, false, cond}
use mathlib.Core.List.{List}
use mathlib.Core.Logic.{◌⊎◌, inl, inr}
use mathlib.Core.Path.{◌≡◌, refl, ap, sym, ◌∙◌}
use Prim.Native.Nat.{ℕ, zero, suc}
use native.Mathlib.Omega.{arith}
use Rattle.laws.proofs.BoolLaws.{cond_elim}
use Rattle.laws.specs.Bytes.{Bytes, bytes, same}
use Rattle.lexer.specs.Word.{word_fault}
use Rattle.scene.proofs.AlikeLaws.{Alike, read_alike}
use Rattle.scene.specs.Archive.{in_mode, ArchiveLaw, OnlyRetiredDiffer}
use Rattle.scene.specs.Phase.{Part, at_type, at_name, at_string_count, at_string, at_integer_count, at_real_count, at_real, at_alias_name, at_target, Phase, idle, busy, Turn, fault, onto, typed, turn, Outcome, refuse, outcome, taken, unless_fault, word}
use Rattle.scene.specs.Reading.{ended, part_test, test, Going, statements, settle, advance, refused, accepted, read_statements}
use Rattle.scene.specs.Statement.{Statement}
use Rattle.scene.specs.Types.{type_number, is_retired}
use Rattle.scene.specs.declared.Mode.TheVariants.{New, Archive}
use Rattle.scene.specs.declared.Settings.{Settings}

module _ (r : Settings) where
  abbrev new : Settings
  new = in_mode New r

  abbrev old : Settings
  old = in_mode Archive r

  -- ---- a word

  typed_alike : (t : ℕ) → (typed New t ≡ typed Archive t) ⊎ (typed New t ≡ fault 28)
  typed_alike zero = inl refl
  typed_alike (suc t) = cond_elim (λ (τ : Turn). (τ ≡ onto (at_name (suc t))) ⊎ (τ ≡ fault 28)) (is_retired New (suc t)) (inr refl) (inl refl)

  turn_alike : (p : Part) (w : Bytes) → (turn new p w ≡ turn old p w) ⊎ (turn new p w ≡ fault 28)
  turn_alike at_type w = go (same w (bytes "alias")) (typed_alike (type_number w))
    where
      go : (b : Bool) {x y : Turn} → (x ≡ y) ⊎ (x ≡ fault 28) → (cond b (onto at_alias_name) x ≡ cond b (onto at_alias_name) y) ⊎ (cond b (onto at_alias_name) x ≡ fault 28)
      go true h = inl refl
      go false h = h
  turn_alike (at_name t) w = inl refl
  turn_alike (at_string_count t n) w = inl refl
  turn_alike (at_string t n ss zero) w = inl refl
  turn_alike (at_string t n ss (suc k)) w = inl refl
  turn_alike (at_integer_count t n ss) w = inl refl
  turn_alike (at_real_count t n ss) w = inl refl
  turn_alike (at_real t n ss rs k) w = inl refl
  turn_alike at_alias_name w = inl refl
  turn_alike (at_target n) w = inl refl

  taken_alike : (ph : Phase) (w : Bytes) → (taken new ph w ≡ taken old ph w) ⊎ (taken new ph w ≡ refuse 28)
  taken_alike idle w = inl refl
  taken_alike (busy m p) w = go (turn_alike p w)
    where
      go : (turn new p w ≡ turn old p w) ⊎ (turn new p w ≡ fault 28) → (outcome m (turn new p w) ≡ outcome m (turn old p w)) ⊎ (outcome m (turn new p w) ≡ refuse 28)
      go (inl e) = inl (ap (outcome m) e)
      go (inr e) = inr (ap (outcome m) e)

  word_alike : (ph : Phase) (w : Bytes) → (word new ph w ≡ word old ph w) ⊎ (word new ph w ≡ refuse 28)
  word_alike ph w = go (word_fault w) (taken_alike ph w)
    where
      go : (n : ℕ) {x y : Outcome} → (x ≡ y) ⊎ (x ≡ refuse 28) → (unless_fault n x ≡ unless_fault n y) ⊎ (unless_fault n x ≡ refuse 28)
      go zero h = h
      go (suc n) h = inl refl

  part_test_lem : (d : List Statement) (p : Part) (w : Bytes) → part_test new d p w ≡ part_test old d p w
  part_test_lem d at_type w = refl
  part_test_lem d (at_name t) w = refl
  part_test_lem d (at_string_count t n) w = refl
  part_test_lem d (at_string t n ss k) w = refl
  part_test_lem d (at_integer_count t n ss) w = refl
  part_test_lem d (at_real_count t n ss) w = refl
  part_test_lem d (at_real t n ss rs k) w = refl
  part_test_lem d at_alias_name w = refl
  part_test_lem d (at_target n) w = refl

  same_test : (d : List Statement) (ph : Phase) (w : Bytes) → test new d ph w ≡ test old d ph w
  same_test d idle w = refl
  same_test d (busy m p) w = part_test_lem d p w

  -- ---- a text

  words_alike : (g : Going) (w : Bytes) → Alike 28 (advance new g (ended w)) (advance old g (ended w))
  words_alike g w = go (word_alike g.phase w)
    where
      go : (word new g.phase w ≡ word old g.phase w) ⊎ (word new g.phase w ≡ refuse 28) → Alike 28 (advance new g (ended w)) (advance old g (ended w))
      go (inl e) = inl (λ i. settle g (e i) (same_test (statements g.above) g.phase w i))
      go (inr e) = inr (g.places.word, ap (λ (o : Outcome). settle g o (test new (statements g.above) g.phase w)) e)

pub only_retired : OnlyRetiredDiffer
only_retired r = read_alike (new r) (old r) 28 (words_alike r)

pub archive_law : ArchiveLaw
archive_law r text es e = go (only_retired r text)
  where
    go : (read_statements (in_mode New r) text ≡ read_statements (in_mode Archive r) text) ⊎ ((p : ℕ) × (read_statements (in_mode New r) text ≡ refused 28 p)) → read_statements (in_mode Archive r) text ≡ accepted es
    go (inl h) = sym h ∙ e
    go (inr (p, h)) = let z : ◌≡◌ {A = ℕ} 0 1 = cc in absurd (omega arith)
