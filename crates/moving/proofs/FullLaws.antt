-- Less room for reals changes nothing but that a text may be refused with 13.
use mathlib.Core.Bool.{Bool, true, false, cond}
use mathlib.Core.List.{List}
use mathlib.Core.Logic.{◌⊎◌, inl, inr}
use mathlib.Core.Option.{Option, none, some}
use mathlib.Core.Path.{◌≡◌, refl, ap, sym, subst}
use Prim.Native.Nat.{ℕ, zero, suc, ◌+◌, ◌≤◌}
use native.Mathlib.Omega.{arith}
use borrow.Author.Tests.{le-leb, leb-true}
use lib.Dec.{leb}
use Rattle.laws.specs.Bytes.{Bytes}
use Rattle.lexer.specs.Word.{word_fault}
use Rattle.numeral.specs.Count.{count_of}
use Rattle.scene.proofs.AlikeLaws.{Alike, read_alike}
use Rattle.scene.specs.Links.{reals_used}
use Rattle.scene.specs.Phase.{Outcome, Part, Phase, Turn, at_alias_name, at_integer_count, at_name, at_real, at_real_count, at_string, at_string_count, at_target, at_type, busy, done, idle, into, outcome, refuse, turn, unless_fault, word}
use Rattle.scene.specs.Reading.{Going, advance, ended, part_test, read_statements, refused, room_test, settle, statements, test}
use Rattle.scene.specs.Statement.{Statement}
use Rattle.scene.specs.declared.Settings.{Settings}

-- the same settings but for the room for reals
abbrev pub with_reals : ℕ → Settings → Settings
with_reals n r = record { mode = r.mode; records = r.records; reals = n }

module _ (r : Settings) (n : ℕ) (more : r.reals ≤ n) where
  abbrev wide : Settings
  wide = with_reals n r

  -- ---- a word

  turn_same : (p : Part) (w : Bytes) → turn r p w ≡ turn wide p w
  turn_same at_type w = refl
  turn_same (at_name t) w = refl
  turn_same (at_string_count t a) w = refl
  turn_same (at_string t a ss zero) w = refl
  turn_same (at_string t a ss (suc k)) w = refl
  turn_same (at_integer_count t a ss) w = refl
  turn_same (at_real_count t a ss) w = refl
  turn_same (at_real t a ss rs k) w = refl
  turn_same at_alias_name w = refl
  turn_same (at_target a) w = refl

  word_same : (ph : Phase) (w : Bytes) → word r ph w ≡ word wide ph w
  word_same idle w = refl
  word_same (busy m p) w = ap (λ (τ : Turn). unless_fault (word_fault w) (outcome m τ)) (turn_same p w)

  -- the same answer, or 13
  abbrev Tests : ℕ → ℕ → Type 0
  Tests x y = (x ≡ y) ⊎ (x ≡ 13)

  room_tests : (used : ℕ) (c : Option ℕ) → Tests (room_test r.reals used c) (room_test n used c)
  room_tests used none = inl refl
  room_tests used (some k) = go (leb (used + k) r.reals) refl
    where
      go : (b : Bool) → leb (used + k) r.reals ≡ b → Tests (cond b 0 13) (cond (leb (used + k) n) 0 13)
      go true e = let h = leb-true (used + k) r.reals e in inl (rw (le-leb (used + k) n (omega arith)))
      go false e = inr refl

  part_tests : (d : List Statement) (p : Part) (w : Bytes) → Tests (part_test r d p w) (part_test wide d p w)
  part_tests d at_type w = inl refl
  part_tests d (at_name t) w = inl refl
  part_tests d (at_string_count t a) w = inl refl
  part_tests d (at_string t a ss k) w = inl refl
  part_tests d (at_integer_count t a ss) w = inl refl
  part_tests d (at_real_count t a ss) w = room_tests (reals_used d) (count_of w)
  part_tests d (at_real t a ss rs k) w = inl refl
  part_tests d at_alias_name w = inl refl
  part_tests d (at_target a) w = inl refl

  tests : (d : List Statement) (ph : Phase) (w : Bytes) → Tests (test r d ph w) (test wide d ph w)
  tests d idle w = inl refl
  tests d (busy m p) w = part_tests d p w

  -- ---- a text

  -- a word with a fault of its own is refused for that
  stopped_alike : (g : Going) (o : Outcome) (t : ℕ) → Alike 13 (settle g o 13) (settle g o t)
  stopped_alike g (refuse c) t = inl refl
  stopped_alike g (into ph) t = inr (g.places.word, refl)
  stopped_alike g (done s) t = inr (g.places.word, refl)

  settle_alike : (g : Going) (o : Outcome) (x y : ℕ) → Tests x y → Alike 13 (settle g o x) (settle g o y)
  settle_alike g o x y (inl e) = inl (ap (settle g o) e)
  settle_alike g o x y (inr e) = subst (λ (t : ℕ). Alike 13 (settle g o t) (settle g o y)) (sym e) (stopped_alike g o y)

  words_alike : (g : Going) (w : Bytes) → Alike 13 (advance r g (ended w)) (advance wide g (ended w))
  words_alike g w =
      let d = statements g.above in
      subst (λ (o : Outcome). Alike 13 (settle g (word r g.phase w) (test r d g.phase w)) (settle g o (test wide d g.phase w))) (word_same g.phase w)
      (settle_alike g (word r g.phase w) (test r d g.phase w) (test wide d g.phase w) (tests d g.phase w))

  pub only_room : (text : Bytes) → (read_statements r text ≡ read_statements wide text) ⊎ ((p : ℕ) × (read_statements r text ≡ refused 13 p))
  only_room = read_alike r wide 13 words_alike
