-- What stands next: one law for each answer of a step.
use mathlib.Core.Bool.{Bool, cond, false, true}
use mathlib.Core.List.{List}
use mathlib.Core.Path.{◌≡◌, ap, refl, subst, sym, ◌∙◌}
use Prim.Native.Nat.{ℕ, ◌+◌, ◌≤◌}
use native.Mathlib.Omega.{arith}
use borrow.Author.Tests.{eq-eqb, ne_eqb}
use lib.Dec.{eqb}
use lib.Ieee.{Float}
use lib.ListN.{get_or, length}
use Rattle.laws.specs.Bytes.{Bytes, part}
use Rattle.lexer.proofs.WordLaws.{end_most}
use Rattle.lexer.specs.Fault.{number_of}
use Rattle.lexer.specs.Word.{Checked, checked_at, word_at, word_fault}
use Rattle.lexer.specs.declared.WordFault.{WordFault}
use Rattle.lexer.specs.declared.WordFault.TheVariants.{BadByte, TooLong}
use Rattle.lexer.specs.declared.Word.{Word}
use Rattle.context.specs.Seen.{seen_in}
use Rattle.parser.specs.Steps.{Scanned, end_of, next_step, opened_step, standing, step_of, word_of, word_step}
use Rattle.scene.specs.declared.Settings.{Settings}
use Rattle.statement.specs.States.{counted_in, moved_to, opening_of}
use Rattle.statement.specs.declared.Opening.{Opening}
use Rattle.statement.specs.declared.Phase.{Phase}
use Rattle.statement.specs.declared.Seen.{Seen}
use Rattle.statement.specs.declared.State.{State}
use Rattle.statement.specs.Step.{Step}
use Rattle.statement.specs.declared.Opening.TheVariants as opening
use Rattle.statement.specs.Step as to

-- the step of the phase that the state is in
pub in_phase : (w : Bytes) (room : Settings) (s : State) (v : Seen) {p : Phase} {r : Step} → s.phase ≡ p → r ≡ step_of p w room s v → r ≡ step_of s.phase w room s v
in_phase w room s v h e = e ∙ sym (ap (λ p. step_of p w room s v) h)

-- a fault's number is not 0, which is for none
pub some_fault : (f : WordFault) → number_of f ≡ 0 → ⊥
some_fault BadByte e = omega arith
some_fault TooLong e = omega arith

-- a word with the bytes b and the fault f
module _ (text : Bytes) (table : List ℕ) (reals : List Float) (x : List ℕ) (room : Settings) (s : State) (w : Word) (b : Bytes) (f : ℕ) (p : b ≡ part text w.place w.len) (e : f ≡ word_fault b) where
  abbrev whole : Bytes
  whole = part text w.place w.len

  abbrev behind : State
  behind = moved_to s (w.place + w.len + 1)

  fault_is : f ≡ word_fault whole
  fault_is = e ∙ ap word_fault p

  pub word_faulty : (f ≡ 0 → ⊥) → to.Refused f w.place ≡ word_step text table reals x room s w
  unfolding word_step
  word_faulty h = rw (← fault_is, ne_eqb f 0 h)

  pub word_good : f ≡ 0 → (t u : State) (v : Seen) (r : Step) → t ≡ behind → v ≡ seen_in text table reals x t w.place b → u ≡ counted_in t v.looked → r ≡ step_of u.phase b room u v → r ≡ word_step text table reals x room s w
  unfolding word_step
  word_good h t u v r q₁ q₂ q₃ q₄ =
      let seen : v ≡ seen_in text table reals x behind w.place whole = q₂ ∙ (λ i. seen_in text table reals x (q₁ i) w.place (p i)) in
      let count : u ≡ counted_in behind v.looked = q₃ ∙ ap (λ (z : State). counted_in z v.looked) q₁ in
      q₄ ∙ (λ i. step_of (count i).phase (p i) room (count i) v) ∙ (λ i. step_of s.phase whole room (counted_in behind (seen i).looked) (seen i))
      ∙ sym (ap (λ (z : Bool). cond z (step_of s.phase whole room (counted_in behind (seen_in text table reals x behind w.place whole).looked) (seen_in text table reals x behind w.place whole)) (to.Refused (word_fault whole) w.place)) (eq-eqb (word_fault whole) 0 (sym fault_is ∙ h)))

-- what stands next in the text, as it is checked
pub scanned : (text : Bytes) (at : ℕ) (c : Checked) → c ≡ checked_at text at → Scanned text c
scanned text at c q = record {
  within = subst (λ (z : Checked). z.place + z.len ≤ length text) (sym q) (end_most text at);
  fault = ap (λ (z : Checked). z.fault) q ∙ (λ i. word_fault (part text (sym q i).place (sym q i).len));
}

pub word_of_lem : (text : Bytes) (at : ℕ) (c : Checked) → c ≡ checked_at text at → word_of c ≡ word_at text at
word_of_lem text at c q = ap word_of q

-- the word w stands next
module _ (text : Bytes) (table : List ℕ) (reals : List Float) (x : List ℕ) (room : Settings) (s : State) (w : Word) (q : w ≡ word_at text s.at) where
  abbrev opened : Opening → Step
  opened o = opened_step o text table reals x room s w

  stands : (b : Bool) → eqb w.len 0 ≡ b → cond b (end_of s.phase (length text)) (opened (opening_of s.phase (get_or text w.place 0))) ≡ next_step text table reals x room s
  unfolding next_step
  stands b h = ap (λ (z : Bool). cond z (end_of s.phase (length text)) (opened (opening_of s.phase (get_or text w.place 0)))) (sym h) ∙ ap (standing text table reals x room s) q

  pub ends : w.len ≡ 0 → (r : Step) → r ≡ end_of s.phase (length text) → r ≡ next_step text table reals x room s
  ends z r e = e ∙ stands true (eq-eqb w.len 0 z)

  pub opens : (w.len ≡ 0 → ⊥) → (o : Opening) → opening_of s.phase (get_or text w.place 0) ≡ o → (r : Step) → r ≡ opened o → r ≡ next_step text table reals x room s
  opens z o h r e = e ∙ sym (ap opened h) ∙ stands false (ne_eqb w.len 0 z)

  pub opens_command : (w.len ≡ 0 → ⊥) → opening_of s.phase (get_or text w.place 0) ≡ opening.Command → to.Refused 4 w.place ≡ next_step text table reals x room s
  opens_command z h = opens z opening.Command h (to.Refused 4 w.place) refl
