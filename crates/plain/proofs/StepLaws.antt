-- A good word in each phase of a plain statement: the step that it comes to, and that what holds between two words holds behind it.
use mathlib.Core.Bool.{true, false}
use mathlib.Core.List.{List}
use mathlib.Core.Option.{some}
use mathlib.Core.Path.{◌≡◌, refl, ap, sym, ◌∙◌}
use Prim.Native.Nat.{ℕ, zero, suc, ◌+◌, ◌-◌, ◌≤◌, ◌<◌}
use native.Mathlib.Omega.{arith}
use borrow.Author.Tests.{eq-eqb, le-leb, lt-ltb, ne_eqb}
use lib.Ieee.{Float}
use lib.ListN.{drop, get_or, length, set}
use lib.Seq.{length-take-le}
use Rattle.arguments.specs.Steps.{integer_count_step, real_count_step, real_step, string_count_step, with_reals, with_strings}
use Rattle.context.specs.Seen.{back, draft_in, is_looked_up, looked_for, real_before, seen_in}
use Rattle.index.specs.Searches.{sought}
use Rattle.index.specs.declared.Found.{Found}
use Rattle.laws.specs.Bytes.{Bytes, bytes, same}
use Rattle.laws.proofs.RunLaws.{run_length}
use Rattle.laws.specs.Runs.{past, run}
use Rattle.lexer.specs.Class.{is_blank, is_in_line, is_other}
use Rattle.lexer.specs.Word.{word_at, word_bytes, word_end, word_fault}
use Rattle.numeral.specs.Count.{count_of}
use Rattle.numeral.specs.Numeral.{numeral_of, value}
use Rattle.linker.specs.Entered.{behind_in}
use Rattle.parser.specs.Steps.{next_step, step_of, word_step}
use Rattle.plain.specs.Plain.{Left, Links, state_at}
use Rattle.plain.specs.declared.Link.{Link}
use Rattle.progress.proofs.NextLaws.{ready}
use Rattle.progress.specs.Invariant.{Inv}
use Rattle.scene.specs.HouseRules.{breach_at, house_rules}
use Rattle.scene.specs.Statement.{void}
use Rattle.scene.specs.Types.{is_retired, reals_allowed, strings_allowed, type_number}
use Rattle.scene.specs.declared.Settings.{Settings}
use Rattle.statement.specs.Heads.{kind_step, modifier_step, name_step, target_step, with_kind, with_name}
use Rattle.statement.specs.States.{between, clipped, counted_in, is_idle, moved_to, opened, opening_of}
use Rattle.statement.specs.declared.Draft.{Draft}
use Rattle.statement.specs.declared.Phase.{Phase}
use Rattle.statement.specs.declared.Seen.{Seen}
use Rattle.statement.specs.declared.State.{State}
use Rattle.statement.specs.declared.Opening.TheVariants as opening
use Rattle.statement.specs.declared.Phase.TheVariants as is
use Rattle.statement.specs.Step as to
use Rattle.word_scan.specs.Passing.{Passes, PassesComment}
use Rattle.word_scan.specs.declared.Skipped.{Skipped}

-- a word is all there
pub word_length : (text : Bytes) (at : ℕ) → length (word_bytes text at) ≡ (word_at text at).len
unfolding word_at
word_length text at = length-take-le (run is_other (drop (past is_blank text at) text)) (drop (past is_blank text at) text) (run_length is_other (drop (past is_blank text at) text))

module _ (text : Bytes) (T : List ℕ) (R : List Float) (X : List ℕ) (room : Settings) where
  -- the step of a good word
  module _ (s : State) (some_bytes : 0 < (word_at text s.at).len) (fine : word_fault (word_bytes text s.at) ≡ 0) (o : opening_of s.phase (get_or text (word_at text s.at).place 0) ≡ opening.Word) where
    abbrev behind : State
    behind = moved_to s (word_end text s.at + 1)

    abbrev seen : Seen
    seen = seen_in text T R X behind (word_at text s.at).place (word_bytes text s.at)

    taken : next_step text T R X room s ≡ step_of s.phase (word_bytes text s.at) room (counted_in behind seen.looked) seen
    unfolding next_step word_step
    taken = rw (ne_eqb (word_at text s.at).len 0 (λ e. absurd (omega arith)), o, eq-eqb (word_fault (word_bytes text s.at)) 0 fine)

  -- and of a comment, where a statement may begin
  passed_over : (s : State) → 0 < (word_at text s.at).len → opening_of s.phase (get_or text (word_at text s.at).place 0) ≡ opening.Comment
      → next_step text T R X room s ≡ to.Going (moved_to s (past is_in_line text (word_at text s.at).place + 1))
  unfolding next_step
  passed_over s some_bytes o = rw (ne_eqb (word_at text s.at).len 0 (λ e. absurd (omega arith)), o)

  goes_to : (s t : State) → Inv text T R X room s → next_step text T R X room s ≡ to.Going t → Inv text T R X room t
  goes_to s t I e = (ready text T R X room s I _ _ refl e).0

  -- a statement that is complete has no reals left
  completes : (s t : State) → Inv text T R X room s → next_step text T R X room s ≡ to.Complete t → (n k : ℕ) (ph : Phase) (d : Draft)
      → t ≡ state_at s.count s.used n 0 k ph d → Left text T R X room 0 (state_at s.count s.used n 0 k is.Real d)
  unfolding behind_in
  completes s t I e n k ph d q = λ T' X' t' E. (ready text T R X room s I _ _ refl (e ∙ ap to.Complete q) T' X' t' (record { state = E.state; stored = E.stored; held = E.held; sized = E.sized; spread = E.spread })).0

  -- what is written of a word in a phase, from a state with k entries looked at
  module _ (count used at k : ℕ) (small : k ≤ 4294967295) (next lines : ℕ) (P : Passes text at next lines) where
    abbrev w : Bytes
    w = word_bytes text at

    same_looked : clipped (k + 0) ≡ k
    same_looked = omega arith

    -- the state behind the word
    abbrev then : Phase → ℕ → Draft → State
    then ph l d = state_at count used (word_end text at + 1) l (clipped (k + 0)) ph d

    settles : (ph : Phase) (l : ℕ) (d : Draft) → then ph l d ≡ state_at count used next l k ph d
    settles ph l d = λ i. state_at count used (sym P.behind i) l (same_looked i) ph d

    pub kind_step_lem : (d : Draft) (j : ℕ) → Inv text T R X room (state_at count used at 0 k is.Kind d) → same w (bytes "alias") ≡ false → j ≡ type_number w → (j ≡ 0 → ⊥) → is_retired room.mode j ≡ false
        → Inv text T R X room (state_at count used next 0 k is.Name (with_kind d j))
    unfolding kind_step is_looked_up is_idle
    kind_step_lem d zero I a q nz m = absurd (nz refl)
    kind_step_lem d (suc j) I a q nz m = goes_to (state_at count used at 0 k is.Kind d) _ I (taken (state_at count used at 0 k is.Kind d) P.some_bytes P.fine refl ∙ rw (a, ← q, m) (ap to.Going (settles is.Name 0 (with_kind d (suc j)))))

    pub alias_step : (d : Draft) → Inv text T R X room (state_at count used at 0 k is.Kind d) → same w (bytes "alias") ≡ true → Inv text T R X room (state_at count used next 0 k is.AliasName d)
    unfolding kind_step is_looked_up is_idle
    alias_step d I a = goes_to (state_at count used at 0 k is.Kind d) _ I (taken (state_at count used at 0 k is.Kind d) P.some_bytes P.fine refl ∙ rw a (ap to.Going (settles is.AliasName 0 d)))

    abbrev pub named_draft : Draft → Draft
    named_draft d = with_name d (clipped (word_at text at).place) (clipped (word_at text at).len)

    -- all bytes of the word are there
    sized : (d : Draft) → with_name d (clipped (word_at text at).place) (clipped (length w)) ≡ named_draft d
    sized d = ap (λ (n : ℕ). with_name d (clipped (word_at text at).place) (clipped n)) (word_length text at)

    pub name_step_lem : (d : Draft) → Inv text T R X room (state_at count used at 0 k is.Name d) → same w void ≡ false → Inv text T R X room (state_at count used next 0 k is.StringCount (named_draft d))
    unfolding name_step is_looked_up is_idle
    name_step_lem d I o = goes_to (state_at count used at 0 k is.Name d) _ I (taken (state_at count used at 0 k is.Name d) P.some_bytes P.fine refl ∙ rw o (ap (λ (z : Draft). to.Going (then is.StringCount 0 z)) (sized d) ∙ ap to.Going (settles is.StringCount 0 (named_draft d))))

    pub alias_name_step : (d : Draft) → Inv text T R X room (state_at count used at 0 k is.AliasName d) → same w void ≡ false → Inv text T R X room (state_at count used next 0 k is.Target (named_draft d))
    unfolding name_step is_looked_up is_idle
    alias_name_step d I o = goes_to (state_at count used at 0 k is.AliasName d) _ I (taken (state_at count used at 0 k is.AliasName d) P.some_bytes P.fine refl ∙ rw o (ap (λ (z : Draft). to.Going (then is.Target 0 z)) (sized d) ∙ ap to.Going (settles is.Target 0 (named_draft d))))

    -- no strings, and no integers
    pub strings_step : (d : Draft) → Inv text T R X room (state_at count used at 0 k is.StringCount d) → count_of w ≡ some 0 → strings_allowed d.kind 0 ≡ true → Inv text T R X room (state_at count used next 0 k is.IntegerCount (with_strings d 0))
    unfolding string_count_step is_looked_up is_idle
    strings_step d I c a = goes_to (state_at count used at 0 k is.StringCount d) _ I (taken (state_at count used at 0 k is.StringCount d) P.some_bytes P.fine refl ∙ rw (c, a) (ap to.Going (settles is.IntegerCount 0 (with_strings d 0))))

    pub integers_step : (d : Draft) → Inv text T R X room (state_at count used at 0 k is.IntegerCount d) → count_of w ≡ some 0 → Inv text T R X room (state_at count used next 0 k is.RealCount d)
    unfolding integer_count_step is_looked_up is_idle
    integers_step d I c = goes_to (state_at count used at 0 k is.IntegerCount d) _ I (taken (state_at count used at 0 k is.IntegerCount d) P.some_bytes P.fine refl ∙ rw c (ap to.Going (settles is.RealCount 0 d)))

    -- so many reals, or none
    abbrev pub with_reals_lem : Draft → ℕ → Draft
    with_reals_lem d zero = d
    with_reals_lem d (suc n) = with_reals d (clipped used) (suc n)

    pub reals_step : (d : Draft) (n : ℕ) → Inv text T R X room (state_at count used at 0 k is.RealCount d) → count_of w ≡ some n → reals_allowed d.kind n ≡ true → used + n ≤ room.reals → Left text T R X room n (state_at count used next 0 k is.Real (with_reals_lem d n))
    unfolding real_count_step is_looked_up is_idle
    reals_step d zero I c a f = completes (state_at count used at 0 k is.RealCount d) _ I (taken (state_at count used at 0 k is.RealCount d) P.some_bytes P.fine refl ∙ rw (c, a, le-leb (used + 0) room.reals f)) next k is.RealCount d (settles is.RealCount 0 d)
    reals_step d (suc n) I c a f = goes_to (state_at count used at 0 k is.RealCount d) _ I (taken (state_at count used at 0 k is.RealCount d) P.some_bytes P.fine refl ∙ rw (c, a, le-leb (used + suc n) room.reals f) (ap to.Going (settles is.Real n (with_reals_lem d (suc n)))))

    -- an alias's target
    abbrev hit : Found
    hit = sought text T X count w

    abbrev pub target_draft : Draft → Draft
    target_draft d = let o = draft_in T hit.number in record { kind = o.kind; modifier = d.modifier; target = clipped hit.number; name = d.name; size = d.size; string = o.string; strings = o.strings; real = o.real; reals = o.reals }

    pub target_step_lem : (d : Draft) → Inv text T R X room (state_at count used at 0 k is.Target d) → (hit.number ≡ 0 → ⊥) → Left text T R X room 0 (state_at count used next 0 (clipped (k + hit.looked)) is.Real (target_draft d))
    unfolding target_step is_looked_up is_idle
    target_step_lem d I nz = completes (state_at count used at 0 k is.Target d) _ I (go (clipped hit.number) refl) next (clipped (k + hit.looked)) is.Target (target_draft d) (λ i. state_at count used (sym P.behind i) 0 (clipped (k + hit.looked)) is.Target (target_draft d))
      where
        go : (j : ℕ) → clipped hit.number ≡ j → next_step text T R X room (state_at count used at 0 k is.Target d) ≡ to.Complete (state_at count used (word_end text at + 1) 0 (clipped (k + hit.looked)) is.Target (target_draft d))
        go zero e = absurd (nz (omega arith))
        go (suc j) e = taken (state_at count used at 0 k is.Target d) P.some_bytes P.fine refl ∙ rw e

    -- a modifier, where a statement may begin
    pub modifier_step_lem : (r : Link) → Inv text T R X room (between at count used k) → opening_of is.Idle (get_or text (word_at text at).place 0) ≡ opening.Word → count < room.records → Links text T X count w r
        → Inv text T R X room (state_at count used next 0 (clipped (k + r.looked)) is.Kind (opened r.number))
    unfolding modifier_step
    modifier_step_lem r I o f L =
        goes_to (between at count used k) _ I
        (taken (between at count used k) P.some_bytes P.fine o ∙ rw (lt-ltb count room.records f)
        (L.leads (state_at count used (word_end text at + 1) 0 (clipped (k + looked_for is.Idle w (sought text T X count w).looked)) is.Idle (opened 0)) (word_at text at).place
        ∙ (λ i. to.Going (state_at count used (sym P.behind i) 0 (clipped (k + sym L.looked_is i)) is.Kind (opened r.number)))))

    -- a real that breaks no house rule
    pub real_step_lem : (d : Draft) (m : ℕ) (x : Float) → Left text T R X room (suc m) (state_at count used at 0 k is.Real d) → numeral_of w ≡ value x → breach_at house_rules d.kind (d.reals - m) x (back R used 1) (back R used 2) ≡ false → used < room.reals
        → (D : List Float) → D ≡ set R used x → Left text T D X room m (state_at count (used + 1) next 0 k is.Real d)
    unfolding real_step is_looked_up real_before is_idle behind_in
    real_step_lem d zero x I v b f D q =
        let r = ready text T R X room (state_at count used at 0 k is.Real d) I _ (to.Last (state_at count (used + 1) next 0 k is.Real d) x) refl
        (taken (state_at count used at 0 k is.Real d) P.some_bytes P.fine refl ∙ rw (v, b, lt-ltb used room.reals f)
        (λ i. to.Last (state_at count (used + 1) (sym P.behind i) 0 (same_looked i) is.Real d) x)) in
        λ T' X' t' E. (r.1 T' D X' t' q E).0
    real_step_lem d (suc m) x I v b f D q =
        ((ready text T R X room (state_at count used at (suc m) k is.Real d) I _ (to.Real (state_at count (used + 1) next m k is.Real d) x) refl
        (taken (state_at count used at (suc m) k is.Real d) P.some_bytes P.fine refl ∙ rw (v, b, lt-ltb used room.reals f)
        (λ i. to.Real (state_at count (used + 1) (sym P.behind i) m (same_looked i) is.Real d) x))
        ).1 D q).0

  pub comment_step : (count used at k : ℕ) (r : Skipped) → PassesComment text at r → Inv text T R X room (between at count used k) → Inv text T R X room (between r.next count used k)
  unfolding is_idle
  comment_step count used at k r P I =
      goes_to (between at count used k) _ I
      (passed_over (between at count used k) P.some_bytes (rw P.opens) ∙ (λ i. to.Going (between (sym P.behind i) count used k)))
