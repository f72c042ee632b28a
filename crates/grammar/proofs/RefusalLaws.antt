-- A text is refused for the first reason that holds in it.
use mathlib.Core.Bool.{Bool, true, false, cond}
use mathlib.Core.List.{◌++◌}
use mathlib.Core.Logic.{◌⊎◌, inl, inr}
use mathlib.Core.Path.{◌≡◌, refl, ap, sym, ◌∙◌, subst}
use Prim.Native.Nat.{ℕ, zero, suc, ◌+◌, ◌≤◌, ◌<◌}
use native.Mathlib.Omega.{arith}
use borrow.Author.Tests.{leb-false, leb-true}
use lib.Dec.{leb}
use lib.ListN.{length}
use Rattle.grammar.proofs.BegunLaws.{parse_stands}
use Rattle.grammar.proofs.ComeLaws.{Come, holds_comes}
use Rattle.grammar.proofs.MixtureLaws.{mixture_reason}
use Rattle.grammar.proofs.StopLaws.{stopped_holds}
use Rattle.grammar.proofs.VerdictLaws.{reason_counts}
use Rattle.grammar.specs.Laws.{NoReasonLaw, ReadRefusalLaw, RefusalLaw, Refuses}
use Rattle.grammar.specs.Refusal.{First, Holds, command as commanded, long, unfinished, wrong}
use Rattle.laws.specs.Bytes.{Bytes}
use Rattle.scene.proofs.AcceptLaws.{going_parse, lines_gap, Gap, read_inv}
use Rattle.scene.proofs.SyntaxLaws.{pass}
use Rattle.scene.specs.Phase.{Phase, busy, idle}
use Rattle.scene.specs.Reading.{Reading, State, accepted, end_in, finish, first, gap, going, initial, newline, read_statements, refused, run, statements, stopped}
use Rattle.scene.specs.declared.Settings.{Settings}
use Rattle.sides.specs.Read.{mixed, read}

holds_counts : (r : Settings) (text : Bytes) (m q : ℕ) → Holds r text m q → 0 < m
holds_counts r text m q (long h) = omega arith
holds_counts r text m q (commanded d t u e s) = omega arith
holds_counts r text m q (unfinished d n p h) = omega arith
holds_counts r text m q (wrong d ph w a f) = reason_counts r d ph w m f

module _ (r : Settings) (text : Bytes) where
  -- "1 comes first"
  long_first : 65536 < length text → First r text 1 0
  long_first h = record { holds = long h; first = λ m q k. go q (holds_counts r text m q k) }
    where
      go : {m : ℕ} (q : ℕ) → 1 ≤ m → (0 < q) ⊎ ((0 ≡ q) × (1 ≤ m))
      go zero l = inr (refl, l)
      go (suc q) l = inl (omega arith)

  abbrev FirstR : Reading → Type 0
  FirstR (refused n p) = First r text n p
  FirstR (accepted es) = Unit {0}

  finish_first : length text ≤ 65536 → (X : State) → run r initial (text ++ newline) ≡ X → FirstR (finish (length text) X)
  finish_first l (stopped n p) e = record { holds = stopped_holds r text n p e; first = λ m q k. subst (Come text m q) e (holds_comes r text m q l k) }
  finish_first l (going g) e = go g.phase refl
    where
      go : (ph : Phase) → g.phase ≡ ph → FirstR (end_in ph (length text) g.above)
      go idle f = tt
      go (busy b p) f =
          let parsed = going_parse r (text ++ newline) g e in
          let between : gap ≡ g.scan = subst Gap parsed (lines_gap r text gap idle) in
          let begun = parse_stands r (text ++ newline) gap (busy b p) (statements g.above) (parsed ∙ (λ i. pass (sym between i) (f i) (statements g.above))) in
          record {
            holds = unfinished (statements g.above) b p begun;
            first = λ m q k. (let c = subst (Come text m q) e (holds_comes r text m q l k) in inr (sym c.1, omega (arith, c.0)));
          }

  read_first : FirstR (read_statements r text)
  unfolding read_statements
  read_first = go (leb (length text) 65536) refl
    where
      go : (x : Bool) → leb (length text) 65536 ≡ x → FirstR (cond x (finish (length text) (run r initial (text ++ newline))) (refused 1 0))
      go true e = finish_first (leb-true (length text) 65536 e) (run r initial (text ++ newline)) refl
      go false e = long_first (leb-false (length text) 65536 e)

pub no_reason : NoReasonLaw
no_reason r text es e n p h =
    let i = read_inv r text es e in
    let c = subst (Come text n p) i.1.1 (holds_comes r text n p (leb-true (length text) 65536 i.0) h) in
    c.2 i.1.2

pub refused_first : RefusalLaw
refused_first r text n p = (λ e. subst (FirstR r text) e (read_first r text), λ h. back h (read_statements r text) refl)
  where
    back : First r text n p → (x : Reading) → read_statements r text ≡ x → read_statements r text ≡ refused n p
    back h (accepted es) e = absurd (no_reason r text es e n p h.holds)
    back h (refused m q) e = e ∙ (λ i. refused (same.0 i) (same.1 i))
      where
        k : First r text m q
        k = subst (FirstR r text) e (read_first r text)

        both : (p < q) ⊎ ((p ≡ q) × (n ≤ m)) → (q < p) ⊎ ((q ≡ p) × (m ≤ n)) → (m ≡ n) × (q ≡ p)
        both (inl x) (inl y) = absurd (omega arith)
        both (inl x) (inr y) = absurd (omega (arith, y.0))
        both (inr x) (inl y) = absurd (omega (arith, x.0))
        both (inr x) (inr y) = (omega (arith, x.1, y.1), y.0)

        same : (m ≡ n) × (q ≡ p)
        same = both (h.first m q k.holds) (k.first n p h.holds)

pub read_refused : ReadRefusalLaw
unfolding read
read_refused r text n p = (forth (read_statements r text) refl, back)
  where
    forth : (x : Reading) → read_statements r text ≡ x → mixed text x ≡ refused n p → Refuses r text n p
    forth (refused m q) e f = inl ((refused_first r text n p).0 (e ∙ f))
    forth (accepted es) e f = inr (es, e, (mixture_reason text es n p).0 f)

    back : Refuses r text n p → mixed text (read_statements r text) ≡ refused n p
    back (inl h) = ap (mixed text) ((refused_first r text n p).1 h)
    back (inr (es, e, h)) = ap (mixed text) e ∙ (mixture_reason text es n p).1 h
