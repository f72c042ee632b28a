-- Where the reading stops, the reason holds.
use mathlib.Core.Bool.{Bool, true, false, cond}
use mathlib.Core.List.{List, [], ◌∷◌, ◌++◌, append_assoc}
use mathlib.Core.Path.{◌≡◌, refl, ap, sym, ◌∙◌, subst}
use Prim.Native.Nat.{ℕ, zero, suc, ◌+◌}
use native.Mathlib.Omega.{arith}
use borrow.Author.Tests.{eqb-true}
use lib.Dec.{eqb}
use lib.ListN.{length, length-append}
use Rattle.grammar.proofs.BegunLaws.{InWord, Stands, idle_spells, parse_stands}
use Rattle.grammar.proofs.VerdictLaws.{Lowest, verdict, verdict_lowest}
use Rattle.grammar.specs.Refusal.{Begun, Fails, Holds, Test, WordAt, command as commanded, word_tests, wrong}
use Rattle.laws.proofs.BoolLaws.{cond_elim}
use Rattle.laws.specs.Bytes.{Bytes, byte}
use Rattle.lexer.specs.Class.{is_blank}
use Rattle.scene.proofs.AcceptLaws.{going_parse}
use Rattle.scene.proofs.EdgeLaws.{run_append, run_stopped}
use Rattle.scene.proofs.ReadingLaws.{Located, going_located, word_located}
use Rattle.scene.specs.Phase.{Outcome, Phase, busy, done, idle, into, refuse, word}
use Rattle.scene.specs.Reading.{Going, Move, Scan, State, advance, begins, command, comment, ended, feed, first, gap, going, initial, keep, move, newline, run, settle, statements, stopped, test, within}
use Rattle.scene.specs.Statement.{Statement}
use Rattle.scene.specs.declared.Settings.{Settings}

abbrev HoldsS : Settings → Bytes → State → Type 0
HoldsS r text (stopped n p) = Holds r text n p
HoldsS r text (going g) = Unit {0}

settle_holds : (r : Settings) (text : Bytes) (xs : List Test) (g : Going) (o : Outcome) (t : ℕ) → Lowest (verdict o t) xs → ((n : ℕ) → Fails n xs → Holds r text n g.places.word) → HoldsS r text (settle g o t)
settle_holds r text xs g (refuse n) t l f = f n l.0
settle_holds r text xs g (into ph) zero l f = tt
settle_holds r text xs g (into ph) (suc t) l f = f (suc t) l.0
settle_holds r text xs g (done s) zero l f = tt
settle_holds r text xs g (done s) (suc t) l f = f (suc t) l.0

-- g has been reached behind t, and b is the next byte
module _ (r : Settings) (text t : Bytes) (b : ℕ) (u : Bytes) (split : text ++ newline ≡ t ++ b ∷ u) (g : Going) (here : run r initial t ≡ going g) where
  abbrev above : List Statement
  above = statements g.above

  stands : Stands r.mode above g.scan g.phase t
  stands = parse_stands r t g.scan g.phase above (going_parse r t g here)

  located : Located t g
  located = going_located r t g here

  gap_holds : (ph : Phase) → Begun r.mode above ph t → (x : Bool) → HoldsS r text (advance r g (cond x (keep gap) (begins ph b)))
  gap_holds ph h true = tt
  gap_holds (busy m p) h false = tt
  gap_holds idle h false = go (eqb b (byte "#")) (eqb b (byte "!")) refl
    where
      go : (x y : Bool) → eqb b (byte "!") ≡ y → HoldsS r text (advance r g (cond x (keep comment) (cond y command (first b))))
      go true y q = tt
      go false true q = subst (Holds r text 4) (sym located.at) (commanded above t u (split ∙ ap {B = Bytes} (λ (n : ℕ). t ++ n ∷ u) (eqb-true b (byte "!") q)) (idle_spells r.mode above t h))
      go false false q = tt

  word_at : (w : Bytes) → g.scan ≡ within w → InWord r.mode above g.phase w t → is_blank b ≡ true → WordAt r.mode text g.places.word above g.phase w
  word_at w s h e =
      let k = word_located t g w located s in
      let l : length t ≡ length h.before + length w = ap length h.split ∙ length-append h.before w in
      record {
        before = h.before;
        end = b;
        rest = u;
        split = split ∙ ap {B = Bytes} (λ (x : Bytes). x ++ b ∷ u) h.split ∙ append_assoc h.before w (b ∷ u);
        at = omega (arith, k.0, l, located.at);
        begun = h.begun;
        begins = h.begins;
        others = h.others;
        ends = e;
      }

  word_holds : (w : Bytes) → g.scan ≡ within w → InWord r.mode above g.phase w t → (x : Bool) → is_blank b ≡ x → HoldsS r text (advance r g (cond x (ended w) (keep (within (w ++ b ∷ [])))))
  word_holds w s h false e = tt
  word_holds w s h true e =
      settle_holds r text (word_tests r above g.phase w) g (word r g.phase w) (test r above g.phase w) (verdict_lowest r above g.phase w)
      (λ n f. wrong above g.phase w (word_at w s h e) f)

  byte_holds : HoldsS r text (feed r (going g) b)
  byte_holds = go g.scan refl stands
    where
      go : (m : Scan) → g.scan ≡ m → Stands r.mode above m g.phase t → HoldsS r text (advance r g (move m g.phase b))
      go gap s h = gap_holds g.phase h (is_blank b)
      go comment s h = cond_elim (λ (v : Move). HoldsS r text (advance r g v)) (eqb b 10) tt tt
      go (within w) s h = word_holds w s h (is_blank b) refl

pub run_snoc : (r : Settings) (t : Bytes) (b : ℕ) (g : Going) → run r initial t ≡ going g → run r initial (t ++ b ∷ []) ≡ feed r (going g) b
unfolding run
run_snoc r t b g e = run_append r initial t (b ∷ []) ∙ ap (λ (X : State). run r X (b ∷ [])) e

run_holds : (r : Settings) (text u t : Bytes) (g : Going) → text ++ newline ≡ t ++ u → run r initial t ≡ going g → HoldsS r text (run r (going g) u)
unfolding run
run_holds r text [] t g q e = tt
run_holds r text (b ∷ u) t g q e = go (feed r (going g) b) refl (byte_holds r text t b u q g e) (λ k. run_holds r text u (t ++ b ∷ []) k)
  where
    go : (X : State) → feed r (going g) b ≡ X → HoldsS r text X → ((k : Going) → text ++ newline ≡ t ++ b ∷ [] ++ u → run r initial (t ++ b ∷ []) ≡ going k → HoldsS r text (run r (going k) u)) → HoldsS r text (run r X u)
    go (stopped n p) f h ih = subst (HoldsS r text) (sym (run_stopped r n p u)) h
    go (going k) f h ih = ih k (q ∙ sym (append_assoc t (b ∷ []) u)) (run_snoc r t b g e ∙ f)

pub stopped_holds : (r : Settings) (text : Bytes) (n p : ℕ) → run r initial (text ++ newline) ≡ stopped n p → Holds r text n p
unfolding run
stopped_holds r text n p e = subst (HoldsS r text) e (run_holds r text (text ++ newline) [] _ refl refl)
