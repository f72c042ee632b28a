-- A call of the reader answers as the grammar and the reasons say.
use mathlib.Core.List.{List}
use mathlib.Core.Path.{◌≡◌, refl, ap, sym, ◌∙◌, subst}
use Prim.Native.Nat.{ℕ}
use native.Mathlib.Omega.{arith}
use lib.ListN.{length}
use Rattle.grammar.proofs.GrammarLaws.{exactly}
use Rattle.grammar.proofs.RefusalLaws.{read_refused}
use Rattle.grammar.specs.Laws.{WellFormed}
use Rattle.grammar_reading.specs.Call.{Answers, ReaderGrammar}
use Rattle.laws.specs.Bytes.{Bytes}
use Rattle.reader.specs.Answer.{Accepted, Refused, answered}
use Rattle.scene.proofs.TellsLaws.{statements_length}
use Rattle.scene.specs.Reading.{Entry, Reading, accepted, refused, statements}
use Rattle.scene.specs.Record.{real_table, reals, settings_for}
use Rattle.scene.specs.Statement.{Statement}
use Rattle.scene.specs.declared.Settings.{Settings}
use Rattle.sides.specs.Read.{read}

module _ (s : Settings) (text : Bytes) where
  counts : (es : List Entry) → answered (accepted es) ≡ Accepted (length (statements es)) (length (reals (statements es)))
  counts es = ap (λ (n : ℕ). Accepted n (length (real_table es))) (sym (statements_length es))

  accepts : (x : Reading) → read s text ≡ x → (n k : ℕ) → answered x ≡ Accepted n k → (d : List Statement) × WellFormed s text d × (n ≡ length d) × (k ≡ length (reals d))
  accepts (refused m p) e n k a = let z : ◌≡◌ {A = ℕ} 0 1 = cc in absurd (omega arith)
  accepts (accepted es) e n k a = let c : Accepted (length (statements es)) (length (reals (statements es))) ≡ Accepted n k = sym (counts es) ∙ a in (statements es, (exactly s text (statements es)).0 (es, e, refl), cc, cc)

  accepted_is : (d : List Statement) → WellFormed s text d → answered (read s text) ≡ Accepted (length d) (length (reals d))
  accepted_is d h = let a = (exactly s text d).1 h in ap answered a.1 ∙ counts a.0 ∙ ap (λ (x : List Statement). Accepted (length x) (length (reals x))) a.2

  refused_is : (x : Reading) (n p : ℕ) → answered x ≡ Refused n p → x ≡ refused n p
  refused_is (refused m q) n p e = cc
  refused_is (accepted es) n p e = let z : ◌≡◌ {A = ℕ} 0 1 = cc in absurd (omega arith)

  answers : Answers s text (answered (read s text))
  answers = record {
    accepts = accepts (read s text) refl;
    accepted = accepted_is;
    refuses = λ n p. (λ e. (read_refused s text n p).0 (refused_is (read s text) n p e), λ h. ap answered ((read_refused s text n p).1 h));
  }

pub reader_grammar : ReaderGrammar
reader_grammar mode text lent doubles r lent' doubles' h =
    let s = settings_for mode (length lent) (length doubles) in
    subst (Answers s text) (sym h.says) (answers s text)
