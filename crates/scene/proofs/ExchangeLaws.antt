-- The exchange law.
use mathlib.Core.List.{List, [], ◌∷◌, ◌++◌}
use mathlib.Core.Path.{◌≡◌, refl, ap, sym, ◌∙◌}
use Prim.Native.Nat.{ℕ, suc, ◌-◌}
use native.Mathlib.Omega.{arith}
use lib.ListN.{length}
use Rattle.laws.specs.Bytes.{Bytes}
use Rattle.scene.proofs.BlockLaws.{exchange}
use Rattle.scene.proofs.IndependentLaws.{clear_first, clear_second}
use Rattle.scene.proofs.RenumberLaws.{Renamed}
use Rattle.scene.proofs.RowLaws.{Moved}
use Rattle.scene.proofs.TellsLaws.{At, at, nth_at, split_statements, statements_length, reals_length, tells_told, read_read}
use Rattle.scene.specs.Exchange.{Renumbers, ExchangeLaw}
use Rattle.scene.specs.Links.{reals_used}
use Rattle.scene.specs.Reading.{Entry, statements, accepted, read_statements}
use Rattle.scene.specs.Record.{records, nth, real_table}
use Rattle.scene.specs.declared.Settings.{Settings}
use Rattle.scene.specs.Told.{told, renumbered, tells}
use Rattle.scene.specs.Statement.{Statement}

-- ---- an entry by its statement and those around it

record Found (es : List Entry) (later : List Statement) (s : Statement) (earlier : List Statement) : Type 0 where
  l : List Entry
  e : Entry
  x : List Entry
  split : es ≡ l ++ e ∷ x
  later≡ : statements l ≡ later
  own≡ : e.statement ≡ s
  earlier≡ : statements x ≡ earlier

find : (es : List Entry) (later : List Statement) (s : Statement) (earlier : List Statement) → statements es ≡ later ++ s ∷ earlier → Found es later s earlier
unfolding statements
find [] [] s earlier q = let z : ◌≡◌ {A = ℕ} 0 1 = cc in absurd (omega arith)
find [] (y ∷ later) s earlier q = let z : ◌≡◌ {A = ℕ} 0 1 = cc in absurd (omega arith)
find (e ∷ es) [] s earlier q = record { l = []; e = e; x = es; split = refl; later≡ = refl; own≡ = cc; earlier≡ = cc }
find (e ∷ es) (y ∷ later) s earlier q =
    let a : Found es later s earlier = find es later s earlier cc in
    let p : e.statement ≡ y = cc in
    record { l = e ∷ a.l; e = a.e; x = a.x; split = ap {B = List Entry} (λ (z : List Entry). e ∷ z) a.split; later≡ = λ i. p i ∷ a.later≡ i; own≡ = a.own≡; earlier≡ = a.earlier≡ }

-- ---- a renumbering of the statements is one of the table

module _ (r : Settings) (old new : Bytes) (es es' : List Entry) (f : ℕ → ℕ) (reads : read_statements r old ≡ accepted es) (reads' : read_statements r new ≡ accepted es') (names : Renamed f (statements es) (statements es')) where
  abbrev Row : ℕ → Type 0
  Row n = tells new (real_table es') (nth (records es') (f n)) ≡ renumbered f (tells old (real_table es) (nth (records es) n))

  module _ (n : ℕ) (a : At es (n - 1)) (n≡ : n ≡ suc (length a.x)) where
    before : tells old (real_table es) (nth (records es) n) ≡ told (statements a.l) a.e.statement (statements a.x)
    before = ap (tells old (real_table es)) (nth_at es a.l a.e a.x n a.split n≡) ∙ tells_told old es a.l a.e a.x (read_read r old es reads) a.split

    after : (m : Moved f (statements es') (statements a.l) a.e.statement (statements a.x)) → Found es' m.later a.e.statement m.earlier → Row n
    after m b =
        let k : f n ≡ suc (length b.x) = ap f (n≡ ∙ ap suc (sym (statements_length a.x))) ∙ m.number ∙ ap suc (ap length (sym b.earlier≡) ∙ statements_length b.x) in
        ap (tells new (real_table es')) (nth_at es' b.l b.e b.x (f n) b.split k)
        ∙ tells_told new es' b.l b.e b.x (read_read r new es' reads') b.split
        ∙ (λ i. told (b.later≡ i) (b.own≡ i) (b.earlier≡ i)) ∙ m.same ∙ ap (renumbered f) (sym before)

    moved : Moved f (statements es') (statements a.l) a.e.statement (statements a.x)
    moved = names.rows (statements a.l) a.e.statement (statements a.x) (split_statements es a.l a.e a.x a.split)

    row : Row n
    row = after moved (find es' moved.later a.e.statement moved.earlier moved.place)

  pub renumbers : reals_used (statements es') ≡ reals_used (statements es) → Renumbers r old new es es' f
  renumbers u = record {
    reads = reads';
    primitives = sym (statements_length es') ∙ names.count ∙ statements_length es;
    reals = reals_length (statements es') ∙ u ∙ sym (reals_length (statements es));
    rows = λ n p q. (let a = at es (n - 1) (omega arith) in row n a (omega (arith, a.number)));
  }

-- ---- DEMAND 3

pub exchange_law : ExchangeLaw
exchange_law r p a b q es h =
    let s = exchange r p a b q es h.reads h.first h.second (clear_first h.independent) (clear_second h.independent) in
    record { entries = s.entries; renumbers = renumbers r (p ++ a ++ b ++ q) (p ++ b ++ a ++ q) es s.entries _ h.reads s.reads s.renamed s.reals }
