-- What a search finds in the tables of a scene that is being read, and what entering a statement makes of the lent index.
use mathlib.Core.Bool.{Bool, true, false, cond}
use mathlib.Core.List.{List, [], ◌∷◌, ◌++◌, append_assoc}
use mathlib.Core.Logic.{◌⊎◌, inl, inr}
use mathlib.Core.Path.{◌≡◌, refl, ap, sym, ◌∙◌}
use Prim.Native.Nat.{ℕ, suc, ◌+◌, ◌-◌, ◌/◌, ◌≤◌, ◌<◌, min}
use native.Mathlib.Omega.{arith}
use borrow.Author.Tests.{eqb-true, eqb-false, le-leb, lt-leb}
use lib.Dec.{eqb, leb}
use lib.ListN.{length, length-replicate, get_or, set, replicate, replicate-append-replicate}
use lib.Seq.{set-append_left}
use Rattle.laws.proofs.NatLaws.{le_or_lt}
use Rattle.laws.proofs.TableLaws.{padded}
use Rattle.laws.specs.Bytes.{Bytes}
use Rattle.lookup.proofs.LookupLaws.{search_latest}
use Rattle.lookup.specs.Lookup.{latest_in}
use Rattle.index.proofs.AlikeLaws.{alike_searched, index_enters, index_skips}
use Rattle.index.proofs.IndexLaws.{index_length, index_low}
use Rattle.index.proofs.ReportLaws.{alike_tail, gives_new, name_new, searches_alike}
use Rattle.index.proofs.SearchLaws.{searched_padded, set_beyond, sought_indexed, sought_plain}
use Rattle.index.specs.Index.{entered, entry_of, index_by, searched}
use Rattle.index.specs.Lent.{lent, looked_by}
use Rattle.index.specs.Report.{gives_no, index_of, looked, name_no, primitives_of}
use Rattle.index.specs.Searches.{Alike, sought}
use Rattle.index.specs.declared.Found.{Found}
use Rattle.scene.proofs.ImageLaws.{name_is}
use Rattle.scene.proofs.PlaceLaws.{AllRead}
use Rattle.scene.proofs.TellsLaws.{statements_length}
use Rattle.scene.specs.Links.{gives, latest}
use Rattle.scene.specs.Reading.{Entry, newline, statements}
use Rattle.scene.specs.Record.{filled, flat, name_in, records, width}
use Rattle.scene.specs.Statement.{Statement}

-- ---- an index of n entries

module _ (n : ℕ) (d : List Statement) where
  pub lent_used : 2048 ≤ n → lent n d ≡ filled 0 n (index_of d)
  unfolding lent
  lent_used l = rw (le-leb 2048 n l)

  pub lent_unused : n < 2048 → lent n d ≡ replicate n 0
  unfolding lent
  lent_unused l = rw (lt-leb 2048 n l)

  pub looked_used : (w : Bytes) → 2048 ≤ n → looked_by n w d ≡ looked w d
  unfolding looked_by
  looked_used w l = rw (le-leb 2048 n l)

  pub looked_unused : (w : Bytes) → n < 2048 → looked_by n w d ≡ 0
  unfolding looked_by
  looked_unused w l = rw (lt-leb 2048 n l)

zeros_filled : (m n : ℕ) → m ≤ n → replicate {A = ℕ} n 0 ≡ filled 0 n (replicate m 0)
zeros_filled m n l =
    let e : n ≡ m + (n - length (replicate {A = ℕ} m 0)) = omega (arith, length-replicate {A = ℕ} m 0) in
    ap (λ (k : ℕ). replicate k 0) e ∙ sym (replicate-append-replicate m (n - length (replicate {A = ℕ} m 0)) 0)

-- a cleared one is that of no statement
pub lent_none : (n : ℕ) → replicate n 0 ≡ lent n []
unfolding index_by
lent_none n = go (le_or_lt 2048 n)
  where
    go : (2048 ≤ n) ⊎ (n < 2048) → replicate n 0 ≡ lent n []
    go (inl l) = zeros_filled 2048 n l ∙ sym (lent_used n [] l)
    go (inr l) = sym (lent_unused n [] l)

-- ---- one statement more

module _ (n : ℕ) (s : Statement) (d : List Statement) (few : length d < 2048) where
  sized : length (index_of d) ≡ 2048
  sized = index_length (primitives_of d) (length d) (omega arith)

  back : Alike (primitives_of d) (primitives_of (s ∷ d)) (length d)
  back = let a = alike_tail s d in record { name = λ k l m. sym (a.name k l m); gives = λ k l m. sym (a.gives k l m) }

  -- a surface leaves the index as it is
  pub lent_skips : gives s ≡ false → lent n d ≡ lent n (s ∷ d)
  unfolding lent
  lent_skips g = ap (λ (y : List ℕ). cond (leb 2048 n) (filled 0 n y) (replicate n 0)) (index_skips (primitives_of d) (primitives_of (s ∷ d)) (length d) few back (gives_new s d ∙ g))

  -- any other is entered where the search for its name ends
  pub lent_enters : gives s ≡ true → 2048 ≤ n → set (lent n d) (entry_of (index_of d) (name_no d) s.name) (suc (length d)) ≡ lent n (s ∷ d)
  lent_enters g l =
      let q : ℕ = entry_of (index_of d) (name_no d) s.name in
      let e : entered (index_of d) (name_no d) s.name (suc (length d)) ≡ index_of (s ∷ d) = index_enters (primitives_of d) (primitives_of (s ∷ d)) (length d) few back s.name (gives_new s d ∙ g) (name_new s d) in
      let z : n - length (index_of d) ≡ n - length (index_of (s ∷ d)) = omega (arith, sized, index_length (primitives_of (s ∷ d)) (suc (length d)) (omega arith)) in
      ap (λ (y : List ℕ). set y q (suc (length d))) (lent_used n d l)
      ∙ set-append_left (index_of d) (replicate (n - length (index_of d)) 0) q (suc (length d)) (omega (arith, sized))
      ∙ (λ i. e i ++ replicate (z i) 0)
      ∙ sym (lent_used n (s ∷ d) l)

-- ---- the tables of a scene that is being read

module _ (text : Bytes) (es : List Entry) (m : ℕ) (h : AllRead (text ++ newline) es) where
  names_of : (l d : List Entry) → es ≡ l ++ d → (k : ℕ) → 1 ≤ k → k ≤ length (statements d) → name_in text (filled 0 m (flat text (records es))) k ≡ name_no (statements d) k
  unfolding statements name_no
  names_of l [] q k a b = absurd (omega arith)
  names_of l (e ∷ d) q k a b = go (eqb k (suc (length (statements d)))) refl (names_of (l ++ e ∷ []) d (q ∙ sym (append_assoc l (e ∷ []) d)) k a)
    where
      go : (c : Bool) → eqb k (suc (length (statements d))) ≡ c → (k ≤ length (statements d) → name_in text (filled 0 m (flat text (records es))) k ≡ name_no (statements d) k)
          → name_in text (filled 0 m (flat text (records es))) k ≡ cond c e.statement.name (name_no (statements d) k)
      go true z ih = ap (name_in text (filled 0 m (flat text (records es)))) (eqb-true k (suc (length (statements d))) z ∙ ap suc (statements_length d)) ∙ name_is text es m l e d q h
      go false z ih = ih (let y = eqb-false k (suc (length (statements d))) z in omega arith)

module _ (text : Bytes) (table x : List ℕ) (es : List Entry) (stored : table ≡ filled 0 (length table) (flat text (records es))) (h : AllRead (text ++ newline) es) (few : length (statements es) < 2048) (held : x ≡ lent (length x) (statements es)) where
  abbrev d : List Statement
  d = statements es

  alike : Alike (record { name = name_in text table; gives = gives_no d }) (primitives_of d) (length d)
  alike = record { name = λ k l m. ap (λ (t : List ℕ). name_in text t k) stored ∙ names_of text es (length table) h [] es refl k l m; gives = λ k l m. refl }

  -- with an index
  searched_is : 2048 ≤ length x → (w : Bytes) → searched x (name_in text table) w ≡ searched (index_of d) (name_no d) w
  searched_is l w =
      let e : x ≡ filled 0 (length x) (index_of d) = held ∙ lent_used (length x) d l in
      let low : (q : ℕ) → get_or x q 0 ≤ length d = λ q. (let a : get_or x q 0 ≡ get_or (index_of d) q 0 = ap (λ (y : List ℕ). get_or y q 0) e ∙ padded 0 (index_of d) (length x - length (index_of d)) q in omega (arith, a, index_low (primitives_of d) (length d) (omega arith) q)) in
      alike_searched (record { name = name_in text table; gives = gives_no d }) (primitives_of d) w (length d) alike x low
      ∙ ap (λ (y : List ℕ). searched y (name_no d) w) e
      ∙ searched_padded (index_of d) (length x - length (index_of d)) (name_no d) w

  module _ (n : ℕ) (rows : min n (length table / width) ≡ length d) (w : Bytes) where
    pub finds_number : (sought text table x n w).number ≡ latest w d
    finds_number = go (le_or_lt 2048 (length x))
      where
        go : (2048 ≤ length x) ⊎ (length x < 2048) → (sought text table x n w).number ≡ latest w d
        go (inl l) = ap (λ (f : Found). f.number) (sought_indexed text table x n w l ∙ searched_is l w) ∙ searches_alike w d few
        go (inr l) = ap (λ (f : Found). f.number) (sought_plain text table x n w l) ∙ ap (latest_in text table w) (rows ∙ statements_length es) ∙ ap (λ (t : List ℕ). latest_in text t w (length es)) stored ∙ search_latest text es (length table) h w

    pub finds_looked : (sought text table x n w).looked ≡ looked_by (length x) w d
    finds_looked = go (le_or_lt 2048 (length x))
      where
        go : (2048 ≤ length x) ⊎ (length x < 2048) → (sought text table x n w).looked ≡ looked_by (length x) w d
        go (inl l) = ap (λ (f : Found). f.looked) (sought_indexed text table x n w l ∙ searched_is l w) ∙ sym (looked_used (length x) d w l)
        go (inr l) = ap (λ (f : Found). f.looked) (sought_plain text table x n w l) ∙ sym (looked_unused (length x) d w l)

  -- a number is written where the search for its statement's name ends
  pub enters_there : (s : Statement) (n : ℕ) → gives s ≡ true → set x (sought text table x n s.name).entry (suc (length d)) ≡ lent (length x) (s ∷ d)
  enters_there s n g = go (le_or_lt 2048 (length x))
    where
      go : (2048 ≤ length x) ⊎ (length x < 2048) → set x (sought text table x n s.name).entry (suc (length d)) ≡ lent (length x) (s ∷ d)
      go (inl l) = (λ i. set (held i) ((sought_indexed text table x n s.name l ∙ searched_is l s.name) i).entry (suc (length d))) ∙ lent_enters (length x) s d few g l
      go (inr l) = ap (λ (f : Found). set x f.entry (suc (length d))) (sought_plain text table x n s.name l) ∙ set_beyond x (length x) (suc (length d)) (omega arith) ∙ held ∙ lent_unused (length x) d l ∙ sym (lent_unused (length x) (s ∷ d) l)
