-- Entering a statement's record makes the table that of one statement more.
use mathlib.Core.Bool.{Bool, true, false, not, cond}
use mathlib.Core.List.{List, [], ◌∷◌, ◌++◌}
use mathlib.Core.Path.{◌≡◌, refl, ap, sym, ◌∙◌}
use Prim.Native.Nat.{ℕ, zero, suc, ◌+◌, ◌-◌, ◌*◌, ◌/◌, ◌≤◌, min}
use native.Mathlib.Omega.{arith}
use borrow.Author.Tests.{le-leb, lt-leb}
use lib.Dec.{leb}
use lib.ListN.{length, length-append, length-set, length-take, replicate, set, take}
use lib.Seq.{set-append_left, sets}
use Rattle.laws.proofs.BoolLaws.{cond_elim}
use Rattle.laws.specs.Bytes.{Bytes, part}
use Rattle.line_numbers.proofs.LineLaws.{line_goes_on}
use Rattle.line_numbers.specs.Lines.{line_from}
use Rattle.index.proofs.SearchLaws.{set_beyond}
use Rattle.index.proofs.TableLaws.{enters_there, finds_looked, finds_number, lent_skips}
use Rattle.index.specs.Lent.{lent, looked_by}
use Rattle.index.specs.Searches.{sought}
use Rattle.index.specs.declared.Found.{Found}
use Rattle.linker.specs.Entered.{earlier_in, entered_at, entered_in, indexed_in, record_from, row_of, told_in}
use Rattle.statement.specs.States.{clipped}
use Rattle.statement.specs.declared.Draft.{Draft}
use Rattle.scene.proofs.FilledLaws.{put_behind}
use Rattle.scene.proofs.FlatLaws.{flat_length, flat_next, flat_snoc, link}
use Rattle.scene.proofs.GivesLaws.{gives_by_type}
use Rattle.scene.proofs.GrowLaws.{records_grow, told_of}
use Rattle.scene.proofs.LineLaws.{newlines_most}
use Rattle.scene.proofs.PlaceLaws.{AllRead}
use Rattle.scene.proofs.RiseLaws.{last_name}
use Rattle.scene.proofs.SwapLaws.{latest_le}
use Rattle.scene.proofs.TellsLaws.{name_at, records_length, statements_length}
use Rattle.scene.specs.Links.{gives, latest, own_body, type_in}
use Rattle.scene.specs.Reading.{newline, Entry, statements}
use Rattle.scene.specs.Statement.{Statement}
use Rattle.scene.specs.Record.{line_at, width, flat, record_of, Record, filled, fields, records, next_field}
use Rattle.scene.specs.Types.{is_surface}

link_length : (R : List Record) (m v : ℕ) → length (link R m v) ≡ length R
link_length R zero v = refl
link_length R (suc k) v = simp length-set

told_link : (text : Bytes) (R : List Record) (z : List ℕ) (m v : ℕ) → m ≤ length R → told_in (flat text R ++ z) m v ≡ flat text (link R m v) ++ z
told_link text R z zero v h = refl
told_link text R z (suc k) v h =
    let rows = length (flat text R ++ z) / width in
    let in_rows : suc k ≤ rows = omega (arith, length-append (flat text R) z, flat_length text R) in
    ap (λ (b : Bool). cond b (set (flat text R ++ z) (k * width + next_field) v) (flat text R ++ z)) (le-leb (suc k) rows in_rows) ∙ set-append_left (flat text R) z (k * width + next_field) v (omega (arith, flat_length text R)) ∙ ap {B = List ℕ} (λ (y : List ℕ). y ++ z) (flat_next text R k v h)

-- a record put behind the others
put_record : (text : Bytes) (R : List Record) (r : Record) (n m : ℕ) → n ≡ length R → n * width + width ≤ m → sets (filled 0 m (flat text R)) (n * width) (fields text r) ≡ filled 0 m (flat text (R ++ r ∷ []))
put_record text R r n m q h =
    let l : n * width ≡ length (flat text R) = omega (arith, flat_length text R) in
    ap (λ (k : ℕ). sets (filled 0 m (flat text R)) k (fields text r)) l ∙ put_behind (flat text R) (fields text r) m (omega (arith, l)) ∙ ap (filled 0 m) (sym (flat_snoc text R r))

records_count : (es : List Entry) → length (records es) ≡ length es
unfolding records
records_count es = records_length [] es

module _ (text : Bytes) (table x : List ℕ) (e : Entry) (es : List Entry) (d : Draft) (w : table ≡ filled 0 (length table) (flat text (records es))) (held : x ≡ lent (length x) (statements es)) (h : AllRead (text ++ newline) (e ∷ es)) (own : record_from d ≡ record_of [] e es) (n : ℕ) (q : n ≡ length (statements es)) (few : n ≤ 1024) (room : n * width + width ≤ length table) where
  abbrev s : Statement
  s = e.statement

  named : part text d.name d.size ≡ s.name
  unfolding record_of
  named = (λ i. part text (own i).name (own i).name_length) ∙ name_at text e.places.name s.name h.0.name

  in_rows : min n (length table / width) ≡ length (statements es)
  in_rows = omega arith

  surface : is_surface d.kind ≡ not (gives s)
  unfolding record_of
  surface = ap (λ (r : Record). is_surface r.type) own ∙ go (is_surface (type_in (own_body s.body (statements es)))) ∙ sym (ap not (gives_by_type s (statements es)))
    where
      go : (b : Bool) → b ≡ not (not b)
      go true = refl
      go false = refl

  -- the search for the statement's name, which a surface does not make
  searches : earlier_in text table x n d ≡ cond (gives s) (sought text table x n s.name) (record { entry = length x; number = 0; looked = 0 })
  unfolding earlier_in
  searches = (λ i. cond (surface i) (record { entry = length x; number = 0; looked = 0 }) (sought text table x n (named i))) ∙ go (gives s)
    where
      go : (b : Bool) → cond (not b) (record { entry = length x; number = 0; looked = 0 }) (sought text table x n s.name) ≡ cond b (sought text table x n s.name) (record { entry = length x; number = 0; looked = 0 })
      go true = refl
      go false = refl

  by_gives : {A : Type 0} (f : Found → A) (a b : A) → f (sought text table x n s.name) ≡ a → f (record { entry = length x; number = 0; looked = 0 }) ≡ b → f (earlier_in text table x n d) ≡ cond (gives s) a b
  by_gives f a b p r = ap f searches ∙ go (gives s)
    where
      go : (c : Bool) → f (cond c (sought text table x n s.name) (record { entry = length x; number = 0; looked = 0 })) ≡ cond c a b
      go true = p
      go false = r

  -- the record told of the draft is the one that gets the statement as its next
  tells_of : (earlier_in text table x n d).number ≡ told_of e es
  tells_of = by_gives (λ f. f.number) (latest s.name (statements es)) 0 (finds_number text table x es w h.1 (omega arith) held n in_rows s.name) refl

  -- as many entries are looked at as the definition says
  pub counts : (earlier_in text table x n d).looked ≡ cond (gives s) (looked_by (length x) s.name (statements es)) 0
  counts = by_gives (λ f. f.looked) (looked_by (length x) s.name (statements es)) 0 (finds_looked text table x es w h.1 (omega arith) held n in_rows s.name) refl

  -- and the index is that of one statement more
  pub indexes : indexed_in text table x n d ≡ lent (length x) (statements (e ∷ es))
  unfolding indexed_in statements
  indexes =
      let v : clipped (n + 1) ≡ suc (length (statements es)) = omega arith in
      let rows = length table / width in
      (λ i. cond (lt-leb rows n (omega arith) i) x (set x (earlier_in text table x n d).entry (v i)))
      ∙ by_gives (λ f. set x f.entry (suc (length (statements es)))) (set x (sought text table x n s.name).entry (suc (length (statements es)))) x refl (set_beyond x (length x) (suc (length (statements es))) (omega arith))
      ∙ go (gives s) refl
    where
      go : (b : Bool) → gives s ≡ b → cond b (set x (sought text table x n s.name).entry (suc (length (statements es)))) x ≡ lent (length x) (s ∷ statements es)
      go true g = enters_there text table x es w h.1 (omega arith) held s n g
      go false g = held ∙ lent_skips (length x) s (statements es) (omega arith) g

  told_most : told_of e es ≤ length (statements es)
  told_most = cond_elim (λ m. m ≤ length (statements es)) (gives e.statement) (latest_le e.statement.name (statements es)) (omega arith)

  -- what is stored is the record of the statement
  row_fields : row_of d (line_at text e.places.name) ≡ fields text (record_of [] e es)
  unfolding record_of
  row_fields = ap (λ (k : ℕ). row_of d (line_at text k)) (sym (ap (λ (z : Record). z.name) own)) ∙ ap (fields text) own

  -- the line of the name, counted on from the name before, is that of its place
  line_told : last_name es ≤ e.places.name → length text ≤ 65536 → clipped (line_from text table n d.name) ≡ line_at text e.places.name
  unfolding record_of
  line_told rises short =
      let place = e.places.name in
      let few : line_at text place ≤ length text + 1 = omega (arith, newlines_most (take place text), length-take place text) in
      ap clipped ((λ i. line_from text (w i) ((q ∙ statements_length es) i) (own i).name) ∙ line_goes_on text es (length table) place rises) ∙ omega (arith, few)

  pub enters : last_name es ≤ e.places.name → length text ≤ 65536 → entered_in text table x n d ≡ filled 0 (length table) (flat text (records (e ∷ es)))
  unfolding entered_at
  enters rises short =
      let rows = length table / width in
      let small : min (n + 1) 4294967295 ≡ n + 1 = omega arith in
      let fits : leb rows n ≡ false = lt-leb rows n (omega arith) in
      let R : List Record = records es in
      let m : ℕ = told_of e es in
      let k : length R ≡ length es = records_count es in
      let le : m ≤ length R = omega (arith, k, told_most, statements_length es) in
      let L : List Record = link R m (suc (length es)) in
      let c : n + 1 ≡ suc (length es) = omega (arith, statements_length es) in
      let j : length (flat text L) ≡ length (flat text R) = omega (arith, flat_length text L, flat_length text R, link_length R m (suc (length es))) in
      let line = line_told rises short in
      (λ i. cond (fits i) table (sets (told_in table (earlier_in text table x n d).number (small i)) (n * width) (row_of d (line i)))) ∙
      (λ i. sets (told_in (w i) (tells_of i) (c i)) (n * width) (row_of d (line_at text e.places.name))) ∙
      ap (λ (r : List ℕ). sets (told_in (filled 0 (length table) (flat text R)) m (suc (length es))) (n * width) r) row_fields ∙
      ap (λ (t : List ℕ). sets t (n * width) (fields text (record_of [] e es))) (told_link text R (replicate (length table - length (flat text R)) 0) m (suc (length es)) le ∙ ap {B = List ℕ} (λ (x : ℕ). flat text L ++ replicate (length table - x) 0) (sym j)) ∙
      put_record text L (record_of [] e es) n (length table) (omega (arith, link_length R m (suc (length es)), k, statements_length es)) room ∙
      ap (λ (t : List Record). filled 0 (length table) (flat text t)) (sym (records_grow e es))
