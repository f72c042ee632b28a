-- One statement more: the table gets a record at its end, and the latest record of that name gets its number as next.
use mathlib.Core.Bool.{Bool, true, false, cond, ◌||◌}
use mathlib.Core.List.{List, [], ◌∷◌, ◌++◌}
use mathlib.Core.Path.{◌≡◌, refl, ap, sym, ◌∙◌}
use Prim.Native.Nat.{ℕ, zero, suc, ◌+◌, ◌≤◌}
use native.Mathlib.Nat.{zero-add}
use native.Mathlib.Omega.{arith}
use lib.ListN.{length, length-append, set, get_or, get_or-append}
use lib.Seq.{set_at, set-append_left, get_or_at}
use Rattle.laws.proofs.BoolLaws.{or_false_left, or_false_right}
use Rattle.laws.specs.Bytes.{Bytes}
use Rattle.scene.proofs.FlatLaws.{with_next, link}
use Rattle.scene.proofs.GivesLaws.{silent_misses}
use Rattle.scene.proofs.RowLaws.{or_else_zero}
use Rattle.scene.proofs.SwapLaws.{hits_of, hits_true, latest_le}
use Rattle.scene.proofs.TellsLaws.{records_length, statements_length}
use Rattle.scene.specs.Links.{gives, hits, found, latest, or_else, first_later}
use Rattle.scene.specs.Reading.{Entry, statements}
use Rattle.scene.specs.Record.{Record, nothing, next_of, record_of, records_from, records}

-- whether a look-up of w in l finds anything
hit : Bytes → List Entry → Bool
hit w [] = false
hit w (e ∷ l) = hits w e.statement || hit w l

miss_none : (w : Bytes) (l : List Entry) (n : ℕ) → hit w l ≡ false → first_later w (statements l) n ≡ 0
unfolding hit first_later statements
miss_none w [] n h = refl
miss_none w (e ∷ l) n h = rw (or_false_left (hits w e.statement) (hit w l) h, miss_none w l n (or_false_right (hits w e.statement) (hit w l) h))

hit_some : (w : Bytes) (l : List Entry) (n : ℕ) → hit w l ≡ true → (m : ℕ) × (first_later w (statements l) n ≡ suc m)
unfolding hit first_later statements
hit_some w [] n h = let z : ◌≡◌ {A = ℕ} 0 1 = cc in absurd (omega arith)
hit_some w (e ∷ l) n h = go (hits w e.statement) (hit w l) refl h (λ q. hit_some w l n q)
  where
    go : (a b : Bool) → hit w l ≡ b → (a || b) ≡ true → (hit w l ≡ true → (m : ℕ) × (first_later w (statements l) n ≡ suc m)) → (m : ℕ) × (or_else (first_later w (statements l) n) (cond a (suc (n + length (statements l))) 0) ≡ suc m)
    go a true q e f = let m = f q in (m.0, ap (λ x. or_else x (cond a (suc (n + length (statements l))) 0)) m.1)
    go true false q e f = (n + length (statements l), ap (λ x. or_else x (suc (n + length (statements l)))) (miss_none w l n q))
    go false false q e f = let z : ◌≡◌ {A = ℕ} 0 1 = cc in absurd (omega arith)

hit_snoc : (w : Bytes) (l : List Entry) (x : Entry) → hit w (l ++ x ∷ []) ≡ (hit w l || hits w x.statement)
unfolding hit
hit_snoc w [] x = go (hits w x.statement)
  where
    go : (b : Bool) → (b || false) ≡ b
    go true = refl
    go false = refl
hit_snoc w (e ∷ l) x = go (hits w e.statement) (hit_snoc w l x)
  where
    go : (a : Bool) → hit w (l ++ x ∷ []) ≡ (hit w l || hits w x.statement) → (a || hit w (l ++ x ∷ [])) ≡ ((a || hit w l) || hits w x.statement)
    go true q = refl
    go false q = q

-- ---- a statement that gives no name changes no record above it

module _ (e : Entry) (gn : gives e.statement ≡ false) where
  next_silent : (l : List Entry) (x : Entry) (d : List Entry) → next_of (statements (e ∷ l)) x.statement (statements d) ≡ next_of (statements l) x.statement (statements d)
  unfolding first_later statements
  next_silent l x d =
      let later = first_later x.statement.name (statements l) (suc (length (statements d))) in
      ap (λ (n : ℕ). cond (gives x.statement) n 0) (ap (λ (b : Bool). or_else later (cond b (suc (suc (length (statements d)) + length (statements l))) 0)) (silent_misses x.statement.name e.statement gn) ∙ or_else_zero later)

  grow_silent : (l d : List Entry) → records_from (e ∷ l) d ≡ records_from l d
  unfolding records_from record_of
  grow_silent l [] = refl
  grow_silent l (x ∷ d) = λ i. grow_silent (l ++ x ∷ []) d i ++ with_next (record_of [] x d) (next_silent l x d i) ∷ []

  records_silent : (es : List Entry) → records (e ∷ es) ≡ records es ++ record_of [] e es ∷ []
  unfolding records records_from
  records_silent es = ap {B = List Record} (λ (z : List Record). z ++ record_of [] e es ∷ []) (grow_silent [] es)

-- ---- one that gives its name is the next of the latest that does

module _ (e : Entry) (gv : gives e.statement ≡ true) where
  abbrev w : Bytes
  w = e.statement.name

  -- the next of x, once e stands after all of l
  next_far : (l : List Entry) (x : Entry) (d : List Entry) → hits w x.statement ≡ false → next_of (statements (e ∷ l)) x.statement (statements d) ≡ next_of (statements l) x.statement (statements d)
  unfolding first_later statements
  next_far l x d h = go (gives x.statement) refl
    where
      inner : (b : Bool) → hits x.statement.name e.statement ≡ b → gives x.statement ≡ true → or_else (first_later x.statement.name (statements l) (suc (length (statements d)))) (cond b (suc (suc (length (statements d)) + length (statements l))) 0) ≡ first_later x.statement.name (statements l) (suc (length (statements d)))
      inner false q g = or_else_zero (first_later x.statement.name (statements l) (suc (length (statements d))))
      inner true q g = let t : true ≡ false = sym (hits_of w x.statement g (sym (hits_true x.statement.name e.statement q).1)) ∙ h in let z : ◌≡◌ {A = ℕ} 0 1 = cc in absurd (omega arith)

      go : (b : Bool) → gives x.statement ≡ b → cond b (or_else (first_later x.statement.name (statements l) (suc (length (statements d)))) (cond (hits x.statement.name e.statement) (suc (suc (length (statements d)) + length (statements l))) 0)) 0 ≡ cond b (first_later x.statement.name (statements l) (suc (length (statements d)))) 0
      go true q = inner (hits x.statement.name e.statement) refl q
      go false q = refl

  next_shut : (l : List Entry) (x : Entry) (d : List Entry) → hit w l ≡ true → next_of (statements (e ∷ l)) x.statement (statements d) ≡ next_of (statements l) x.statement (statements d)
  unfolding first_later statements
  next_shut l x d h = ap (λ z. cond (gives x.statement) z 0) (inner (hits x.statement.name e.statement) refl)
    where
      inner : (b : Bool) → hits x.statement.name e.statement ≡ b → or_else (first_later x.statement.name (statements l) (suc (length (statements d)))) (cond b (suc (suc (length (statements d)) + length (statements l))) 0) ≡ first_later x.statement.name (statements l) (suc (length (statements d)))
      inner false q = or_else_zero (first_later x.statement.name (statements l) (suc (length (statements d))))
      inner true q =
          let k = hit_some x.statement.name l (suc (length (statements d))) (ap (λ (n : Bytes). hit n l) (hits_true x.statement.name e.statement q).1 ∙ h) in
          ap (λ z. or_else z (suc (suc (length (statements d)) + length (statements l)))) k.1 ∙ sym k.1

  next_here : (l : List Entry) (x : Entry) (d : List Entry) → hits w x.statement ≡ true → hit w l ≡ false → next_of (statements (e ∷ l)) x.statement (statements d) ≡ suc (length l + suc (length d))
  unfolding first_later statements
  next_here l x d h m =
      let k = hits_true w x.statement h in
      let f : first_later x.statement.name (statements l) (suc (length (statements d))) ≡ 0 = miss_none x.statement.name l (suc (length (statements d))) (ap (λ (n : Bytes). hit n l) (sym k.1) ∙ m) in
      let g : hits x.statement.name e.statement ≡ true = hits_of x.statement.name e.statement gv (sym k.1) in
      rw (k.0, f, g) (omega (arith, statements_length l, statements_length d))

  grow_shut : (l d : List Entry) → hit w l ≡ true → records_from (e ∷ l) d ≡ records_from l d
  unfolding records_from record_of
  grow_shut l [] h = refl
  grow_shut l (x ∷ d) h = λ i. grow_shut (l ++ x ∷ []) d (hit_snoc w l x ∙ ap (λ (b : Bool). b || hits w x.statement) h) i ++ with_next (record_of [] x d) (next_shut l x d h i) ∷ []

  link_append : (R Z : List Record) (m v : ℕ) → m ≤ length R → link (R ++ Z) m v ≡ link R m v ++ Z
  link_append R Z zero v h = refl
  link_append R Z (suc k) v h = ap (λ (a : Record). set (R ++ Z) k (with_next a v)) (get_or-append R Z nothing k h) ∙ set-append_left R Z k (with_next (get_or R k nothing) v) h

  grow_open : (l d : List Entry) → hit w l ≡ false → records_from (e ∷ l) d ≡ link (records_from l d) (latest w (statements d)) (suc (length l + length d))
  unfolding records_from record_of found statements
  grow_open l [] h = refl
  grow_open l (x ∷ d) h = go (hits w x.statement) refl (λ q. grow_open (l ++ x ∷ []) d q)
    where
      R : List Record
      R = records_from (l ++ x ∷ []) d

      len : length R ≡ length (statements d)
      len = records_length (l ++ x ∷ []) d ∙ sym (statements_length d)

      go : (b : Bool) → hits w x.statement ≡ b → (hit w (l ++ x ∷ []) ≡ false → records_from (e ∷ l ++ x ∷ []) d ≡ link R (latest w (statements d)) (suc (length (l ++ x ∷ []) + length d)))
          → records_from (e ∷ l ++ x ∷ []) d ++ record_of (e ∷ l) x d ∷ [] ≡ link (R ++ record_of l x d ∷ []) (length (cond b (x.statement ∷ statements d) (found w (statements d)))) (suc (length l + suc (length d)))
      go true q ih =
          (λ i. grow_shut (l ++ x ∷ []) d (hit_snoc w l x ∙ (λ j. h j || q j)) i ++ with_next (record_of [] x d) (next_here l x d q h i) ∷ []) ∙
          sym (ap (λ (a : Record). set (R ++ record_of l x d ∷ []) (length (statements d)) (with_next a (suc (length l + suc (length d))))) (get_or_at R (record_of l x d) [] nothing (length (statements d)) len) ∙ set_at R (record_of l x d) [] (with_next (record_of l x d) (suc (length l + suc (length d)))) (length (statements d)) len)
      go false q ih =
          let n : length (l ++ x ∷ []) + length d ≡ length l + suc (length d) = omega (arith, length-append l (x ∷ [])) in
          (λ i. (ih (hit_snoc w l x ∙ (λ j. h j || q j)) ∙ ap (λ k. link R (latest w (statements d)) (suc k)) n) i ++ with_next (record_of [] x d) (next_far l x d q i) ∷ []) ∙
          sym (link_append R (record_of l x d ∷ []) (latest w (statements d)) (suc (length l + suc (length d))) (omega (arith, len, latest_le w (statements d))))

  records_told : (es : List Entry) → records (e ∷ es) ≡ link (records es) (latest w (statements es)) (suc (length es)) ++ record_of [] e es ∷ []
  unfolding records records_from hit
  records_told es = ap {B = List Record} (λ (z : List Record). z ++ record_of [] e es ∷ []) (grow_open [] es refl ∙ ap (λ k. link (records_from [] es) (latest w (statements es)) (suc k)) (zero-add (length es)))

-- the number of the record that gets the statement e as its next
abbrev pub told_of : Entry → List Entry → ℕ
told_of e es = cond (gives e.statement) (latest e.statement.name (statements es)) 0

-- what the table becomes when the statement e is finished
pub records_grow : (e : Entry) (es : List Entry) → records (e ∷ es) ≡ link (records es) (told_of e es) (suc (length es)) ++ record_of [] e es ∷ []
records_grow e es = go (gives e.statement) refl
  where
    go : (b : Bool) → gives e.statement ≡ b → records (e ∷ es) ≡ link (records es) (cond b (latest e.statement.name (statements es)) 0) (suc (length es)) ++ record_of [] e es ∷ []
    go true q = records_told e q es
    go false q = records_silent e q es
