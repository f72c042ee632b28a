-- Keys go by the names alone, and the names of an accepted text's rows are its statements'.
use mathlib.Core.Bool.{Bool, true, false, cond}
use mathlib.Core.List.{List, [], ◌∷◌, ◌++◌, map, append_assoc}
use mathlib.Core.Path.{◌≡◌, refl, ap, sym, ◌∙◌}
use Prim.Native.Nat.{ℕ, suc}
use lib.Dec.{eqb}
use lib.ListN.{length, length-map}
use Rattle.laws.specs.Bytes.{Bytes, same}
use Rattle.scene.specs.Reading.{Entry, statements, accepted, read_statements}
use Rattle.scene.specs.declared.Settings.{Settings}
use Rattle.scene.specs.Statement.{Statement}
use Rattle.scene.specs.Told.{Told, told}
use Rattle.keys.proofs.RowsLaws.{row_told}
use Rattle.keys.specs.Key.{times, from, key_at, key_of}
use Rattle.keys.specs.Rows.{rows_to, rows_of}

-- a row that has a name and nothing else
abbrev pub named : Bytes → Told
named w = record { type = 0; modifier = 0; target = 0; name = w; string_count = 0; strings = []; real_count = 0; reals = []; next = 0 }

-- rows with nothing left but their names, and the names of statements as such rows
abbrev bare : List Told → List Told
bare d = map (λ (t : Told). named t.name) d

abbrev pub names : List Statement → List Told
names d = map (λ (s : Statement). named s.name) d

times_names : (w : Bytes) (d : List Told) → times w (bare d) ≡ times w d
unfolding times
times_names w [] = refl
times_names w (t ∷ d) = ap (λ n. cond (same w t.name) (suc n) n) (times_names w d)

keys_names : (n : ℕ) (d : List Told) → key_of (bare d) n ≡ key_of d n
unfolding from
keys_names n [] = refl
keys_names n (t ∷ d) = rw (length-map d (λ (t : Told). named t.name)) (go (eqb n (suc (length d))) (keys_names n d))
  where
    go : (b : Bool) → key_of (bare d) n ≡ key_of d n → key_at (cond b (bare (t ∷ d)) (from n (bare d))) ≡ key_at (cond b (t ∷ d) (from n d))
    go true h = λ i. record { name = t.name; nth = suc (times_names t.name d i) }
    go false h = h

module _ (r : Settings) (text : Bytes) (es : List Entry) (reads : read_statements r text ≡ accepted es) where
  names_to : (l x : List Entry) → es ≡ l ++ x → bare (rows_to text es (length x)) ≡ names (statements x)
  unfolding rows_to statements told
  names_to l [] q = refl
  names_to l (e ∷ x) q = λ i. named ((row_told r text es reads (length x) (record { l = l; e = e; x = x; split = q; number = refl })) i).name ∷ names_to (l ++ e ∷ []) x (q ∙ sym (append_assoc l (e ∷ []) x)) i

  pub times_statements : (w : Bytes) → times w (rows_of text es) ≡ times w (names (statements es))
  times_statements w = sym (times_names w (rows_of text es)) ∙ ap (times w) (names_to [] es refl)

  pub keys_statements : (n : ℕ) → key_of (rows_of text es) n ≡ key_of (names (statements es)) n
  keys_statements n = sym (keys_names n (rows_of text es)) ∙ ap (λ (d : List Told). key_of d n) (names_to [] es refl)
