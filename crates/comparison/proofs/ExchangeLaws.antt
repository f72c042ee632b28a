-- Two neighbouring independent blocks that share no name, exchanged: against the text before, the new one compares as all same.
use mathlib.Core.Bool.{false}
use mathlib.Core.List.{List, [], ◌∷◌, ◌++◌, map-append}
use mathlib.Core.Path.{◌≡◌, refl, ap, sym, ◌∙◌}
use Prim.Native.Nat.{ℕ, ◌*◌}
use lib.ListN.{length, take, length-map}
use Rattle.laws.proofs.BoolLaws.{or_false_left, or_false_right}
use Rattle.laws.specs.Bytes.{Bytes, same}
use Rattle.scene.proofs.AcceptLaws.{accept_forth}
use Rattle.scene.proofs.BlockLaws.{Parts, parts, read_turned}
use Rattle.scene.specs.Block.{share, shift, stands}
use Rattle.scene.specs.Exchange.{Exchange, Exchanged, exchange_shift}
use Rattle.scene.specs.Reading.{Entry, Reading, accepted, read_statements, statements}
use Rattle.scene.specs.Record.{width, record_image, real_image}
use Rattle.scene.specs.declared.Settings.{Settings}
use Rattle.scene.specs.Statement.{Statement}
use Rattle.scene.specs.Told.{Told, renumbered}
use Rattle.keys.proofs.NameLaws.{named, names, times_statements, keys_statements}
use Rattle.keys.proofs.OrderLaws.{same_sym}
use Rattle.keys.proofs.PartLaws.{Apart, times_kept, keys_kept}
use Rattle.comparison.proofs.RenumberLaws.{compare_renumbered}
use Rattle.keys.proofs.RowsLaws.{row, scene_read}
use Rattle.comparison.specs.Compare.{compared}
use Rattle.comparison.specs.Exchange.{CompareExchangeLaw, NamesApart, names_of}
use Rattle.keys.specs.Key.{times, from, key_of}
use Rattle.keys.specs.Rows.{rows_of, scene_rows}
use Rattle.sides.proofs.MixedLaws.{resolved, same_reading}
use Rattle.sides.specs.Exchange.{MixedExchange, MixedExchanged}
use Rattle.sides.specs.Read.{read}

-- ---- statements that share no name

-- none of some names is t's
none_named : (xs : List Statement) (t : Statement) (ys : List Bytes) → share (names_of xs) (t.name ∷ ys) ≡ false → times t.name (names xs) ≡ 0
unfolding share stands names_of times
none_named [] t ys h = refl
none_named (s ∷ xs) t ys h =
    let e = or_false_left (same s.name t.name) (stands s.name ys) (or_false_left (stands s.name (t.name ∷ ys)) (share (names_of xs) (t.name ∷ ys)) h) in
    rw (same_sym t.name s.name ∙ e) (none_named xs t ys (or_false_right (stands s.name (t.name ∷ ys)) (share (names_of xs) (t.name ∷ ys)) h))

fewer : (xs : List Statement) (v : Bytes) (ys : List Bytes) → share (names_of xs) (v ∷ ys) ≡ false → share (names_of xs) ys ≡ false
unfolding share stands names_of
fewer [] v ys h = refl
fewer (s ∷ xs) v ys h =
    let e = or_false_right (same s.name v) (stands s.name ys) (or_false_left (stands s.name (v ∷ ys)) (share (names_of xs) (v ∷ ys)) h) in
    rw e (fewer xs v ys (or_false_right (stands s.name (v ∷ ys)) (share (names_of xs) (v ∷ ys)) h))

not_standing : (w : Bytes) (d : List Statement) → stands w (names_of d) ≡ false → times w (names d) ≡ 0
unfolding stands names_of times
not_standing w [] h = refl
not_standing w (s ∷ d) h = rw (or_false_left (same w s.name) (stands w (names_of d)) h) (not_standing w d (or_false_right (same w s.name) (stands w (names_of d)) h))

apart_forth : (a b : List Statement) → share (names_of a) (names_of b) ≡ false → Apart (names a) (names b)
unfolding share names_of
apart_forth [] b h = tt
apart_forth (s ∷ a) b h = (not_standing s.name b (or_false_left (stands s.name (names_of b)) (share (names_of a) (names_of b)) h), apart_forth a b (or_false_right (stands s.name (names_of b)) (share (names_of a) (names_of b)) h))

apart_back : (a b : List Statement) → share (names_of a) (names_of b) ≡ false → Apart (names b) (names a)
unfolding names_of
apart_back a [] h = tt
apart_back a (t ∷ b) h = (none_named a t (names_of b) h, apart_back a b (fewer a t.name (names_of b) h))

-- ---- the exchange

module _ (r : Settings) (p a b q : Bytes) (es : List Entry) (x : Exchange r p a b q es) (shares : NamesApart es p a b) (z : Exchanged r p a b q es) where
  abbrev es' : List Entry
  es' = z.entries

  abbrev old : List Told
  old = rows_of (p ++ a ++ b ++ q) es

  abbrev new : List Told
  new = rows_of (p ++ b ++ a ++ q) es'

  k : Parts r p a b q es
  k = parts r p a b q es x.reads x.first x.second

  reads' : read_statements r (p ++ b ++ a ++ q) ≡ accepted es'
  reads' = z.renumbers.reads

  apart : share (names_of k.A) (names_of k.B) ≡ false
  apart = (λ i. share (names_of (sym k.in_a i)) (names_of (sym k.in_b i))) ∙ shares

  names_old : names (statements es) ≡ names k.Q ++ (names k.B ++ (names k.A ++ names k.P))
  names_old = ap names k.all ∙ simp map-append

  names_new : names (statements es') ≡ names k.Q ++ (names k.A ++ (names k.B ++ names k.P))
  names_new = ap names said ∙ simp map-append
    where
      said : statements es' ≡ k.Q ++ (k.A ++ (k.B ++ k.P))
      said = let h = (accept_forth r (p ++ b ++ a ++ q) es' reads').1 in let g = read_turned r p a b q es k in cc

  many : (d e : List Statement) → d ≡ e → length d ≡ length (names e)
  many d e q = ap length q ∙ sym (length-map e (λ (s : Statement). named s.name))

  keys : (n : ℕ) → key_of new (exchange_shift es p a b n) ≡ key_of old n
  keys n =
      keys_statements r (p ++ b ++ a ++ q) es' reads' (exchange_shift es p a b n)
      ∙ (λ i. key_of (names_new i) (shift (many _ _ k.in_p i) (many _ _ k.in_a i) (many _ _ k.in_b i) n))
      ∙ keys_kept (names k.P) (names k.A) (names k.B) (names k.Q)
      (apart_forth k.A k.B apart) (apart_back k.A k.B apart) n
      ∙ sym (keys_statements r (p ++ a ++ b ++ q) es x.reads n ∙ ap (λ (d : List Told). key_of d n) names_old)

  often : (w : Bytes) → times w new ≡ times w old
  often w =
      times_statements r (p ++ b ++ a ++ q) es' reads' w ∙ ap (times w) names_new
      ∙ times_kept (names k.P) (names k.A) (names k.B) (names k.Q) w
      ∙ sym (times_statements r (p ++ a ++ b ++ q) es x.reads w ∙ ap (times w) names_old)

  rows : (n : ℕ) (t u : Told) (y v : List Told) → from n old ≡ t ∷ y → from (exchange_shift es p a b n) new ≡ u ∷ v → u ≡ renumbered (exchange_shift es p a b) t
  rows n t u y v e g =
      let h = row (p ++ a ++ b ++ q) es (length es) n t y e in
      let j = row (p ++ b ++ a ++ q) es' (length es') (exchange_shift es p a b n) u v g in
      j.tells≡ ∙ z.renumbers.rows n h.least h.most ∙ ap (renumbered (exchange_shift es p a b)) (sym h.tells≡)

  same_rows : compared (rows_of (p ++ a ++ b ++ q) es) (rows_of (p ++ b ++ a ++ q) z.entries) ≡ []
  same_rows = compare_renumbered old new (exchange_shift es p a b) keys often rows

-- what holds of the statements of two texts holds of the texts that are accepted
module _ (r : Settings) (p a b q : Bytes) (es : List Entry) (x : MixedExchange r p a b q es) (shares : NamesApart es p a b) (z : MixedExchanged r p a b q es) where
  abbrev before : Exchange r p a b q es
  before = record { reads = (resolved r (p ++ a ++ b ++ q) es x.reads).reads; first = x.first; second = x.second; independent = x.independent }

  abbrev after : Exchanged r p a b q es
  after = record { entries = z.entries; renumbers = z.renumbers }

  same_mixed : compared (rows_of (p ++ a ++ b ++ q) es) (rows_of (p ++ b ++ a ++ q) z.entries) ≡ []
  same_mixed = same_rows r p a b q es before shares after

  fresh_rows : (text : Bytes) (es' : List Entry) → read r text ≡ accepted es' → (n k : ℕ) → scene_rows text (take (length es' * width) (record_image text n (read r text))) (real_image k (read r text)) ≡ rows_of text es'
  fresh_rows text es' e n k =
      ap (λ (y : Reading). scene_rows text (take (length es' * width) (record_image text n y)) (real_image k y)) (sym (same_reading r text es' e))
      ∙ scene_read r text es' (resolved r text es' e).reads n k

  -- also read afresh into tables of any sizes, where those of the records are lent up to the last one
  pub fresh_exchange : (n k m j : ℕ) → compared (scene_rows (p ++ a ++ b ++ q) (take (length es * width) (record_image (p ++ a ++ b ++ q) n (read r (p ++ a ++ b ++ q)))) (real_image k (read r (p ++ a ++ b ++ q)))) (scene_rows (p ++ b ++ a ++ q) (take (length z.entries * width) (record_image (p ++ b ++ a ++ q) m (read r (p ++ b ++ a ++ q)))) (real_image j (read r (p ++ b ++ a ++ q)))) ≡ []
  fresh_exchange n k m j = (λ i. compared (fresh_rows (p ++ a ++ b ++ q) es x.reads n k i) (fresh_rows (p ++ b ++ a ++ q) z.entries z.reads m j i)) ∙ same_mixed

pub compare_exchange : CompareExchangeLaw
compare_exchange = same_mixed
