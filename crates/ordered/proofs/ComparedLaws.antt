-- The lines along two orders are those of the comparison.
use mathlib.Core.Bool.{Bool, true, false, cond}
use mathlib.Core.List.{List, [], ◌∷◌, map}
use mathlib.Core.Path.{◌≡◌, refl, ap, sym, ◌∙◌, subst}
use Prim.Native.Nat.{ℕ}
use native.Mathlib.Omega.{arith}
use lib.ListN.{length}
use Rattle.comparison.specs.Compare.{State, left, right, changed, alike, state_at, state_of, Line as Compared, line, lines_for, compared}
use Rattle.comparison.specs.NextLine.{place_by}
use Rattle.comparison.specs.declared.Place.TheVariants as on
use Rattle.comparison.specs.declared.State.TheVariants as is
use Rattle.content.specs.Content.{content_of, same_content}
use Rattle.keys.proofs.OrderLaws.{before_one, same_key_lem}
use Rattle.keys.specs.Key.{Key, same_key, before, found, is_found}
use Rattle.keys.specs.Properties.{OneOf, first, second, third}
use Rattle.keys.specs.Rows.{scene_rows}
use Rattle.scene.specs.Told.{Told}
use Rattle.ordered.proofs.SceneLaws.{Known, AllKnown, arranged}
use Rattle.ordered.proofs.UnionLaws.{union, union_keys, Left, left_alone, left_gone, right_alone, right_gone, both_gone}
use Rattle.ordered.specs.Compared.{InOrder, named, shown}
use Rattle.ordered.specs.Lines.{Scene, numbers_of, key_by, content_by, line_of, lines}
use Rattle.comparison.specs.declared.Line.{Line}

none_found : (x : List Told) → is_found x ≡ false → x ≡ []
none_found [] e = refl
none_found (t ∷ x) e = let z : ◌≡◌ {A = ℕ} 0 1 = cc in absurd (omega arith)

module _ (l r : Scene) (L R : List Told) where
  -- ---- the line of a key, by where it is found in each scene

  module _ (k : Key) (rest : List Line) (later : List Compared) (e : rest ≡ map (shown L R) later) where
    -- one with a state that has a line
    one : (x y : List Told) → found k L ≡ x → found k R ≡ y → (s : State) → record { place = place_by (length x) (length y); nth = k.nth; state = named s } ∷ rest ≡ map (shown L R) (record { key = k; state = s } ∷ later)
    one x y p q s = λ i. record { place = place_by (length (sym p i)) (length (sym q i)); nth = k.nth; state = named s } ∷ e i

    stated : (x y : List Told) → found k L ≡ x → found k R ≡ y → map (shown L R) (line (state_at L R x y) k later) ≡ map (shown L R) (line (state_of L R k) k later)
    stated x y p q = λ i. map (shown L R) (line (state_at L R (sym p i) (sym q i)) k later)

  module _ (rest : List Line) (later : List Compared) (e : rest ≡ map (shown L R) later) where
    line_left : (m : ℕ) → Known l L m → is_found (found (key_by l m) R) ≡ false → line_of l (on.Left m) m is.OnlyLeft ∷ rest ≡ map (shown L R) (line (state_of L R (key_by l m)) (key_by l m) later)
    line_left m h a =
        let none = none_found (found (key_by l m) R) a in
        (λ i. line_of l (on.Left (sym h.number≡ i)) m is.OnlyLeft ∷ rest)
        ∙ one (key_by l m) rest later e (h.row ∷ h.above) [] h.found≡ none left
        ∙ stated (key_by l m) rest later e (h.row ∷ h.above) [] h.found≡ none

    line_right : (n : ℕ) → Known r R n → is_found (found (key_by r n) L) ≡ false → line_of r (on.Right n) n is.OnlyRight ∷ rest ≡ map (shown L R) (line (state_of L R (key_by r n)) (key_by r n) later)
    line_right n h a =
        let none = none_found (found (key_by r n) L) a in
        (λ i. line_of r (on.Right (sym h.number≡ i)) n is.OnlyRight ∷ rest)
        ∙ one (key_by r n) rest later e [] (h.row ∷ h.above) none h.found≡ right
        ∙ stated (key_by r n) rest later e [] (h.row ∷ h.above) none h.found≡

    line_both : (m n : ℕ) → Known l L m → Known r R n → key_by l m ≡ key_by r n → cond (same_content (content_by l m) (content_by r n)) rest (line_of l (on.Left m) m is.Changed ∷ rest) ≡ map (shown L R) (line (state_of L R (key_by l m)) (key_by l m) later)
    line_both m n h g q =
        ap (λ (b : Bool). cond b rest (line_of l (on.Left m) m is.Changed ∷ rest)) (λ i. same_content (h.content≡ i) (g.content≡ i))
        ∙ go (same_content (content_of L h.row) (content_of R g.row))
        ∙ stated (key_by l m) rest later e (h.row ∷ h.above) (g.row ∷ g.above) h.found≡ there
      where
        there : found (key_by l m) R ≡ g.row ∷ g.above
        there = ap (λ (k : Key). found k R) q ∙ g.found≡

        go : (b : Bool) → cond b rest (line_of l (on.Left m) m is.Changed ∷ rest) ≡ map (shown L R) (line (cond b alike changed) (key_by l m) later)
        go true = e
        go false = (λ i. line_of l (on.Left (sym h.number≡ i)) m is.Changed ∷ rest) ∙ one (key_by l m) rest later e (h.row ∷ h.above) (g.row ∷ g.above) h.found≡ there changed

  -- ---- all lines

  abbrev later : (o p : List ℕ) → List Compared
  later o p = lines_for L R (union (map (key_by l) o) (map (key_by r) p))

  lines_union : (o p : List ℕ) → AllKnown l L o → AllKnown r R p → Left L R (map (key_by l) o) (map (key_by r) p) → lines l r o p ≡ map (shown L R) (later o p)
  unfolding lines lines_for union
  lines_union [] [] h g w = refl
  lines_union (m ∷ o) [] h g w = line_left (lines l r o []) (later o []) (lines_union o [] h.1 g (left_gone L R (key_by l m) (map (key_by l) o) [] tt w)) m h.0 (left_alone L R (key_by l m) (map (key_by l) o) [] tt w)
  lines_union [] (n ∷ p) h g w = line_right (lines l r [] p) (later [] p) (lines_union [] p h g.1 (right_gone L R (key_by r n) [] (map (key_by r) p) tt w)) n g.0 (right_alone L R (key_by r n) [] (map (key_by r) p) tt w)
  lines_union (m ∷ o) (n ∷ p) h g w =
      go (before (key_by l m) (key_by r n)) (same_key (key_by l m) (key_by r n)) (before (key_by r n) (key_by l m)) (before_one (key_by l m) (key_by r n)) refl refl refl (lines_union o (n ∷ p) h.1 g) (lines_union (m ∷ o) p h g.1) (lines_union o p h.1 g.1)
    where
      go : (a b c : Bool) → OneOf a b c → before (key_by l m) (key_by r n) ≡ a → same_key (key_by l m) (key_by r n) ≡ b → before (key_by r n) (key_by l m) ≡ c
          → (Left L R (map (key_by l) o) (map (key_by r) (n ∷ p)) → lines l r o (n ∷ p) ≡ map (shown L R) (later o (n ∷ p)))
          → (Left L R (map (key_by l) (m ∷ o)) (map (key_by r) p) → lines l r (m ∷ o) p ≡ map (shown L R) (later (m ∷ o) p))
          → (Left L R (map (key_by l) o) (map (key_by r) p) → lines l r o p ≡ map (shown L R) (later o p))
          → cond a (line_of l (on.Left m) m is.OnlyLeft ∷ lines l r o (n ∷ p)) (cond c (line_of r (on.Right n) n is.OnlyRight ∷ lines l r (m ∷ o) p) (cond (same_content (content_by l m) (content_by r n)) (lines l r o p) (line_of l (on.Left m) m is.Changed ∷ lines l r o p)))
          ≡ map (shown L R) (lines_for L R (cond a (key_by l m ∷ union (map (key_by l) o) (map (key_by r) (n ∷ p))) (cond c (key_by r n ∷ union (map (key_by l) (m ∷ o)) (map (key_by r) p)) (key_by l m ∷ union (map (key_by l) o) (map (key_by r) p)))))
      go true false false first x y z i j k = line_left (lines l r o (n ∷ p)) (later o (n ∷ p)) (i (left_gone L R (key_by l m) (map (key_by l) o) (map (key_by r) (n ∷ p)) x w)) m h.0 (left_alone L R (key_by l m) (map (key_by l) o) (map (key_by r) (n ∷ p)) x w)
      go false false false x25 x y z i j k = elim x25 [ ]
      go false true true x26 x y z i j k = elim x26 [ ]
      go true false true x26 x y z i j k = elim x26 [ ]
      go true true c x20 x y z i j k = elim x20 [ ]
      go false false true third x y z i j k = line_right (lines l r (m ∷ o) p) (later (m ∷ o) p) (j (right_gone L R (key_by r n) (map (key_by l) (m ∷ o)) (map (key_by r) p) z w)) n g.0 (right_alone L R (key_by r n) (map (key_by l) (m ∷ o)) (map (key_by r) p) z w)
      go false true false second x y z i j k =
          let q : key_by l m ≡ key_by r n = same_key_lem (key_by l m) (key_by r n) y in
          line_both (lines l r o p) (later o p) (k (both_gone L R (key_by l m) (map (key_by l) o) (map (key_by r) p) (subst (λ (t : Key). Left L R (map (key_by l) (m ∷ o)) (t ∷ map (key_by r) p)) (sym q) w))) m n h.0 g.0 q

-- along the orders of two scenes, as `ranks::order_names` leaves them in tables of two entries for each record: the lines of the
-- comparison, each once and no other
pub ordered_compared : (l r : Scene) (left_scratch right_scratch : ℕ) → InOrder l left_scratch → InOrder r right_scratch
    → (let L = scene_rows l.text l.records l.reals in
    let R = scene_rows r.text r.records r.reals in
    lines l r (numbers_of l) (numbers_of r) ≡ map (shown L R) (compared L R))
unfolding compared
ordered_compared l r a b h g =
    let L = scene_rows l.text l.records l.reals in
    let R = scene_rows r.text r.records r.reals in
    let x = arranged l a h in
    let y = arranged r b g in
    let w : Left L R (map (key_by l) (numbers_of l)) (map (key_by r) (numbers_of r)) = record { left_rises = x.rises; right_rises = y.rises; in_right = λ k e. sym (y.stands k); in_left = λ k e. sym (x.stands k) } in
    lines_union l r L R (numbers_of l) (numbers_of r) x.known y.known w
    ∙ ap (λ (ks : List Key). map (shown L R) (lines_for L R ks)) (union_keys L R (map (key_by l) (numbers_of l)) (map (key_by r) (numbers_of r)) x.rises y.rises x.stands y.stands)
