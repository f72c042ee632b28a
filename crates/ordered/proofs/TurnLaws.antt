-- One turn by what each test came to, and what it leaves of both orders.
use mathlib.Core.Bool.{Bool, true, false, cond, ◌&&◌, and_comm}
use mathlib.Core.List.{List, [], ◌∷◌}
use mathlib.Core.Logic.{inl, inr}
use mathlib.Core.Path.{◌≡◌, refl, ap, sym, ◌∙◌}
use Prim.Native.Nat.{ℕ, suc, ◌+◌, ◌/◌, ◌<◌, ◌≤◌}
use native.Mathlib.Omega.{arith}
use borrow.Author.Tests.{eq-eqb}
use lib.ListN.{length, get_or, drop, length-take, length-drop, drop_of_length-le}
use lib.Seq.{drop-cons, drop-drop, get_or-take}
use Rattle.bits.specs.Bits.{same_reals}
use Rattle.comparison.specs.declared.Place.TheVariants as on
use Rattle.comparison.specs.declared.State.TheVariants as is
use Rattle.content.specs.Content.{same_but_links, same_content}
use Rattle.keys.proofs.OrderLaws.{before_one, earlier_before, lower_one}
use Rattle.keys.specs.Key.{Key, same_key, lower, before}
use Rattle.keys.specs.Properties.{OneOf, first, second, third}
use Rattle.laws.proofs.BytesLaws.{same_eq, same_refl}
use Rattle.laws.specs.Bytes.{Bytes, same}
use Rattle.scene.specs.Record.{record_in}
use Rattle.scene.specs.Told.{tells, reals_of}
use Rattle.ordered.specs.Lines.{Scene, numbers_in, numbers_of, key_by, content_by, line_of, lines, handed}
use Rattle.comparison.specs.declared.Line.{Line}
use Rattle.ordered.specs.Turns.{order_of, turn_by, turn_of, turn_at}
use Rattle.ordered.specs.Turn.{Turn}
use Rattle.ordered.specs.Turn as turn
use Rattle.std.specs.Prelude.{Some}
use Rattle.std.proofs.lemmas.Cmp.{ranked}
use Rattle.std.specs.Ordering.{MatchOrdering, nat_cmp}
use Rattle.std.specs.declared.cmp.Ordering.{Ordering}
use Rattle.std.specs.declared.cmp.Ordering.TheVariants as goes

-- ---- which of two keys goes first

-- where neither end of three tests holds the middle one does
pub neither : {x y z : Bool} → OneOf x y z → x ≡ false → z ≡ false → y ≡ true
neither first e f = sym e
neither second e f = refl
neither third e f = sym f

module _ (a b : Key) where
  left_first : before a b ≡ true → goes.Less ≡ order_of a b
  unfolding order_of
  left_first e = rw e

  right_first : before b a ≡ true → goes.Greater ≡ order_of a b
  unfolding order_of
  right_first e = rw (other (before_one a b) e, e)
    where
      other : {x y z : Bool} → OneOf x y z → z ≡ true → x ≡ false
      other first e = sym e
      other second e = refl
      other third e = refl

  together : same_key a b ≡ true → goes.Equal ≡ order_of a b
  unfolding order_of
  together e = rw ((ends (before_one a b) e).0, (ends (before_one a b) e).1)
    where
      ends : {x y z : Bool} → OneOf x y z → y ≡ true → (x ≡ false) × (z ≡ false)
      ends first e = (sym e, refl)
      ends second e = (refl, refl)
      ends third e = (refl, sym e)

  module _ (v u : Bytes) (e : v ≡ a.name) (f : u ≡ b.name) (s : Bool) (p : s ≡ lower v u) where
    lower_is : lower a.name b.name ≡ s
    lower_is = (λ i. lower (sym e i) (sym f i)) ∙ sym p

    pub left_lower : s ≡ true → goes.Less ≡ order_of a b
    left_lower h = left_first (earlier_before a b (inl (lower_is ∙ h)))

    module _ (h : s ≡ false) (t : Bool) (q : t ≡ lower u v) where
      higher_is : lower b.name a.name ≡ t
      higher_is = (λ i. lower (sym f i) (sym e i)) ∙ sym q

      pub right_lower : t ≡ true → goes.Greater ≡ order_of a b
      right_lower k = right_first (earlier_before b a (inl (higher_is ∙ k)))

      module _ (k : t ≡ false) (x y : ℕ) (m : x ≡ a.nth) (n : y ≡ b.nth) where
        names : a.name ≡ b.name
        names = same_eq a.name b.name (neither (lower_one a.name b.name) (lower_is ∙ h) (higher_is ∙ k))

        left_fewer : x < y → goes.Less ≡ order_of a b
        left_fewer l = left_first (earlier_before a b (inr (names, (omega arith))))

        right_fewer : y < x → goes.Greater ≡ order_of a b
        right_fewer l = right_first (earlier_before b a (inr (sym names, (omega arith))))

        as_many : x ≡ y → goes.Equal ≡ order_of a b
        as_many l = together (rw (eq-eqb a.nth b.nth (sym m ∙ l ∙ n)) (ap (same a.name) (sym names) ∙ same_refl a.name))

        pub by_nth : (o : Ordering) → o ≡ nat_cmp x y → o ≡ order_of a b
        by_nth o e = go o (ranked x y o e)
          where
            go : (o : Ordering) → MatchOrdering o (x < y) (x ≡ y) (y < x) → o ≡ order_of a b
            go goes.Less l = left_fewer l
            go goes.Equal l = as_many l
            go goes.Greater l = right_fewer l

-- ---- one turn

-- how many numbers a turn takes of each order
abbrev left_taken : Turn → ℕ
left_taken turn.End = 0
left_taken (turn.Left m x) = 1
left_taken (turn.Right n x) = 0
left_taken (turn.Changed m x) = 1
left_taken turn.Same = 1

abbrev right_taken : Turn → ℕ
right_taken turn.End = 0
right_taken (turn.Left m x) = 0
right_taken (turn.Right n x) = 1
right_taken (turn.Changed m x) = 1
right_taken turn.Same = 1

-- what is left of an order from a place on
past : (o : List ℕ) (i : ℕ) → length o / 2 ≤ i → drop i (numbers_in o) ≡ []
past o i h = drop_of_length-le (numbers_in o) {i = i} (omega (arith, length-take (length o / 2) o))

there : (o : List ℕ) (i n : ℕ) → i < length o / 2 → n ≡ get_or o i 0 → n ∷ drop (suc i) (numbers_in o) ≡ drop i (numbers_in o)
there o i n h e = (λ k. (e ∙ sym (get_or-take (length o / 2) o i 0 h)) k ∷ drop (suc i) (numbers_in o)) ∙ sym (drop-cons (numbers_in o) i 0 (omega (arith, length-take (length o / 2) o)))

module _ (l r : Scene) where
  -- of two numbers, by what the tests came to
  module _ (m n : ℕ) where
    pub turn_left : (x : ℕ) → goes.Less ≡ order_of (key_by l m) (key_by r n) → x ≡ (key_by l m).nth → turn.Left m x ≡ turn_of l r m n
    turn_left x e f = ap (turn.Left m) f ∙ ap (λ (o : Ordering). turn_by l r m n o (same_content (content_by l m) (content_by r n))) e

    pub turn_right : (x : ℕ) → goes.Greater ≡ order_of (key_by l m) (key_by r n) → x ≡ (key_by r n).nth → turn.Right n x ≡ turn_of l r m n
    turn_right x e f = ap (turn.Right n) f ∙ ap (λ (o : Ordering). turn_by l r m n o (same_content (content_by l m) (content_by r n))) e

    module _ (e : goes.Equal ≡ order_of (key_by l m) (key_by r n)) (s : Bool) (f : s ≡ same_content (content_by l m) (content_by r n)) where
      both : (t : Bool) → s ≡ t → turn_by l r m n goes.Equal t ≡ turn_of l r m n
      both t g = λ i. turn_by l r m n (e i) ((sym g ∙ f) i)

      pub turn_same : s ≡ true → turn.Same ≡ turn_of l r m n
      turn_same g = both true g

      pub turn_changed : s ≡ false → (x : ℕ) → x ≡ (key_by l m).nth → turn.Changed m x ≡ turn_of l r m n
      turn_changed g x h = ap (turn.Changed m) h ∙ both false g

  -- of two orders from a place on
  module _ (i j : ℕ) where
    abbrev turn_here : Turn
    turn_here = turn_at l r (drop i (numbers_of l)) (drop j (numbers_of r))

    module _ (h : length l.order / 2 ≤ i) where
      pub at_end : length r.order / 2 ≤ j → turn.End ≡ turn_here
      at_end k = λ t. turn_at l r (sym (past l.order i h) t) (sym (past r.order j k) t)

      pub at_right : j < length r.order / 2 → (n x : ℕ) → n ≡ get_or r.order j 0 → x ≡ (key_by r n).nth → turn.Right n x ≡ turn_here
      at_right k n x e f = ap (turn.Right n) f ∙ (λ t. turn_at l r (sym (past l.order i h) t) (there r.order j n k e t))

    module _ (h : i < length l.order / 2) (m : ℕ) (e : m ≡ get_or l.order i 0) where
      pub at_left : length r.order / 2 ≤ j → (x : ℕ) → x ≡ (key_by l m).nth → turn.Left m x ≡ turn_here
      at_left k x f = ap (turn.Left m) f ∙ (λ t. turn_at l r (there l.order i m h e t) (sym (past r.order j k) t))

      pub at_both : j < length r.order / 2 → (n : ℕ) → n ≡ get_or r.order j 0 → (x : Turn) → x ≡ turn_of l r m n → x ≡ turn_here
      at_both k n f x g = g ∙ (λ t. turn_at l r (there l.order i m h e t) (there r.order j n k f t))

  -- ---- what a turn leaves

  -- a turn's line, if any, and the lines of what it leaves of both orders
  abbrev following : Turn → (o p : List ℕ) → List Line
  following turn.End o p = []
  following (turn.Left m x) o p = record { place = on.Left m; nth = x; state = is.OnlyLeft } ∷ lines l r (drop 1 o) p
  following (turn.Right n x) o p = record { place = on.Right n; nth = x; state = is.OnlyRight } ∷ lines l r o (drop 1 p)
  following (turn.Changed m x) o p = record { place = on.Left m; nth = x; state = is.Changed } ∷ lines l r (drop 1 o) (drop 1 p)
  following turn.Same o p = lines l r (drop 1 o) (drop 1 p)

  turn_lines : (o p : List ℕ) → lines l r o p ≡ following (turn_at l r o p) o p
  unfolding lines order_of
  turn_lines [] [] = refl
  turn_lines (m ∷ o) [] = refl
  turn_lines [] (n ∷ p) = refl
  turn_lines (m ∷ o) (n ∷ p) = go (before (key_by l m) (key_by r n)) (before (key_by r n) (key_by l m)) (same_content (content_by l m) (content_by r n))
    where
      go : (a b c : Bool) → cond a (line_of l (on.Left m) m is.OnlyLeft ∷ lines l r o (n ∷ p)) (cond b (line_of r (on.Right n) n is.OnlyRight ∷ lines l r (m ∷ o) p) (cond c (lines l r o p) (line_of l (on.Left m) m is.Changed ∷ lines l r o p))) ≡ following (turn_by l r m n (cond a goes.Less (cond b goes.Greater goes.Equal)) c) (m ∷ o) (n ∷ p)
      go true b c = refl
      go false true c = refl
      go false false true = refl
      go false false false = refl

  taken_left : (o p : List ℕ) → left_taken (turn_at l r o p) ≤ length o
  taken_left [] [] = omega arith
  taken_left (m ∷ o) [] = omega arith
  taken_left [] (n ∷ p) = omega arith
  taken_left (m ∷ o) (n ∷ p) = go (order_of (key_by l m) (key_by r n)) (same_content (content_by l m) (content_by r n))
    where
      go : (x : Ordering) (s : Bool) → left_taken (turn_by l r m n x s) ≤ suc (length o)
      go goes.Less s = omega arith
      go goes.Greater s = omega arith
      go goes.Equal true = omega arith
      go goes.Equal false = omega arith

  taken_right : (o p : List ℕ) → right_taken (turn_at l r o p) ≤ length p
  taken_right [] [] = omega arith
  taken_right (m ∷ o) [] = omega arith
  taken_right [] (n ∷ p) = omega arith
  taken_right (m ∷ o) (n ∷ p) = go (order_of (key_by l m) (key_by r n)) (same_content (content_by l m) (content_by r n))
    where
      go : (x : Ordering) (s : Bool) → right_taken (turn_by l r m n x s) ≤ suc (length p)
      go goes.Less s = omega arith
      go goes.Greater s = omega arith
      go goes.Equal true = omega arith
      go goes.Equal false = omega arith

  module _ (i j : ℕ) (t : Turn) (e : t ≡ turn_here i j) where
    abbrev lines_here : List Line
    lines_here = lines l r (drop i (numbers_of l)) (drop j (numbers_of r))

    follows : lines_here ≡ following t (drop i (numbers_of l)) (drop j (numbers_of r))
    follows = turn_lines (drop i (numbers_of l)) (drop j (numbers_of r)) ∙ ap (λ (x : Turn). following x (drop i (numbers_of l)) (drop j (numbers_of r))) (sym e)

    pub left_stands : left_taken t ≡ 1 → i < length l.order
    left_stands h = omega (arith, taken_left (drop i (numbers_of l)) (drop j (numbers_of r)), ap left_taken e, length-drop i (numbers_of l), length-take (length l.order / 2) l.order)

    pub right_stands : right_taken t ≡ 1 → j < length r.order
    right_stands h = omega (arith, taken_right (drop i (numbers_of l)) (drop j (numbers_of r)), ap right_taken e, length-drop j (numbers_of r), length-take (length r.order / 2) r.order)

  module _ (i j : ℕ) where
    abbrev on_left : List ℕ
    on_left = drop i (numbers_of l)

    abbrev on_right : List ℕ
    on_right = drop j (numbers_of r)

    pub next_end : turn.End ≡ turn_here i j → [] ≡ lines l r on_left on_right
    next_end e = sym (follows i j turn.End e)

    pub next_left : (m x : ℕ) → turn.Left m x ≡ turn_here i j → handed l r (Some (record { cursors = record { left = i + 1; right = j }; line = record { place = on.Left m; nth = x; state = is.OnlyLeft } })) ≡ lines l r on_left on_right
    next_left m x e = (λ k. record { place = on.Left m; nth = x; state = is.OnlyLeft } ∷ lines l r (sym (drop-drop 1 i (numbers_of l)) k) on_right) ∙ sym (follows i j (turn.Left m x) e)

    pub next_right : (n x : ℕ) → turn.Right n x ≡ turn_here i j → handed l r (Some (record { cursors = record { left = i; right = j + 1 }; line = record { place = on.Right n; nth = x; state = is.OnlyRight } })) ≡ lines l r on_left on_right
    next_right n x e = (λ k. record { place = on.Right n; nth = x; state = is.OnlyRight } ∷ lines l r on_left (sym (drop-drop 1 j (numbers_of r)) k)) ∙ sym (follows i j (turn.Right n x) e)

    pub next_changed : (m x : ℕ) → turn.Changed m x ≡ turn_here i j → handed l r (Some (record { cursors = record { left = i + 1; right = j + 1 }; line = record { place = on.Left m; nth = x; state = is.Changed } })) ≡ lines l r on_left on_right
    next_changed m x e = (λ k. record { place = on.Left m; nth = x; state = is.Changed } ∷ lines l r (sym (drop-drop 1 i (numbers_of l)) k) (sym (drop-drop 1 j (numbers_of r)) k)) ∙ sym (follows i j (turn.Changed m x) e)

    pub next_same : turn.Same ≡ turn_here i j → lines l r (drop (i + 1) (numbers_of l)) (drop (j + 1) (numbers_of r)) ≡ lines l r on_left on_right
    next_same e = (λ k. lines l r (sym (drop-drop 1 i (numbers_of l)) k) (sym (drop-drop 1 j (numbers_of r)) k)) ∙ sym (follows i j turn.Same e)

  -- ---- the same content, by what the tests came to

  module _ (m n : ℕ) where
    -- whether numbers of both lead to the same key
    abbrev linked : ℕ → ℕ → Bool
    linked i j = same_key (key_by l i) (key_by r j)

    abbrev alike : Bool
    alike = same_content (content_by l m) (content_by r n)

    tests : alike ≡ (same_but_links l.text (record_in l.records m) r.text (record_in r.records n) && same_reals (reals_of l.reals (record_in l.records m)) (reals_of r.reals (record_in r.records n)) && linked (record_in l.records m).target (record_in r.records n).target && linked (record_in l.records m).modifier (record_in r.records n).modifier)
    unfolding same_content tells
    tests = refl

    -- in the order of the code
    pub all_tests : (x y w : Bool) → x ≡ (same_reals (reals_of l.reals (record_in l.records m)) (reals_of r.reals (record_in r.records n)) && same_but_links l.text (record_in l.records m) r.text (record_in r.records n)) → y ≡ (x && linked (record_in l.records m).target (record_in r.records n).target) → w ≡ (y && linked (record_in l.records m).modifier (record_in r.records n).modifier) → w ≡ alike
    all_tests x y w e f g =
        g
        ∙ ap (λ (b : Bool). b && linked (record_in l.records m).modifier (record_in r.records n).modifier) (f ∙ ap (λ (b : Bool). b && linked (record_in l.records m).target (record_in r.records n).target) (e ∙ and_comm (same_reals (reals_of l.reals (record_in l.records m)) (reals_of r.reals (record_in r.records n))) (same_but_links l.text (record_in l.records m) r.text (record_in r.records n))))
        ∙ sym tests
