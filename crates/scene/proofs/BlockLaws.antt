-- The exchange of two blocks of an accepted text.
use mathlib.Core.Bool.{Bool, true, false, cond, ◌&&◌}
use mathlib.Core.List.{List, [], ◌∷◌, ◌++◌, append_assoc, append-nil}
use mathlib.Core.Logic.{inr}
use mathlib.Core.Path.{◌≡◌, refl, ap, sym, ◌∙◌, subst, subst₂, subst₃}
use Prim.Native.Nat.{ℕ, suc, ◌≤◌}
use native.Mathlib.Omega.{arith}
use borrow.Author.Tests.{le-leb, lt-leb}
use lib.Dec.{leb, ltb}
use lib.ListN.{length, length-append, take}
use lib.Seq.{take-append_seam}
use Rattle.laws.specs.Bytes.{Bytes}
use Rattle.scene.proofs.AcceptLaws.{read_inv, going_parse, accept_forth, accept_back, on_top_inv}
use Rattle.scene.proofs.EdgeLaws.{Range, Since, LineStart, Edge, edge, since_edge, since_start}
use Rattle.scene.proofs.RenumberLaws.{Renamed, renamed_swap}
use Rattle.scene.proofs.RoomLaws.{sound_swap, used_append}
use Rattle.scene.proofs.SwapLaws.{Clear}
use Rattle.scene.proofs.SyntaxLaws.{Step, pass, on_top, chain, parse, parse_append, Sound}
use Rattle.scene.specs.Block.{Block, CutsNone, EndsLine, in_block, shift}
use Rattle.scene.specs.Links.{reals_used}
use Rattle.scene.specs.Phase.{idle}
use Rattle.scene.specs.Reading.{gap, Entry, Going, going, statements, run, initial, newline, accepted, read_statements}
use Rattle.scene.specs.declared.Settings.{Settings}
use Rattle.scene.specs.Statement.{Statement}

-- ---- the statements of a block

pub in_append : (lo hi : ℕ) (x y : List Entry) → in_block lo hi (x ++ y) ≡ in_block lo hi x ++ in_block lo hi y
unfolding in_block
in_append lo hi [] y = refl
in_append lo hi (e ∷ x) y = go (leb lo e.places.start && ltb e.places.start hi) (in_append lo hi x y)
  where
    go : (b : Bool) → in_block lo hi (x ++ y) ≡ in_block lo hi x ++ in_block lo hi y → cond b (e.statement ∷ in_block lo hi (x ++ y)) (in_block lo hi (x ++ y)) ≡ cond b (e.statement ∷ in_block lo hi x) (in_block lo hi x) ++ in_block lo hi y
    go true h = ap {B = List Statement} (λ (z : List Statement). e.statement ∷ z) h
    go false h = h

pub in_all : (lo hi : ℕ) (x : List Entry) → Range lo hi x → in_block lo hi x ≡ statements x
unfolding in_block statements
in_all lo hi [] h = refl
in_all lo hi (e ∷ x) h = rw (le-leb lo e.places.start h.0, le-leb (suc e.places.start) hi h.1) (ap {B = List Statement} (λ (z : List Statement). e.statement ∷ z) (in_all lo hi x h.2))

pub in_before : (lo hi k n : ℕ) (x : List Entry) → n ≤ lo → Range k n x → in_block lo hi x ≡ []
unfolding in_block
in_before lo hi k n [] l h = refl
in_before lo hi k n (e ∷ x) l h = rw (lt-leb lo e.places.start (omega (arith, h.1))) (in_before lo hi k n x l h.2)

and_false : (b : Bool) → (b && false) ≡ false
and_false true = refl
and_false false = refl

pub in_after : (lo hi k n : ℕ) (x : List Entry) → hi ≤ k → Range k n x → in_block lo hi x ≡ []
unfolding in_block
in_after lo hi k n [] l h = refl
in_after lo hi k n (e ∷ x) l h = rw (lt-leb (suc e.places.start) hi (omega (arith, h.0)), and_false (leb lo e.places.start)) (in_after lo hi k n x l h.2)

pub statements_append : (x y : List Entry) → statements (x ++ y) ≡ statements x ++ statements y
unfolding statements
statements_append [] y = refl
statements_append (e ∷ x) y = ap {B = List Statement} (λ (z : List Statement). e.statement ∷ z) (statements_append x y)

cancel : (x y z : List Statement) → x ++ z ≡ y ++ z → x ≡ y
cancel x y z e =
    let n : length x ≡ length y = omega (arith, length-append x z, length-append y z, ap length e) in
    sym (take-append_seam x z) ∙ (λ i. take (n i) (e i)) ∙ take-append_seam y z

-- ---- a block, read

pub ends_append : (p a : Bytes) → EndsLine a → LineStart (p ++ a)
ends_append p a (x, e) = inr (p ++ x, ap {B = Bytes} (λ (z : Bytes). p ++ z) e ∙ sym (append_assoc p x newline))

pub piece : (r : Settings) (p a : Bytes) (P A X : List Statement) → parse r gap idle p ≡ pass gap idle P → parse r gap idle (p ++ a) ≡ pass gap idle X → X ≡ A ++ P → parse r gap idle a ≡ pass gap idle A
piece r p a P A X e f x =
    let i = on_top_inv P (parse r gap idle a) gap idle X (sym (ap (λ (s : Step). chain s (λ m ph. parse r m ph a)) e) ∙ sym (parse_append r gap idle p a) ∙ f) in
    i.1 ∙ ap (pass gap idle) (cancel i.0 A P (sym i.2 ∙ x))

pub join : (r : Settings) (a b : Bytes) (A B : List Statement) → parse r gap idle a ≡ pass gap idle A → parse r gap idle b ≡ pass gap idle B → parse r gap idle (a ++ b) ≡ pass gap idle (B ++ A)
join r a b A B e f = parse_append r gap idle a b ∙ ap (λ (s : Step). chain s (λ m ph. parse r m ph b)) e ∙ ap (on_top A) f

pub idle_parse : (r : Settings) (t : Bytes) (g : Going) → run r initial t ≡ going g → g.phase ≡ idle → gap ≡ g.scan → parse r gap idle t ≡ pass gap idle (statements g.above)
idle_parse r t g e p m = going_parse r t g e ∙ (λ i. pass (sym m i) (p i) (statements g.above))

-- the text's four parts, read
pub record Parts (r : Settings) (p a b q : Bytes) (es : List Entry) : Type 0 where
  pub P : List Statement
  pub A : List Statement
  pub B : List Statement
  pub Q : List Statement
  pub all : statements es ≡ Q ++ (B ++ (A ++ P))
  read_p : parse r gap idle p ≡ pass gap idle P
  read_a : parse r gap idle a ≡ pass gap idle A
  read_b : parse r gap idle b ≡ pass gap idle B
  read_q : parse r gap idle (q ++ newline) ≡ pass gap idle Q
  pub in_p : in_block 0 (length p) es ≡ P
  pub in_a : in_block (length p) (length (p ++ a)) es ≡ A
  pub in_b : in_block (length (p ++ a)) (length (p ++ a ++ b)) es ≡ B

in_four : (lo hi : ℕ) (x y z w : List Entry) → in_block lo hi (x ++ (y ++ (z ++ w))) ≡ in_block lo hi x ++ (in_block lo hi y ++ (in_block lo hi z ++ in_block lo hi w))
in_four lo hi x y z w = simp in_append

module _ (r : Settings) (p a b q : Bytes) (es : List Entry) (e : read_statements r (p ++ a ++ b ++ q) ≡ accepted es) (ha : Block es p a) (hb : Block es (p ++ a) b) where
  end : (g : Going) × (run r initial (p ++ a ++ b ++ q ++ newline) ≡ going g) × (g.phase ≡ idle) × (g.above ≡ es)
  end = (read_inv r (p ++ a ++ b ++ q) es e).1

  abbrev g : Going
  g = end.0

  whole : (k : ℕ) → CutsNone k es → CutsNone k g.above
  whole k w = subst (CutsNone k) (sym end.3) w

  t₁ : p ++ a ++ b ++ q ++ newline ≡ p ++ (a ++ (b ++ (q ++ newline)))
  t₁ = simp append_assoc

  t₂ : p ++ a ++ b ++ q ++ newline ≡ (p ++ a) ++ (b ++ (q ++ newline))
  t₂ = simp append_assoc

  t₃ : p ++ a ++ b ++ q ++ newline ≡ (p ++ a ++ b) ++ (q ++ newline)
  t₃ = simp append_assoc

  edge_p : Edge r p (a ++ (b ++ (q ++ newline))) g
  edge_p = edge r p (a ++ (b ++ (q ++ newline))) g (subst (λ (t : Bytes). run r initial t ≡ going g) t₁ end.1) end.2 ha.starts (whole (length p) ha.first)

  edge_a : Edge r (p ++ a) (b ++ (q ++ newline)) g
  edge_a = edge r (p ++ a) (b ++ (q ++ newline)) g (subst (λ (t : Bytes). run r initial t ≡ going g) t₂ end.1) end.2 (ends_append p a ha.ends) (whole (length (p ++ a)) ha.last)

  edge_b : Edge r (p ++ a ++ b) (q ++ newline) g
  edge_b = edge r (p ++ a ++ b) (q ++ newline) g (subst (λ (t : Bytes). run r initial t ≡ going g) t₃ end.1) end.2 (ends_append (p ++ a) b hb.ends) (whole (length (p ++ a ++ b)) hb.last)

  since_a : Since (length p) edge_p.state.above edge_a.state
  since_a = since_edge r p a (a ++ (b ++ (q ++ newline))) g edge_a.state edge_p edge_a.here

  since_b : Since (length (p ++ a)) edge_a.state.above edge_b.state
  since_b = since_edge r (p ++ a) b (b ++ (q ++ newline)) g edge_b.state edge_a edge_b.here

  since_q : Since (length (p ++ a ++ b)) edge_b.state.above g
  since_q = since_edge r (p ++ a ++ b) (q ++ newline) (q ++ newline) g g edge_b (subst (λ (t : Bytes). run r initial t ≡ going g) t₃ end.1)

  abbrev e_p : List Entry
  e_p = edge_p.state.above

  abbrev e_a : List Entry
  e_a = since_a.new

  abbrev e_b : List Entry
  e_b = since_b.new

  abbrev e_q : List Entry
  e_q = since_q.new

  range_p : Range 0 (length p) e_p
  range_p = subst (λ n. Range 0 n e_p) edge_p.at (since_start r p edge_p.state edge_p.here)

  range_a : Range (length p) (length (p ++ a)) e_a
  range_a = subst (λ n. Range (length p) n e_a) edge_a.at since_a.range

  range_b : Range (length (p ++ a)) (length (p ++ a ++ b)) e_b
  range_b = subst (λ n. Range (length (p ++ a)) n e_b) edge_b.at since_b.range

  range_q : Range (length (p ++ a ++ b)) g.at e_q
  range_q = since_q.range

  four : es ≡ e_q ++ (e_b ++ (e_a ++ e_p))
  four = sym end.3 ∙ since_q.above ∙ ap {B = List Entry} (λ (x : List Entry). e_q ++ x) (since_b.above ∙ ap {B = List Entry} (λ (x : List Entry). e_b ++ x) since_a.above)

  read_p_lem : parse r gap idle p ≡ pass gap idle (statements e_p)
  read_p_lem = idle_parse r p edge_p.state edge_p.here edge_p.phase edge_p.scan

  read_pa : parse r gap idle (p ++ a) ≡ pass gap idle (statements edge_a.state.above)
  read_pa = idle_parse r (p ++ a) edge_a.state edge_a.here edge_a.phase edge_a.scan

  read_pab : parse r gap idle (p ++ a ++ b) ≡ pass gap idle (statements edge_b.state.above)
  read_pab = idle_parse r (p ++ a ++ b) edge_b.state edge_b.here edge_b.phase edge_b.scan

  read_all : parse r gap idle (p ++ a ++ b ++ (q ++ newline)) ≡ pass gap idle (statements es)
  read_all = subst (λ (t : Bytes). parse r gap idle t ≡ pass gap idle (statements es)) t₃ (accept_forth r (p ++ a ++ b ++ q) es e).1

  ab : length (p ++ a) ≤ length (p ++ a ++ b)
  ab = omega (arith, length-append (p ++ a) b)

  pa : length p ≤ length (p ++ a)
  pa = omega (arith, length-append p a)

  pub parts : Parts r p a b q es
  parts = record {
    P = statements e_p;
    A = statements e_a;
    B = statements e_b;
    Q = statements e_q;
    all = ap statements four ∙ simp statements_append;
    read_p = read_p_lem;
    read_a = piece r p a (statements e_p) (statements e_a) (statements edge_a.state.above) read_p_lem read_pa (ap statements since_a.above ∙ statements_append e_a e_p);
    read_b = piece r (p ++ a) b (statements edge_a.state.above) (statements e_b) (statements edge_b.state.above) read_pa read_pab (ap statements since_b.above ∙ statements_append e_b edge_a.state.above);
    read_q = piece r (p ++ a ++ b) (q ++ newline) (statements edge_b.state.above) (statements e_q) (statements es) read_pab read_all (ap statements (sym end.3 ∙ since_q.above) ∙ statements_append e_q edge_b.state.above);
    in_p = ap (in_block 0 (length p)) four ∙ in_four 0 (length p) e_q e_b e_a e_p ∙
        rw (in_after 0 (length p) (length (p ++ a ++ b)) g.at e_q (omega (arith, ab, pa)) range_q, in_after 0 (length p) (length (p ++ a)) (length (p ++ a ++ b)) e_b pa range_b, in_after 0 (length p) (length p) (length (p ++ a)) e_a (omega arith) range_a)
        (in_all 0 (length p) e_p range_p);
    in_a = ap (in_block (length p) (length (p ++ a))) four ∙ in_four (length p) (length (p ++ a)) e_q e_b e_a e_p ∙
        rw (in_after (length p) (length (p ++ a)) (length (p ++ a ++ b)) g.at e_q ab range_q, in_after (length p) (length (p ++ a)) (length (p ++ a)) (length (p ++ a ++ b)) e_b (omega arith) range_b, in_all (length p) (length (p ++ a)) e_a range_a, in_before (length p) (length (p ++ a)) 0 (length p) e_p (omega arith) range_p)
        (append-nil (statements e_a));
    in_b = ap (in_block (length (p ++ a)) (length (p ++ a ++ b))) four ∙ in_four (length (p ++ a)) (length (p ++ a ++ b)) e_q e_b e_a e_p ∙
        rw (in_after (length (p ++ a)) (length (p ++ a ++ b)) (length (p ++ a ++ b)) g.at e_q (omega arith) range_q, in_all (length (p ++ a)) (length (p ++ a ++ b)) e_b range_b, in_before (length (p ++ a)) (length (p ++ a ++ b)) (length p) (length (p ++ a)) e_a (omega arith) range_a, in_before (length (p ++ a)) (length (p ++ a ++ b)) 0 (length p) e_p pa range_p)
        (append-nil (statements e_b));
  }

-- ---- the law

-- the numbers go from old to new by f, and back by g
pub record Swapped (r : Settings) (text : Bytes) (f g : ℕ → ℕ) (old : List Statement) : Type 0 where
  pub entries : List Entry
  pub reads : read_statements r text ≡ accepted entries
  pub reals : reals_used (statements entries) ≡ reals_used old
  pub renamed : Renamed f old (statements entries)
  pub back : Renamed g (statements entries) old

-- the text with its blocks exchanged, read
pub read_turned : (r : Settings) (p a b q : Bytes) (es : List Entry) (k : Parts r p a b q es) → parse r gap idle (p ++ b ++ a ++ q ++ newline) ≡ pass gap idle (k.Q ++ (k.A ++ (k.B ++ k.P)))
read_turned r p a b q es k = ap (parse r gap idle) (append_assoc (p ++ b ++ a) q newline) ∙ join r (p ++ b ++ a) (q ++ newline) (k.A ++ (k.B ++ k.P)) k.Q (join r (p ++ b) a (k.B ++ k.P) k.A (join r p b k.P k.B k.read_p k.read_b) k.read_a) k.read_q

swapped : (r : Settings) (p a b q : Bytes) (es : List Entry) (k : Parts r p a b q es) → leb (length (p ++ a ++ b ++ q)) 65536 ≡ true → Sound r (statements es) → Clear k.A k.B → Clear k.B k.A
    → Swapped r (p ++ b ++ a ++ q) (shift (length k.P) (length k.A) (length k.B)) (shift (length k.P) (length k.B) (length k.A)) (statements es)
swapped r p a b q es k fits sound cab cba =
    let len : length (p ++ b ++ a ++ q) ≡ length (p ++ a ++ b ++ q) = omega (arith, length-append (p ++ b ++ a) q, length-append (p ++ b) a, length-append p b, length-append (p ++ a ++ b) q, length-append (p ++ a) b, length-append p a) in
    let new : (x : List Entry) × (read_statements r (p ++ b ++ a ++ q) ≡ accepted x) × (statements x ≡ k.Q ++ (k.A ++ (k.B ++ k.P))) =
    accept_back r (p ++ b ++ a ++ q) (k.Q ++ (k.A ++ (k.B ++ k.P)))
    (ap (λ n. leb n 65536) len ∙ fits)
    (read_turned r p a b q es k)
    (sound_swap r k.P k.A k.B k.Q cab cba (subst (Sound r) k.all sound)) in
    record {
      entries = new.0;
      reads = new.1;
      reals = ap reals_used new.2 ∙ omega (arith, used_append k.Q (k.A ++ (k.B ++ k.P)), used_append k.A (k.B ++ k.P), used_append k.B k.P, used_append k.Q (k.B ++ (k.A ++ k.P)), used_append k.B (k.A ++ k.P), used_append k.A k.P) ∙ ap reals_used (sym k.all);
      renamed = subst₂ (Renamed (shift (length k.P) (length k.A) (length k.B))) (sym k.all) (sym new.2) (renamed_swap k.P k.A k.B k.Q cab cba);
      back = subst₂ (Renamed (shift (length k.P) (length k.B) (length k.A))) (sym new.2) (sym k.all) (renamed_swap k.P k.B k.A k.Q cba cab);
    }

pub exchange : (r : Settings) (p a b q : Bytes) (es : List Entry)
    → read_statements r (p ++ a ++ b ++ q) ≡ accepted es
    → Block es p a
    → Block es (p ++ a) b
    → Clear (in_block (length p) (length (p ++ a)) es) (in_block (length (p ++ a)) (length (p ++ a ++ b)) es)
    → Clear (in_block (length (p ++ a)) (length (p ++ a ++ b)) es) (in_block (length p) (length (p ++ a)) es)
    → Swapped r (p ++ b ++ a ++ q) (shift (length (in_block 0 (length p) es)) (length (in_block (length p) (length (p ++ a)) es)) (length (in_block (length (p ++ a)) (length (p ++ a ++ b)) es))) (shift (length (in_block 0 (length p) es)) (length (in_block (length (p ++ a)) (length (p ++ a ++ b)) es)) (length (in_block (length p) (length (p ++ a)) es))) (statements es)
exchange r p a b q es e ha hb cab cba =
    let k = parts r p a b q es e ha hb in
    let f = accept_forth r (p ++ a ++ b ++ q) es e in
    subst₃ (λ (x y z : List Statement). Swapped r (p ++ b ++ a ++ q) (shift (length x) (length y) (length z)) (shift (length x) (length z) (length y)) (statements es)) (sym k.in_p) (sym k.in_a) (sym k.in_b)
    (swapped r p a b q es k f.0 f.2 (subst₂ Clear k.in_a k.in_b cab) (subst₂ Clear k.in_b k.in_a cba))
