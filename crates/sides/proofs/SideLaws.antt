-- The table of sides, and the graph that both tables are.
use mathlib.Core.Bool.{Bool, true, false, cond}
use mathlib.Core.List.{List, [], ◌∷◌, ◌++◌}
use mathlib.Core.Logic.{◌⊎◌, inl, inr}
use mathlib.Core.Path.{◌≡◌, refl, ap, sym, ◌∙◌, subst}
use Prim.Native.Nat.{ℕ, zero, suc, ◌+◌, ◌-◌, ◌*◌, ◌≤◌, ◌<◌}
use native.Mathlib.Nat.{sub-zero}
use native.Mathlib.Omega.{arith}
use borrow.Author.Tests.{eq-eqb, eqb-true, ne_eqb}
use lib.Dec.{eqb}
use lib.ListN.{get_or, length, length-append, replicate, get_or-append, get_or-eq_default}
use Rattle.graph.specs.Graph.{Sides, graph_of, mixture_type, side_in}
use Rattle.laws.proofs.NatLaws.{le_or_lt}
use Rattle.laws.specs.Bytes.{Bytes, same}
use Rattle.scene.proofs.FlatLaws.{record_in_lem}
use Rattle.scene.proofs.SwapLaws.{latest_le}
use Rattle.scene.proofs.TellsLaws.{At, at, nth_at, records_length, split_statements, statements_length}
use Rattle.mixtures.specs.Walk.{Within}
use Rattle.scene.specs.Links.{latest, modifier_link, own_body, strings_in, type_in}
use Rattle.scene.specs.Reading.{Entry, accepted, refused, statements}
use Rattle.scene.specs.Record.{Record, filled, nothing, nth, record_image, record_of, records, records_from}
use Rattle.scene.specs.Statement.{Statement, void}
use Rattle.sides.specs.Sides.{from_number, node_at, pair_image, pair_of, pairs, pairs_from, scene_graph, sides, sides_at, sides_in, sides_of}
use Rattle.table.specs.View.{Node}

-- ---- the statement of a number

pub from_here : (l : List Statement) (s : Statement) (d : List Statement) → from_number (l ++ s ∷ d) (suc (length d)) ≡ s ∷ d
unfolding from_number
from_here [] s d = rw (eq-eqb (suc (length d)) (suc (length d)) refl)
from_here (x ∷ l) s d =
    let n = length-append l (s ∷ d) in
    rw (ne_eqb (suc (length d)) (suc (length (l ++ s ∷ d))) (λ e. omega arith)) (from_here l s d)

pub from_outside : (D : List Statement) (n : ℕ) → (n ≡ 0) ⊎ (length D < n) → from_number D n ≡ []
unfolding from_number
from_outside [] n h = refl
from_outside (s ∷ D) n h = rw (ne_eqb n (suc (length D)) (λ e. other e h)) (from_outside D n (down h))
  where
    other : n ≡ suc (length D) → (n ≡ 0) ⊎ (suc (length D) < n) → ⊥
    other e (inl z) = omega arith
    other e (inr l) = omega arith

    down : (n ≡ 0) ⊎ (suc (length D) < n) → (n ≡ 0) ⊎ (length D < n)
    down (inl z) = inl z
    down (inr l) = inr (omega arith)

-- the statement of a number, and where it stands
pub record Stands (D : List Statement) (n : ℕ) (s : Statement) (e : List Statement) : Type 0 where
  pub later : List Statement
  pub split : D ≡ later ++ s ∷ e
  pub number : n ≡ suc (length e)

abbrev Some : List Statement → Type 0
Some [] = ⊥
Some (x ∷ xs) = Unit

abbrev rest_of : List Statement → List Statement
rest_of [] = []
rest_of (y ∷ ys) = ys

pub stands : (D : List Statement) (n : ℕ) (s : Statement) (e : List Statement) → from_number D n ≡ s ∷ e → Stands D n s e
unfolding from_number
stands [] n s e q = absurd (subst Some (sym q) tt)
stands (x ∷ D) n s e q = go (eqb n (suc (length D))) refl q (stands D n s e)
  where
    go : (b : Bool) → eqb n (suc (length D)) ≡ b → cond b (x ∷ D) (from_number D n) ≡ s ∷ e → (from_number D n ≡ s ∷ e → Stands D n s e) → Stands (x ∷ D) n s e
    go true t q ih = record { later = []; split = q; number = eqb-true n (suc (length D)) t ∙ ap (λ (z : List Statement). suc (length (rest_of z))) q }
    go false t q ih = let h = ih q in record { later = x ∷ h.later; split = ap {B = List Statement} (λ (z : List Statement). x ∷ z) h.split; number = h.number }

-- a number of the scene has a statement
pub record Found (D : List Statement) (n : ℕ) : Type 0 where
  pub s : Statement
  pub e : List Statement
  pub here : from_number D n ≡ s ∷ e

pub found_at : (D : List Statement) (n : ℕ) → 0 < n → n ≤ length D → Found D n
unfolding from_number
found_at [] n z h = absurd (omega arith)
found_at (x ∷ D) n z h = go (le_or_lt n (length D)) (found_at D n z)
  where
    go : (n ≤ length D) ⊎ (length D < n) → (n ≤ length D → Found D n) → Found (x ∷ D) n
    go (inl l) ih = let f = ih l in record { s = f.s; e = f.e; here = rw (ne_eqb n (suc (length D)) (λ q. omega arith)) f.here }
    go (inr l) ih = record { s = x; e = D; here = rw (eq-eqb n (suc (length D)) (omega arith)) }

-- ---- links lead to numbers of the scene

link_le : (w : Bytes) (d : List Statement) → modifier_link w d ≤ length d
link_le w d = go (same w void) (latest_le w d)
  where
    go : (b : Bool) → latest w d ≤ length d → cond b 0 (latest w d) ≤ length d
    go true h = omega arith
    go false h = h

sides_le : (D : List Statement) (t : ℕ) (ss : List Bytes) → ((sides_in t ss D).foreground ≤ length D) × ((sides_in t ss D).background ≤ length D)
sides_le D t ss = go (eqb t mixture_type)
  where
    go : (b : Bool) → let p = cond b (sides (modifier_link (get_or ss 0 void) D) (modifier_link (get_or ss 1 void) D)) (sides 0 0) in (p.foreground ≤ length D) × (p.background ≤ length D)
    go true = (link_le (get_or ss 0 void) D, link_le (get_or ss 1 void) D)
    go false = (omega arith, omega arith)

pub scene_within : (D : List Statement) → Within (scene_graph D) (length D + 1)
scene_within D = record {
  modifier = λ n z h. (let f = found_at D n z (omega arith) in let st = stands D n f.s f.e f.here in let l = link_le f.s.modifier f.e in subst (λ (r : List Statement). (node_at r).modifier < n) (sym f.here) (omega (arith, l, st.number)));
  foreground = λ n z h. (let f = found_at D n z (omega arith) in let l = sides_le D (type_in (own_body f.s.body f.e)) (strings_in (own_body f.s.body f.e)) in subst (λ (r : List Statement). (sides_at D r).foreground < length D + 1) (sym f.here) (omega (arith, l.0)));
  background = λ n z h. (let f = found_at D n z (omega arith) in let l = sides_le D (type_in (own_body f.s.body f.e)) (strings_in (own_body f.s.body f.e)) in subst (λ (r : List Statement). (sides_at D r).background < length D + 1) (sym f.here) (omega (arith, l.1)));
}

-- ---- the table of sides

-- number 0 or 1 of a pair
abbrev pub side_no : ℕ → Sides → ℕ
side_no zero p = p.foreground
side_no (suc k) p = p.background

pairs_length : (D d : List Statement) → length (pairs_from D d) ≡ length d * 2
unfolding pairs_from
pairs_length D [] = refl
pairs_length D (s ∷ d) = length-append (pairs_from D d) (pair_of (sides_of D s d)) ∙ (let h = pairs_length D d in omega arith)

behind : (xs ys : List ℕ) (i k : ℕ) → i ≡ length xs + k → get_or (xs ++ ys) i 0 ≡ get_or ys k 0
behind [] ys i k e = let q : i ≡ k = omega arith in ap (λ (j : ℕ). get_or ys j 0) q
behind (x ∷ xs) ys zero k e = absurd (omega arith)
behind (x ∷ xs) ys (suc i) k e = behind xs ys i k (omega arith)

in_pair : (p : Sides) (k : ℕ) → k < 2 → get_or (pair_of p) k 0 ≡ side_no k p
in_pair p zero h = refl
in_pair p (suc zero) h = refl
in_pair p (suc (suc k)) h = absurd (omega arith)

no_side : (k : ℕ) → side_no k (sides 0 0) ≡ 0
no_side zero = refl
no_side (suc k) = refl

-- the numbers of primitive n are its sides
pub pair_at : (D d : List Statement) (n k : ℕ) → k < 2 → side_in (pairs_from D d) n k ≡ side_no k (sides_at D (from_number d n))
unfolding side_in pairs_from from_number
pair_at D [] zero k h = sym (no_side k)
pair_at D [] (suc n) k h = none (n * 2 + k) ∙ sym (no_side k)
  where
    none : (i : ℕ) → get_or {A = ℕ} [] i 0 ≡ 0
    none i = get_or-eq_default [] 0 {n = i} (omega arith)
pair_at D (s ∷ d) zero k h = rw (ne_eqb 0 (suc (length d)) (λ e. omega arith)) (pair_at D d zero k h)
pair_at D (s ∷ d) (suc m) k h = go (le_or_lt (length d) m) (le_or_lt m (length d)) (pair_at D d (suc m) k h)
  where
    len : length (pairs_from D d) ≡ length d * 2
    len = pairs_length D d

    go : (length d ≤ m) ⊎ (m < length d) → (m ≤ length d) ⊎ (length d < m) → side_in (pairs_from D d) (suc m) k ≡ side_no k (sides_at D (from_number d (suc m)))
        → get_or (pairs_from D d ++ pair_of (sides_of D s d)) (m * 2 + k) 0 ≡ side_no k (sides_at D (cond (eqb (suc m) (suc (length d))) (s ∷ d) (from_number d (suc m))))
    go (inr l) c ih =
        get_or-append (pairs_from D d) (pair_of (sides_of D s d)) 0 (m * 2 + k) (omega (arith, len))
        ∙ ih ∙ sym (ap (λ (b : Bool). side_no k (sides_at D (cond b (s ∷ d) (from_number d (suc m))))) (ne_eqb (suc m) (suc (length d)) (λ e. omega arith)))
    go (inl l) (inl g) ih =
        let e : m ≡ length d = omega arith in
        behind (pairs_from D d) (pair_of (sides_of D s d)) (m * 2 + k) k (omega (arith, len, e))
        ∙ in_pair (sides_of D s d) k h ∙ sym (ap (λ (b : Bool). side_no k (sides_at D (cond b (s ∷ d) (from_number d (suc m))))) (eq-eqb (suc m) (suc (length d)) (ap suc e)))
    go (inl l) (inr g) ih =
        get_or-eq_default (pairs_from D d ++ pair_of (sides_of D s d)) 0 (let a = length-append (pairs_from D d) (pair_of (sides_of D s d)) in omega (arith, len, a))
        ∙ sym (no_side k)
        ∙ sym (ap (λ (z : List Statement). side_no k (sides_at D z)) (ap (λ (b : Bool). cond b (s ∷ d) (from_number d (suc m))) (ne_eqb (suc m) (suc (length d)) (λ e. omega arith)) ∙ from_outside d (suc m) (inr (omega arith))))

-- ---- zeros behind a table are no numbers

get_d_zeros : (used : List ℕ) (n i : ℕ) → get_or (used ++ replicate n 0) i 0 ≡ get_or used i 0
get_d_zeros [] zero i = refl
get_d_zeros [] (suc n) zero = refl
get_d_zeros [] (suc n) (suc i) = get_d_zeros [] n i
get_d_zeros (x ∷ used) n zero = refl
get_d_zeros (x ∷ used) n (suc i) = get_d_zeros used n i

side_filled : (used : List ℕ) (n m k : ℕ) → side_in (filled 0 n used) m k ≡ side_in used m k
unfolding side_in
side_filled used n zero k = refl
side_filled used n (suc m) k = get_d_zeros used (n - length used) (m * 2 + k)

-- ---- the tables of an accepted text are its graph

-- type and modifier link of a record
abbrev node : Record → Node
node r = record { type = r.type; modifier = r.modifier }

nth_outside : (es : List Entry) (n : ℕ) → (n ≡ 0) ⊎ (length es < n) → nth (records es) n ≡ nothing
unfolding nth records
nth_outside es zero h = refl
nth_outside es (suc n) (inl z) = absurd (omega arith)
nth_outside es (suc n) (inr l) = get_or-eq_default (records_from [] es) nothing {n = n} (let k = records_length [] es in omega arith)

pub from_entry : (es l : List Entry) (e : Entry) (x : List Entry) (n : ℕ) → es ≡ l ++ e ∷ x → n ≡ suc (length x) → from_number (statements es) n ≡ e.statement ∷ statements x
from_entry es l e x n q m =
    let k : n ≡ suc (length (statements x)) = omega (arith, m, statements_length x) in
    (λ i. from_number (split_statements es l e x q i) (k i)) ∙ from_here (statements l) e.statement (statements x)

node_at_lem : (es : List Entry) (n : ℕ) → node (nth (records es) n) ≡ node_at (from_number (statements es) n)
unfolding record_of
node_at_lem es n = go (le_or_lt n (length es)) (le_or_lt 1 n)
  where
    outside : (n ≡ 0) ⊎ (length es < n) → node (nth (records es) n) ≡ node_at (from_number (statements es) n)
    outside h = ap node (nth_outside es n h) ∙ sym (ap node_at (from_outside (statements es) n (over h)))
      where
        over : (n ≡ 0) ⊎ (length es < n) → (n ≡ 0) ⊎ (length (statements es) < n)
        over (inl z) = inl z
        over (inr l) = inr (omega (arith, statements_length es))

    inside : At es (n - 1) → 1 ≤ n → node (nth (records es) n) ≡ node_at (from_number (statements es) n)
    inside a h =
        let m : n ≡ suc (length a.x) = omega (arith, a.number) in
        ap node (nth_at es a.l a.e a.x n a.split m) ∙ sym (ap node_at (from_entry es a.l a.e a.x n a.split m))

    go : (n ≤ length es) ⊎ (length es < n) → (1 ≤ n) ⊎ (n < 1) → node (nth (records es) n) ≡ node_at (from_number (statements es) n)
    go (inr l) c = outside (inr l)
    go (inl l) (inr z) = outside (inl (omega arith))
    go (inl l) (inl h) = inside (at es (n - 1) (omega arith)) h

pub tables_graph : (text : Bytes) (es : List Entry) (lent room : ℕ) → graph_of (record_image text lent (accepted es)) (pair_image room (accepted es)) ≡ scene_graph (statements es)
unfolding record_image pair_image pairs
tables_graph text es lent room = λ i. record {
  nodes = λ n. (ap node (record_in_lem text (records es) lent n) ∙ node_at_lem es n) i;
  sides = λ n. sides ((side_filled (pairs_from (statements es) (statements es)) room n 0 ∙ pair_at (statements es) (statements es) n 0 (omega arith)) i) ((side_filled (pairs_from (statements es) (statements es)) room n 1 ∙ pair_at (statements es) (statements es) n 1 (omega arith)) i);
}

-- "Any refusal here zeroes all tables"
pub zero_pairs : (k n p : ℕ) → replicate k 0 ≡ pair_image k (refused n p)
unfolding pair_image pairs pairs_from statements
zero_pairs k n p = ap (λ (m : ℕ). replicate m 0) (sym (sub-zero k))
