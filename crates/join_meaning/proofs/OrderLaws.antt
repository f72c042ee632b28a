-- The order by numbers is the order of statements: both place the same one after the other.
use mathlib.Core.Bool.{Bool, true, false, not, ◌&&◌, ◌||◌, cond}
use mathlib.Core.List.{List, [], ◌∷◌, ◌++◌}
use mathlib.Core.Logic.{◌⊎◌, inl, inr}
use mathlib.Core.Option.{Option, none, some}
use mathlib.Core.Path.{◌≡◌, refl, ap, sym, ◌∙◌, subst}
use Prim.Native.Nat.{ℕ, zero, suc, ◌-◌, ◌≤◌, ◌<◌}
use native.Mathlib.Omega.{arith}
use borrow.Author.Tests.{eq-eqb, eqb-false, eqb-true, ne_eqb}
use lib.Dec.{eqb}
use lib.ListN.{length, length-set, set}
use Rattle.joining.proofs.ArrangeLaws.{found_hit, hit_found}
use Rattle.joining.proofs.MemberLaws.{In}
use Rattle.joining.specs.Arranged.{and_then, arranged, arranged_from, is_found, least_ready, lesser, ready, target_found, without_name}
use Rattle.joining.specs.Definition.{names_once}
use Rattle.keys.specs.Key.{lower}
use Rattle.laws.proofs.BoolLaws.{same_bool}
use Rattle.laws.specs.Bytes.{Bytes, same}
use Rattle.scene.proofs.NumberedLaws.{numbered_last, numbered_later, numbered_range}
use Rattle.scene.proofs.SwapLaws.{hits_of, hits_true}
use Rattle.scene.specs.Links.{gives}
use Rattle.scene.specs.Properties.{numbered}
use Rattle.scene.specs.Statement.{Body, Statement, alias, primitive, void}
use Rattle.scene.specs.Types.{is_surface}
use Rattle.table.specs.Number.{number_in}
use Rattle.join_meaning.proofs.TurnLaws.{number_other, number_set, turn_more, without_number}
use Rattle.join_meaning.specs.Kept.{in_turn, in_turn_of, kept_by, waiting}
use Rattle.join_meaning.specs.Meant.{Leads, Meant, OrderLaw, TargetBy, is_taken, taken_of}
use Rattle.arranging.specs.Order.{Both, comes, least_to, lesser_of, order_from, placed_mark, standing}

-- what has its place is not dropped and no longer waits
placed_high : (t : ℕ) → 1 < placed_mark t
placed_high t = go (is_surface t)
  where
    go : (b : Bool) → 1 < cond b 3 2
    go true = omega arith
    go false = omega arith

-- number n is that of the statement and waits; 0 for none
abbrev Chosen : (both : List Statement) (marks : List ℕ) → Option Statement → (n : ℕ) → Type 0
Chosen both marks none n = n ≡ 0
Chosen both marks (some s) n = (numbered both n ≡ some s) × (number_in marks n ≡ 1)

module _ (both : List Statement) (v : Both) (start : List ℕ) where
  -- ---- the marks on the way, against those at the start

  -- statement s, of number n, has its place among those above
  record Placed (marks : List ℕ) (d : List Statement) (n : ℕ) (s : Statement) : Type 0 where
    there : numbered both n ≡ some s
    waited : is_taken both v start n
    mark : number_in marks n ≡ placed_mark (v.type n)
    above : In s d

  -- a mark is that of the start, or its statement has its place
  abbrev Kept : (marks : List ℕ) (d : List Statement) (n : ℕ) → Type 0
  Kept marks d n = (number_in marks n ≡ number_in start n) ⊎ ((s : Statement) × Placed marks d n s)

  record State (marks : List ℕ) (d : List Statement) : Type 0 where
    size : length marks ≡ length both
    each : (n : ℕ) → Kept marks d n
    all : (s : Statement) → In s d → (n : ℕ) × Placed marks d n s
    once : names_once (waiting marks both) ≡ true

  module _ (meant : Meant both v start) (marks : List ℕ) (d : List Statement) (state : State marks d) where
    -- ---- what stands

    -- nothing else is dropped, so that the same are taken
    zero_kept : (n : ℕ) → eqb (number_in marks n) 0 ≡ eqb (number_in start n) 0
    zero_kept n = go (state.each n)
      where
        go : Kept marks d n → eqb (number_in marks n) 0 ≡ eqb (number_in start n) 0
        go (inl e) = ap (λ (x : ℕ). eqb x 0) e
        go (inr (s, p)) =
            ne_eqb (number_in marks n) 0 (λ e. omega (arith, p.mark, placed_high (v.type n)))
            ∙ sym (ne_eqb (number_in start n) 0 (λ e. omega (arith, p.waited)))

    standing_none : (n : ℕ) → n ≡ 0 → standing v.other marks n ≡ true
    unfolding standing
    standing_none n e = rw (eq-eqb n 0 e)

    standing_taken : (n : ℕ) → 0 < n → standing v.other marks n ≡ eqb (number_in marks (taken_of both v start n)) 2
    unfolding standing
    standing_taken n h =
        let z : (n ≡ 0 → ⊥) = λ e. omega arith in
        rw (ne_eqb n 0 z) (go (eqb (number_in marks (v.other n)) 0)) ∙ ap (λ (b : Bool). eqb (number_in marks (cond b n (v.other n))) 2) (zero_kept (v.other n))
      where
        go : (b : Bool) → cond b (eqb (number_in marks n) 2) (eqb (number_in marks (v.other n)) 2) ≡ eqb (number_in marks (cond b n (v.other n))) 2
        go true = refl
        go false = refl

    -- the mark of a place says whether its statement gives its name
    mark_gives : (n : ℕ) (s : Statement) → Placed marks d n s → eqb (number_in marks n) 2 ≡ gives s
    mark_gives n s p = ap (λ (x : ℕ). eqb x 2) p.mark ∙ ap (λ (b : Bool). eqb (cond b 3 2) 2) (meant.types n s p.there) ∙ go (gives s)
      where
        go : (b : Bool) → eqb (cond (not b) 3 2) 2 ≡ b
        go true = refl
        go false = refl

    module _ (w : Bytes) (n : ℕ) (leads : Leads both v start w n) where
      abbrev taken : ℕ
      taken = taken_of both v start n

      -- at the start no mark is that of a place, so what is taken has one of those above
      marked_found : eqb (number_in marks taken) 2 ≡ true → is_found w d ≡ true
      marked_found e = go (state.each taken) (meant.low taken)
        where
          go : Kept marks d taken → (number_in start taken ≡ 0) ⊎ is_taken both v start taken → is_found w d ≡ true
          go (inl q) (inl z) = absurd (omega (arith, eqb-true (number_in marks taken) 2 e))
          go (inl q) (inr z) = absurd (omega (arith, eqb-true (number_in marks taken) 2 e))
          go (inr (s, p)) z = hit_found w d s p.above (hits_of w s (sym (mark_gives taken s p) ∙ e) (sym (leads.own s p.there)))

      -- the one above that gives the name is the one that is taken
      found_marked : is_found w d ≡ true → eqb (number_in marks taken) 2 ≡ true
      found_marked e =
          let f = found_hit w d e in
          let h = hits_true w f.0 f.2 in
          let k = state.all f.0 f.1 in
          let p = k.1 in
          ap (λ (m : ℕ). eqb (number_in marks m) 2) (leads.each k.0 f.0 p.there p.waited (sym h.1)) ∙ mark_gives k.0 f.0 p ∙ h.0

      standing_found : standing v.other marks n ≡ is_found w d
      standing_found = standing_taken n leads.linked ∙ same_bool (eqb (number_in marks taken) 2) (is_found w d) marked_found found_marked

    -- ---- what comes

    module _ (n : ℕ) (s : Statement) (there : numbered both n ≡ some s) where
      modifier_stands : standing v.other marks (v.link 1 n) ≡ (same s.modifier void || is_found s.modifier d)
      modifier_stands = go (same s.modifier void) refl
        where
          go : (b : Bool) → same s.modifier void ≡ b → standing v.other marks (v.link 1 n) ≡ (b || is_found s.modifier d)
          go true e = standing_none (v.link 1 n) ((meant.modifiers n s there).free e)
          go false e = standing_found s.modifier (v.link 1 n) ((meant.modifiers n s there).bound e)

      target_stands : standing v.other marks (v.link 2 n) ≡ target_found d s.body
      target_stands = go s.body (meant.targets n s there)
        where
          go : (b : Body) → TargetBy both v start b (v.link 2 n) → standing v.other marks (v.link 2 n) ≡ target_found d b
          go (primitive t ss rs) e = standing_none (v.link 2 n) e
          go (alias x) l = standing_found x (v.link 2 n) l

      comes_ready : number_in marks n ≡ 1 → comes v.link v.other marks n ≡ ready d s
      unfolding comes ready
      comes_ready e = rw (eq-eqb (number_in marks n) 1 e) (λ i. modifier_stands i && target_stands i)

    comes_not : (n : ℕ) → eqb (number_in marks n) 1 ≡ false → comes v.link v.other marks n ≡ false
    unfolding comes
    comes_not n e = rw e

    -- ---- the least that comes

    lesser_chosen : (n : ℕ) (s : Statement) → Chosen both marks (some s) n → (x : Option Statement) (best : ℕ) → Chosen both marks x best → Chosen both marks (some (lesser s x)) (lesser_of v.name best n)
    unfolding lesser_of
    lesser_chosen n s c none best e = subst (Chosen both marks (some s)) (sym (rw (eq-eqb best 0 e))) c
    lesser_chosen n s c (some t) best b =
        let r = numbered_range both best t b.0 in
        let z : (best ≡ 0 → ⊥) = λ e. omega arith in
        rw (ne_eqb best 0 z, meant.names best t b.0, meant.names n s c.0) (go (lower t.name s.name))
      where
        go : (p : Bool) → Chosen both marks (some (cond p t s)) (cond p best n)
        go true = b
        go false = c

    -- one statement more, behind those left
    more_chosen : (n : ℕ) (s : Statement) → numbered both n ≡ some s → (left : List Statement) (best : ℕ) → Chosen both marks (least_ready d left) best → Chosen both marks (least_ready d (cond (eqb (number_in marks n) 1) (s ∷ left) left)) (cond (comes v.link v.other marks n) (lesser_of v.name best n) best)
    unfolding least_ready
    more_chosen n s there left best c = go (eqb (number_in marks n) 1) refl
      where
        pick : (b : Bool) → number_in marks n ≡ 1 → Chosen both marks (cond b (some (lesser s (least_ready d left))) (least_ready d left)) (cond b (lesser_of v.name best n) best)
        pick true e = lesser_chosen n s (there, e) (least_ready d left) best c
        pick false e = c

        go : (b : Bool) → eqb (number_in marks n) 1 ≡ b → Chosen both marks (least_ready d (cond b (s ∷ left) left)) (cond (comes v.link v.other marks n) (lesser_of v.name best n) best)
        go true e = let h = eqb-true (number_in marks n) 1 e in rw (comes_ready n s there h) (pick (ready d s) h)
        go false e = rw (comes_not n e) c

    least_chosen : (x : List Statement) → ((n : ℕ) (t : Statement) → numbered x n ≡ some t → numbered both n ≡ some t) → Chosen both marks (least_ready d (waiting marks x)) (least_to v marks (length x))
    unfolding kept_by least_ready least_to
    least_chosen [] f = refl
    least_chosen (s ∷ x) f =
        more_chosen (suc (length x)) s (f (suc (length x)) s (numbered_last s x)) (waiting marks x) (least_to v marks (length x)) (least_chosen x (λ n t e. f n t (numbered_later s x n t e)))

    -- ---- one more has its place

    module _ (n : ℕ) (s : Statement) (chosen : Chosen both marks (some s) n) where
      abbrev next : List ℕ
      next = set marks (n - 1) (placed_mark (v.type n))

      range : (0 < n) × (n ≤ length marks)
      range = let r = numbered_range both n s chosen.0 in (r.0, omega (arith, r.1, state.size))

      others : (m : ℕ) → (m ≡ n → ⊥) → number_in next m ≡ number_in marks m
      others = number_other marks n (placed_mark (v.type n)) range.0

      -- what has its place is not the one that waits, and keeps it
      still : (m : ℕ) (t : Statement) → Placed marks d m t → Placed next (s ∷ d) m t
      still m t p =
          let z : (m ≡ n → ⊥) = λ e. omega (arith, ap (number_in marks) e, chosen.1, p.mark, placed_high (v.type m)) in
          record { there = p.there; waited = p.waited; mark = others m z ∙ p.mark; above = inr p.above }

      own : Placed next (s ∷ d) n s
      own = record { there = chosen.0; waited = go (state.each n); mark = number_set marks n (placed_mark (v.type n)) range.0 range.1; above = inl refl }
        where
          go : Kept marks d n → is_taken both v start n
          go (inl e) = sym e ∙ chosen.1
          go (inr (t, p)) = absurd (omega (arith, chosen.1, p.mark, placed_high (v.type n)))

      less : (without_name s.name (waiting marks both) ≡ waiting next both) × (names_once (waiting next both) ≡ true)
      less =
          without_number (λ m. eqb (number_in marks m) 1) (λ m. eqb (number_in next m) 1) n s
          (eq-eqb (number_in marks n) 1 chosen.1)
          (ne_eqb (number_in next n) 1 (λ e. omega (arith, own.mark, placed_high (v.type n))))
          (λ m h. ap (λ (x : ℕ). eqb x 1) (sym (others m h)))
          both chosen.0 state.once

      after : State next (s ∷ d)
      after = record { size = length-set marks (n - 1) (placed_mark (v.type n)) ∙ state.size; each = λ m. at m (eqb m n) refl (state.each m); all = which; once = less.1 }
        where
          at : (m : ℕ) (b : Bool) → eqb m n ≡ b → Kept marks d m → Kept next (s ∷ d) m
          at m true q k = inr (s, subst (λ (x : ℕ). Placed next (s ∷ d) x s) (sym (eqb-true m n q)) own)
          at m false q (inl e) = inl (others m (eqb-false m n q) ∙ e)
          at m false q (inr (t, p)) = inr (t, still m t p)

          which : (t : Statement) → In t (s ∷ d) → (m : ℕ) × Placed next (s ∷ d) m t
          which t (inl e) = (n, subst (Placed next (s ∷ d) n) (sym e) own)
          which t (inr i) = let k = state.all t i in (k.0, still k.0 t k.1)

  -- ---- one after the other

  abbrev Turns : (count : ℕ) → Type 0
  Turns k = (marks order : List ℕ) → State marks (in_turn both order) → in_turn_of both (order_from v k marks order) ≡ arranged_from k (in_turn both order) (waiting marks both)

  module _ (meant : Meant both v start) where
    turn : (k : ℕ) → Turns k → (marks order : List ℕ) → State marks (in_turn both order) → (x : Option Statement) (n : ℕ) → Chosen both marks x n → in_turn_of both (cond (eqb n 0) none (order_from v k (set marks (n - 1) (placed_mark (v.type n))) (order ++ n ∷ []))) ≡ and_then (arranged_from k) (in_turn both order) (waiting marks both) x
    turn k rest marks order state none n e = rw (eq-eqb n 0 e)
    turn k rest marks order state (some s) n c =
        let d = in_turn both order in
        let z : (n ≡ 0 → ⊥) = λ e. omega (arith, (range meant marks d state n s c).0) in
        let t = turn_more both order n s c.0 in
        rw (ne_eqb n 0 z) (rest (next meant marks d state n s c) (order ++ n ∷ []) (subst (State (next meant marks d state n s c)) (sym t) (after meant marks d state n s c)))
        ∙ (λ i. arranged_from k (t i) (sym (less meant marks d state n s c).0 i))

    turns : (k : ℕ) → Turns k
    unfolding order_from arranged_from
    turns zero marks order state = refl
    turns (suc k) marks order state =
        let d = in_turn both order in
        let x = least_ready d (waiting marks both) in
        let c = least_chosen meant marks d state both (λ n t e. e) in
        turn k (turns k) marks order state x (least_to v marks (length marks)) (subst (λ (l : ℕ). Chosen both marks x (least_to v marks l)) (sym state.size) c)

pub order_meant : OrderLaw
unfolding arranged in_turn
order_meant both v start meant = turns both v start meant (length (waiting start both)) start [] (record { size = meant.size; each = λ n. inl refl; all = λ s i. absurd i; once = meant.once })
