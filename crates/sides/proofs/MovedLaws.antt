-- Ways after a renumbering: what a primitive led to it leads to under the new numbers.
use mathlib.Core.Bool.{Bool, true, false, cond, false≢true}
use mathlib.Core.List.{List, [], ◌∷◌}
use mathlib.Core.Logic.{inl, inr}
use mathlib.Core.Path.{◌≡◌, refl, ap, sym, ◌∙◌, subst}
use Prim.Native.Nat.{ℕ, zero, suc, ◌+◌, ◌-◌, ◌≤◌, ◌<◌}
use native.Mathlib.Omega.{arith}
use lib.Dec.{eqb}
use lib.ListN.{get_or, length, length-append}
use Rattle.graph.proofs.GraphLaws.{Among, link_inv, link_of}
use Rattle.graph.proofs.LowestLaws.{lowest_none, lowest_passes}
use Rattle.graph.specs.Answers.{leads, looped, lowest, lowest_loop}
use Rattle.graph.specs.Graph.{Sides, goes_from, goes_on, link, links, mixture_type}
use Rattle.graph.specs.Paths.{Way, on, one}
use Rattle.laws.specs.Bytes.{Bytes, same}
use Rattle.mixtures.proofs.LeadLaws.{leads_path, within_bound}
use Rattle.scene.proofs.RenumberLaws.{Renamed}
use Rattle.scene.proofs.RowLaws.{Moved}
use Rattle.scene.specs.Links.{latest, modifier_link, own_body, strings_in, type_in}
use Rattle.scene.specs.Statement.{Statement, void}
use Rattle.scene.specs.Told.{Told, told}
use Rattle.sides.proofs.SideLaws.{from_here, found_at, scene_within, stands}
use Rattle.sides.specs.Exchange.{renumbered_sides}
use Rattle.sides.specs.Sides.{from_number, node_at, scene_graph, sides, sides_at, sides_in, sides_of}

-- what a statement leads to
abbrev pub links_at : (whole : List Statement) → List Statement → List ℕ
links_at D r = (node_at r).modifier ∷ (sides_at D r).foreground ∷ (sides_at D r).background ∷ []

among_moved : (f : ℕ → ℕ) (c x y z a b d : ℕ) → a ≡ f x → b ≡ f y → d ≡ f z → Among c (x ∷ y ∷ z ∷ []) → Among (f c) (a ∷ b ∷ d ∷ [])
among_moved f c x y z a b d p q r (inl h) = inl (ap f h ∙ sym p)
among_moved f c x y z a b d p q r (inr (inl h)) = inr (inl (ap f h ∙ sym q))
among_moved f c x y z a b d p q r (inr (inr (inl h))) = inr (inr (inl (ap f h ∙ sym r)))
among_moved f c x y z a b d p q r (inr (inr (inr h))) = absurd h

pub none_among : (c : ℕ) → 0 < c → Among c (0 ∷ 0 ∷ 0 ∷ []) → ⊥
none_among c p (inl h) = omega arith
none_among c p (inr (inl h)) = omega arith
none_among c p (inr (inr (inl h))) = omega arith
none_among c p (inr (inr (inr h))) = h

module _ {f : ℕ → ℕ} {D D' : List Statement} (R : Renamed f D D') where
  -- a name leads where it led, and `void` to none
  link_moved : (w : Bytes) → f (modifier_link w D) ≡ modifier_link w D'
  link_moved w = go (same w void)
    where
      go : (b : Bool) → f (cond b 0 (latest w D)) ≡ cond b 0 (latest w D')
      go true = R.none
      go false = R.names w

  sides_in_lem : (t : ℕ) (ss : List Bytes) → renumbered_sides f (sides_in t ss D) ≡ sides_in t ss D'
  sides_in_lem t ss = go (eqb t mixture_type)
    where
      go : (b : Bool) → renumbered_sides f (cond b (sides (modifier_link (get_or ss 0 void) D) (modifier_link (get_or ss 1 void) D)) (sides 0 0)) ≡ cond b (sides (modifier_link (get_or ss 0 void) D') (modifier_link (get_or ss 1 void) D')) (sides 0 0)
      go true = λ i. sides (link_moved (get_or ss 0 void) i) (link_moved (get_or ss 1 void) i)
      go false = λ i. sides (R.none i) (R.none i)

  -- ---- the statement of a number, and what it leads to

  module _ {l : List Statement} {s : Statement} {e : List Statement} (m : Moved f D' l s e) where
    type_same : type_in (own_body s.body m.earlier) ≡ type_in (own_body s.body e)
    unfolding told
    type_same = ap (λ (x : Told). x.type) m.same

    strings_same : strings_in (own_body s.body m.earlier) ≡ strings_in (own_body s.body e)
    unfolding told
    strings_same = ap (λ (x : Told). x.strings) m.same

    modifier_moved : modifier_link s.modifier m.earlier ≡ f (modifier_link s.modifier e)
    unfolding told
    modifier_moved = ap (λ (x : Told). x.modifier) m.same

    sides_moved : sides_of D' s m.earlier ≡ renumbered_sides f (sides_of D s e)
    sides_moved = (λ i. sides_in (type_same i) (strings_same i) D') ∙ sym (sides_in_lem (type_in (own_body s.body e)) (strings_in (own_body s.body e)))

    from_moved : (n : ℕ) → n ≡ suc (length e) → from_number D' (f n) ≡ s ∷ m.earlier
    from_moved n q = (λ i. from_number (m.place i) ((ap f q ∙ m.number) i)) ∙ from_here m.later s m.earlier

  pub some_moved : (c : ℕ) → 0 < c → 0 < f c
  some_moved zero z = absurd (omega arith)
  some_moved (suc c) z = let q = R.some c in omega (arith, q.1)

  -- a link from n to c is one from the new n to the new c
  pub link_on : (n c : ℕ) → link (scene_graph D) n c ≡ true → link (scene_graph D') (f n) (f c) ≡ true
  link_on n c q = let i = link_inv (scene_graph D) n c q in link_of (scene_graph D') (f n) (f c) (some_moved c i.0) (go (from_number D n) refl i.0 i.1)
    where
      go : (r : List Statement) → from_number D n ≡ r → 0 < c → Among c (links (scene_graph D) n) → Among (f c) (links (scene_graph D') (f n))
      go [] r p a = absurd (none_among c p (subst (λ (z : List Statement). Among c (links_at D z)) r a))
      go (s ∷ e) r p a =
          let st = stands D n s e r in
          let m = R.rows st.later s e st.split in
          let old = sides_of D s e in
          let new = sides_of D' s m.earlier in
          subst (λ (z : List Statement). Among (f c) (links_at D' z)) (sym (from_moved m n st.number))
          (among_moved f c (modifier_link s.modifier e) old.foreground old.background (modifier_link s.modifier m.earlier) new.foreground new.background (modifier_moved m) (ap (λ (x : Sides). x.foreground) (sides_moved m)) (ap (λ (x : Sides). x.background) (sides_moved m))
          (subst (λ (z : List Statement). Among c (links_at D z)) r a))

  -- a statement has the type that it had
  pub type_on : (n : ℕ) → 0 < n → n ≤ length D → ((scene_graph D').nodes (f n)).type ≡ ((scene_graph D).nodes n).type
  type_on n z h =
      let k = found_at D n z h in
      let st = stands D n k.s k.e k.here in
      let m = R.rows st.later k.s k.e st.split in
      ap (λ (r : List Statement). (node_at r).type) (from_moved m n st.number) ∙ type_same m ∙ sym (ap (λ (r : List Statement). (node_at r).type) k.here)

  -- and its sides lead where they led
  pub sides_on : (n : ℕ) → 0 < n → n ≤ length D → (scene_graph D').sides (f n) ≡ renumbered_sides f ((scene_graph D).sides n)
  sides_on n z h =
      let k = found_at D n z h in
      let st = stands D n k.s k.e k.here in
      let m = R.rows st.later k.s k.e st.split in
      ap (sides_at D') (from_moved m n st.number) ∙ sides_moved m ∙ sym (ap (λ (r : List Statement). renumbered_sides f (sides_at D r)) k.here)

  -- a way from n to c is one from the new n to the new c
  pub way_on : (through : Bool) (n c : ℕ) → 0 < n → n ≤ length D → Way (link (scene_graph D)) (goes_on (scene_graph D) through) n c → Way (link (scene_graph D')) (goes_on (scene_graph D') through) (f n) (f c)
  way_on through n c z h (one q) = one (link_on n c q)
  way_on through n c z h (on b q p w) =
      let i = within_bound (scene_graph D) (length D + 1) (scene_within D) n b z (omega arith) q in
      let l : b ≤ length D = omega (arith, i.1) in
      on (f b) (link_on n b q) (ap (goes_from through) (type_on b i.0 l) ∙ p) (way_on through b c i.0 l w)

  -- a number of the scene stays one
  pub number_on : (n : ℕ) → 0 < n → n ≤ length D → f n ≤ length D'
  number_on n z h =
      let k = found_at D n z h in
      let st = stands D n k.s k.e k.here in
      let m = R.rows st.later k.s k.e st.split in
      omega (arith, ap f st.number ∙ m.number, ap length m.place, length-append m.later (k.s ∷ m.earlier))

-- where each is a renumbering of the other, both have loops or none has
pub loops_stay : {g : ℕ → ℕ} {D D' : List Statement} → Renamed g D' D → lowest_loop (scene_graph D) (length D) ≡ 0 → lowest_loop (scene_graph D') (length D') ≡ 0
unfolding lowest_loop
loops_stay {g} {D} {D'} S none = go (lowest (looped (scene_graph D') (length D')) (length D')) refl
  where
    found : (n : ℕ) → lowest (looped (scene_graph D') (length D')) (length D') ≡ suc n → ⊥
    found n q =
        let p = lowest_passes (looped (scene_graph D') (length D')) (length D') n q in
        let last : length D' ≡ length D' + 1 - 1 = omega arith in
        let last' : length D + 1 - 1 ≡ length D = omega arith in
        let w = (leads_path (scene_graph D') true (length D' + 1) (suc n) (suc n) (scene_within D') (omega arith) (omega (arith, p.1))).0 (subst (λ (k : ℕ). leads (scene_graph D') true k (suc n) (suc n) ≡ true) last p.0) in
        let z = some_moved S (suc n) (omega arith) in
        let h = number_on S (suc n) (omega arith) p.1 in
        let t = (leads_path (scene_graph D) true (length D + 1) (g (suc n)) (g (suc n)) (scene_within D) z (omega (arith, h))).1 (way_on S true (suc n) (suc n) (omega arith) p.1 w) in
        false≢true (sym (lowest_none (looped (scene_graph D) (length D)) (length D) none (g (suc n)) z h) ∙ subst (λ (k : ℕ). leads (scene_graph D) true k (g (suc n)) (g (suc n)) ≡ true) last' t)

    go : (l : ℕ) → lowest (looped (scene_graph D') (length D')) (length D') ≡ l → lowest (looped (scene_graph D') (length D')) (length D') ≡ 0
    go zero q = q
    go (suc n) q = absurd (found n q)
