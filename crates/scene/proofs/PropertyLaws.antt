-- The links of an accepted text have the properties that document 01 asks of them.
use mathlib.Core.Bool.{Bool, true, false, cond, false≢true}
use mathlib.Core.List.{List, [], ◌∷◌, ◌++◌, append_assoc}
use mathlib.Core.Logic.{◌⊎◌, inl, inr, ⊎_elim}
use mathlib.Core.Option.{Option, none, some}
use mathlib.Core.Path.{◌≡◌, refl, ap, sym, ◌∙◌, subst}
use Prim.Native.Nat.{ℕ, zero, suc, ◌+◌, ◌-◌, ◌≤◌, ◌<◌}
use native.Mathlib.Omega.{arith}
use borrow.Author.Tests.{eq-eqb, ne_eqb, eqb-true}
use lib.Dec.{eqb}
use lib.ListN.{length, length-append}
use Rattle.laws.specs.Bytes.{Bytes, same}
use Rattle.scene.proofs.AcceptLaws.{accept_forth}
use Rattle.scene.proofs.NumberedLaws.{numbered_low, numbered_range, split}
use Rattle.scene.proofs.RoomLaws.{fit_forth}
use Rattle.scene.proofs.SwapLaws.{hits_of, hits_true, latest_le, Linked, LinkedOne, linked_split, BodyLink}
use Rattle.scene.proofs.TellsLaws.{At, at, nth_at, split_statements, statements_length}
use Rattle.scene.specs.Links.{gives, hits, found, latest, head, definition, first_later, or_else, modifier_link, target_link}
use Rattle.scene.specs.Properties.{numbered, Named, LatestBelow, NextAbove}
use Rattle.scene.specs.Reading.{Entry, accepted, read_statements, statements, modifier_test, target_test}
use Rattle.scene.specs.Record.{Record, nth, records, record_of, next_of}
use Rattle.scene.specs.declared.Settings.{Settings}
use Rattle.scene.specs.Statement.{Statement, Literal, Body, primitive, alias, void}

-- ---- the latest earlier

pub latest_greatest : (w : Bytes) (d : List Statement) (m : ℕ) (s : Statement) → numbered d m ≡ some s → hits w s ≡ true → m ≤ latest w d
unfolding numbered found
latest_greatest w [] m s e h = let z : ◌≡◌ {A = ℕ} 0 1 = cc in absurd (omega arith)
latest_greatest w (t ∷ d) m s e h = go (eqb m (suc (length d))) refl e (hits w t) refl (latest_greatest w d m s) (numbered_range d m s)
  where
    go : (b : Bool) → eqb m (suc (length d)) ≡ b → cond b (some t) (numbered d m) ≡ some s → (c : Bool) → hits w t ≡ c → (numbered d m ≡ some s → hits w s ≡ true → m ≤ length (found w d)) → (numbered d m ≡ some s → (0 < m) × (m ≤ length d)) → m ≤ length (cond c (t ∷ d) (found w d))
    go true q e true r ih lo = omega (arith, eqb-true m (suc (length d)) q)
    go true q e false r ih lo = let x : t ≡ s = cc in absurd (false≢true (sym r ∙ ap (hits w) x ∙ h))
    go false q e true r ih lo = let l = (lo e).1 in omega arith
    go false q e false r ih lo = ih e h

pub latest_there : (w : Bytes) (d : List Statement) (t : Statement) → definition w d ≡ some t → (numbered d (latest w d) ≡ some t) × (hits w t ≡ true)
unfolding numbered found
latest_there w [] t e = let z : ◌≡◌ {A = ℕ} 0 1 = cc in absurd (omega arith)
latest_there w (s ∷ d) t e = go (hits w s) refl e (latest_there w d t)
  where
    go : (c : Bool) → hits w s ≡ c → head (cond c (s ∷ d) (found w d)) ≡ some t → (head (found w d) ≡ some t → (numbered d (length (found w d)) ≡ some t) × (hits w t ≡ true)) → (numbered (s ∷ d) (length (cond c (s ∷ d) (found w d))) ≡ some t) × (hits w t ≡ true)
    go true r e ih = let x : s ≡ t = cc in (rw (eq-eqb (suc (length d)) (suc (length d)) refl) e, ap (hits w) (sym x) ∙ r)
    go false r e ih = let a = ih e in (rw (ne_eqb (length (found w d)) (suc (length d)) (λ q. omega (arith, latest_le w d))) a.0, a.1)

-- a statement between later and earlier ones, with its name's latest earlier definition
module _ (D later : List Statement) (s : Statement) (earlier : List Statement) (q : D ≡ later ++ s ∷ earlier) where
  numbered_earlier : (n : ℕ) → n ≤ length earlier → numbered D n ≡ numbered earlier n
  numbered_earlier n h =
      ap (λ (x : List Statement). numbered x n) (q ∙ sym (append_assoc later (s ∷ []) earlier)) ∙ numbered_low (later ++ s ∷ []) earlier n h

  numbered_own : numbered D (suc (length earlier)) ≡ some s
  unfolding numbered
  numbered_own =
      ap (λ (x : List Statement). numbered x (suc (length earlier))) q ∙ numbered_low later (s ∷ earlier) (suc (length earlier)) (omega arith)
      ∙ rw (eq-eqb (suc (length earlier)) (suc (length earlier)) refl)

  latest_below : (w : Bytes) (t : Statement) → definition w earlier ≡ some t → LatestBelow D (suc (length earlier)) w (latest w earlier)
  latest_below w t e =
      let l = latest_le w earlier in
      let a = latest_there w earlier t e in
      let h = hits_true w t a.1 in
      record {
        below = omega arith;
        named = record { statement = t; there = numbered_earlier (latest w earlier) l ∙ a.0; gives = h.0; name = sym h.1 };
        latest = λ m k x. latest_greatest w earlier m x.statement (sym (numbered_earlier m (omega arith)) ∙ x.there) (hits_of w x.statement x.gives (sym x.name));
      }

-- ---- the next of the same name

pub record First (w : Bytes) (later d : List Statement) (k : ℕ) : Type 0 where
  pub above : length d < k
  pub statement : Statement
  pub there : numbered (later ++ d) k ≡ some statement
  pub hit : hits w statement ≡ true
  pub least : (m : ℕ) (t : Statement) → length d < m → numbered (later ++ d) m ≡ some t → hits w t ≡ true → k ≤ m

abbrev pub NoneLater : Bytes → List Statement → List Statement → Type 0
NoneLater w later d = (m : ℕ) (t : Statement) → length d < m → numbered (later ++ d) m ≡ some t → hits w t ≡ false

-- none, and then the number is 0, or the first
abbrev pub FirstOrNone : Bytes → List Statement → List Statement → ℕ → Type 0
FirstOrNone w later d k = ((k ≡ 0) × NoneLater w later d) ⊎ First w later d k

first_or_none : (w : Bytes) (later d : List Statement) → FirstOrNone w later d (first_later w later (length d))
unfolding first_later numbered
first_or_none w [] d = inl (refl, λ m t h e. (let r = numbered_range d m t e in absurd (omega arith)))
first_or_none w (a ∷ later) d = go (first_later w later (length d)) (first_or_none w later d) (hits w a) refl
  where
    number : suc (length d + length later) ≡ suc (length (later ++ d))
    number = omega (arith, length-append later d)

    -- a statement of the list is the first of it, or of the rest
    at : (m : ℕ) (t : Statement) → numbered (a ∷ later ++ d) m ≡ some t → ((m ≡ suc (length (later ++ d))) × (t ≡ a)) ⊎ (numbered (later ++ d) m ≡ some t)
    at m t e = pick (eqb m (suc (length (later ++ d)))) refl e
      where
        pick : (b : Bool) → eqb m (suc (length (later ++ d))) ≡ b → cond b (some a) (numbered (later ++ d) m) ≡ some t → ((m ≡ suc (length (later ++ d))) × (t ≡ a)) ⊎ (numbered (later ++ d) m ≡ some t)
        pick true q e = inl (eqb-true m (suc (length (later ++ d))) q, cc)
        pick false q e = inr e

    up : (k : ℕ) (t : Statement) → numbered (later ++ d) k ≡ some t → numbered (a ∷ later ++ d) k ≡ some t
    up k t e = let r = numbered_range (later ++ d) k t e in rw (ne_eqb k (suc (length (later ++ d))) (λ q. omega arith)) e

    go : (k : ℕ) → FirstOrNone w later d k → (c : Bool) → hits w a ≡ c → FirstOrNone w (a ∷ later) d (or_else k (cond c (suc (length d + length later)) 0))
    go zero (inr f) c r = let h = f.above in absurd (omega arith)
    go (suc k) (inl z) c r = let h = z.0 in absurd (omega arith)
    go (suc k) (inr f) c r =
        let h = numbered_range (later ++ d) (suc k) f.statement f.there in
        inr (record {
          above = f.above;
          statement = f.statement;
          there = up (suc k) f.statement f.there;
          hit = f.hit;
          least = λ m t l e x. ⊎_elim (λ y. (let z = y.0 in omega arith)) (λ y. f.least m t l y x) (at m t e);
        })
    go zero (inl z) true r =
        inr (record {
          above = omega arith;
          statement = a;
          there = rw (number, eq-eqb (suc (length (later ++ d))) (suc (length (later ++ d))) refl);
          hit = r;
          least = λ m t l e x. ⊎_elim (λ y. (let z = y.0 in omega (arith, number))) (λ y. absurd (false≢true (sym (z.1 m t l y) ∙ x))) (at m t e);
        })
    go zero (inl z) false r = inl (refl, λ m t l e. ⊎_elim (λ y. ap (hits w) y.1 ∙ r) (λ y. z.1 m t l y) (at m t e))

-- ---- the table of an accepted text

-- a test that passes has found a definition
pub modifier_defined : (o : Option Statement) → modifier_test o ≡ 0 → (t : Statement) × (o ≡ some t)
modifier_defined none e = absurd (omega arith)
modifier_defined (some t) e = (t, refl)

pub target_defined : (o : Option Statement) → target_test o ≡ 0 → (t : Statement) × (o ≡ some t)
target_defined none e = absurd (omega arith)
target_defined (some t) e = (t, refl)

pub accepted_linked : (r : Settings) (text : Bytes) (es : List Entry) → read_statements r text ≡ accepted es → Linked (statements es)
accepted_linked r text es e = (fit_forth r (statements es) (accept_forth r text es e).2).0

module _ (r : Settings) (text : Bytes) (es : List Entry) (reads : read_statements r text ≡ accepted es) (k : ℕ) (s : Statement) (there : numbered (statements es) k ≡ some s) where
  range : (0 < k) × (k ≤ length es)
  range = let h = numbered_range (statements es) k s there in (h.0, omega (arith, h.1, statements_length es))

  here : At es (k - 1)
  here = at es (k - 1) (omega (arith, range.0, range.1))

  abbrev earlier : List Statement
  earlier = statements here.x

  whole : statements es ≡ statements here.l ++ here.e.statement ∷ earlier
  whole = split_statements es here.l here.e here.x here.split

  number : k ≡ suc (length earlier)
  number = omega (arith, range.0, here.number, statements_length here.x)

  own : here.e.statement ≡ s
  own = let h : some here.e.statement ≡ some s = sym (numbered_own (statements es) (statements here.l) here.e.statement earlier whole) ∙ ap (numbered (statements es)) (sym number) ∙ there in cc

  record_is : nth (records es) k ≡ record_of here.l here.e here.x
  record_is = nth_at es here.l here.e here.x k here.split (omega (arith, number, statements_length here.x))

  linked : LinkedOne earlier s
  linked = subst (LinkedOne earlier) own (linked_split (statements here.l) (here.e.statement ∷ earlier) (subst Linked whole (accepted_linked r text es reads))).1.0

  latest_here : (w : Bytes) (t : Statement) → definition w earlier ≡ some t → LatestBelow (statements es) k w (latest w earlier)
  latest_here w t e = subst (λ (n : ℕ). LatestBelow (statements es) n w (latest w earlier)) (sym number) (latest_below (statements es) (statements here.l) here.e.statement earlier whole w t e)

  -- "A modifier `void` gives link 0", any other leads to the latest earlier definition of its name
  modifier_is : (nth (records es) k).modifier ≡ modifier_link s.modifier earlier
  unfolding record_of
  modifier_is = ap (λ (x : Record). x.modifier) record_is ∙ ap (λ (x : Statement). modifier_link x.modifier earlier) own

  pub modifier_void : same s.modifier void ≡ true → (nth (records es) k).modifier ≡ 0
  modifier_void v = modifier_is ∙ rw v

  pub modifier_latest : same s.modifier void ≡ false → LatestBelow (statements es) k s.modifier (nth (records es) k).modifier
  modifier_latest v =
      let d = modifier_defined (definition s.modifier earlier) (sym (ap (λ (b : Bool). cond b 0 (modifier_test (definition s.modifier earlier))) v) ∙ linked.modifier) in
      let e : latest s.modifier earlier ≡ (nth (records es) k).modifier = sym (modifier_is ∙ ap (λ (b : Bool). cond b 0 (latest s.modifier earlier)) v) in
      subst (LatestBelow (statements es) k s.modifier) e (latest_here s.modifier d.0 d.1)

  -- "every alias target leads to the latest earlier primitive"; a primitive has none
  target_is : (nth (records es) k).target ≡ target_link s.body earlier
  unfolding record_of
  target_is = ap (λ (x : Record). x.target) record_is ∙ ap (λ (x : Statement). target_link x.body earlier) own

  pub target_none : (t : ℕ) (ss : List Bytes) (rs : List Literal) → s.body ≡ primitive t ss rs → (nth (records es) k).target ≡ 0
  target_none t ss rs b = target_is ∙ ap (λ (x : Body). target_link x earlier) b

  pub target_latest : (x : Bytes) → s.body ≡ alias x → LatestBelow (statements es) k x (nth (records es) k).target
  target_latest x b =
      let d = target_defined (definition x earlier) (subst (BodyLink earlier) b linked.body) in
      subst (LatestBelow (statements es) k x) (sym (target_is ∙ ap (λ (y : Body). target_link y earlier) b)) (latest_here x d.0 d.1)

  -- "number of the next primitive of the same name (0 if none)", "0 for surfaces"
  next_by : (b : Bool) → gives s ≡ b → (nth (records es) k).next ≡ cond b (first_later s.name (statements here.l) (suc (length earlier))) 0
  unfolding record_of
  next_by b g = ap (λ (x : Record). x.next) record_is ∙ ap (λ (x : Statement). next_of (statements here.l) x earlier) own ∙ ap (λ (c : Bool). cond c (first_later s.name (statements here.l) (suc (length earlier))) 0) g

  next_is : gives s ≡ true → (nth (records es) k).next ≡ first_later s.name (statements here.l) (length (s ∷ earlier))
  next_is g = next_by true g

  pub next_silent : gives s ≡ false → (nth (records es) k).next ≡ 0
  next_silent g = next_by false g

  pub next_least : gives s ≡ true → (((nth (records es) k).next ≡ 0) × ((m : ℕ) → k < m → Named (statements es) m s.name → ⊥)) ⊎ NextAbove (statements es) k s.name (nth (records es) k).next
  next_least g = go (subst (FirstOrNone s.name (statements here.l) (s ∷ earlier)) (sym (next_is g)) (first_or_none s.name (statements here.l) (s ∷ earlier)))
    where
      all : statements here.l ++ s ∷ earlier ≡ statements es
      all = sym (whole ∙ ap {B = List Statement} (λ (x : Statement). statements here.l ++ x ∷ earlier) own)

      named : (m : ℕ) (x : Named (statements es) m s.name) → numbered (statements here.l ++ s ∷ earlier) m ≡ some x.statement
      named m x = ap (λ (d : List Statement). numbered d m) all ∙ x.there

      hit : (m : ℕ) (x : Named (statements es) m s.name) → hits s.name x.statement ≡ true
      hit m x = hits_of s.name x.statement x.gives (sym x.name)

      go : FirstOrNone s.name (statements here.l) (s ∷ earlier) (nth (records es) k).next → (((nth (records es) k).next ≡ 0) × ((m : ℕ) → k < m → Named (statements es) m s.name → ⊥)) ⊎ NextAbove (statements es) k s.name (nth (records es) k).next
      go (inl (z, f)) = inl (z, λ m l x. false≢true (sym (f m x.statement (omega (arith, number)) (named m x)) ∙ hit m x))
      go (inr f) =
          let h = hits_true s.name f.statement f.hit in
          inr (record {
            above = omega (arith, f.above, number);
            named = record { statement = f.statement; there = ap (λ (d : List Statement). numbered d (nth (records es) k).next) (sym all) ∙ f.there; gives = h.0; name = sym h.1 };
            next = λ m l x. f.least m x.statement (omega (arith, number)) (named m x) (hit m x);
          })
