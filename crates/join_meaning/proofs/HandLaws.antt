-- Two hands numbered together, right's statements first, then left's: what two numbers of one name are to one another.
use mathlib.Core.Bool.{Bool, true, false, cond}
use mathlib.Core.List.{List, [], ◌∷◌, ◌++◌}
use mathlib.Core.Logic.{◌⊎◌, inl, inr}
use mathlib.Core.Option.{Option, none, some, none-ne-some, some-injective, some-ne-none}
use mathlib.Core.Path.{◌≡◌, refl, ap, sym, ◌∙◌, subst}
use Prim.Native.Nat.{ℕ, zero, suc, ◌+◌, ◌-◌, ◌/◌, ◌≤◌, ◌<◌}
use native.Mathlib.Omega.{arith}
use borrow.Author.Tests.{eqb-true}
use lib.Dec.{eqb}
use lib.ListN.{length, length-append, get_or-append}
use lib.Seq.{get_or-append-add}
use Rattle.arranging.proofs.BothLaws.{other_left, other_right, shifted_none, shifted_some}
use Rattle.arranging.specs.Both.{other_of, shifted}
use Rattle.joining.proofs.DefinitionLaws.{named_here, none_cons, once_behind, once_here}
use Rattle.joining.proofs.OnceLaws.{named_in}
use Rattle.joining.specs.Definition.{named, names_once, same_definition}
use Rattle.laws.proofs.NatLaws.{le_or_lt}
use Rattle.laws.specs.Bytes.{Bytes}
use Rattle.scene.proofs.NumberedLaws.{numbered_high, numbered_last, numbered_later, numbered_low, numbered_range}
use Rattle.scene.specs.Properties.{numbered}
use Rattle.scene.specs.Record.{width}
use Rattle.scene.specs.Statement.{Statement}
use Rattle.table.specs.Number.{number_in}
use Rattle.join_meaning.proofs.NumberedLaws.{match_number, number_none, numbered_once}
use Rattle.join_meaning.specs.Kept.{kept_by}
use Rattle.join_meaning.specs.Matched.{MatchedIn}
use Rattle.match_meaning.proofs.NumberLaws.{numbered_named}
use Rattle.match_meaning.specs.Numbered.{number_named}

-- ---- two numbers of one name

module _ (test : ℕ → Bool) where
  -- one whose number passes is kept, so its name stands
  kept_named : (d : List Statement) (n : ℕ) (s : Statement) → numbered d n ≡ some s → test n ≡ true → named s.name (kept_by test d) ≡ none → ⊥
  unfolding numbered kept_by
  kept_named [] n s e h = λ f. none-ne-some s e
  kept_named (t ∷ d) n s e h = go (eqb n (suc (length d))) refl e (kept_named d n s)
    where
      rest : (b : Bool) → (named s.name (kept_by test d) ≡ none → ⊥) → named s.name (cond b (t ∷ kept_by test d) (kept_by test d)) ≡ none → ⊥
      rest true g f = g (none_cons s.name t (kept_by test d) f).1
      rest false g f = g f

      go : (b : Bool) → eqb n (suc (length d)) ≡ b → cond b (some t) (numbered d n) ≡ some s → (numbered d n ≡ some s → test n ≡ true → named s.name (kept_by test d) ≡ none → ⊥)
          → named s.name (cond (test (suc (length d))) (t ∷ kept_by test d) (kept_by test d)) ≡ none → ⊥
      go true q e g f =
          let passes : test (suc (length d)) ≡ true = ap test (sym (eqb-true n (suc (length d)) q)) ∙ h in
          some-ne-none t (sym (named_here t (kept_by test d)) ∙ ap (λ (x : Statement). named x.name (t ∷ kept_by test d)) (some-injective t s e) ∙ sym (ap (λ (b : Bool). named s.name (cond b (t ∷ kept_by test d) (kept_by test d))) passes) ∙ f)
      go false q e g f = rest (test (suc (length d))) (g e h) f

  -- two numbers that pass and have one name are one number
  abbrev OneNumber : List Statement → Type 0
  OneNumber d = (m n : ℕ) (s t : Statement) → numbered d m ≡ some s → numbered d n ≡ some t → test m ≡ true → test n ≡ true → s.name ≡ t.name → m ≡ n

  pub kept_once : (d : List Statement) → names_once (kept_by test d) ≡ true → OneNumber d
  unfolding numbered kept_by
  kept_once [] o = λ m n s t e f p q w. absurd (none-ne-some s e)
  kept_once (x ∷ d) o = λ m n s t. go m n s t (kept_once d (behind (test last) o)) (eqb m last) refl (eqb n last) refl
    where
      last : ℕ
      last = suc (length d)

      behind : (b : Bool) → names_once (cond b (x ∷ kept_by test d) (kept_by test d)) ≡ true → names_once (kept_by test d) ≡ true
      behind true o = once_behind x (kept_by test d) o
      behind false o = o

      -- the last one's name stands no more before it
      apart : (k : ℕ) (u : Statement) → numbered d k ≡ some u → test last ≡ true → test k ≡ true → x.name ≡ u.name → ⊥
      apart k u e p q w =
          let z : names_once (x ∷ kept_by test d) ≡ true = sym (ap (λ (b : Bool). names_once (cond b (x ∷ kept_by test d) (kept_by test d))) p) ∙ o in
          kept_named d k u e q (ap (λ (v : Bytes). named v (kept_by test d)) (sym w) ∙ once_here x (kept_by test d) z)

      go : (m n : ℕ) (s t : Statement) → OneNumber d → (a : Bool) → eqb m last ≡ a → (b : Bool) → eqb n last ≡ b → cond a (some x) (numbered d m) ≡ some s → cond b (some x) (numbered d n) ≡ some t → test m ≡ true → test n ≡ true → s.name ≡ t.name → m ≡ n
      go m n s t ih true k true l e f p q w = eqb-true m last k ∙ sym (eqb-true n last l)
      go m n s t ih true k false l e f p q w = absurd (apart n t f (ap test (sym (eqb-true m last k)) ∙ p) q (ap (λ (u : Statement). u.name) (some-injective x s e) ∙ w))
      go m n s t ih false k true l e f p q w = absurd (apart m s e (ap test (sym (eqb-true n last l)) ∙ q) p (ap (λ (u : Statement). u.name) (some-injective x t f) ∙ sym w))
      go m n s t ih false k false l e f p q w = ih m n s t e f p q w

kept_all : (d : List Statement) → kept_by (λ n. true) d ≡ d
unfolding kept_by
kept_all [] = refl
kept_all (s ∷ d) = ap {B = List Statement} (λ (x : List Statement). s ∷ x) (kept_all d)

-- where each name stands once, a statement's number is its name's
pub number_once : (d : List Statement) → names_once d ≡ true → (n : ℕ) (s : Statement) → numbered d n ≡ some s → number_named s.name d ≡ n
number_once d o n s e = kept_once (λ m. true) d (ap names_once (kept_all d) ∙ o) (number_named s.name d) n s s (numbered_named s.name d ∙ numbered_once d o n s e) e refl refl refl

-- ---- numbers of two lists

pub numbered_up : (a b : List Statement) (n : ℕ) (s : Statement) → numbered a n ≡ some s → numbered (a ++ b) (length b + n) ≡ some s
unfolding numbered
numbered_up [] b n s e = absurd (none-ne-some s e)
numbered_up (t ∷ a) b n s e = go (eqb n (suc (length a))) refl e (numbered_up a b n s)
  where
    go : (p : Bool) → eqb n (suc (length a)) ≡ p → cond p (some t) (numbered a n) ≡ some s → (numbered a n ≡ some s → numbered (a ++ b) (length b + n) ≡ some s) → numbered (t ∷ a ++ b) (length b + n) ≡ some s
    go true q f ih =
        let k = eqb-true n (suc (length a)) q in
        let m : length b + n ≡ suc (length (a ++ b)) = omega (arith, length-append a b) in
        ap (numbered (t ∷ a ++ b)) m ∙ numbered_last t (a ++ b) ∙ f
    go false q f ih = numbered_later t (a ++ b) (length b + n) s (ih f)

number_first : (a b : List ℕ) (n : ℕ) → n ≤ length a → number_in (a ++ b) n ≡ number_in a n
unfolding number_in
number_first a b zero l = refl
number_first a b (suc n) l = get_or-append a b 0 n l

number_behind : (a b : List ℕ) (n : ℕ) → 0 < n → number_in (a ++ b) (length a + n) ≡ number_in b n
unfolding number_in
number_behind a b zero l = absurd (omega arith)
number_behind a b (suc n) l = let e : length a + suc n ≡ suc (length a + n) = omega arith in ap (number_in (a ++ b)) e ∙ get_or-append-add a b n 0

-- ---- both hands

-- number n is that of a statement of name w
pub record Names (d : List Statement) (w : Bytes) (n : ℕ) : Type 0 where
  pub statement : Statement
  pub there : numbered d n ≡ some statement
  pub name : statement.name ≡ w

module _ (left right : List Statement) where
  -- a number of both is right's, or behind those it is left's
  abbrev pub Hand : (n : ℕ) (s : Statement) → Type 0
  Hand n s = (numbered right n ≡ some s) ⊎ ((k : ℕ) × (n ≡ length right + k) × (numbered left k ≡ some s))

  pub hand_of : (n : ℕ) (s : Statement) → numbered (left ++ right) n ≡ some s → Hand n s
  hand_of n s e = go (le_or_lt n (length right))
    where
      go : (n ≤ length right) ⊎ (length right < n) → Hand n s
      go (inl l) = inl (sym (numbered_low left right n l) ∙ e)
      go (inr l) = inr (n - length right, omega arith, numbered_high left right n s l e)

  pub names_right : (w : Bytes) (n : ℕ) → Names right w n → Names (left ++ right) w n
  names_right w n h = record { statement = h.statement; there = numbered_low left right n (numbered_range right n h.statement h.there).1 ∙ h.there; name = h.name }

  pub names_left : (w : Bytes) (n : ℕ) → Names left w n → Names (left ++ right) w (length right + n)
  names_left w n h = record { statement = h.statement; there = numbered_up left right n h.statement h.there; name = h.name }

-- the number of a name is 0, or a statement of the name has it
named_number : (w : Bytes) (d : List Statement) → (number_named w d ≡ 0) ⊎ Names d w (number_named w d)
unfolding same_definition
named_number w d = go (named w d) refl (number_none w d)
  where
    go : (x : Option Statement) → named w d ≡ x → eqb (number_named w d) 0 ≡ same_definition none x → (number_named w d ≡ 0) ⊎ Names d w (number_named w d)
    go none q e = inl (eqb-true (number_named w d) 0 e)
    go (some s) q e = inr (record { statement = s; there = numbered_named w d ∙ q; name = sym (named_in w d s q).1 })

-- each name stands once in each hand, the matches are those of the hands, and R has right's records
pub record Hands (left right : List Statement) (left_right right_left R : List ℕ) : Type 0 where
  pub once_left : names_once left ≡ true
  pub once_right : names_once right ≡ true
  pub left_in_right : MatchedIn left right left_right
  pub right_in_left : MatchedIn right left right_left
  pub split : length R / width ≡ length right

module _ (left right : List Statement) (left_right right_left R : List ℕ) (h : Hands left right left_right right_left R) where
  abbrev both : List Statement
  both = left ++ right

  abbrev other : ℕ → ℕ
  other = other_of R (right_left ++ left_right)

  -- the other hand's number is that of the name there
  of_right : (n : ℕ) (s : Statement) → numbered right n ≡ some s → other n ≡ shifted (length right) (number_named s.name left)
  of_right n s e =
      let l = (numbered_range right n s e).1 in
      other_right R (right_left ++ left_right) n (omega (arith, h.split))
      ∙ (λ i. shifted (h.split i) (number_first right_left left_right n (omega (arith, h.right_in_left.size)) i / 2))
      ∙ ap (λ (m : ℕ). shifted (length right) (m / 2)) (h.right_in_left.each n s e)
      ∙ ap (shifted (length right)) (match_number (same_definition (some s) (named s.name left)) (number_named s.name left))

  of_left : (n : ℕ) (s : Statement) → numbered left n ≡ some s → other (length right + n) ≡ number_named s.name right
  of_left n s e =
      let l = (numbered_range left n s e).0 in
      other_left R (right_left ++ left_right) (length right + n) (omega (arith, h.split))
      ∙ ap (λ (m : ℕ). number_in (right_left ++ left_right) (m + n) / 2) (sym h.right_in_left.size)
      ∙ ap (λ (m : ℕ). m / 2) (number_behind right_left left_right n l ∙ h.left_in_right.each n s e)
      ∙ match_number (same_definition (some s) (named s.name right)) (number_named s.name right)

  -- it is none, or it has the same name
  pub other_names : (n : ℕ) (s : Statement) → numbered both n ≡ some s → (other n ≡ 0) ⊎ Names both s.name (other n)
  other_names n s e = go (hand_of left right n s e)
    where
      w : Bytes
      w = s.name

      behind : (m : ℕ) → other n ≡ shifted (length right) m → (m ≡ 0) ⊎ Names left w m → (other n ≡ 0) ⊎ Names both w (other n)
      behind m q (inl z) = inl (q ∙ sym (shifted_none (length right) m z))
      behind m q (inr k) =
          let z : (m ≡ 0 → ⊥) = λ e. omega (arith, (numbered_range left m k.statement k.there).0) in
          inr (subst (Names both w) (shifted_some (length right) m z ∙ sym q) (names_left left right w m k))

      before : (m : ℕ) → other n ≡ m → (m ≡ 0) ⊎ Names right w m → (other n ≡ 0) ⊎ Names both w (other n)
      before m q (inl z) = inl (q ∙ z)
      before m q (inr k) = inr (subst (Names both w) (sym q) (names_right left right w m k))

      go : Hand left right n s → (other n ≡ 0) ⊎ Names both w (other n)
      go (inl e) = behind (number_named w left) (of_right n s e) (named_number w left)
      go (inr (k, q, e)) = before (number_named w right) (ap other q ∙ of_left k s e) (named_number w right)

  -- two numbers of one name are one, or each is the other's
  pub other_number : (m n : ℕ) (s t : Statement) → numbered both m ≡ some s → numbered both n ≡ some t → s.name ≡ t.name → (m ≡ n) ⊎ (m ≡ other n)
  other_number m n s t a b w = go (hand_of left right m s a) (hand_of left right n t b)
    where
      -- in one hand they are one
      number_right : (k : ℕ) (u : Statement) → numbered right k ≡ some u → number_named u.name right ≡ k
      number_right = number_once right h.once_right

      number_left : (k : ℕ) (u : Statement) → numbered left k ≡ some u → number_named u.name left ≡ k
      number_left = number_once left h.once_left

      go : Hand left right m s → Hand left right n t → (m ≡ n) ⊎ (m ≡ other n)
      go (inl e) (inl f) = inl (sym (number_right m s e) ∙ ap (λ (v : Bytes). number_named v right) w ∙ number_right n t f)
      go (inl e) (inr (k, q, f)) = inr (sym (number_right m s e) ∙ ap (λ (v : Bytes). number_named v right) w ∙ sym (of_left k t f) ∙ ap other (sym q))
      go (inr (j, p, e)) (inl f) =
          let z : (j ≡ 0 → ⊥) = λ c. omega (arith, (numbered_range left j s e).0) in
          inr (p ∙ shifted_some (length right) j z ∙ ap (shifted (length right)) (sym (number_left j s e) ∙ ap (λ (v : Bytes). number_named v left) w) ∙ sym (of_right n t f))
      go (inr (j, p, e)) (inr (k, q, f)) = inl (p ∙ ap (λ (i : ℕ). length right + i) (sym (number_left j s e) ∙ ap (λ (v : Bytes). number_named v left) w ∙ number_left k t f) ∙ sym q)
