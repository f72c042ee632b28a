-- The index of statements finds what "the latest earlier primitive" names.
use mathlib.Core.Bool.{Bool, true, false, cond, ◌&&◌}
use mathlib.Core.List.{List, [], ◌∷◌}
use mathlib.Core.Path.{◌≡◌, refl, ap, sym, ◌∙◌}
use Prim.Native.Nat.{ℕ, suc, ◌+◌, ◌*◌, ◌≤◌}
use native.Mathlib.Nat.{add-zero}
use native.Mathlib.Omega.{arith}
use borrow.Author.Tests.{eq-eqb, ne_eqb}
use lib.Dec.{leb}
use lib.ListN.{length}
use Rattle.laws.specs.Bytes.{Bytes, same}
use Rattle.scene.specs.Links.{gives, hits, found, latest}
use Rattle.scene.specs.Statement.{Body, primitive, alias, Statement, void}
use Rattle.index.specs.Searches.{Alike, latest_of}
use Rattle.index.specs.Lent.{count_open, count_whole, counted, looked_by, tally}
use Rattle.index.specs.Report.{SearchesAlike, all_looked, entering_looked, gives_no, index_of, looked, modifier_looked, name_no, primitives_of, target_looked}
use Rattle.index.proofs.AlikeLaws.{alike_latest}
use Rattle.index.proofs.IndexLaws.{finds}
use Rattle.index.proofs.SearchLaws.{looked_most}
use Rattle.laws.proofs.BoolLaws.{cond_elim}

module _ (s : Statement) (d : List Statement) where
  pub name_new : name_no (s ∷ d) (suc (length d)) ≡ s.name
  unfolding name_no
  name_new = rw (eq-eqb (suc (length d)) (suc (length d)) refl)

  pub gives_new : gives_no (s ∷ d) (suc (length d)) ≡ gives s
  unfolding gives_no
  gives_new = rw (eq-eqb (suc (length d)) (suc (length d)) refl)

  pub name_old : (n : ℕ) → n ≤ length d → name_no (s ∷ d) n ≡ name_no d n
  unfolding name_no
  name_old n h = rw (ne_eqb n (suc (length d)) (λ e. omega arith))

  pub gives_old : (n : ℕ) → n ≤ length d → gives_no (s ∷ d) n ≡ gives_no d n
  unfolding gives_no
  gives_old n h = rw (ne_eqb n (suc (length d)) (λ e. omega arith))

  -- the earlier statements are as they were
  pub alike_tail : Alike (primitives_of (s ∷ d)) (primitives_of d) (length d)
  alike_tail = record { name = λ k a b. name_old k b; gives = λ k a b. gives_old k b }

pub latest_is : (w : Bytes) (d : List Statement) → latest_of (primitives_of d) w (length d) ≡ latest w d
unfolding latest_of found hits
latest_is w [] = refl
latest_is w (s ∷ d) = (λ i. cond (gives_new s d i && same w (name_new s d i)) (suc (length d)) ((alike_latest (primitives_of (s ∷ d)) (primitives_of d) w (length d) (alike_tail s d) ∙ latest_is w d) i)) ∙ go (gives s && same w s.name)
  where
    go : (b : Bool) → cond b (suc (length d)) (latest w d) ≡ length (cond b (s ∷ d) (found w d))
    go true = refl
    go false = refl

-- On every list of fewer than 2,048 statements the index finds what the plain search finds
pub searches_alike : SearchesAlike
searches_alike w d l = finds (primitives_of d) (length d) l w ∙ latest_is w d

-- ---- the count of a reading is the report, as long as it is kept

looked_few : (w : Bytes) (d : List Statement) → looked w d ≤ 2048
looked_few w d = looked_most (index_of d) (name_no d) w

modifier_few : (m : Bytes) (d : List Statement) → modifier_looked m d ≤ 2048
modifier_few m d = cond_elim (λ n. n ≤ 2048) (same m void) (omega arith) (looked_few m d)

target_few : (b : Body) (d : List Statement) → target_looked b d ≤ 2048
target_few (primitive t ss rs) d = omega arith
target_few (alias x) d = looked_few x d

entering_few : (s : Statement) (d : List Statement) → entering_looked s d ≤ 2048
entering_few s d = cond_elim (λ n. n ≤ 2048) (gives s) (looked_few s.name d) (omega arith)

all_few : (d : List Statement) → all_looked d ≤ 6144 * length d
unfolding all_looked
all_few [] = omega arith
all_few (s ∷ d) = omega (arith, all_few d, modifier_few s.modifier d, target_few s.body d, entering_few s d)

-- by an index of n entries or by none
module _ (n : ℕ) where
  tally_used : leb 2048 n ≡ true → (d : List Statement) → length d ≤ 1024 → tally n d ≡ all_looked d
  unfolding tally all_looked looked_by
  tally_used u [] l = refl
  tally_used u (s ∷ d) l =
      let t : tally n d ≡ all_looked d = tally_used u d (omega arith) in
      let few = all_few d in
      let m : count_open n (tally n d) s.modifier d ≡ all_looked d + modifier_looked s.modifier d = (λ i. counted (t i) (cond (same s.modifier void) 0 (cond (u i) (looked s.modifier d) 0))) ∙ kept (all_looked d) (modifier_looked s.modifier d) (omega arith) (modifier_few s.modifier d) in
      let b : count_whole n (all_looked d + modifier_looked s.modifier d) s.body d ≡ all_looked d + modifier_looked s.modifier d + target_looked s.body d = whole s.body (all_looked d + modifier_looked s.modifier d) (omega (arith, modifier_few s.modifier d)) in
      (λ i. counted ((ap (λ (k : ℕ). count_whole n k s.body d) m ∙ b) i) (cond (gives s) (cond (u i) (looked s.name d) 0) 0))
      ∙ kept (all_looked d + modifier_looked s.modifier d + target_looked s.body d) (entering_looked s d) (omega (arith, modifier_few s.modifier d, target_few s.body d)) (entering_few s d)
    where
      kept : (a b : ℕ) → a ≤ 6300000 → b ≤ 2048 → counted a b ≡ a + b
      kept a b x y = omega arith

      whole : (b : Body) (k : ℕ) → k ≤ 6294000 → count_whole n k b d ≡ k + target_looked b d
      whole (primitive t ss rs) k z = sym (add-zero k)
      whole (alias x) k z = (λ i. counted k (cond (u i) (looked x d) 0)) ∙ kept k (looked x d) (omega arith) (looked_few x d)

  tally_unused : leb 2048 n ≡ false → (d : List Statement) → tally n d ≡ 0
  unfolding tally looked_by
  tally_unused u [] = refl
  tally_unused u (s ∷ d) =
      (λ i. counted (count_whole n (count_open n (tally_unused u d i) s.modifier d) s.body d) (cond (gives s) (cond (u i) (looked s.name d) 0) 0))
      ∙ (λ i. counted (count_whole n (counted 0 (cond (same s.modifier void) 0 (cond (u i) (looked s.modifier d) 0))) s.body d) (cond_elim (λ k. k ≡ 0) (gives s) refl refl i))
      ∙ (λ i. counted (count_whole n (counted 0 (cond_elim (λ k. k ≡ 0) (same s.modifier void) refl refl i)) s.body d) 0)
      ∙ ap (λ (k : ℕ). counted k 0) (none s.body)
    where
      none : (b : Body) → count_whole n 0 b d ≡ 0
      none (primitive t ss rs) = refl
      none (alias x) = λ i. counted 0 (cond (u i) (looked x d) 0)

  -- what a reading of d has counted
  pub tally_is : (d : List Statement) → length d ≤ 1024 → tally n d ≡ cond (leb 2048 n) (all_looked d) 0
  tally_is d l = go (leb 2048 n) refl
    where
      go : (b : Bool) → leb 2048 n ≡ b → tally n d ≡ cond b (all_looked d) 0
      go true u = tally_used u d l
      go false u = tally_unused u d
