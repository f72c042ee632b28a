-- Which statements give their names: what other proofs may use of `gives`.
use mathlib.Core.Bool.{Bool, true, false, not, ◌&&◌, cond}
use mathlib.Core.List.{List, [], ◌∷◌}
use mathlib.Core.Path.{◌≡◌, refl, ap, sym, ◌∙◌}
use Prim.Native.Nat.{ℕ}
use borrow.Author.Tests.{not-true}
use Rattle.laws.proofs.BoolLaws.{and_left}
use Rattle.laws.specs.Bytes.{Bytes, same}
use Rattle.scene.specs.Links.{body_of, first_later, gives, hits, is_definition, own_body, resolve, through, type_in}
use Rattle.scene.specs.Record.{next_of}
use Rattle.scene.specs.Statement.{Body, Statement, alias, primitive}
use Rattle.scene.specs.Types.{is_surface}

-- a look-up goes by the name, among those that give theirs
pub hits_name : (w : Bytes) (s : Statement) → hits w s ≡ (gives s && same w s.name)
unfolding hits
hits_name w s = refl

pub silent_misses : (w : Bytes) (s : Statement) → gives s ≡ false → hits w s ≡ false
unfolding hits
silent_misses w s e = ap (λ (b : Bool). b && same w s.name) e

-- what a name leads to is no surface
pub resolved_no_surface : (w : Bytes) (d : List Statement) → is_surface (type_in (body_of (resolve w d))) ≡ false
unfolding resolve hits gives
resolved_no_surface w [] = refl
resolved_no_surface w (s ∷ d) = go (hits w s) refl (λ x. resolved_no_surface x d)
  where
    own : (b : Body) → s.body ≡ b → is_definition b ≡ true → ((x : Bytes) → is_surface (type_in (body_of (resolve x d))) ≡ false) → is_surface (type_in (body_of (through b (s ∷ d) (λ x. resolve x d)))) ≡ false
    own (primitive t ss rs) q e ih = ap (λ (b : Body). is_surface (type_in b)) q ∙ not-true (is_surface t) e
    own (alias x) q e ih = ih x

    go : (b : Bool) → hits w s ≡ b → ((x : Bytes) → is_surface (type_in (body_of (resolve x d))) ≡ false) → is_surface (type_in (body_of (cond b (through s.body (s ∷ d) (λ x. resolve x d)) (resolve w d)))) ≡ false
    go true h ih = own s.body refl (and_left (gives s) (same w s.name) h) ih
    go false h ih = ih w

-- so the type that a statement has, its own or its target's, tells whether it gives its name
pub gives_by_type : (s : Statement) (d : List Statement) → gives s ≡ not (is_surface (type_in (own_body s.body d)))
unfolding gives
gives_by_type s d = go s.body
  where
    go : (b : Body) → is_definition b ≡ not (is_surface (type_in (own_body b d)))
    go (primitive t ss rs) = refl
    go (alias x) = sym (ap not (resolved_no_surface x d))

-- the last statement has no next of its name, whether it gives one or not
pub next_none : (s : Statement) (earlier : List Statement) → next_of [] s earlier ≡ 0
unfolding first_later
next_none s earlier = go (gives s)
  where
    go : (b : Bool) → ◌≡◌ {A = ℕ} (cond b 0 0) 0
    go true = refl
    go false = refl
