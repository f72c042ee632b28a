-- Moved statements lead where they led: names, modifiers, types and strings stay.
use mathlib.Core.Bool.{Bool, true, false, cond, ◌&&◌}
use mathlib.Core.List.{List, [], ◌∷◌}
use mathlib.Core.Option.{Option, some}
use mathlib.Core.Path.{◌≡◌, refl, ap, ◌∙◌}
use Prim.Native.Nat.{ℕ, suc}
use lib.Dec.{eqb}
use lib.ListN.{get_or, length, length-map}
use Rattle.graph.specs.Answers.{lowest_loop}
use Rattle.graph.specs.Graph.{mixture_type}
use Rattle.laws.specs.Bytes.{Bytes, same}
use Rattle.moving.specs.Moved.{moved, moved_body, moved_statement}
use Rattle.moving.specs.declared.Direction.{Direction}
use Rattle.scene.proofs.SwapLaws.{Linked, BodyLink}
use Rattle.scene.specs.Links.{body_of, definition, found, gives, head, hits, is_definition, latest, modifier_link, own_body, resolve, strings_in, through, type_in}
use Rattle.scene.specs.Reading.{modifier_test, target_test}
use Rattle.scene.specs.Statement.{Body, Statement, alias, primitive, void}
use Rattle.sides.proofs.KnownLaws.{all_known, body_known}
use Rattle.sides.specs.Read.{is_known}
use Rattle.sides.specs.Sides.{from_number, node_at, scene_graph, sides, sides_at, sides_in}

module _ (m : Direction) where
  -- ---- look-ups

  definition_moved : (b : Body) → is_definition (moved_body m b) ≡ is_definition b
  definition_moved (primitive t ss rs) = refl
  definition_moved (alias x) = refl

  hits_moved : (w : Bytes) (s : Statement) → hits w (moved_statement m s) ≡ hits w s
  unfolding hits gives
  hits_moved w s = ap (λ (b : Bool). b && same w s.name) (definition_moved s.body)

  found_moved : (w : Bytes) (d : List Statement) → found w (moved m d) ≡ moved m (found w d)
  unfolding found
  found_moved w [] = refl
  found_moved w (s ∷ d) = ap (λ (b : Bool). cond b (moved m (s ∷ d)) (found w (moved m d))) (hits_moved w s) ∙ go (hits w s) (found_moved w d)
    where
      go : (b : Bool) → found w (moved m d) ≡ moved m (found w d) → cond b (moved m (s ∷ d)) (found w (moved m d)) ≡ moved m (cond b (s ∷ d) (found w d))
      go true h = refl
      go false h = h

  resolve_moved : (w : Bytes) (d : List Statement) → resolve w (moved m d) ≡ moved m (resolve w d)
  unfolding resolve
  resolve_moved w [] = refl
  resolve_moved w (s ∷ d) = (λ i. cond (hits_moved w s i) (own s.body (λ x. resolve_moved x d) i) (resolve_moved w d i)) ∙ go (hits w s)
    where
      own : (b : Body) → ((x : Bytes) → resolve x (moved m d) ≡ moved m (resolve x d)) → through (moved_body m b) (moved m (s ∷ d)) (λ x. resolve x (moved m d)) ≡ moved m (through b (s ∷ d) (λ x. resolve x d))
      own (primitive t ss rs) h = refl
      own (alias x) h = h x

      go : (b : Bool) → cond b (moved m (through s.body (s ∷ d) (λ x. resolve x d))) (moved m (resolve w d)) ≡ moved m (cond b (through s.body (s ∷ d) (λ x. resolve x d)) (resolve w d))
      go true = refl
      go false = refl

  latest_moved : (w : Bytes) (d : List Statement) → latest w (moved m d) ≡ latest w d
  latest_moved w d = ap length (found_moved w d) ∙ length-map (found w d) (moved_statement m)

  link_moved : (w : Bytes) (d : List Statement) → modifier_link w (moved m d) ≡ modifier_link w d
  link_moved w d = ap (cond (same w void) 0) (latest_moved w d)

  -- ---- linked

  -- a test that looks only at whether there is a statement
  test_moved : (f : Option Statement → ℕ) → ((s : Statement) → f (some (moved_statement m s)) ≡ f (some s)) → (w : Bytes) (d : List Statement) → f (definition w (moved m d)) ≡ f (definition w d)
  test_moved f h w d = ap (λ (x : List Statement). f (head x)) (found_moved w d) ∙ go (found w d)
    where
      go : (x : List Statement) → f (head (moved m x)) ≡ f (head x)
      go [] = refl
      go (s ∷ x) = h s

  body_linked : (d : List Statement) (b : Body) → BodyLink d b → BodyLink (moved m d) (moved_body m b)
  body_linked d (primitive t ss rs) h = tt
  body_linked d (alias x) h = test_moved target_test (λ s. refl) x d ∙ h

  pub moved_linked : (D : List Statement) → Linked D → Linked (moved m D)
  moved_linked [] h = tt
  moved_linked (s ∷ d) h = (record { modifier = ap (cond (same s.modifier void) 0) (test_moved modifier_test (λ s. refl) s.modifier d) ∙ h.0.modifier; body = body_linked d s.body h.0.body }, moved_linked d h.1)

  -- ---- the graph

  from_moved : (D : List Statement) (n : ℕ) → from_number (moved m D) n ≡ moved m (from_number D n)
  unfolding from_number
  from_moved [] n = refl
  from_moved (s ∷ d) n = (λ i. cond (eqb n (suc (length-map d (moved_statement m) i))) (moved m (s ∷ d)) (from_moved d n i)) ∙ go (eqb n (suc (length d)))
    where
      go : (b : Bool) → cond b (moved m (s ∷ d)) (moved m (from_number d n)) ≡ moved m (cond b (s ∷ d) (from_number d n))
      go true = refl
      go false = refl

  -- what moving keeps of a body it keeps of a statement's own body or its target's
  own_moved : {A : Type 0} (f : Body → A) → ((b : Body) → f (moved_body m b) ≡ f b) → (b : Body) (d : List Statement) → f (own_body (moved_body m b) (moved m d)) ≡ f (own_body b d)
  own_moved f h (primitive t ss rs) d = h (primitive t ss rs)
  own_moved f h (alias x) d = ap (λ (z : List Statement). f (body_of z)) (resolve_moved x d) ∙ go (resolve x d)
    where
      go : (z : List Statement) → f (body_of (moved m z)) ≡ f (body_of z)
      go [] = refl
      go (s ∷ z) = h s.body

  type_moved : (b : Body) → type_in (moved_body m b) ≡ type_in b
  type_moved (primitive t ss rs) = refl
  type_moved (alias x) = refl

  strings_moved : (b : Body) → strings_in (moved_body m b) ≡ strings_in b
  strings_moved (primitive t ss rs) = refl
  strings_moved (alias x) = refl

  node_moved : (z : List Statement) → node_at (moved m z) ≡ node_at z
  node_moved [] = refl
  node_moved (s ∷ d) = λ i. record { type = own_moved type_in type_moved s.body d i; modifier = link_moved s.modifier d i }

  sides_moved : (D z : List Statement) → sides_at (moved m D) (moved m z) ≡ sides_at D z
  sides_moved D [] = refl
  sides_moved D (s ∷ d) = (λ i. sides_in (own_moved type_in type_moved s.body d i) (own_moved strings_in strings_moved s.body d i) (moved m D)) ∙ go (strings_in (own_body s.body d)) (eqb (type_in (own_body s.body d)) mixture_type)
    where
      go : (ss : List Bytes) (b : Bool) → cond b (sides (modifier_link (get_or ss 0 void) (moved m D)) (modifier_link (get_or ss 1 void) (moved m D))) (sides 0 0) ≡ cond b (sides (modifier_link (get_or ss 0 void) D) (modifier_link (get_or ss 1 void) D)) (sides 0 0)
      go ss true = λ i. sides (link_moved (get_or ss 0 void) D i) (link_moved (get_or ss 1 void) D i)
      go ss false = refl

  graph_moved : (D : List Statement) → scene_graph (moved m D) ≡ scene_graph D
  graph_moved D = λ i. record {
    nodes = λ n. (ap node_at (from_moved D n) ∙ node_moved (from_number D n)) i;
    sides = λ n. (ap (sides_at (moved m D)) (from_moved D n) ∙ sides_moved D (from_number D n)) i;
  }

  pub moved_loopless : (D : List Statement) → lowest_loop (scene_graph D) (length D) ≡ 0 → lowest_loop (scene_graph (moved m D)) (length (moved m D)) ≡ 0
  moved_loopless D h = (λ i. lowest_loop (graph_moved D i) (length-map D (moved_statement m) i)) ∙ h

  -- ---- known sides

  name_known : (w : Bytes) (D : List Statement) → is_known w (moved m D) ≡ is_known w D
  unfolding is_known
  name_known w D = rw (latest_moved w D)

  body_known_lem : (D : List Statement) (b : Body) → body_known (moved m D) (moved_body m b) ≡ body_known D b
  body_known_lem D (primitive t ss rs) = λ i. cond (eqb t mixture_type) (name_known (get_or ss 0 void) D i && name_known (get_or ss 1 void) D i) true
  body_known_lem D (alias x) = refl

  pub moved_known : (D d : List Statement) → all_known (moved m D) (moved m d) ≡ all_known D d
  unfolding all_known
  moved_known D [] = refl
  moved_known D (s ∷ d) = λ i. body_known_lem D s.body i && moved_known D d i
