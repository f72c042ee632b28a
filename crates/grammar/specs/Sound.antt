-- What a list of statements needs beyond each being well-formed: every look-up finds something, and there is room. The latest stands first.
use Rattle.std.specs.Prelude.{true, List, [], ◌∷◌, ◌⊎◌, ◌≡◌, ℕ, ◌≤◌, ◌<◌, get_or, length}
use Rattle.graph.specs.Graph.{goes_on, link, mixture_type}
use Rattle.graph.specs.Paths.{Way}
use Rattle.laws.specs.Bytes.{Bytes}
use Rattle.scene.specs.Links.{reals_used}
use Rattle.scene.specs.Properties.{Named}
use Rattle.scene.specs.Statement.{Body, Statement, alias, primitive, void}
use Rattle.scene.specs.declared.Settings.{Settings}
use Rattle.sides.specs.Sides.{scene_graph}

-- some statement of a list gives the name; a surface gives none
abbrev pub Defined : Bytes → List Statement → Type 0
Defined w d = (n : ℕ) × Named d n w

-- `void`, or defined
abbrev pub Known : Bytes → List Statement → Type 0
Known w d = (w ≡ void) ⊎ Defined w d

-- ---- by the statements above

abbrev pub TargetDefined : (above : List Statement) → Body → Type 0
TargetDefined d (primitive t ss rs) = Unit {0}
TargetDefined d (alias x) = Defined x d

-- what a statement needs of those above it, and of the room that is lent
pub record Fits (r : Settings) (above : List Statement) (s : Statement) : Type 0 where
  pub room : length above < r.records
  pub modifier : Known s.modifier above
  pub target : TargetDefined above s.body
  pub reals : reals_used (s ∷ above) ≤ r.reals

abbrev pub Sound : Settings → List Statement → Type 0
Sound r [] = Unit {0}
Sound r (s ∷ d) = Fits r d s × Sound r d

-- ---- by the whole text

-- "Resolve both names": the two sides of a mixture, which may be defined below it
abbrev pub SidesKnown : (whole : List Statement) → Body → Type 0
SidesKnown D (primitive t ss rs) = t ≡ mixture_type → Known (get_or ss 0 void) D × Known (get_or ss 1 void) D
SidesKnown D (alias x) = Unit {0}

abbrev pub KnownSides : (whole : List Statement) → List Statement → Type 0
KnownSides D [] = Unit {0}
KnownSides D (s ∷ d) = SidesKnown D s.body × KnownSides D d

-- nothing "leads back to itself over these links, through materials too"
pub record Mixes (D : List Statement) : Type 0 where
  pub known : KnownSides D D
  pub loopless : (n : ℕ) → Way (link (scene_graph D)) (goes_on (scene_graph D) true) n n → ⊥
