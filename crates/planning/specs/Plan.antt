-- What planning answers, and what its answers mean.
use Rattle.std.specs.Prelude.{List, Result, Ok, Err, ◌++◌, ◌≡◌, ℕ, ◌/◌, ◌≤◌, Float, length, take}
use Rattle.join_meaning.specs.Kept.{in_turn}
use Rattle.join_meaning.specs.Rows.{RowPlan, ordered, stopped, used_rows}
use Rattle.join_meaning.specs.Written.{Numbers}
use Rattle.joining.specs.Outcome.{plan, planned, refused}
use Rattle.joining.specs.declared.Scene.{Scene}
use Rattle.joining.specs.declared.Scene.TheVariants as scene
use Rattle.joining.specs.declared.SceneRefusal.{SceneRefusal}
use Rattle.laws.specs.Bytes.{Bytes}
use Rattle.matching.specs.Matching.{match_of}
use Rattle.pair.specs.declared.Side.{Side}
use Rattle.pair.specs.declared.Side.TheVariants as on
use Rattle.scene.specs.Reason.{reason_number}
use Rattle.scene.specs.Reading.{Entry, accepted, statements}
use Rattle.scene.specs.Record.{real_image, settings_for, width}
use Rattle.scene.specs.declared.Mode.{Mode}
use Rattle.scene.specs.declared.Reason.{Reason}
use Rattle.scene.specs.declared.Settings.{Settings}
use Rattle.sides.specs.Read.{read}
use Rattle.tabled.specs.Tabled.{tabled}

-- how many numbers have their places; or which text is refused, why and where
pub data Reply : Type 0 where
  Ordered : (count : ℕ) → Reply
  Refused : (scene : Scene) (reason place : ℕ) → Reply

-- what the code answers
abbrev pub reply_of : Result ℕ SceneRefusal → Reply
reply_of (Ok k) = Ordered k
reply_of (Err w) = Refused w.scene (reason_number w.refusal.reason) w.refusal.place

abbrev pub side_scene : Side → Scene
side_scene on.Left = scene.Left
side_scene on.Right = scene.Right

abbrev pub order_answer : Result ℕ Reason → Reply
order_answer (Ok k) = Ordered k
order_answer (Err r) = Refused scene.None (reason_number r) 0

-- each hand's matches in the other's scene, right's first
abbrev pub others_of : (left : Bytes) (L : List ℕ) (y : List Float) (right : Bytes) (R : List ℕ) (z : List Float) → List ℕ
others_of left L y right R z = tabled (match_of right R z left L y) (length R / width) ++ tabled (match_of left L y right R z) (length L / width)

-- ---- the order of records

-- at most 1,024 records of each hand, and a place for each
pub record Rooms (L R order : List ℕ) : Type 0 where
  pub lefts : length L / width ≤ 1024
  pub rights : length R / width ≤ 1024
  pub places : length order ≡ 2048

abbrev pub row_answer : Result ℕ Reason → (order : List ℕ) → RowPlan
row_answer (Ok k) order = ordered (take k order)
row_answer (Err r) order = stopped (reason_number r)

pub record RowPlans (p : RowPlan) (order : List ℕ) (r : Result ℕ Reason) (order' : List ℕ) : Type 0 where
  pub says : row_answer r order' ≡ p
  pub size : length order' ≡ length order

-- ---- the plan of texts

-- the numbers of both hands' statements in the order that is planned
pub record PlannedBy (s : Settings) (base left right : Bytes) (order : List ℕ) : Type 0 where
  pub lefts : List Entry
  pub rights : List Entry
  pub reads_left : read s left ≡ accepted lefts
  pub reads_right : read s right ≡ accepted rights
  pub numbers : Numbers (length (statements lefts ++ statements rights)) order
  pub means : plan s base left right ≡ planned (in_turn (statements lefts ++ statements rights) order)

abbrev pub Means : Settings → (base left right : Bytes) → Reply → (order : List ℕ) → Type 0
Means s base left right (Refused t n p) order = plan s base left right ≡ refused t n p
Means s base left right (Ordered k) order = PlannedBy s base left right (take k order)

pub record Plans (s : Settings) (base left right : Bytes) (r : Reply) (order : List ℕ) : Type 0 where
  pub means : Means s base left right r order
  pub size : length order ≡ 2048

-- of an accepted base and its tables
pub record HandRooms (numbers : ℕ) (reals : List Float) (order : List ℕ) : Type 0 where
  pub few : numbers ≤ 11264
  pub few_reals : length reals ≤ 4096
  pub places : length order ≡ 2048

pub record HandPlans (mode : Mode) (numbers : ℕ) (base : Bytes) (B : List ℕ) (x : List Float) (left right : Bytes) (order : List ℕ) (r : Reply) (order' : List ℕ) : Type 0 where
  pub means : (bs : List Entry) (j : ℕ) → read (settings_for mode numbers (length x)) base ≡ accepted bs → B ≡ used_rows base bs → x ≡ real_image j (accepted bs) → Means (settings_for mode numbers (length x)) base left right r order'
  pub size : length order' ≡ length order
