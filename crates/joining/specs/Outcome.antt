-- What the two calls come to: a proposed join of two hands' scenes, and the check of a typed one.
use Rattle.std.specs.Prelude.{Bool, true, ◌&&◌, cond, List, ◌≡◌, ℕ, ◌≤◌, leb, length}
use Rattle.std.proofs.Math.Option.{Option, none, some}
use Rattle.joining.specs.Arranged.{arranged}
use Rattle.joining.specs.Definition.{names_once}
use Rattle.joining.specs.Pick.{Holds, holds, picked}
use Rattle.joining.specs.declared.Scene.{Scene}
use Rattle.joining.specs.declared.Scene.TheVariants.{Base, Joined, Left, None, Right}
use Rattle.laws.specs.Bytes.{Bytes}
use Rattle.scene.specs.Reading as reading
use Rattle.scene.specs.Reading.{Entry, Reading, accepted, statements}
use Rattle.scene.specs.Statement.{Statement}
use Rattle.scene.specs.declared.Settings.{Settings}
use Rattle.sides.specs.Read.{read}
use Rattle.tidying.specs.Tidy.{tidy}

-- ---- what is to be held, in its order, latest first

pub data Plan : Type 0 where
  refused : (scene : Scene) (reason place : ℕ) → Plan
  planned : List Statement → Plan

-- "31 no order puts each definition after those it needs"; "23 and 29 to 32 have place 0"
abbrev pub order_plan : Option (List Statement) → Plan
order_plan none = refused None 31 0
order_plan (some new) = planned new

-- "30 both changed one name differently"
abbrev pub pick_plan : Option (List Statement) → Plan
pick_plan none = refused None 30 0
pick_plan (some ds) = order_plan (arranged ds)

-- "29 a name twice"
unfoldable pub plan_of : (base left right : List Statement) → Plan
plan_of base left right = cond (names_once base && names_once left && names_once right) (pick_plan (picked base left right)) (refused None 29 0)

-- "the reader's, base then left then right"; "A reader's refusal names its text"
abbrev pub plan_read : (base left right : Reading) → Plan
plan_read (reading.refused n p) l r = refused Base n p
plan_read (accepted b) (reading.refused n p) r = refused Left n p
plan_read (accepted b) (accepted l) (reading.refused n p) = refused Right n p
plan_read (accepted b) (accepted l) (accepted r) = plan_of (statements b) (statements l) (statements r)

-- "All texts are read at the same lent sizes"
abbrev pub plan : Settings → (base left right : Bytes) → Plan
plan s base left right = plan_read (read s base) (read s left) (read s right)

-- ---- the calls

-- the accepted text and its entries
pub data Outcome : Type 0 where
  refused : (scene : Scene) (reason place : ℕ) → Outcome
  joined : Bytes → List Entry → Outcome

-- "last 23": the output is too small for the text
abbrev pub fitted : (room : ℕ) → Bytes → List Entry → Outcome
fitted room text es = cond (leb (length text) room) (joined text es) (refused None 23 0)

-- "the reader's for the typed or joined text, at its place; 32 a typed text that reads but fails"
abbrev pub read_as : (good : List Statement → Bool) → (room : ℕ) → Bytes → Reading → Outcome
read_as good room text (reading.refused n p) = refused Joined n p
read_as good room text (accepted es) = cond (good (statements es)) (fitted room text es) (refused None 32 0)

abbrev pub propose_plan : Settings → (room : ℕ) → Plan → Outcome
propose_plan s room (refused t n p) = refused t n p
propose_plan s room (planned new) = read_as (λ d. true) room (tidy new) (read s (tidy new))

abbrev pub check_plan : Settings → (typed : Bytes) (room : ℕ) → Plan → Outcome
check_plan s typed room (refused t n p) = refused t n p
check_plan s typed room (planned new) = read_as (holds new) room typed (read s typed)

-- "From a base and both hands' scenes propose a joined one": "Ours is tidy"
abbrev pub proposed : Settings → (base left right : Bytes) (room : ℕ) → Outcome
proposed s base left right room = propose_plan s room (plan s base left right)

-- "and check any, ours or typed"
abbrev pub checked : Settings → (base left right typed : Bytes) (room : ℕ) → Outcome
checked s base left right typed room = check_plan s typed room (plan s base left right)

-- ---- what is proved of them

-- "propose a joined one, and check any, ours or typed": what is proposed is accepted by the check
abbrev pub OwnLaw : Type 0
OwnLaw = (s : Settings) (base left right : Bytes) (room : ℕ) (text : Bytes) (es : List Entry) → proposed s base left right room ≡ joined text es → checked s base left right text room ≡ joined text es

-- "A proposal is accepted exactly when the reader accepts it and it holds these definitions and no more": where the three scenes can be
-- joined and the output has room
pub record Accepts (s : Settings) (base left right typed : Bytes) (room : ℕ) (b l r es : List Entry) : Type 0 where
  pub forth : checked s base left right typed room ≡ joined typed es → (read s typed ≡ accepted es) × Holds (statements b) (statements l) (statements r) (statements es)
  pub back : read s typed ≡ accepted es → Holds (statements b) (statements l) (statements r) (statements es) → checked s base left right typed room ≡ joined typed es

abbrev pub AcceptLaw : Type 0
AcceptLaw =
    (s : Settings) (base left right typed : Bytes) (room : ℕ) (b l r es : List Entry) → read s base ≡ accepted b → read s left ≡ accepted l → read s right ≡ accepted r
    → (new : List Statement) → plan_of (statements b) (statements l) (statements r) ≡ planned new → length typed ≤ room → Accepts s base left right typed room b l r es

-- ---- the hands

-- "exchanging the hands changes at most spelling": the check answers the same of every text, refusals too
abbrev pub TurnedCheckLaw : Type 0
TurnedCheckLaw =
    (s : Settings) (base left right typed : Bytes) (room : ℕ) (l r : List Entry) → read s left ≡ accepted l → read s right ≡ accepted r
    → checked s base left right typed room ≡ checked s base right left typed room

-- "joining with an unchanged hand gives the other hand's definitions": the other hand's own text is accepted
abbrev pub UnchangedCheckLaw : Type 0
UnchangedCheckLaw =
    (s : Settings) (base other : Bytes) (room : ℕ) (b o : List Entry) → read s base ≡ accepted b → read s other ≡ accepted o → names_once (statements b) ≡ true → names_once (statements o) ≡ true → length other ≤ room
    → (checked s base base other other room ≡ joined other o) × (checked s base other base other room ≡ joined other o)
