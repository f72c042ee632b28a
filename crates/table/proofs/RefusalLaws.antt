-- A refusal has a number, which is never 0.
use Rattle.std.proofs.Common.{◌≡◌, ℕ, ◌≤◌, Result, Ok, Err, ap, sym, ◌∙◌, arith}
use Rattle.scene.specs.Reason.{reason_number}
use Rattle.scene.specs.declared.Reason.{Reason}
use Rattle.scene.specs.declared.Reason.TheVariants.{TextTooLong, BadByte, WordTooLong, Command, EndsInStatement, NoRoomForRecord, UnknownModifier, UnknownType, NameIsVoid, UnknownTarget, BadCount, NoRoomForReals, BadNumeral, NumeralTooLarge, BreaksHouseRule, NoSuchPrimitive, BadTable, AllowanceUsedUp, NotFinite, OutOfRange, TablesDiffer, OutputTooSmall, IndexTooShort, UnknownSide, Loop, PairsTooShort, RetiredType, NameTwice, ChangedByBoth, NoOrder, NotTheJoin, LastLineOpen, LineOfTwo}
use Rattle.table.specs.Question.{refusal_number}

pub reason_some : (r : Reason) → 1 ≤ reason_number r
reason_some TextTooLong = omega arith
reason_some BadByte = omega arith
reason_some WordTooLong = omega arith
reason_some Command = omega arith
reason_some EndsInStatement = omega arith
reason_some NoRoomForRecord = omega arith
reason_some UnknownModifier = omega arith
reason_some UnknownType = omega arith
reason_some NameIsVoid = omega arith
reason_some UnknownTarget = omega arith
reason_some BadCount = omega arith
reason_some NoRoomForReals = omega arith
reason_some BadNumeral = omega arith
reason_some NumeralTooLarge = omega arith
reason_some BreaksHouseRule = omega arith
reason_some NoSuchPrimitive = omega arith
reason_some BadTable = omega arith
reason_some AllowanceUsedUp = omega arith
reason_some NotFinite = omega arith
reason_some OutOfRange = omega arith
reason_some TablesDiffer = omega arith
reason_some OutputTooSmall = omega arith
reason_some IndexTooShort = omega arith
reason_some UnknownSide = omega arith
reason_some Loop = omega arith
reason_some PairsTooShort = omega arith
reason_some RetiredType = omega arith
reason_some NameTwice = omega arith
reason_some ChangedByBoth = omega arith
reason_some NoOrder = omega arith
reason_some NotTheJoin = omega arith
reason_some LastLineOpen = omega arith
reason_some LineOfTwo = omega arith

pub reason_above : (r : Reason) → reason_number r ≡ 0 → ⊥
reason_above r h = omega (arith, h, reason_some r)

-- where it is refused, the number is that of the reason, and else it is 0
pub refused_number : {A : Type 0} (r : Result A Reason) (e : Reason) (n : ℕ) → r ≡ Err e → refusal_number r ≡ n → (reason_number e ≡ n) × (n ≡ 0 → ⊥)
refused_number r e n q h = let p : reason_number e ≡ n = sym (ap refusal_number q) ∙ h in (p, λ z. reason_above e (p ∙ z))

pub taken_number : {A : Type 0} (r : Result A Reason) (a : A) (n : ℕ) → r ≡ Ok a → refusal_number r ≡ n → n ≡ 0
taken_number r a n q h = sym h ∙ ap refusal_number q
