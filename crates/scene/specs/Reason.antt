-- Why something is refused, and the number of each reason, as the tables "Reasons for refusing a scene" and "Reasons 17 to 23 and 29 to 34"
-- give them.
use Rattle.std.specs.Prelude.{ℕ}
use Rattle.scene.specs.declared.Reason.{Reason}
use Rattle.scene.specs.declared.Reason.TheVariants.{TextTooLong, BadByte, WordTooLong, Command, EndsInStatement, NoRoomForRecord, UnknownModifier, UnknownType, NameIsVoid, UnknownTarget, BadCount, NoRoomForReals, BadNumeral, NumeralTooLarge, BreaksHouseRule, NoSuchPrimitive, BadTable, AllowanceUsedUp, NotFinite, OutOfRange, TablesDiffer, OutputTooSmall, IndexTooShort, UnknownSide, Loop, PairsTooShort, RetiredType, NameTwice, ChangedByBoth, NoOrder, NotTheJoin, LastLineOpen, LineOfTwo}

abbrev pub reason_number : Reason → ℕ
reason_number TextTooLong = 1
reason_number BadByte = 2
reason_number WordTooLong = 3
reason_number Command = 4
reason_number EndsInStatement = 5
reason_number NoRoomForRecord = 6
reason_number UnknownModifier = 7
reason_number UnknownType = 8
reason_number NameIsVoid = 9
reason_number UnknownTarget = 10
reason_number BadCount = 12
reason_number NoRoomForReals = 13
reason_number BadNumeral = 14
reason_number NumeralTooLarge = 15
reason_number BreaksHouseRule = 16
reason_number NoSuchPrimitive = 17
reason_number BadTable = 18
reason_number AllowanceUsedUp = 19
reason_number NotFinite = 20
reason_number OutOfRange = 21
reason_number TablesDiffer = 22
reason_number OutputTooSmall = 23
reason_number IndexTooShort = 24
reason_number UnknownSide = 25
reason_number Loop = 26
reason_number PairsTooShort = 27
reason_number RetiredType = 28
reason_number NameTwice = 29
reason_number ChangedByBoth = 30
reason_number NoOrder = 31
reason_number NotTheJoin = 32
reason_number LastLineOpen = 33
reason_number LineOfTwo = 34
