-- RULES, Refusals: the number of each refusal and the value beside it. An entry says why it refuses by its name; C and the rules say the same by these two numbers.
use Rattle.std.specs.Prelude.{ℕ, Result, Ok, Err}
use Rattle.layout.specs.declared.Refused.{Refused}
use Rattle.layout.specs.declared.Refused.TheVariants.{SetLength, SetVersion, LimitCount, LimitsLength, LimitKind, LimitK, LimitX, WorkLength, Room, TableLength, TableVersion, States, Outcome, Job, Log, UnusedBits, Count, Record, LostByte, OldRecord, LimitsNothing, Walk, PatternLength}
use Rattle.layout.specs.Refusal.{Tested, passed, refused}

abbrev pub number_of : Refused → ℕ
number_of SetLength = 1
number_of SetVersion = 2
number_of LimitCount = 3
number_of LimitsLength = 4
number_of (LimitKind limit) = 5
number_of (LimitK limit) = 6
number_of (LimitX limit) = 7
number_of WorkLength = 8
number_of (Room needed) = 9
number_of TableLength = 10
number_of TableVersion = 11
number_of States = 12
number_of (Outcome place) = 13
number_of Job = 14
number_of Log = 15
number_of UnusedBits = 16
number_of Count = 17
number_of Record = 18
number_of LostByte = 19
number_of OldRecord = 20
number_of LimitsNothing = 21
number_of Walk = 25
number_of PatternLength = 26

-- the value beside it, 0 where the rules name none
abbrev pub beside : Refused → ℕ
beside SetLength = 0
beside SetVersion = 0
beside LimitCount = 0
beside LimitsLength = 0
beside (LimitKind limit) = limit
beside (LimitK limit) = limit
beside (LimitX limit) = limit
beside WorkLength = 0
beside (Room needed) = needed
beside TableLength = 0
beside TableVersion = 0
beside States = 0
beside (Outcome place) = place
beside Job = 0
beside Log = 0
beside UnusedBits = 0
beside Count = 0
beside Record = 0
beside LostByte = 0
beside OldRecord = 0
beside LimitsNothing = 0
beside Walk = 0
beside PatternLength = 0

-- what a refusal says, and what an answer does
abbrev pub row_of : Refused → Tested
row_of r = refused (number_of r) (beside r)

abbrev pub says : {A : Type 0} → Result A Refused → Tested
says (Ok x) = passed
says (Err r) = row_of r
