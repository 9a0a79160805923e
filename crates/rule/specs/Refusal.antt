-- The numbers of the refusals (01, What comes back: the table of codes). 0 is the code of what is not refused.
use Rattle.std.specs.Prelude.{ℕ, ◌≤◌, Result, Ok, Err}
use Rattle.std.proofs.Common.{arith}
use Rattle.rule.specs.declared.refusal.Refusal.{Refusal}
use Rattle.rule.specs.declared.refusal.Refusal.TheVariants.{NoLength, BeforeFloor, LineLacked, PastLastMoment, NothingFits, RoomFull, SweepBeforeFloor, PastLeap}
use Rattle.rule.specs.declared.refusal.Ending.{Ending}
use Rattle.rule.specs.declared.refusal.Ending.TheVariants.{NotWhole, Unread, NoRoomForAnswer}
use Rattle.rule.specs.declared.refusal.Unopened.{Unopened}
use Rattle.rule.specs.declared.refusal.Unopened.TheVariants.{OutOfBounds, Unread as NoOpening}

abbrev pub number_of : Refusal → ℕ
number_of NoLength = 3
number_of BeforeFloor = 4
number_of LineLacked = 5
number_of PastLastMoment = 6
number_of NothingFits = 7
number_of RoomFull = 8
number_of SweepBeforeFloor = 9
number_of PastLeap = 10

abbrev pub ending_of : Ending → ℕ
ending_of NotWhole = 2
ending_of Unread = 11
ending_of NoRoomForAnswer = 12

abbrev pub unopened_of : Unopened → ℕ
unopened_of OutOfBounds = 1
unopened_of NoOpening = 11

-- the code of what a test of an order comes to
abbrev pub code_of : {A : Type 0} → Result A Refusal → ℕ
code_of (Ok _) = 0
code_of (Err why) = number_of why

-- an order is refused by a code from 3 on
pub refused_some : (why : Refusal) → 3 ≤ number_of why
refused_some NoLength = omega arith
refused_some BeforeFloor = omega arith
refused_some LineLacked = omega arith
refused_some PastLastMoment = omega arith
refused_some NothingFits = omega arith
refused_some RoomFull = omega arith
refused_some SweepBeforeFloor = omega arith
refused_some PastLeap = omega arith
