-- One record on a state (01, What comes back): its seven numbers, the bytes used, the tally and the state after.
use Rattle.std.specs.Prelude.{List, ℕ}
use Rattle.tally.specs.declared.Tally.{Tally}
use Rattle.rule.specs.Answer.{refused, seven}
use Rattle.tally.specs.Counts.{row_of, raised}
use Rattle.order.specs.Records.{Reading, unread, opening, order}
use Rattle.state.specs.State.{State}
use Rattle.state.specs.Act.{act}

pub record Stepped : Type 0 where
  pub numbers : List ℕ
  pub used : ℕ
  pub tally : Tally
  pub after : State

abbrev pub unused : State → Tally → (code : ℕ) → Stepped
unused s t x = record { numbers = seven (refused x) 0; used = 0; tally = t; after = s }

-- "OL in a run or as a single order" is code 11; "An order acted on raises exactly one count"
abbrev pub step_on : State → Tally → Reading → Stepped
step_on s t (unread x) = unused s t x
step_on s t (opening n o) = unused s t 11
step_on s t (order n o) = let y = act s o in record { numbers = seven y.reply y.count; used = n; tally = raised t (row_of y.reply); after = y.after }
