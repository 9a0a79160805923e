-- A link and its history, as orders come: what each order and its reply add to what has been accepted.
-- 01, The booking rule: "What is said of the history supposes memory that only these calls have changed since an accepted opening".
use Rattle.std.specs.Prelude.{List, [], ◌∷◌}
use Rattle.rule.specs.Settings.{Settings}
use Rattle.rule.specs.Fit.{hold, free}
use Rattle.rule.specs.Order.{Order, booking, sweep}
use Rattle.rule.specs.Answer.{Reply, booked, swept, refused}
use Rattle.state.specs.State.{State}
use Rattle.state.specs.Act.{act}
use Rattle.state.specs.History.{Event, books, sweeps}

-- what an order and its reply add: a booking holds its channel from its start until the channel is free again
abbrev pub event : Settings → Order → Reply → List Event → List Event
event g (booking r l m) (booked c i s f) es = books c s (free s (hold g l)) ∷ es
event g (booking r l m) (swept d) es = es
event g (booking r l m) (refused x) es = es
event g (sweep moment) (booked c i s f) es = es
event g (sweep moment) (swept d) es = sweeps moment ∷ es
event g (sweep moment) (refused x) es = es

pub record Life : Type 0 where
  pub state : State
  pub past : List Event

abbrev pub born : State → Life
born s = record { state = s; past = [] }

abbrev pub next : Life → Order → Life
next x o = let y = act x.state o in record { state = y.after; past = event x.state.settings o y.reply x.past }

abbrev pub live : Life → List Order → Life
live x [] = x
live x (o ∷ os) = live (next x o) os
