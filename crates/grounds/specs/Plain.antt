-- Demand 2 in three sentences, as they follow from the rule (Right.antt): what a booking is, and when exactly 7 and 8 are said.
-- 01, codes: "nothing fits at any start tried"; "the void taken leaves two pieces and the room is full; no other void is tried".
use Rattle.std.specs.Prelude.{◌≡◌, ◌↔◌, List, ℕ, ◌+◌, get_or}
use Rattle.rule.specs.Settings.{Settings}
use Rattle.rule.specs.Fit.{hold}
use Rattle.rule.specs.Starts.{Start, starts}
use Rattle.rule.specs.Voids.{Voids}
use Rattle.rule.specs.Choice.{taken, Chosen}
use Rattle.rule.specs.Order.{Order, booking, sweep}
use Rattle.rule.specs.Codes.{booking_code}
use Rattle.state.specs.Exact.{NothingFits}
use Rattle.state.specs.History.{Event, floor_of, Stretches}

-- the gap from .. to of the channel answered is the one taken: Min-SV at the first of the starts xs that has a fit
pub record Fitted (W : Voids) (h l : ℕ) (xs : List Start) (numbers : List ℕ) : Type 0 where
  pub from : ℕ
  pub to : ℕ
  pub chosen : Chosen W h xs (taken (get_or numbers 2 0) (get_or numbers 3 0) (get_or numbers 1 0) from to)
  pub finish : get_or numbers 4 0 ≡ get_or numbers 3 0 + l

-- ---- each order of a call
pub record Plainly (g : Settings) (F : ℕ) (past : List Event) (r l p : ℕ) (a : List ℕ) : Type 0 where
  pub accepted : get_or a 0 0 ≡ 0 → Fitted (Stretches F g.channels past) (hold g l) l (starts g.delays r (hold g l) p) a
  -- refused by none of the codes 3 to 6, and no gap on any channel fits at any start tried
  pub seven : (get_or a 0 0 ≡ 7) ↔ ((booking_code g (floor_of F past) r l p ≡ 0) × NothingFits (Stretches F g.channels past) g r l p)

abbrev pub Plain : Settings → (F : ℕ) → List Event → Order → (numbers : List ℕ) → Type 0
Plain g F past (booking r l p) a = Plainly g F past r l p a
Plain g F past (sweep moment) a = Unit {0}
