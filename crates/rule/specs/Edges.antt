-- The starred lines of 01, On the edge, and those that 02 adds, as rows under a single claim, at the level of the definitions.
use Rattle.std.specs.Prelude.{◌≡◌, ◌↔◌, List, [], ◌∷◌, ℕ, ◌-◌, ◌^◌}
use Rattle.rule.specs.Moments.{open_end, last_moment}
use Rattle.rule.specs.Settings.{Settings}
use Rattle.rule.specs.Fit.{Fits}
use Rattle.rule.specs.Starts.{starts}
use Rattle.rule.specs.Voids.{Void, Meaning, Same}
use Rattle.rule.specs.Order.{Order, booking, sweep}
use Rattle.rule.specs.Answer.{Reply, booked, swept, refused}
use Rattle.rule.specs.Rule.{Rule}
use Rattle.rule.specs.Height.{Allowed}
use Rattle.rule.specs.Left.{void}

-- ---- links to speak of: leap 1000, floor 0
abbrev pub settings : (channels : ℕ) → List ℕ → (room : ℕ) → Settings
settings channels delays room = record { channels = channels; delays = delays; leap = 1000; room = room }

abbrev pub at : (floor : ℕ) → Settings → List Void → Meaning
at floor g vs = record { settings = g; floor = floor; voids = vs }

abbrev pub link : Settings → List Void → Meaning
link g vs = at 0 g vs

-- the rule lets the order have the reply y and leave N, and no other reply and no other meaning
pub record Answers (M : Meaning) (o : Order) (y : Reply) (N : Meaning) : Type 0 where
  pub rule : Rule M o y N
  pub only : (z : Reply) (N' : Meaning) → Rule M o z N' → (y ≡ z) × Same N N'

-- ---- the claim
-- two channels with a void from 3 up to 20 each; the same with the second from 4 on
abbrev pub alike : Meaning
alike = link (settings 2 [] 4) (void 0 3 20 ∷ void 1 3 20 ∷ [])

abbrev pub later : Meaning
later = link (settings 2 [] 4) (void 1 4 20 ∷ void 0 3 20 ∷ [])

-- one channel as it is opened, with this room
abbrev pub opened : (room : ℕ) → Meaning
opened room = link (settings 1 [] room) (void 0 0 open_end ∷ [])

-- three channels whose voids end at 10, 11 and 12
abbrev pub three : Meaning
three = link (settings 3 [] 4) (void 0 0 10 ∷ void 1 0 11 ∷ void 2 0 12 ∷ [])

-- one channel, idle from 3 on, with room 1 and this floor
abbrev pub since : (floor : ℕ) → Meaning
since floor = at floor (settings 1 [] 1) (void 0 3 open_end ∷ [])

-- one channel, idle from 18 on, with delays 5 and 9
abbrev pub delays : Meaning
delays = link (settings 1 (5 ∷ 9 ∷ []) 4) (void 0 18 open_end ∷ [])

pub record OnTheEdge : Type 0 where
  pub exact_fit : Fits 5 9 5 9 × (¬ (Fits 5 9 5 10)) × (¬ (Fits 6 9 5 9))
  pub last_moment : Answers (opened 2) (booking (2 ^ 48 - 2) 1 0) (booked 0 0 (2 ^ 48 - 2) last_moment) (link (settings 1 [] 2) (void 0 0 (2 ^ 48 - 2) ∷ void 0 last_moment open_end ∷ []))
  pub past_the_last_moment : Answers (opened 2) (booking (2 ^ 48 - 1) 1 0) (refused 6) (opened 2)
  pub equal_starts : Answers alike (booking 4 4 0) (booked 0 0 4 8) (link (settings 2 [] 4) (void 1 3 20 ∷ void 0 3 4 ∷ void 0 8 20 ∷ []))
  pub later_start : Answers later (booking 4 4 0) (booked 1 0 4 8) (link (settings 2 [] 4) (void 0 3 20 ∷ void 1 8 20 ∷ []))
  -- with 02, K3: "the sweep to 11 also drops (0,11)"
  pub sweep_drops : Answers three (sweep 11) (swept 2) (at 11 (settings 3 [] 4) (void 2 0 12 ∷ []))
  -- K3: "a booking that starts at the floor keeps no piece in front of it", and "Code 8 counts only the pieces kept"
  pub front_at_the_floor : Answers (since 10) (booking 10 5 0) (booked 0 0 10 15) (at 10 (settings 1 [] 1) (void 0 15 open_end ∷ [])) × Answers (since 9) (booking 10 5 0) (refused 8) (since 9)
  pub leap : Answers (opened 1) (sweep 1000) (swept 0) (at 1000 (settings 1 [] 1) (void 0 0 open_end ∷ [])) × Answers (opened 1) (sweep 1001) (refused 10) (opened 1)
  pub full_room : Answers (opened 1) (booking 10 5 0) (refused 8) (opened 1) × Answers (opened 1) (booking 0 5 0) (booked 0 0 0 5) (link (settings 1 [] 1) (void 0 5 open_end ∷ []))
  pub both_delays : starts (5 ∷ 9 ∷ []) 10 1 3 ≡ record { line = 0; moment = 10 } ∷ record { line = 1; moment = 15 } ∷ record { line = 2; moment = 19 } ∷ []
  pub second_line : Answers delays (booking 10 1 3) (booked 0 2 19 20) (link (settings 1 (5 ∷ 9 ∷ []) 4) (void 0 18 19 ∷ void 0 20 open_end ∷ []))
  -- 0 for m 1, 2 for m 3, 4 for m 4, and no more
  pub heights : ((h : ℕ) → Allowed 1 h ↔ (h ≡ 0)) × ((h : ℕ) → Allowed 3 h ↔ (h ≡ 2)) × ((h : ℕ) → Allowed 4 h ↔ (h ≡ 4))
