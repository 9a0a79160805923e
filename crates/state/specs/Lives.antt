-- A link that lives: what every order keeps, of the voids and of the places. And what an order adds to what is held.
use Rattle.std.specs.Prelude.{◌≡◌, ℕ, ◌+◌, ◌≤◌}
use Rattle.rule.specs.Moments.{last_moment}
use Rattle.rule.specs.Settings.{Settings}
use Rattle.rule.specs.Fit.{hold, free}
use Rattle.rule.specs.Kept.{least}
use Rattle.rule.specs.Order.{Order, booking, sweep}
use Rattle.rule.specs.Answer.{Reply, booked, swept, refused}
use Rattle.shape.specs.Tree.{size}
use Rattle.state.specs.State.{State}
use Rattle.state.specs.Places.{Placed}
use Rattle.state.specs.History.{on}
use Rattle.state.specs.Bordered.{Kept}

-- F₀: where idle time starts; F and g: the floor and the settings now; H: what bookings hold
pub record Lives (F₀ F : ℕ) (g : Settings) (H : ℕ → ℕ → ℕ) (s : State) : Type 0 where
  pub kept : Kept F₀ (least s.floor) (least s.floor) g.channels H s.tree
  pub settings : s.settings ≡ g
  pub level : s.floor ≡ F
  pub floor : s.floor ≤ last_moment
  pub placed : Placed s
  pub within : size s.tree ≤ s.settings.room

-- what is held after an order and its reply
abbrev pub holds : Settings → Order → Reply → (ℕ → ℕ → ℕ) → ℕ → ℕ → ℕ
holds g (booking r l m) (booked d i b f) H c t = on c t d b (free b (hold g l)) + H c t
holds g (booking r l m) (swept n) H c t = H c t
holds g (booking r l m) (refused x) H c t = H c t
holds g (sweep moment) y H c t = H c t

-- the floor after it
abbrev pub levels : Order → Reply → ℕ → ℕ
levels (booking r l m) y floor = floor
levels (sweep moment) (booked c i r f) floor = floor
levels (sweep moment) (swept n) floor = moment
levels (sweep moment) (refused x) floor = floor
