-- The state that an accepted opening makes: "At opening with floor F each channel has one void (F, open end)" (01).
-- Channel 0 first: its void is the whole tree, and all places but the root's are spare. Then a void more for each further channel.
use Rattle.std.specs.Prelude.{List, [], ◌∷◌, ℕ, zero, suc, ◌+◌}
use Rattle.rule.specs.Moments.{open_end}
use Rattle.rule.specs.Settings.{Settings}
use Rattle.rule.specs.Key.{key_of}
use Rattle.shape.specs.Tree.{leaf}
use Rattle.state.specs.State.{State, add}

-- n places, from p on
abbrev pub up_from : (p n : ℕ) → List ℕ
up_from p zero = []
up_from p (suc n) = p ∷ up_from (p + 1) n

abbrev pub with_channels : Settings → ℕ → Settings
with_channels g c = record { channels = c; delays = g.delays; leap = g.leap; room = g.room }

-- one channel more: its number is that of the channels before it
unfoldable pub widen : State → State
widen s = add (record { settings = with_channels s.settings (s.settings.channels + 1); floor = s.floor; tree = s.tree; spares = s.spares }) (key_of s.floor s.settings.channels) open_end

-- one channel
abbrev pub single : Settings → (floor : ℕ) → State
single g floor = record { settings = with_channels g 1; floor = floor; tree = leaf (key_of floor 0) open_end; spares = up_from 1 g.room }

-- n channels more
abbrev pub widened : (n : ℕ) → State → State
widened zero s = s
widened (suc n) s = widened n (widen s)

-- the channels of the settings, which have at least one
abbrev pub fewer : ℕ → ℕ
fewer zero = zero
fewer (suc n) = n

abbrev pub fresh : Settings → (floor : ℕ) → State
fresh g floor = widened (fewer g.channels) (single g floor)
