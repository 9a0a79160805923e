-- When a void fits a burst (01, The booking rule), and for how long a burst holds its channel.
use Rattle.std.specs.Prelude.{Bool, false, ℕ, ◌+◌, ◌≤◌, leb}
use Rattle.std.proofs.Common.{arith}
use Rattle.numbers.specs.Case.{pick}
use Rattle.rule.specs.Settings.{Settings}

-- "A burst with arrival r and length l occupies r up to but not at f = r + l": for how many ticks a burst of length l
-- holds its channel. Shut: nothing but the two laws below and `free` may know what it is (02, K10 adds a guard).
unfoldable pub hold : Settings → ℕ → ℕ
hold g l = l

pub hold_least : (g : Settings) (l : ℕ) → l ≤ hold g l
unfolding hold
hold_least g l = omega arith

-- when a channel is free again that is held from r on for h ticks
abbrev pub free : ℕ → ℕ → ℕ
free r h = r + h

-- "A void fits (r, f) exactly if s <= r and f <= e"
abbrev pub Fits : (s e r f : ℕ) → Type 0
Fits s e r f = (s ≤ r) × (f ≤ e)

-- the same as a test
abbrev pub fits : (s e r f : ℕ) → Bool
fits s e r f = pick (leb s r) (leb f e) false
