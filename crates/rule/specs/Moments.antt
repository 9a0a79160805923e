-- Moments (01, What a link is). The one place that has 2^48.
use Rattle.std.specs.Prelude.{ℕ, ◌-◌, ◌^◌}

-- "The open end is the number 2^48."
abbrev pub open_end : ℕ
open_end = 2 ^ 48

-- "A moment is a whole number of ticks from 0 to 2^48 - 1; the last is called the last moment."
abbrev pub last_moment : ℕ
last_moment = open_end - 1
