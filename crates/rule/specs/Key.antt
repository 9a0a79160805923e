-- The packed key: "from left to right by rising start, equal starts by falling channel" (01, The tree and its visits)
-- is plain rising order of one number.
use Rattle.std.specs.Prelude.{◌≡◌, ◌⊎◌, ℕ, ◌+◌, ◌*◌, ◌-◌, ◌/◌, ◌%◌, ◌^◌, ◌≤◌, ◌<◌}
use Rattle.std.proofs.Common.{inl, inr, arith}
use Rattle.numbers.specs.Case.{case_le}
use Rattle.rule.specs.Moments.{open_end}

-- the keys of one tick: as many as channels that a link may ever have (02, K9), so that more channels need no new layout
abbrev pub per_tick : ℕ
per_tick = 1024

abbrev pub key_of : (start channel : ℕ) → ℕ
key_of s c = s * per_tick + (per_tick - 1 - c)

abbrev pub start_of : (key : ℕ) → ℕ
start_of k = k / per_tick

abbrev pub channel_of : (key : ℕ) → ℕ
channel_of k = per_tick - 1 - k % per_tick

-- a key is that of its start and channel
pub key_is : (k : ℕ) → k ≡ key_of (start_of k) (channel_of k)
key_is k = omega arith

pub start_of_key : (s c : ℕ) → start_of (key_of s c) ≡ s
start_of_key s c = omega arith

pub channel_of_key : (s c : ℕ) → c < per_tick → channel_of (key_of s c) ≡ c
channel_of_key s c h = omega arith

-- keys rise with the start, and at equal starts with a falling channel
pub key_order : (j k : ℕ) → j ≤ k → (start_of j < start_of k) ⊎ ((start_of j ≡ start_of k) × (channel_of k ≤ channel_of j))
key_order j k h = elim (case_le (start_of k) (start_of j)) [ inl y ↦ inr (omega arith) | inr y ↦ inl y.0 ]

pub key_later : (s t c d : ℕ) → s < t → key_of s c < key_of t d
key_later s t c d h = omega arith

pub key_lower : (s c d : ℕ) → d < c → c < per_tick → key_of s c < key_of s d
key_lower s c d h i = omega arith

-- "at or before r" is one comparison of keys
pub key_before : (k r : ℕ) → k < (r + 1) * per_tick → start_of k ≤ r
key_before k r h = omega arith

pub key_after : (k r : ℕ) → (r + 1) * per_tick ≤ k → r < start_of k
key_after k r h = omega arith

pub key_fits : (s c : ℕ) → s < open_end → key_of s c < 2 ^ 58
key_fits s c h = omega arith
