-- The starts tried, in their order (01, The booking rule: "The start times tried are ..").
use Rattle.std.specs.Prelude.{List, [], ◌∷◌, Bool, false, ℕ, suc, ◌+◌, ◌/◌, ◌%◌, ◌^◌, leb, eqb}
use Rattle.numbers.specs.Case.{pick}
use Rattle.rule.specs.Moments.{last_moment}
use Rattle.rule.specs.Fit.{free}

-- a start, with the line that delays it; "Line 0 means undelayed."
pub record Start : Type 0 where
  pub line : ℕ
  pub moment : ℕ

-- "In the permitted lines, bit i - 1 stands for line i": bit i of m
abbrev pub bit : ℕ → ℕ → Bool
bit m i = eqb (m / 2 ^ i % 2) 1

-- whether the start that line i + 1 delays by d is tried: the line is permitted, and the channel, held for h ticks,
-- is free by the last moment ("A delayed start whose finish would pass the last moment is skipped")
abbrev pub tried : (r h m i d : ℕ) → Bool
tried r h m i d = pick (bit m i) (leb (free (r + d) h) last_moment) false

-- the delayed starts, from line i + 1 on, which has the first delay of the list
abbrev pub delayed : (r h m i : ℕ) → List ℕ → List Start
delayed r h m i [] = []
delayed r h m i (d ∷ ds) = pick (tried r h m i d) (record { line = suc i; moment = r + d } ∷ delayed r h m (suc i) ds) (delayed r h m (suc i) ds)

-- "r, then r + d for each permitted line in rising order"; "The undelayed start is always permitted."
abbrev pub starts : List ℕ → (r h m : ℕ) → List Start
starts delays r h m = record { line = 0; moment = r } ∷ delayed r h m 0 delays
