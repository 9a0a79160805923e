-- What a link is opened with, and the table of bounds as one test (01, Bounds).
use Rattle.std.specs.Prelude.{List, [], ◌∷◌, Bool, true, false, ℕ, suc, ◌-◌, ◌^◌, leb, length}
use Rattle.numbers.specs.Case.{pick}

-- the most channels and the largest room
abbrev pub most_channels : ℕ
most_channels = 64

abbrev pub most_room : ℕ
most_room = 4096

-- the most delay lines
abbrev pub most_lines : ℕ
most_lines = 16

-- a delay, a burst's length and a leap are at most this
abbrev pub longest : ℕ
longest = 2 ^ 32 - 1

pub record Settings : Type 0 where
  pub channels : ℕ
  pub delays : List ℕ
  pub leap : ℕ
  pub room : ℕ

-- the settings of an opening, as its record and the caller name them
abbrev pub settings : (room channels leap : ℕ) → (delays : List ℕ) → Settings
settings room channels leap delays = record { channels = channels; delays = delays; leap = leap; room = room }

-- all the tests of a list hold
abbrev pub every : List Bool → Bool
every [] = true
every (b ∷ bs) = pick b (every bs) false

abbrev pub between : ℕ → ℕ → ℕ → Bool
between low high x = pick (leb low x) (leb x high) false

-- "delays 1 to 2^32 - 1, strictly rising": each is above d, the one before it
abbrev pub rising : ℕ → List ℕ → Bool
rising d [] = true
rising d (x ∷ xs) = pick (between (suc d) longest x) (rising x xs) false

-- a row for each line of the table but the burst's length, which each order brings (code 3, and its four bytes)
abbrev pub bounds : Settings → List Bool
bounds g =
    between 1 most_channels g.channels
    ∷ between 0 most_lines (length g.delays)
    ∷ rising 0 g.delays
    ∷ between 1 longest g.leap
    ∷ between g.channels most_room g.room
    ∷ []

abbrev pub in_bounds : Settings → Bool
in_bounds g = every (bounds g)
