-- The session that 01 gives in full, by computing: the opening, each order's seven numbers but the count, and the voids kept.
-- 01, A session in full: "for order n `n B channel line start finish`, `n S dropped` or `n R code`; last `E` and the voids kept."
use Rattle.std.specs.Prelude.{◌≡◌, refl, List, [], ◌∷◌, ◌++◌, ℕ, length, get_or}
use Rattle.digits.specs.Digits.{goes_on, digits}
use Rattle.tally.specs.declared.Tally.{Tally}
use Rattle.rule.specs.Settings.{Settings, settings}
use Rattle.rule.specs.Fit.{hold}
use Rattle.rule.specs.Kept.{least}
use Rattle.tally.specs.Counts.{counts, up, raised}
use Rattle.order.specs.Records.{opening, opening_of, booking_of, compact_of, sweep_of, by_mark, reading}
use Rattle.shape.specs.Tree.{size}
use Rattle.shape.specs.Arrange.{insert, set_end, balance, turn, twice, remove, less}
use Rattle.shape.specs.Clear.{hang, join, clear, freed}
use Rattle.state.specs.State.{shorten, add, drop}
use Rattle.state.specs.Act.{split, cleared}
use Rattle.state.specs.Open.{widen, fresh}
use Rattle.memory.specs.Header.{need}
use Rattle.opening.specs.Opening.{opening_code}
use Rattle.running.specs.Run.{Ran, run_on}

-- OL with 2 channels, 1 line, leap 1000, floor 0, delay 5
abbrev first : List ℕ
first = 0x4F ∷ 0x4C ∷ 0x02 ∷ 0x01 ∷ 0x00 ∷ 0x00 ∷ 0x03 ∷ 0xE8 ∷ 0 ∷ 0 ∷ 0 ∷ 0 ∷ 0 ∷ 0 ∷ 0 ∷ 0 ∷ 0 ∷ 5 ∷ []

abbrev OB : ℕ → ℕ → ℕ → List ℕ
OB r l m = 0x4F ∷ 0x42 ∷ 0 ∷ 0 ∷ 0 ∷ 0 ∷ 0 ∷ r ∷ 0 ∷ 0 ∷ 0 ∷ l ∷ 0 ∷ m ∷ []

abbrev OC : ℕ → ℕ → List ℕ
OC r l = 0x4F ∷ 0x43 ∷ 0 ∷ 0 ∷ 0 ∷ 0 ∷ 0 ∷ r ∷ 0 ∷ l ∷ []

abbrev OS : ℕ → List ℕ
OS x = 0x4F ∷ 0x53 ∷ 0 ∷ 0 ∷ 0 ∷ 0 ∷ 0 ∷ x ∷ []

abbrev orders : List ℕ
orders = OB 10 5 0 ++ (OB 12 2 0 ++ (OB 14 3 0 ++ (OB 15 4 1 ++ (OB 16 1 1 ++ (OB 16 1 0 ++ (OS 11 ++ (OB 9 1 0 ++ (OC 19 2 ++ OS 10))))))))

abbrev link : Settings
link = settings 256 2 1000 (5 ∷ [])

abbrev empty : Tally
empty = record { bookings = 0; sweeps = 0; code3 = 0; code4 = 0; code5 = 0; code6 = 0; code7 = 0; code8 = 0; code9 = 0; code10 = 0 }

abbrev ran : Ran
ran = run_on (fresh link 0) empty 70 orders

-- without the count: code, channel, line, start, finish, dropped
abbrev plain : List (List ℕ) → List (List ℕ)
plain [] = []
plain (x ∷ xs) = (get_or x 0 0 ∷ get_or x 1 0 ∷ get_or x 2 0 ∷ get_or x 3 0 ∷ get_or x 4 0 ∷ get_or x 6 0 ∷ []) ∷ plain xs

-- 0 L 2 1
pub session_opens : reading (first ++ orders) ≡ opening 18 (record { channels = 2; delays = 5 ∷ []; leap = 1000; floor = 0 })
unfolding reading by_mark opening_of digits goes_on
session_opens = refl

pub session_accepted : opening_code link (need 256) ≡ 0
session_accepted = refl

-- 1 B 0 0 10 15, .. 10 R 9
pub session_answers : plain ran.answers ≡ (0 ∷ 0 ∷ 0 ∷ 10 ∷ 15 ∷ 0 ∷ []) ∷ (0 ∷ 1 ∷ 0 ∷ 12 ∷ 14 ∷ 0 ∷ []) ∷ (0 ∷ 1 ∷ 0 ∷ 14 ∷ 17 ∷ 0 ∷ [])
    ∷ (0 ∷ 0 ∷ 0 ∷ 15 ∷ 19 ∷ 0 ∷ []) ∷ (0 ∷ 0 ∷ 1 ∷ 21 ∷ 22 ∷ 0 ∷ []) ∷ (7 ∷ 0 ∷ 0 ∷ 0 ∷ 0 ∷ 0 ∷ []) ∷ (0 ∷ 0 ∷ 0 ∷ 0 ∷ 0 ∷ 1 ∷ [])
    ∷ (4 ∷ 0 ∷ 0 ∷ 0 ∷ 0 ∷ 0 ∷ []) ∷ (0 ∷ 0 ∷ 0 ∷ 19 ∷ 21 ∷ 0 ∷ []) ∷ (9 ∷ 0 ∷ 0 ∷ 0 ∷ 0 ∷ 0 ∷ []) ∷ []
unfolding reading by_mark booking_of compact_of sweep_of digits goes_on hold least split shorten add drop widen insert set_end balance turn twice remove less cleared clear freed join hang
session_answers = refl

-- E 3, and the whole run answered; six bookings, a sweep, and one each of the codes 4, 7 and 9
pub session_ends : (ran.code ≡ 0) × (ran.place ≡ length orders) × (size ran.state.tree ≡ 3) × (counts ran.tally ≡ 6 ∷ 1 ∷ 0 ∷ 1 ∷ 0 ∷ 0 ∷ 1 ∷ 0 ∷ 1 ∷ 0 ∷ [])
unfolding reading by_mark booking_of compact_of sweep_of digits goes_on hold least split shorten add drop widen insert set_end balance turn twice remove less cleared clear freed join hang raised up
session_ends = (refl, refl, refl, refl)
