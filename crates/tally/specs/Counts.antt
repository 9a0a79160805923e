-- The tally (01, What comes back: "The tally is a small record .."): its rows, and which row a reply raises.
use Rattle.std.specs.Prelude.{List, [], ◌∷◌, ℕ, ◌+◌, ◌-◌, ◌^◌, eqb}
use Rattle.numbers.specs.Case.{pick}
use Rattle.rule.specs.Order.{Order, booking, sweep}
use Rattle.rule.specs.Answer.{Reply, booked, swept, refused}
use Rattle.tally.specs.declared.Tally.{Tally}
use Rattle.tally.specs.declared.rows.Row.{Row}
use Rattle.tally.specs.declared.rows.Row.TheVariants.{Bookings, Sweeps, Code3, Code4, Code5, Code6, Code7, Code8, Code9, Code10}

-- "one count for bookings, one for sweeps, one for each of codes 3 to 10", in this order
abbrev pub rows : ℕ
rows = 10

abbrev pub counts : Tally → List ℕ
counts t =
    t.bookings
    ∷ t.sweeps
    ∷ t.code3
    ∷ t.code4
    ∷ t.code5
    ∷ t.code6
    ∷ t.code7
    ∷ t.code8
    ∷ t.code9
    ∷ t.code10
    ∷ []

-- the place of a row among the counts
abbrev pub index_of : Row → ℕ
index_of Bookings = 0
index_of Sweeps = 1
index_of Code3 = 2
index_of Code4 = 3
index_of Code5 = 4
index_of Code6 = 5
index_of Code7 = 6
index_of Code8 = 7
index_of Code9 = 8
index_of Code10 = 9

-- the row that a reply raises
abbrev pub row_of : Reply → ℕ
row_of (booked c i r f) = 0
row_of (swept d) = 1
row_of (refused x) = x - 1

-- "one count for bookings, one for sweeps": the row of an order that is accepted
abbrev pub row_if : Order → ℕ
row_if (booking r l p) = 0
row_if (sweep moment) = 1

-- the tally's row of an answer with this code, of an order that if accepted is counted in the row given
abbrev pub row_at : (code accepted : ℕ) → ℕ
row_at code accepted = pick (eqb code 0) accepted (code - 1)

-- "a count at 2^64 - 1 stays there"
abbrev pub highest : ℕ
highest = 2 ^ 64 - 1

unfoldable pub up : ℕ → ℕ
up n = pick (eqb n highest) n (n + 1)

-- the count of the row k, where the row raised is i
abbrev pub at : (i k n : ℕ) → ℕ
at i k n = pick (eqb i k) (up n) n

-- "An order acted on raises exactly one count": the tally with its row i raised
unfoldable pub raised : Tally → (i : ℕ) → Tally
raised t i = record {
  bookings = at i 0 t.bookings;
  sweeps = at i 1 t.sweeps;
  code3 = at i 2 t.code3;
  code4 = at i 3 t.code4;
  code5 = at i 4 t.code5;
  code6 = at i 5 t.code6;
  code7 = at i 6 t.code7;
  code8 = at i 7 t.code8;
  code9 = at i 8 t.code9;
  code10 = at i 9 t.code10;
}

-- the sum of a tally's counts
abbrev pub sum : List ℕ → ℕ
sum [] = 0
sum (n ∷ ns) = n + sum ns
