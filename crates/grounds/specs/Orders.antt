-- The orders in a byte string, and what they come to one after the other on a state: the words in which a run is told.
-- 01, What comes back: "act on a run of records, writing seven 64-bit numbers for each (code, channel, line, start, finish, count, dropped)".
use Rattle.std.specs.Prelude.{◌≡◌, List, [], ◌∷◌, ℕ, zero, suc, get_or, take, drop}
use Rattle.tally.specs.declared.Tally.{Tally}
use Rattle.rule.specs.Order.{Order}
use Rattle.rule.specs.Answer.{seven}
use Rattle.tally.specs.Counts.{row_of, row_if, row_at, raised}
use Rattle.order.specs.Records.{Opening, unread, opening, order, reading}
use Rattle.state.specs.State.{State}
use Rattle.state.specs.Act.{act}

-- the first n orders of the bytes
abbrev pub orders_in : (n : ℕ) → List ℕ → List Order
orders_in zero bytes = []
orders_in (suc n) bytes = elim (reading bytes) [ unread x ↦ [] | opening used p ↦ [] | order used o ↦ o ∷ orders_in n (drop used bytes) ]

-- orders one after the other: the seven numbers of each, the state after them, and the tally
abbrev pub sevens : State → List Order → List (List ℕ)
sevens s [] = []
sevens s (o ∷ os) = seven (act s o).reply (act s o).count ∷ sevens (act s o).after os

abbrev pub after : State → List Order → State
after s [] = s
after s (o ∷ os) = after (act s o).after os

abbrev pub tallied : State → Tally → List Order → Tally
tallied s t [] = t
tallied s t (o ∷ os) = tallied (act s o).after (raised t (row_of (act s o).reply)) os

-- the tally after orders and their seven numbers, one after the other: "An order acted on raises exactly one count"
abbrev pub counted : Tally → List Order → (numbers : List ℕ) → Tally
counted t [] a = t
counted t (o ∷ os) a = counted (raised t (row_at (get_or (take 7 a) 0 0) (row_if o))) os (drop 7 a)

-- ---- the first record of the bytes: an order, or none
pub orders_one : (n : ℕ) (bytes : List ℕ) (used : ℕ) (o : Order) → reading bytes ≡ order used o → orders_in (suc n) bytes ≡ o ∷ orders_in n (drop used bytes)
orders_one n bytes used o q = rw (q, orders_in)

pub orders_unread : (n : ℕ) (bytes : List ℕ) (x : ℕ) → reading bytes ≡ unread x → orders_in (suc n) bytes ≡ []
orders_unread n bytes x q = rw (q, orders_in)

pub orders_opening : (n : ℕ) (bytes : List ℕ) (used : ℕ) (p : Opening) → reading bytes ≡ opening used p → orders_in (suc n) bytes ≡ []
orders_opening n bytes used p q = rw (q, orders_in)
