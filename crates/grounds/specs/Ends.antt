-- What an opening answers, and what ends a run, by the bytes at hand: the words in which promise's Ends.antt says it.
-- 01, What comes back: the codes 1, 11 and 12, and "A run returns the code that ended it (0 at its end), that place .. and the number of records answered."
use Rattle.std.specs.Prelude.{◌≡◌, Bool, List, ℕ, zero, suc, ◌+◌, leb, drop}
use Rattle.numbers.specs.Case.{pick}
use Rattle.rule.specs.Settings.{settings, in_bounds}
use Rattle.order.specs.Records.{Reading, unread, opening, order, reading}

-- "for opening 11 then 1": the code, and the bytes used, "the record's length, and 0 under 1, 2 and 11", in memory that is long enough or not
abbrev pub opens_with : (room : ℕ) → (enough : Bool) → Reading → ℕ × ℕ
opens_with room b (unread x) = (x, 0)
opens_with room b (order used o) = (11, 0)
opens_with room b (opening used p) = pick (in_bounds (settings room p.channels p.leap p.delays)) (pick b (0, used) (1, 0)) (1, 0)

-- the lengths of the first n records of the bytes, which are orders, added up
abbrev pub bytes_of : (n : ℕ) → List ℕ → ℕ
bytes_of zero bytes = 0
bytes_of (suc n) bytes = elim (reading bytes) [ unread x ↦ 0 | opening used p ↦ 0 | order used o ↦ used + bytes_of n (drop used bytes) ]

-- the code of a record that is no order: "unknown mark, .. OL in a run or as a single order, record cut short, or no byte at all"
abbrev pub NoOrder : Reading → (code : ℕ) → Type 0
NoOrder (unread x) code = code ≡ x
NoOrder (opening used p) code = code ≡ 11
NoOrder (order used o) code = ⊥

-- what ends a run where so many bytes are left, which read so, and the slice still takes so many numbers: its end; 12, "bytes remain and fewer
-- than seven numbers of room"; or a record that is no order
abbrev pub EndsWith : (left : ℕ) → Reading → (room code : ℕ) → Type 0
EndsWith zero z room code = code ≡ 0
EndsWith (suc n) z room code = pick (leb 7 room) (NoOrder z code) (code ≡ 12)
