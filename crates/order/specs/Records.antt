-- Records (01, Records): what the bytes at the start of a buffer say, on plain lists of bytes.
-- This file knows nothing of the code; Read.antt joins the two.
use Rattle.std.specs.Prelude.{List, [], ◌∷◌, ℕ, zero, suc, ◌+◌, ◌*◌, leb, eqb, length}
use Rattle.numbers.specs.Case.{pick}
use Rattle.digits.specs.Digits.{field}
use Rattle.rule.specs.Order.{Order, booking, sweep}

-- what an opening says: "channels 1 byte, lines 1, leap 4, floor 6, then 4 for each delay"
pub record Opening : Type 0 where
  pub channels : ℕ
  pub delays : List ℕ
  pub leap : ℕ
  pub floor : ℕ

-- a record that cannot be read, with the code; or what it says, with its length
pub data Reading : Type 0 where
  unread : (code : ℕ) → Reading
  opening : (used : ℕ) → Opening → Reading
  order : (used : ℕ) → Order → Reading

-- code 11: "unknown mark, .. record cut short, or no byte at all": a record of n bytes must be there whole
abbrev pub whole : (n : ℕ) → List ℕ → Reading → Reading
whole n bytes x = pick (leb n (length bytes)) x (unread 11)

-- n delays of four bytes each, from the place i on
abbrev pub delays_at : (i n : ℕ) → List ℕ → List ℕ
delays_at i zero bytes = []
delays_at i (suc n) bytes = field i 4 bytes ∷ delays_at (i + 4) n bytes

-- the number of lines is the opening's second byte after the mark, and its length follows from it
unfoldable pub opening_of : List ℕ → Reading
opening_of bytes =
    whole (14 + 4 * field 3 1 bytes) bytes (opening (14 + 4 * field 3 1 bytes)
    (record { channels = field 2 1 bytes; delays = delays_at 14 (field 3 1 bytes) bytes; leap = field 4 4 bytes; floor = field 8 6 bytes }))

-- "arrival 6, length 4, permitted lines 2"
unfoldable pub booking_of : List ℕ → Reading
booking_of bytes = whole 14 bytes (order 14 (booking (field 2 6 bytes) (field 8 4 bytes) (field 12 2 bytes)))

-- "compact booking, no lines permitted": "arrival 6, length 2"
unfoldable pub compact_of : List ℕ → Reading
compact_of bytes = whole 10 bytes (order 10 (booking (field 2 6 bytes) (field 8 2 bytes) 0))

-- "moment 6"
unfoldable pub sweep_of : List ℕ → Reading
sweep_of bytes = whole 8 bytes (order 8 (sweep (field 2 6 bytes)))

-- "Each record begins with a two-byte mark": OL, OB, OC or OS
unfoldable pub by_mark : (mark : ℕ) → List ℕ → Reading
by_mark m bytes = pick (eqb m 0x4F4C) (opening_of bytes) (pick (eqb m 0x4F42) (booking_of bytes) (pick (eqb m 0x4F43) (compact_of bytes) (pick (eqb m 0x4F53) (sweep_of bytes) (unread 11))))

-- what the record at the start of the bytes says
unfoldable pub reading : List ℕ → Reading
reading bytes = whole 2 bytes (by_mark (field 0 2 bytes) bytes)

-- "Bytes used are the record's length, and 0 under .. 11"
abbrev pub used_by : Reading → ℕ
used_by (unread x) = 0
used_by (opening n o) = n
used_by (order n o) = n

-- for opening, "any mark but OL" is code 11 too
abbrev pub opening_only : Reading → Reading
opening_only (unread x) = unread x
opening_only (opening n o) = opening n o
opening_only (order n o) = unread 11
