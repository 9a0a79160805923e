-- What the reader's answer, an enum, says in 01's numbers and values, and what its contract promises.
use Rattle.std.specs.Prelude.{◌≡◌, List, Result, Ok, Err, ℕ, ◌+◌, ◌*◌, ◌^◌, ◌≤◌, ◌<◌, leb, length, take}
use Rattle.numbers.specs.Case.{pick}
use Rattle.digits.specs.Digits.{field}
use Rattle.rule.specs.Settings.{longest}
use Rattle.rule.specs.Order.{booking, sweep}
use Rattle.order.specs.declared.Record.{Record}
use Rattle.order.specs.declared.Record.TheVariants.{Opening, Booking, Sweep}
use Rattle.order.specs.declared.Unread.{Unread}
use Rattle.order.specs.Records.{Reading, unread, opening, order, delays_at, reading, used_by, opening_only}

-- each case in 01's values; an opening's delays stay in its bytes. What is no record is refused by 11
abbrev pub meant : List ℕ → Result Record Unread → Reading
meant bytes (Ok (Opening channels lines leap floor used)) = opening used (record { channels = channels; delays = delays_at 14 lines bytes; leap = leap; floor = floor.ticks })
meant bytes (Ok (Booking arrival length lines used)) = order used (booking arrival.ticks length lines)
meant bytes (Ok (Sweep moment used)) = order used (sweep moment.ticks)
meant bytes (Err _) = unread 11

-- how large the values can be that are no moments: as wide as their fields; and an opening's length
abbrev pub Narrow : Result Record Unread → Type 0
Narrow (Ok (Opening channels lines leap floor used)) = (channels < 256) × (lines < 256) × (leap ≤ longest) × (used ≡ 14 + 4 * lines)
Narrow (Ok (Booking arrival length lines used)) = (length ≤ longest) × (lines < 2 ^ 16)
Narrow (Ok (Sweep _ _)) = Unit
Narrow (Err _) = Unit

-- what `read` promises of its answer r to these bytes
pub record Reads (bytes : List ℕ) (r : Result Record Unread) : Type 0 where
  pub is : meant bytes r ≡ reading bytes
  pub narrow : Narrow r
  pub inside : used_by (reading bytes) ≤ length bytes
  -- "bytes after the record are not read": whoever begins with the same record is read alike
  pub alone : (other : List ℕ) → 1 ≤ used_by (reading bytes) → take (used_by (reading bytes)) bytes ≡ take (used_by (reading bytes)) other → reading other ≡ reading bytes

-- what `read_opening` promises of its answer r to these bytes
pub record ReadsOpening (bytes : List ℕ) (r : Result Record Unread) : Type 0 where
  pub is : meant bytes r ≡ opening_only (reading bytes)
  pub narrow : Narrow r
  pub inside : used_by (opening_only (reading bytes)) ≤ length bytes
  pub alone : (other : List ℕ) → 1 ≤ used_by (reading bytes) → take (used_by (reading bytes)) bytes ≡ take (used_by (reading bytes)) other → reading other ≡ reading bytes

-- the delay of line i + 1 in an opening, 0 where the bytes do not reach so far
unfoldable pub delay_of : (i : ℕ) → List ℕ → ℕ
delay_of i bytes = pick (leb 256 i) 0 (pick (leb (14 + 4 * i + 4) (length bytes)) (field (14 + 4 * i) 4 bytes) 0)
