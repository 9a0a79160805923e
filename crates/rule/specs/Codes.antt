-- The codes 3 to 10 in their order (01, What comes back): a table for bookings, one for what a choice comes to, one
-- for sweeps. The code is that of the first row whose test holds, and 0 if none does.
use Rattle.std.specs.Prelude.{List, [], ◌∷◌, Bool, false, ℕ, ◌+◌, ◌/◌, ◌^◌, leb, ltb, eqb, length}
use Rattle.numbers.specs.Case.{pick}
use Rattle.rule.specs.Moments.{last_moment}
use Rattle.rule.specs.Settings.{Settings}
use Rattle.rule.specs.Fit.{hold, free}
use Rattle.rule.specs.Choice.{Choice, nothing, taken}
use Rattle.rule.specs.Kept.{pieces}
use Rattle.rule.specs.Answer.{Reply, booked, refused}

abbrev pub first_code : List (Bool × ℕ) → ℕ
first_code [] = 0
first_code (x ∷ xs) = pick x.0 x.1 (first_code xs)

-- "a bit is set for a line that the link lacks": of n lines, and then the bits from n on are not all 0
abbrev pub lacked : (n m : ℕ) → Bool
lacked n m = leb 1 (m / 2 ^ n)

-- a booking of arrival r, length l, permitted lines m
abbrev pub booking_code : Settings → (floor r l m : ℕ) → ℕ
booking_code g floor r l m = first_code ((eqb l 0, 3) ∷ (ltb r floor, 4) ∷ (lacked (length g.delays) m, 5) ∷ (ltb last_moment (free r (hold g l)), 6) ∷ [])

abbrev pub sweep_code : Settings → (floor moment : ℕ) → ℕ
sweep_code g floor moment = first_code ((ltb moment floor, 9) ∷ (ltb (floor + g.leap) moment, 10) ∷ [])

-- "the void taken leaves two pieces and the room is full", with n voids kept; the void is from s up to e, and its
-- channel held from r up to f
abbrev pub too_many : Settings → (floor n r f s e : ℕ) → Bool
too_many g floor n r f s e = pick (eqb (pieces floor s e r f) 2) (leb g.room n) false

-- what a choice comes to: 7, 8, or the booking
abbrev pub chosen_reply : Settings → (floor n l : ℕ) → Choice → Reply
chosen_reply g floor n l nothing = refused 7
chosen_reply g floor n l (taken i r c s e) = pick (too_many g floor n r (free r (hold g l)) s e) (refused 8) (booked c i r (r + l))
