-- `Line::spell`: the line, piece after piece from its end on. Assumes nothing.
use native.Mathlib.Omega.{arith}
use Rattle.std.proofs.lemmas.List.{drop_all}
use Rattle.lines.proofs.Spelt.{opening_spelt, booking_spelt, sweep_spelt, refusal_spelt, kept_spelt}
use Rattle.lines.proofs.Line.spell.Goals as goal

pub returns-in-Opening : goal.returns-in-Opening
returns-in-Opening c = (omega (arith, c.head.ensures.0, c.number-a.ensures.1, c.number-b.ensures.1, c.byte-end.ensures.0), rw (c.in-Opening.is, c.head.ensures.1, c.number-a.ensures.2, c.number-b.ensures.2, c.byte-end.ensures.1, drop_all 128 c.args.text.now (omega (arith, c.requires))) (opening_spelt _ _))

pub returns-in-Booking : goal.returns-in-Booking
returns-in-Booking c = (omega (arith, c.head-in-Booking.ensures.0, c.number-a-in-Booking.ensures.1, c.number-b-in-Booking.ensures.1, c.number-c.ensures.1, c.number-d.ensures.1, c.byte-end.ensures.0), rw (c.in-Booking.is, c.head-in-Booking.ensures.1, c.number-a-in-Booking.ensures.2, c.number-b-in-Booking.ensures.2, c.number-c.ensures.2, c.number-d.ensures.2, c.byte-end.ensures.1, drop_all 128 c.args.text.now (omega (arith, c.requires))) (booking_spelt _ _ _ _ _))

pub returns-in-Sweep : goal.returns-in-Sweep
returns-in-Sweep c = (omega (arith, c.head-in-Sweep.ensures.0, c.number-a-in-Sweep.ensures.1, c.byte-end.ensures.0), rw (c.in-Sweep.is, c.head-in-Sweep.ensures.1, c.number-a-in-Sweep.ensures.2, c.byte-end.ensures.1, drop_all 128 c.args.text.now (omega (arith, c.requires))) (sweep_spelt _ _))

pub returns-in-Refusal : goal.returns-in-Refusal
returns-in-Refusal c = (omega (arith, c.head-in-Refusal.ensures.0, c.number-a-in-Refusal.ensures.1, c.byte-end.ensures.0), rw (c.in-Refusal.is, c.head-in-Refusal.ensures.1, c.number-a-in-Refusal.ensures.2, c.byte-end.ensures.1, drop_all 128 c.args.text.now (omega (arith, c.requires))) (refusal_spelt _ _))

pub returns-in-Kept : goal.returns-in-Kept
returns-in-Kept c = (omega (arith, c.byte.ensures.0, c.number-a-in-Kept.ensures.1, c.byte-end.ensures.0), rw (c.in-Kept.is, c.byte.ensures.1, c.number-a-in-Kept.ensures.2, c.byte-end.ensures.1, drop_all 128 c.args.text.now (omega (arith, c.requires))) (kept_spelt _))
