use mathlib.Core.Path.{refl}
use native.Mathlib.Omega.{arith}
use Rattle.std.proofs.Common.{rules}
use Rattle.booking.proofs.Booking.{refused_early, nothing_fits, free_low, finish_low, no_room, split_pre, done}
use Rattle.booking.proofs.book.Goals as goal

pub returns-in_err-check_booking-clause-books : goal.returns-in_err-check_booking-clause-books
returns-in_err-check_booking-clause-books c = refused_early _ c.args.arrival.ticks c.args.burst c.args.permitted _ _ _ c.floor-floor.ensures c.get-lines.ensures c.check_booking.ensures c.in_err-check_booking.field-0.0 (search rules) c.from_residual.result (search rules)

pub returns-in_default-clause-books : goal.returns-in_default-clause-books
returns-in_default-clause-books c = nothing_fits _ c.args.arrival.ticks c.args.burst c.args.permitted _ _ _ c.floor-floor.ensures c.get-lines.ensures c.check_booking.ensures (search rules) _ c.hold-hold.ensures.0 _ c.seek-tried.ensures.0 c.in_default.is _ refl

pub overflow_add-free : goal.overflow_add-free
overflow_add-free c = omega (arith, free_low _ c.args.arrival.ticks c.args.burst c.args.permitted _ _ _ c.floor-floor.ensures c.get-lines.ensures c.check_booking.ensures (search rules) _ c.hold-hold.ensures.0 _ c.seek-tried.ensures.0 _ c.in-Some.is c.requires.whole)

pub returns-then-too_many-clause-books : goal.returns-then-too_many-clause-books
returns-then-too_many-clause-books c = no_room _ c.args.arrival.ticks c.args.burst c.args.permitted _ _ _ c.floor-floor.ensures c.get-lines.ensures c.check_booking.ensures (search rules) _ c.hold-hold.ensures.0 _ c.seek-tried.ensures.0 _ c.in-Some.is _ c.too_many.ensures c.if-too_many.true _ refl

pub split-requires-clause-splittable : goal.split-requires-clause-splittable
split-requires-clause-splittable c = split_pre _ c.args.arrival.ticks c.args.burst c.args.permitted _ _ _ c.floor-floor.ensures c.get-lines.ensures c.check_booking.ensures (search rules) _ c.hold-hold.ensures.0 _ c.seek-tried.ensures.0 _ c.in-Some.is _ c.too_many.ensures c.if-too_many.false c.requires.whole

pub split-requires-clause-f_le_last_moment : goal.split-requires-clause-f_le_last_moment
split-requires-clause-f_le_last_moment c = (free_low _ c.args.arrival.ticks c.args.burst c.args.permitted _ _ _ c.floor-floor.ensures c.get-lines.ensures c.check_booking.ensures (search rules) _ c.hold-hold.ensures.0 _ c.seek-tried.ensures.0 _ c.in-Some.is c.requires.whole, rw c.in-Some.is at c.seek-tried.ensures.1)

pub overflow_add-result : goal.overflow_add-result
overflow_add-result c = omega (arith, finish_low _ c.args.arrival.ticks c.args.burst c.args.permitted _ _ _ c.floor-floor.ensures c.get-lines.ensures c.check_booking.ensures (search rules) _ c.hold-hold.ensures.0 _ c.seek-tried.ensures.0 _ c.in-Some.is c.requires.whole)

pub returns-clause-books : goal.returns-clause-books
returns-clause-books c = done _ c.args.arrival.ticks c.args.burst c.args.permitted _ _ _ c.floor-floor.ensures c.get-lines.ensures c.check_booking.ensures (search rules) _ c.hold-hold.ensures.0 _ c.seek-tried.ensures.0 _ c.in-Some.is _ c.too_many.ensures c.if-too_many.false _ c.channel.ensures _ c.split.ensures
