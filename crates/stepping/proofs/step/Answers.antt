-- `stepping::step`: an order read, then the booking's or the sweep's own promise. Assumes nothing.
use mathlib.Core.Path.{◌≡◌}
use Rattle.std.specs.Prelude.{Ok, Err}
use Rattle.std.proofs.Common.{rules}
use Rattle.order.specs.declared.Record.TheVariants.{Opening}
use Rattle.stepping.proofs.Stepping.{booked_steps, swept_steps, no_order}
use Rattle.stepping.proofs.step.Goals as goal

pub returns-in-Booking : goal.returns-in-Booking
returns-in-Booking c =
    booked_steps _ c.read.result c.read.ensures c.in-Booking.arrival c.in-Booking.length c.in-Booking.lines c.in-Booking.used (search rules) c.book-outcome.result _ _ _ c.book-outcome.ensures.books
    (record { answer = c.told.ensures.answer; used = c.told.ensures.used; row = c.told.ensures.row })

pub returns-in-Sweep : goal.returns-in-Sweep
returns-in-Sweep c =
    swept_steps _ c.read.result c.read.ensures c.in-Sweep.moment c.in-Sweep.used (search rules) c.sweep-outcome.result _ _ _ c.sweep-outcome.ensures.sweeps
    (record { answer = c.told-in-Sweep.ensures.answer; used = c.told-in-Sweep.ensures.used; row = c.told-in-Sweep.ensures.row })

pub returns-in-Opening : goal.returns-in-Opening
returns-in-Opening c =
    let q : c.read.result ≡ Ok (Opening c.in-Opening.channels c.in-Opening.lines c.in-Opening.leap c.in-Opening.floor c.in-Opening.used) = search rules in
    no_order _ c.read.result c.read.ensures (λ a b l u e. cc) (λ a u e. cc) _ _

pub returns-in_err-arrival : goal.returns-in_err-arrival
returns-in_err-arrival c =
    let q : c.read.result ≡ Err c.in_err-arrival.field-0.0 = search rules in
    let e : c.from_residual.result ≡ Err c.in_err-arrival.field-0.0 = search rules in
    rw e (no_order _ c.read.result c.read.ensures (λ a b l u i. cc) (λ a u i. cc) c.in_err-arrival.field-0.0 _)
