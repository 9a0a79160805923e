-- The orders (01, Records), as they are meant: a compact booking is a booking with no line permitted.
use Rattle.std.specs.Prelude.{ℕ}

pub data Order : Type 0 where
  booking : (arrival length lines : ℕ) → Order
  sweep : (moment : ℕ) → Order
