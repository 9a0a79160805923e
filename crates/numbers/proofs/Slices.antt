-- A slice handed on whole, as the part of it from its start on: it is the same list.
use mathlib.Core.Path.{◌≡◌}
use mathlib.Core.List.{List}
use Prim.Native.Nat.{ℕ, ◌-◌}
use native.Mathlib.Omega.{arith}
use lib.ListN.{length, take, drop}
use lib.Seq.{take_all}

pub whole : (xs : List ℕ) → take (length xs - 0) (drop 0 xs) ≡ xs
whole xs = take_all (length xs - 0) xs (omega arith)
