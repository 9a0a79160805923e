use mathlib.Core.Path.{◌≡◌}
use Prim.Native.Nat.{◌*◌, ◌^◌, ◌<◌}
use lib.ListN.{drop}
use Rattle.digits.specs.Digits.{digits, goes_on}
use Rattle.digits.proofs.number.Given as goal

abbrev pub invariant-loop-byte : goal.invariant-loop-byte
invariant-loop-byte l = (l.so_far < 2 ^ (8 * l.byte-index)) × (goes_on l.so_far (drop l.byte-index l.s) ≡ digits l.s)
