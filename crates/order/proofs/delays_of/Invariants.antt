use mathlib.Core.Path.{◌≡◌}
use lib.ListN.{length}
use Rattle.order.proofs.Delays.{First}
use Rattle.order.proofs.delays_of.Given as goal

abbrev pub invariant-loop-i : goal.invariant-loop-i
invariant-loop-i l = (length l.delays ≡ 16) × First l.i l.n l.delays l.bytes
