use Prim.Native.Nat.{ℕ}
use lib.ListN.{get_or}
use Rattle.tracing.specs.Ways.{Partway}
use Rattle.tracing.proofs.Tracing.{Tracing}
use Rattle.tracing.proofs.trace_on.Given as goal

abbrev pub invariant-loop-n : goal.invariant-loop-n
invariant-loop-n l = (t : ℕ) → Partway l.mem t l.key l.noted l.initial.way → Tracing l.mem t l.key l.initial.way l.way (get_or l.way l.depth 0) l.depth l.n

abbrev pub decreases-loop-n : goal.decreases-loop-n
decreases-loop-n l = l.n.height
