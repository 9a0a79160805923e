use Prim.Native.Nat.{◌+◌}
use Rattle.whole.proofs.Threading.{Way}
use Rattle.whole.proofs.spares.spared.Given as goal

abbrev pub invariant-loop-after : goal.invariant-loop-after
invariant-loop-after l = Way l.mem (l.room + 1) l.initial.after l.initial.at l.after l.at
