use Prim.Native.Nat.{◌-◌}
use lib.ListN.{length}
use Rattle.running.proofs.Running.{Along}
use Rattle.running.proofs.run.Given as goal

abbrev pub invariant-loop-place : goal.invariant-loop-place
invariant-loop-place l = Along l.initial.mem l.records l.initial.answers l.initial.t l.mem l.answers l.t l.place l.answered l.written

abbrev pub decreases-loop-place : goal.decreases-loop-place
decreases-loop-place l = length l.records - l.place
