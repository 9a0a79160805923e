use Rattle.opening.specs.Stages.{Tail}
use Rattle.opening.proofs.single.put_delays.Given as goal

abbrev pub invariant-loop-i : goal.invariant-loop-i
invariant-loop-i l = Tail l.i l.delays l.initial.mem l.mem
