use Prim.Native.Nat.{◌<◌}
use Rattle.numbers.specs.Words.{word}
use Rattle.opening.specs.Stages.{Laid}
use Rattle.opening.proofs.single.lay.Given as goal

abbrev pub invariant-loop-k : goal.invariant-loop-k
invariant-loop-k l = (word l.mem 7 < 65536) × Laid l.n l.k l.initial.mem l.mem
