use Prim.Native.Nat.{◌*◌}
use Rattle.memory.specs.Holds.{Whole}
use Rattle.lines.specs.Lines.{longest_line, Writes}
use Rattle.link_session.proofs.play.Given as goal

abbrev pub invariant-loop-i : goal.invariant-loop-i
invariant-loop-i g l = Whole l.mem × Writes (longest_line * l.i) (g.W.Write.contents l.initial.out) (g.W.Write.contents l.out)
