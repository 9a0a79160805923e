use Rattle.std.specs.Io.KnownBytes.{Appends}
use Rattle.session.specs.Printed.{answers_written}
use Rattle.session.proofs.answers.Given as goal

abbrev pub invariant-loop-i : goal.invariant-loop-i
invariant-loop-i g l = Appends (g.W.Write.contents l.initial.out) (g.W.Write.contents l.out) (answers_written l.numbers l.i)
