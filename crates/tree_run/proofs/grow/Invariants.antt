use Rattle.tree_run.specs.Grown.{Has}
use Rattle.tree_run.proofs.grow.Given as goal

abbrev pub invariant-loop-i : goal.invariant-loop-i
invariant-loop-i l = Has l.mem l.i
