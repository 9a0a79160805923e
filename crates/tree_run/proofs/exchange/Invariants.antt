use Rattle.tree_run.specs.Grown.{voids, Has}
use Rattle.tree_run.proofs.exchange.Given as goal

abbrev pub invariant-loop-i : goal.invariant-loop-i
invariant-loop-i l = Has l.mem voids
