-- `tree_run::grow`: before the i-th void the tree has i, at places below i. Assumes nothing.
use native.Mathlib.Omega.{arith}
use Rattle.tree_run.proofs.Steps.{insertable, grown}
use Rattle.tree_run.proofs.grow.Goals as goal

pub insert-requires : goal.insert-requires
insert-requires c = insertable _ _ _ _ (omega arith) (omega arith) c.loop-i.invariant (omega (arith, c.plant.auto.mem, c.requires))

pub loop-i-preserved : goal.loop-i-preserved
loop-i-preserved c = grown _ _ _ _ (omega arith) (omega arith) c.loop-i.invariant _ c.insert.ensures
