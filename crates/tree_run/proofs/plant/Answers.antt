-- `tree_run::plant`: one leaf stands. Assumes nothing.
use Rattle.tree_run.proofs.Steps.{planted}
use Rattle.tree_run.proofs.plant.Goals as goal

pub returns : goal.returns
returns c = planted _ _ _ _ c.requires (rw c.leaf.ensures at c.save.ensures)
