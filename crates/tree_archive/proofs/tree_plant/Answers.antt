-- `tree_archive::tree_plant`: a leaf's numbers fit a node. Assumes nothing.
use native.Mathlib.Omega.{arith}
use Rattle.tree_archive.proofs.tree_plant.Goals as goal

pub save-requires : goal.save-requires
save-requires c = record { within = c.requires; fits = rw c.leaf.ensures (omega arith) }
