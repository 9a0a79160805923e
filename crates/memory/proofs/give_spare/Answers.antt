-- `memory::give_spare`: the place is the first spare one, and its left node names the one that was. Assumes nothing.
use native.Mathlib.Omega.{arith}
use Rattle.memory.proofs.Parts.{gives}
use Rattle.turning.proofs.Sides.{leaf_fits}
use Rattle.memory.proofs.give_spare.Goals as goal

pub save-requires-2 : goal.save-requires-2
save-requires-2 c = record { within = rw c.far.ensures (omega (arith, c.requires.1, c.save.auto.mem, c.put.auto.mem)); fits = leaf_fits c.leaf.ensures }

pub returns : goal.returns
returns c = gives _ _ _ _ _ _ c.put.ensures c.get-next.ensures c.near.ensures c.far.ensures c.save.ensures c.leaf.ensures c.save-2.ensures
