-- `tree::insert`: down by the key's way, and the leaf at its end. Assumes nothing.
use native.Mathlib.Omega.{arith}
use Rattle.tree.proofs.Starting.{alone_ready}
use Rattle.tree.proofs.insert.Goals as goal

pub trace-depth-requires : goal.trace-depth-requires
trace-depth-requires c = record { longest_way_in_bounds = omega arith; alone = alone_ready _ _ _ c.requires.ready }

pub insert_on-requires : goal.insert_on-requires
insert_on-requires c = (_, c.trace-depth.ensures, c.requires)

pub returns : goal.returns
returns c = c.insert_on.ensures _ c.trace-depth.ensures c.requires
