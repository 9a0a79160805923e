-- `memory::add`: by the way that the key leads. Assumes nothing.
use native.Mathlib.Omega.{arith}
use Rattle.memory.proofs.Shortening.{alone}
use Rattle.memory.proofs.add.Goals as goal

pub trace-depth-requires : goal.trace-depth-requires
trace-depth-requires c = record { longest_way_in_bounds = omega arith; alone = alone _ _ c.requires.1 }

pub add_on-requires : goal.add_on-requires
add_on-requires c = (c.requires.0, c.requires.1, c.requires.2, c.trace-depth.ensures)

pub returns : goal.returns
returns c = c.add_on.ensures
