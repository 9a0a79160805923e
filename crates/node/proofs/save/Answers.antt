-- `node::save`: the sums, then height and places. Assumes nothing.
use native.Mathlib.Omega.{arith}
use Rattle.node.proofs.Nodes.{saved_of}
use Rattle.node.proofs.save.Goals as goal

pub returns : goal.returns
returns c = saved_of _ _ _ _ _ c.save_sums.ensures.0 (cc) c.requires.within c.requires.fits (record { lo = omega arith; top = omega arith; low = omega arith })
